-- A run with a cheat in it: three seats, of which seat 0 hands two proposals of one rank to the others; they clash, leave
-- the view, and commit two blocks in the next. And two histories beside it that are no runs.
use Rattle.std.specs.Prelude.{◌≡◌, ℕ, ◌+◌, cond, ◌||◌, List, [], ◌∷◌, length, Some, None, Ok, Option, ◌==◌, refl}
use Rattle.std.proofs.Common.{arith}
use Rattle.std.specs.Str.{bytes_eq}
use Rattle.content.specs.Kinds.{Bytes, Kind}
use Rattle.blocks.specs.declared.block.Block.{Block}
use Rattle.wire.specs.Asked.{asked, judge}
use Rattle.wire.specs.Layout.{message_bytes}
use Rattle.wire.specs.Reading.{read_parts}
use Rattle.wire.specs.declared.message.Certificate.{Certificate}
use Rattle.wire.specs.declared.message.Parts.TheVariants.{Proposal, Vote, Blame, Certified, Notice}
use Rattle.state.specs.declared.state.Terms.{Terms}
use Rattle.state.specs.declared.answer.Word.TheVariants.{Clash}
use Rattle.agreement.specs.Committed.{Committed}
use Rattle.agreement.specs.History.{Always, Call, Did, Event, History, Once, hand, inbox_of, offer, sent, tick}
use Rattle.agreement.specs.Run.{Driven, Honest, Run, StepAt, Timely}
use Rattle.agreement.specs.Setting.{Lawful, Setting, Sound}

-- contents of one byte
abbrev pub read_byte : List ℕ → Option ℕ
read_byte [] = None
read_byte (x ∷ []) = Some x
read_byte (x ∷ (y ∷ ys)) = None

pub byte_sized : (xs : List ℕ) (r : ℕ) → read_byte xs ≡ Some r → length xs ≡ 1
byte_sized [] r e = absurd (let z : ◌≡◌ {A = ℕ} 0 1 = cc in omega arith)
byte_sized (x ∷ []) r e = refl
byte_sized (x ∷ (y ∷ ys)) r e = absurd (let z : ◌≡◌ {A = ℕ} 0 1 = cc in omega arith)

pub byte_back : (xs : List ℕ) (r : ℕ) → Bytes xs → read_byte xs ≡ Some r → r ∷ [] ≡ xs
byte_back [] r b e = absurd (let z : ◌≡◌ {A = ℕ} 0 1 = cc in omega arith)
byte_back (x ∷ []) r b e = cc
byte_back (x ∷ (y ∷ ys)) r b e = absurd (let z : ◌≡◌ {A = ℕ} 0 1 = cc in omega arith)

abbrev pub one_byte : Kind 1 ℕ
one_byte = record {
  reads = read_byte;
  shown = λ r. r ∷ [];
  low = omega arith;
  high = omega arith;
  sized = byte_sized;
  back = byte_back;
}

-- what both sound seats are made from
abbrev pub terms_of : ℕ → Terms
terms_of i = record { seats = record { n = 3; lawful = refl }; own = i; delta = 1; patience = 100 }

-- Seat 0 leads view 0 and is not sound; seats 1 and 2 are, and seat 1 leads the other views. A seal of a seat is the one
-- byte of its number and one.
abbrev pub three : Setting
three = record {
  n = 3;
  delta = 1;
  leader = λ view. cond (view == 0) 0 1;
  accepts = λ seat statement seal. bytes_eq seal ((seat + 1) ∷ []);
  sound = λ i. (i == 1) || (i == 2);
  terms = terms_of;
  cells = λ i. 4;
}

-- the first block of a view
abbrev pub first_of : ℕ → ℕ → Block ℕ
first_of view content = record { rank = record { view = view; turn = 0 }; height = 1; parent = record { view = 0; turn = 0 }; content = content }

-- two blocks of one rank, from the cheat; two blocks from seat 1, one on the other
abbrev pub left : Block ℕ
left = first_of 0 65

abbrev pub right : Block ℕ
right = first_of 0 66

abbrev pub lower : Block ℕ
lower = first_of 1 67

abbrev pub upper : Block ℕ
upper = record { rank = record { view = 1; turn = 1 }; height = 2; parent = record { view = 1; turn = 0 }; content = 68 }

-- messages, with the seal of the seat that sends each
abbrev pub first_proposal : Block ℕ → ℕ → List ℕ
first_proposal b seal = message_bytes one_byte (Proposal b (seal ∷ []) None)

abbrev pub lower_certified : Certificate ℕ (List ℕ)
lower_certified = record { block = lower; mask = 6; seals = 2 ∷ (3 ∷ []) }

abbrev pub certificate : List ℕ
certificate = message_bytes one_byte (Certified lower_certified)

abbrev pub upper_proposal : ℕ → List ℕ
upper_proposal seal = message_bytes one_byte (Proposal upper (seal ∷ []) (Some lower_certified))

abbrev pub vote_of : Block ℕ → ℕ → ℕ → List ℕ
vote_of b i seal = message_bytes one_byte (Vote i b (seal ∷ []))

abbrev pub blame_of : ℕ → ℕ → List ℕ
blame_of i seal = message_bytes one_byte (Blame i 0 (seal ∷ []))

abbrev pub notice : List ℕ
notice = message_bytes one_byte (Notice 0 6 (2 ∷ (3 ∷ [])))

-- a call at a seat, after which the slip is taken back
abbrev pub calls : ℕ → Call → History → History
calls i c h = record { who = i; what = sent } ∷ (record { who = i; what = c } ∷ h)

abbrev pub hands : ℕ → List ℕ → History → History
hands i m = calls i (hand m 1024)

-- a message is handed to both sound seats
abbrev pub both : List ℕ → History → History
both m h = hands 2 m (hands 1 m h)

-- a tick of both
abbrev pub ticks : History → History
ticks h =
    record { who = 2; what = sent } ∷ (record { who = 1; what = sent } ∷
    (record { who = 2; what = tick 1024 } ∷ (record { who = 1; what = tick 1024 } ∷ h)))

-- seat 0 cheats: each of the others is handed a proposal of its own
unfoldable pub cheated : History → History
cheated h = hands 2 (first_proposal right 1) (hands 1 (first_proposal left 1) h)

-- they pass both on, clash, blame the view and leave it
unfoldable pub clashed : History → History
clashed h = both (first_proposal right 1) (both (first_proposal left 1) (both (first_proposal right 1) (both (first_proposal left 1) h)))

unfoldable pub blamed : History → History
blamed h = both (blame_of 2 3) (both (blame_of 1 2) h)

unfoldable pub noticed : History → History
noticed h = both notice h

-- after 3 ticks they enter view 1, after 3 more seat 1 offers a block
unfoldable pub waited : History → History
waited h = ticks (ticks (ticks (ticks (ticks (ticks h)))))

unfoldable pub offered : History → History
offered h = both (first_proposal lower 2) (both (first_proposal lower 2) (calls 1 (offer (67 ∷ []) 1024) h))

-- after 2 ticks they vote for it, and each commits it and sends its certificate
unfoldable pub voted : Block ℕ → History → History
voted b h = both (vote_of b 2 3) (both (vote_of b 1 2) (ticks (ticks h)))

-- seat 1 offers a block on it, which they commit too
unfoldable pub offered_upper : History → History
offered_upper h = both (upper_proposal 2) (both (upper_proposal 2) (calls 1 (offer (68 ∷ []) 1024) (both certificate h)))

unfoldable pub committed : History → History
committed h = voted upper (offered_upper (voted lower (offered (waited h))))

unfoldable pub story : History
story = committed (noticed (blamed (clashed (cheated []))))

-- the same, but that the notice which ended view 0 is not handed to seat 1
unfoldable pub late : History
late = committed (hands 2 notice (blamed (clashed (cheated []))))

-- the same, but that seat 1 is first handed a vote of seat 2 which seat 2 has not sent
unfoldable pub forged : History
forged = committed (noticed (blamed (clashed (cheated (hands 1 (vote_of lower 2 3) [])))))

-- a seat was handed a proposal of b, with a good seal of the leader of its view
abbrev pub Proposed : ℕ → Block ℕ → History → Type 0
Proposed i b h = Once (λ e p. (e.who ≡ i) × ((seal : List ℕ) × (read_parts one_byte 1 3 (inbox_of e.what) ≡ Ok (Proposal b seal None)) ×
    (judge three.accepts (asked one_byte 1 3 three.leader (Proposal b seal None)) ≡ Ok tt))) h

-- a sound seat met two proposals of one rank
abbrev pub Clashes : ℕ → History → Type 0
Clashes i h = Once (λ e p. (e.who ≡ i) × Did 1 one_byte three (λ o. o.word ≡ Clash) e p) h

-- what a run asks of each call, apart: that it is driven and in step, that all is delivered in time, that seals are honest
abbrev pub InStep : Event → History → Type 0
InStep e h = Driven 1 one_byte three e h × StepAt 1 one_byte three e.who e.what h

abbrev pub InTime : Event → History → Type 0
InTime e h = Timely 1 one_byte three (e ∷ h)

-- Agreement speaks of something: there is a run in which a seat cheats, the sound ones see it, and they commit blocks all
-- the same. And a run is more than a list: without timely delivery, or without honest seals, it is none.
pub record Witness : Type 0 where
  pub lawful : Lawful three
  pub a_run : Run 1 one_byte three story
  pub cheat_leads : Sound three (three.leader 0) → ⊥
  pub one_rank : left.rank ≡ right.rank
  pub two_blocks : left ≡ right → ⊥
  pub left_to_one : Proposed 1 left story
  pub right_to_two : Proposed 2 right story
  pub clash_at_one : Clashes 1 story
  pub clash_at_two : Clashes 2 story
  pub lower_at_one : Committed 1 one_byte three story 1 lower
  pub lower_at_two : Committed 1 one_byte three story 2 lower
  pub upper_at_one : Committed 1 one_byte three story 1 upper
  pub upper_at_two : Committed 1 one_byte three story 2 upper
  pub late_in_step : Always InStep late
  pub late_honest : Always (Honest 1 one_byte three) late
  pub late_is_none : Run 1 one_byte three late → ⊥
  pub forged_in_step : Always InStep forged
  pub forged_in_time : Always InTime forged
  pub forged_is_none : Run 1 one_byte three forged → ⊥
