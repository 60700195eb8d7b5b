-- Agreement is not empty: the run with a cheat in it, and the two histories beside it that are no runs.
use Rattle.std.proofs.Common.{◌≡◌, ℕ, ◌+◌, ◌<◌, Bool, true, false, not, ◌&&◌, ◌||◌, eqb, ◌⊎◌, List, [], ◌∷◌, ◌++◌, Some, None, Ok, Err, Option, Result, sym, refl, ap, ◌∙◌, subst, subst₂, inl, inr, arith, lit<, lit≤}
use Rattle.std.specs.Str.{bytes_eq}
use Rattle.std.proofs.lemmas.Slice.Eq.{bytes_eq-Decides}
use Rattle.std.proofs.lemmas.Bool.{and_parts, eq-eqb, not_from_true, or_cases}
use Rattle.content.specs.declared.refusal.Refusal.{Refusal}
use Rattle.blocks.specs.Keeping.{padded}
use Rattle.blocks.specs.Masks.{ones}
use Rattle.blocks.specs.declared.block.Block.{Block}
use Rattle.wire.specs.Asked.{asked, judge, row_asked}
use Rattle.wire.specs.Layout.{message_bytes}
use Rattle.wire.specs.Reading.{read_parts, seals_fit}
use Rattle.wire.specs.declared.message.Parts.{Parts}
use Rattle.wire.specs.declared.message.Parts.TheVariants.{Proposal, Vote, Blame, Certified, Notice}
use Rattle.shelf.specs.Blocks.{climb, find, top_turn}
use Rattle.state.specs.Sends.{Outcome, Sending, sending_bytes}
use Rattle.agreement.specs.History.{Call, Event, History, Is, Once, Sends, clock, hand, offer, sent, tick}
use Rattle.agreement.specs.Run.{Hands, Run, Sealed, Timely, bare}
use Rattle.agreement.specs.Setting.{Lawful}
use Rattle.agreement.specs.Witness.{Proposed, Witness, blame_of, blamed, both, cheated, clashed, committed, forged, hands, late, left, lower, lower_certified, notice, noticed, offered, offered_upper, one_byte, right, story, three, upper, vote_of, voted, waited}
use Rattle.agreement.proofs.Basics.{true-false}
use Rattle.agreement.proofs.Checker.{AllSealed, Table, is_timely}
use Rattle.agreement.proofs.Replay.{clock-is, now_of, sound-is, stamp, trace}
use Rattle.agreement.proofs.Tested.{all_sound, clashes, clashes_at, commits, commits_at, did_is, every, honest-all, in_step, in_time_lem, is_honest, is_in_step, passes, run_is, some}
use Rattle.agreement.proofs.Time.{run_tail}

-- what computes the three histories
computed : Unit {0}
unfolding padded row_asked ones read_parts seals_fit climb find top_turn trace blamed cheated clashed noticed offered offered_upper voted waited committed story late forged
computed = tt

lawful : Lawful three
lawful = record {
  seats = refl;
  among = λ i s. elim (sound-is i s) [ inl e ↦ omega arith | inr e ↦ omega arith ];
  shares_n = λ i s. refl;
  shares_delta = λ i s. refl;
  some_delta = omega arith;
  own = λ i s. refl;
  few = lit≤ tt;
}

-- items with their sealed messages
abbrev Pairs : Type 0
Pairs = (ps : Table) × AllSealed ps

pair : (a b : Parts ℕ (List ℕ)) → read_parts one_byte 1 3 (message_bytes one_byte a) ≡ Ok a → read_parts one_byte 1 3 (message_bytes one_byte b) ≡ Ok b →
    bare a ≡ bare b → judge three.accepts (asked one_byte 1 3 three.leader b) ≡ Ok tt → Pairs → Pairs
pair a b item inbox same seals rest = (
  (message_bytes one_byte a, message_bytes one_byte b) ∷ rest.0,
  (record { sent_as = a; came_as = b; item_reads = item; inbox_reads = inbox; alike = same; good_seals = seals }, rest.1),
)

pairs : Pairs
unfolding computed
pairs =
    pair (Proposal left (1 ∷ []) None) (Proposal left (1 ∷ []) None) refl refl refl refl
    (pair (Proposal right (1 ∷ []) None) (Proposal right (1 ∷ []) None) refl refl refl refl
    (pair (Blame 1 0 (0 ∷ [])) (Blame 1 0 (2 ∷ [])) refl refl refl refl
    (pair (Blame 2 0 (0 ∷ [])) (Blame 2 0 (3 ∷ [])) refl refl refl refl
    (pair (Notice 0 6 (2 ∷ (3 ∷ []))) (Notice 0 6 (2 ∷ (3 ∷ []))) refl refl refl refl
    (pair (Proposal lower (0 ∷ []) None) (Proposal lower (2 ∷ []) None) refl refl refl refl
    (pair (Proposal lower (2 ∷ []) None) (Proposal lower (2 ∷ []) None) refl refl refl refl
    (pair (Vote 1 lower (0 ∷ [])) (Vote 1 lower (2 ∷ [])) refl refl refl refl
    (pair (Vote 2 lower (0 ∷ [])) (Vote 2 lower (3 ∷ [])) refl refl refl refl
    (pair (Certified lower_certified) (Certified lower_certified) refl refl refl refl
    (pair (Proposal upper (0 ∷ []) (Some lower_certified)) (Proposal upper (2 ∷ []) (Some lower_certified)) refl refl refl refl
    (pair (Proposal upper (2 ∷ []) (Some lower_certified)) (Proposal upper (2 ∷ []) (Some lower_certified)) refl refl refl refl
    (pair (Vote 1 upper (0 ∷ [])) (Vote 1 upper (2 ∷ [])) refl refl refl refl
    (pair (Vote 2 upper (0 ∷ [])) (Vote 2 upper (3 ∷ [])) refl refl refl refl ([], tt))))))))))))))

table : Table
table = pairs.0

sealed : AllSealed table
unfolding table
sealed = pairs.1

story-steps : every is_in_step (trace story) ≡ true
unfolding computed
story-steps = refl

story-timely : every (λ s t. is_timely table (s ∷ t)) (trace story) ≡ true
unfolding computed table pairs pair
story-timely = refl

story-honest : every is_honest (trace story) ≡ true
unfolding computed
story-honest = refl

story_runs : Run 1 one_byte three story
story_runs =
    let all = all_sound story story-steps in
    run_is story (in_step story story-steps) (in_time_lem table sealed story all story-timely) (honest-all story all story-honest)

-- the first two calls hand in the two proposals
after_both : History
after_both = committed (noticed (blamed (clashed [])))

both_split : story ≡ after_both ++ cheated []
unfolding computed after_both
both_split = refl

to_one : Proposed 1 left (cheated [])
unfolding computed
to_one = inr (inr (inr (inl (refl, (1 ∷ [], refl, refl)))))

to_two : Proposed 2 right (cheated [])
unfolding computed
to_two = inr (inl (refl, (1 ∷ [], refl, refl)))

once_since : (P : Event → History → Type 0) (q p : History) → Once P p → Once P (q ++ p)
once_since P [] p x = x
once_since P (e ∷ q) p x = inr (once_since P q p x)

proposed-since : (i : ℕ) (b : Block ℕ) → Proposed i b (cheated []) → Proposed i b story
proposed-since i b x = subst (Proposed i b) (sym both_split) (once_since _ after_both (cheated []) x)

contents_differ : left ≡ right → ⊥
contents_differ e = let z : ◌≡◌ {A = ℕ} 65 66 = ap (λ (b : Block ℕ). b.content) e in omega arith

one-clashes : some (clashes_at 1) (trace story) ≡ true
unfolding computed
one-clashes = refl

two-clashes : some (clashes_at 2) (trace story) ≡ true
unfolding computed
two-clashes = refl

-- both blocks are committed by both seats
one_lower_lem : some (commits_at 1 lower) (trace story) ≡ true
unfolding computed
one_lower_lem = refl

two-lower : some (commits_at 2 lower) (trace story) ≡ true
unfolding computed
two-lower = refl

one-upper : some (commits_at 1 upper) (trace story) ≡ true
unfolding computed
one-upper = refl

two-upper : some (commits_at 2 upper) (trace story) ≡ true
unfolding computed
two-upper = refl

-- A message is told from another by its kind.
kind_of : Parts ℕ (List ℕ) → ℕ
kind_of (Proposal b seal parent) = 1
kind_of (Vote i b seal) = 2
kind_of (Blame i view seal) = 3
kind_of (Certified c) = 4
kind_of (Notice view mask seals) = 5

kind_bare : (m : Parts ℕ (List ℕ)) → kind_of (bare m) ≡ kind_of m
unfolding kind_of
kind_bare (Proposal b seal parent) = refl
kind_bare (Vote i b seal) = refl
kind_bare (Blame i view seal) = refl
kind_bare (Certified c) = refl
kind_bare (Notice view mask seals) = refl

abbrev unlike : Result (Parts ℕ (List ℕ)) Refusal → Result (Parts ℕ (List ℕ)) Refusal → Bool
unlike (Ok a) (Ok b) = not (eqb (kind_of a) (kind_of b))
unlike (Ok a) (Err r) = true
unlike (Err q) (Ok b) = true
unlike (Err q) (Err r) = true

not-sealed : (m inbox : List ℕ) → unlike (read_parts one_byte 1 3 m) (read_parts one_byte 1 3 inbox) ≡ true → Sealed 1 one_byte three m inbox → ⊥
not-sealed m inbox ok s =
    let a = s.sent_as in
    let b = s.came_as in
    let x : not (eqb (kind_of a) (kind_of b)) ≡ true = subst₂ (λ y z. unlike y z ≡ true) s.item_reads s.inbox_reads ok in
    let same : kind_of a ≡ kind_of b = sym (kind_bare a) ∙ (ap kind_of s.alike ∙ kind_bare b) in
    true-false (sym x ∙ not_from_true (eqb (kind_of a) (kind_of b)) (eq-eqb (kind_of a) (kind_of b) same))

abbrev hands_not : List ℕ → Call → Bool
hands_not m (hand inbox room) = unlike (read_parts one_byte 1 3 m) (read_parts one_byte 1 3 inbox)
hands_not m (tick room) = true
hands_not m (offer content room) = true
hands_not m sent = true

not-hands : (m : List ℕ) (c : Call) → hands_not m c ≡ true → Hands 1 one_byte three m c → ⊥
not-hands m (hand inbox room) ok x = not-sealed m inbox ok x
not-hands m (tick room) ok x = x
not-hands m (offer content room) ok x = x
not-hands m sent ok x = x

-- no call of these hands m to j
abbrev undelivered : ℕ → List ℕ → History → Bool
undelivered j m [] = true
undelivered j m (e ∷ q) = (not (eqb e.who j) || hands_not m e.what) && undelivered j m q

not-delivered : (j : ℕ) (m : List ℕ) (q : History) → undelivered j m q ≡ true → Once (λ x _. (x.who ≡ j) × Hands 1 one_byte three m x.what) q → ⊥
not-delivered j m [] ok x = x
not-delivered j m (e ∷ q) ok (inl x) =
    let a = and_parts (not (eqb e.who j) || hands_not m e.what) (undelivered j m q) ok in
    elim (or_cases (not (eqb e.who j)) (hands_not m e.what) a.0) [
      | inl y ↦ true-false (sym y ∙ not_from_true (eqb e.who j) (eq-eqb e.who j x.0))
      | inr y ↦ not-hands m e.what y x.1
    ]
not-delivered j m (e ∷ q) ok (inr x) =
    not-delivered j m q (and_parts (not (eqb e.who j) || hands_not m e.what) (undelivered j m q) ok).1 x

-- the message among the items of a call
abbrev is_item : List ℕ → List ℕ → Option (Sending ℕ) → Bool
is_item inbox m None = false
is_item inbox m (Some s) = bytes_eq (sending_bytes one_byte inbox s) m

item-is : (inbox m : List ℕ) (x : Option (Sending ℕ)) → is_item inbox m x ≡ true → Is 1 one_byte three inbox m x
item-is inbox m None ok = true-false (sym ok)
item-is inbox m (Some s) ok = (bytes_eq-Decides (sending_bytes one_byte inbox s) m).0 ok

-- Seat 1 sends the notice when it is handed the second blame.
leaving : Event
leaving = record { who = 1; what = hand (blame_of 2 3) 1024 }

before : History
before = both (blame_of 1 2) (clashed (cheated []))

since : History
since = committed (hands 2 notice (hands 2 (blame_of 2 3) (record { who = 1; what = sent } ∷ [])))

notice-item : Outcome 1 ℕ → Bool
notice-item o = is_item (blame_of 2 3) notice o.sends.message

leaving-passes : passes notice-item (stamp leaving (trace before)).answer ≡ true
unfolding computed leaving before notice-item
leaving-passes = refl

notice-sent : Sends 1 one_byte three notice leaving before
unfolding leaving notice-item
notice-sent =
    did_is notice-item (λ o. Is 1 one_byte three (blame_of 2 3) notice o.sends.certificate ⊎ (Is 1 one_byte three (blame_of 2 3) notice o.sends.message ⊎
    Is 1 one_byte three (blame_of 2 3) notice o.sends.blame)) (λ o x. inr (inl (item-is (blame_of 2 3) notice o.sends.message x)))
    leaving before refl leaving-passes

late_split : late ≡ since ++ (leaving ∷ before)
unfolding computed leaving before since
late_split = refl

late-over : now_of 1 (trace (leaving ∷ before)) + 1 < now_of 1 (trace late)
unfolding computed leaving before
late-over = lit< tt

notice_lost : undelivered 1 notice since ≡ true
unfolding computed since kind_of
notice_lost = refl

late-steps : every is_in_step (trace late) ≡ true
unfolding computed
late-steps = refl

late_honest : every is_honest (trace late) ≡ true
unfolding computed
late_honest = refl

late_untimely : Timely 1 one_byte three late → ⊥
unfolding leaving
late_untimely timely =
    let over : clock 1 one_byte three 1 (leaving ∷ before) + 1 < clock 1 one_byte three 1 late =
    subst₂ (λ (a b : ℕ). a + 1 < b) (sym (clock-is 1 refl (leaving ∷ before))) (sym (clock-is 1 refl late)) late-over in
    not-delivered 1 notice since notice_lost (timely since leaving before late_split notice notice-sent 1 refl over 1 refl)

-- the newest moment of a run is timely
run_timely : (e : Event) (h : History) → Run 1 one_byte three (e ∷ h) → Timely 1 one_byte three (e ∷ h)
run_timely e h run = run.0.timely

late_is_none : Run 1 one_byte three late → ⊥
unfolding late committed voted
late_is_none run = late_untimely (run_timely _ _ run)

-- The vote that seat 2 has not sent is the first call.
forging : Event
forging = record { who = 1; what = hand (vote_of lower 2 3) 1024 }

after-forging : History
after-forging = committed (noticed (blamed (clashed (cheated (record { who = 1; what = sent } ∷ [])))))

forged_split : forged ≡ after-forging ++ (forging ∷ [])
unfolding computed forging after-forging
forged_split = refl

forging-reads : read_parts one_byte 1 3 (vote_of lower 2 3) ≡ Ok (Vote 2 lower (3 ∷ []))
unfolding computed
forging-reads = refl

forged_is_none : Run 1 one_byte three forged → ⊥
unfolding forging
forged_is_none run =
    let first : Run 1 one_byte three (forging ∷ []) =
    run_tail 1 one_byte three after-forging (forging ∷ []) (subst (Run 1 one_byte three) forged_split run) in
    (first.0.honest (Vote 2 lower (3 ∷ [])) forging-reads).0 refl refl

forged-steps : every is_in_step (trace forged) ≡ true
unfolding computed
forged-steps = refl

forged-timely : every (λ s t. is_timely table (s ∷ t)) (trace forged) ≡ true
unfolding computed table pairs pair
forged-timely = refl

-- the whole
pub witness : Witness
witness =
    let all = all_sound story story-steps in
    record {
      lawful = lawful;
      a_run = story_runs;
      cheat_leads = λ s. true-false (sym s);
      one_rank = refl;
      two_blocks = contents_differ;
      left_to_one = proposed-since 1 left to_one;
      right_to_two = proposed-since 2 right to_two;
      clash_at_one = clashes 1 story all one-clashes;
      clash_at_two = clashes 2 story all two-clashes;
      lower_at_one = commits 1 lower story all one_lower_lem;
      lower_at_two = commits 2 lower story all two-lower;
      upper_at_one = commits 1 upper story all one-upper;
      upper_at_two = commits 2 upper story all two-upper;
      late_in_step = in_step late late-steps;
      late_honest = honest-all late (all_sound late late-steps) late_honest;
      late_is_none = late_is_none;
      forged_in_step = in_step forged forged-steps;
      forged_in_time = in_time_lem table sealed forged (all_sound forged forged-steps) forged-timely;
      forged_is_none = forged_is_none;
    }
