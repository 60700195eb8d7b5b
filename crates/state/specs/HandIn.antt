-- A message handed in, by its parts.
use Rattle.std.specs.Prelude.{ℕ, ◌+◌, ◌*◌, Bool, true, false, cond, not, ◌&&◌, ◌||◌, List, [], ◌∷◌, ◌++◌, take, is_some, Some, None, Ok, Err, Option, Result, ◌==◌, nat_lt, slice_index_or, slice_set}
use Rattle.content.specs.Kinds.{Kind}
use Rattle.content.specs.declared.refusal.Refusal.{Refusal}
use Rattle.content.specs.declared.refusal.Refusal.TheVariants.{LastView}
use Rattle.blocks.specs.Keeping.{padded}
use Rattle.blocks.specs.Masks.{count_kept, mask_kept, quorum, row_kept}
use Rattle.blocks.specs.Ranks.{at_least, parent_of, same_block}
use Rattle.blocks.specs.declared.block.Block.{Block}
use Rattle.blocks.specs.declared.rows.SealRow.{SealRow}
use Rattle.wire.specs.declared.message.Certificate.{Certificate}
use Rattle.wire.specs.declared.message.Parts.{Parts}
use Rattle.wire.specs.declared.message.Parts.TheVariants.{Proposal, Vote, Blame, Certified, Notice}
use Rattle.state.specs.Parts.{is_on, leave, with_blamed, with_blames, with_note, with_spoiled, with_votes}
use Rattle.state.specs.Sends.{Outcome, Sending, nothing, relay, write, zero_seal}
use Rattle.state.specs.TakeIn.{height_of, judge_in, shelve}
use Rattle.state.specs.declared.answer.Word.{Word}
use Rattle.state.specs.declared.answer.Word.TheVariants.{Idle, Noted, Accepted, Clash, Certified as SaysCertified, Counted, Left}
use Rattle.state.specs.declared.state.Note.{Note}
use Rattle.state.specs.declared.state.Phase.{Phase}
use Rattle.state.specs.declared.state.Phase.TheVariants.{On, Leaving}
use Rattle.state.specs.declared.state.State.{State}
use Rattle.state.specs.declared.state.Terms.{Terms}
use Rattle.state.specs.declared.taking.Verdict.{Verdict}
use Rattle.state.specs.declared.taking.Verdict.TheVariants.{Known, New}

-- the last view cannot be blamed
abbrev pub last_view : ℕ
last_view = 65535

-- a seat's seal is kept once
abbrev pub has_seal : {S : ℕ} → SealRow S → ℕ → Bool
has_seal row i = is_some (slice_index_or row.by_seat i None)

abbrev pub add_seal : {S : ℕ} → SealRow S → ℕ → List ℕ → SealRow S
add_seal row i seal = record { by_seat = slice_set row.by_seat i (Some seal) }

-- a seal is taken back
abbrev pub drop_seal : {S : ℕ} → SealRow S → ℕ → SealRow S
drop_seal row i = record { by_seat = slice_set row.by_seat i None }

-- the kept seals in a row
abbrev pub row_of : {S : ℕ} → SealRow S → List ℕ
row_of {S} row = take (count_kept row.by_seat * S) (padded 512 (row_kept row.by_seat))

-- a quorum of seals is there
abbrev pub quorate : {S : ℕ} → Terms → SealRow S → Bool
quorate p row = count_kept row.by_seat == quorum p.seats.n

-- a refusal stays one
abbrev pub carried : {X Y : Type 0} → (X → Y) → Result X Refusal → Result Y Refusal
carried f (Ok x) = Ok (f x)
carried f (Err e) = Err e

-- the note, accepted at a tick
abbrev pub accepted_at : {R : Type 0} → ℕ → Note R → Note R
accepted_at now note = record { block = note.block; accepted = Some now; voted = note.voted }

module _ {S : ℕ} {R : Type 0} where
  -- the call changes nothing
  abbrev pub idle : State S R → List (Block R) → Outcome S R
  idle s bs = record { word = Idle; height = 0; sends = nothing; state = s; blocks = bs }

  -- a vote or a blame is kept
  abbrev pub counted : State S R → List (Block R) → Outcome S R
  counted s bs = record { word = Counted; height = 0; sends = nothing; state = s; blocks = bs }

  -- a view is left
  abbrev pub leaves : State S R → List (Block R) → ℕ → Sending R → Outcome S R
  leaves s bs view sending = record {
    word = Left;
    height = 0;
    sends = record { certificate = None; message = Some sending; blame = None };
    state = leave view s;
    blocks = bs;
  }

  -- a certificate that was judged: a known one changes nothing; a new one is shelved and sent
  abbrev pub taken : State S R → List (Block R) → Certificate R (List ℕ) → Sending R → Verdict → Outcome S R
  taken s bs c sending Known = idle s bs
  taken s bs c sending New = record {
    word = SaysCertified;
    height = height_of s c.block;
    sends = record { certificate = Some sending; message = None; blame = None };
    state = shelve c s;
    blocks = bs ++ (c.block ∷ []);
  }

  -- the slot of a block is open to a seat that is not spoiled, at its own view and turn, or while it leaves the view
  -- before, at turn 0
  abbrev pub at_slot : Phase → State S R → Block R → Bool
  at_slot On s b = s.view == b.rank.view && s.turn == b.rank.turn
  at_slot (Leaving since) s b = s.view + 1 == b.rank.view && b.rank.turn == 0

  abbrev pub slot_open : State S R → Block R → Bool
  slot_open s b = not s.spoiled && at_slot s.phase s b

  -- an outcome with what a proposal adds to it
  abbrev pub adds : Outcome S R → Word → Option (Sending R) → Option (Sending R) → State S R → Outcome S R
  adds o word message blame s = record {
    word = word;
    height = o.height;
    sends = record { certificate = o.sends.certificate; message = message; blame = blame };
    state = s;
    blocks = o.blocks;
  }

  -- at turn 0 a proposal is accepted only on the lock or above
  abbrev pub acceptable : State S R → Block R → Bool
  acceptable s b = is_on s.phase && (nat_lt 0 s.turn || at_least (parent_of b) s.lock)

  -- the proposal is the note: it is accepted and passed on, or else nothing more happens
  abbrev pub accepts : Outcome S R → Word → Note R → Outcome S R
  accepts o rest note =
      let s : State S R = o.state in
      cond (acceptable s note.block && not (is_some note.accepted))
      (adds o Accepted (Some relay) None (with_note (Some (accepted_at s.now note)) s))
      (adds o rest None None (with_note (Some note) s))

  -- the certificate of a block from the votes kept for it
  abbrev pub certificate_of : Block R → SealRow S → Certificate R (List ℕ)
  certificate_of b votes = record { block = b; mask = mask_kept votes.by_seat; seals = row_of votes }

  -- the vote that completes a quorum makes a certificate; if its block is on the shelf already, the vote is only counted
  abbrev pub completed : State S R → List (Block R) → Certificate R (List ℕ) → Verdict → Outcome S R
  completed s bs c Known = counted s bs
  completed s bs c New = taken s bs c (write (Certified c)) New

  -- the notice of a view from the blames kept for it
  abbrev pub notice_of : ℕ → SealRow S → Parts R (List ℕ)
  notice_of view blames = Notice view (mask_kept blames.by_seat) (row_of blames)

  -- a notice ends the seat's own view while it is on, or leads it out of a higher one
  abbrev pub leaves_by : State S R → ℕ → Bool
  leaves_by s view = nat_lt s.view view || (is_on s.phase && s.view == view)

  abbrev pub notice : State S R → List (Block R) → ℕ → Result (Outcome S R) Refusal
  notice s bs view =
      cond (view == last_view) (Err LastView)
      (cond (leaves_by s view)
      (Ok (leaves s bs view relay))
      (Ok (idle s bs)))

  -- a blame counts for the view of a seat that is on, once a seat
  abbrev pub counts_blame : State S R → ℕ → ℕ → Bool
  counts_blame s i view = is_on s.phase && (s.view == view && not (has_seal s.blames i))

module _ {S : ℕ} {R : Type 0} (p : Terms) where
  -- a seat's own blame of its view
  abbrev pub own_blame : State S R → Sending R
  own_blame s = write (Blame p.own s.view (zero_seal S))

  -- a second, different proposal: the seat is spoiled, passes the proof on and blames its view, once and if it is on
  abbrev pub clashes : Outcome S R → Outcome S R
  clashes o =
      let s : State S R = o.state in
      cond (is_on s.phase && not s.blamed)
      (adds o Clash (Some relay) (Some (own_blame s)) (with_blamed true (with_spoiled true s)))
      (adds o Clash (Some relay) None (with_spoiled true s))

  -- the blame that completes a quorum makes a notice, and the seat leaves its view
  abbrev pub blame_counts : State S R → List (Block R) → ℕ → Outcome S R
  blame_counts s bs view =
      cond (quorate p s.blames) (leaves s bs view (write (notice_of view s.blames))) (counted s bs)

  abbrev pub blame : State S R → List (Block R) → ℕ → ℕ → List ℕ → Result (Outcome S R) Refusal
  blame s bs i view seal =
      cond (view == last_view) (Err LastView)
      (cond (counts_blame s i view)
      (Ok (blame_counts (with_blames (add_seal s.blames i seal) s) bs view))
      (Ok (idle s bs)))

module _ {L : ℕ} {R : Type 0} (k : Kind L R) where
  abbrev pub is_note : Option (Note R) → Block R → Bool
  is_note None b = false
  is_note (Some note) b = same_block k note.block b

module _ {L S : ℕ} {R : Type 0} (k : Kind L R) where
  abbrev pub take_in : State S R → List (Block R) → ℕ → Certificate R (List ℕ) → Sending R → Result (Outcome S R) Refusal
  take_in s bs cells c sending = carried (taken s bs c sending) (judge_in k s bs cells c.block)

  -- a vote counts for the note of a seat that is on, once a seat
  abbrev pub countable : State S R → ℕ → Block R → Bool
  countable s i b = is_on s.phase && (is_note k s.round.note b && not (has_seal s.round.votes i))

module _ {L S : ℕ} {R : Type 0} (k : Kind L R) (p : Terms) where
  abbrev pub at_note : Outcome S R → Block R → Option (Note R) → Outcome S R
  at_note o b None = accepts o Noted (record { block = b; accepted = None; voted = false })
  at_note o b (Some note) = cond (same_block k note.block b) (accepts o o.word note) (clashes p o)

  -- what a proposal does after its parent's certificate was taken in
  abbrev pub proposed : Block R → Outcome S R → Outcome S R
  proposed b o = cond (slot_open o.state b) (at_note o b o.state.round.note) o

  abbrev pub proposal : State S R → List (Block R) → ℕ → Block R → Option (Certificate R (List ℕ)) → Result (Outcome S R) Refusal
  proposal s bs cells b None = Ok (proposed b (idle s bs))
  proposal s bs cells b (Some c) = carried (proposed b) (take_in k s bs cells c (write (Certified c)))

  abbrev pub vote_counts : State S R → List (Block R) → ℕ → Block R → Result (Outcome S R) Refusal
  vote_counts s bs cells b =
      let c : Certificate R (List ℕ) = certificate_of b s.round.votes in
      cond (quorate p s.round.votes) (carried (completed s bs c) (judge_in k s bs cells b)) (Ok (counted s bs))

  abbrev pub vote : State S R → List (Block R) → ℕ → ℕ → Block R → List ℕ → Result (Outcome S R) Refusal
  vote s bs cells i b seal =
      cond (countable k s i b)
      (vote_counts (with_votes (add_seal s.round.votes i seal) s) bs cells b)
      (Ok (idle s bs))

  -- a message that was read and whose seals were checked
  abbrev pub hand_parts : State S R → List (Block R) → ℕ → Parts R (List ℕ) → Result (Outcome S R) Refusal
  hand_parts s bs cells (Proposal b seal parent) = proposal s bs cells b parent
  hand_parts s bs cells (Vote i b seal) = vote s bs cells i b seal
  hand_parts s bs cells (Blame i view seal) = blame p s bs i view seal
  hand_parts s bs cells (Certified c) = take_in k s bs cells c relay
  hand_parts s bs cells (Notice view mask seals) = notice s bs view
