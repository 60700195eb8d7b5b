-- How a seat reacts to a proposal once its parent's certificate was taken in.
use Rattle.std.specs.Prelude.{ℕ, Bool, true, false, cond, not, ◌&&◌, List, is_some, Some, None, Ok, Option, Result}
use Rattle.content.specs.Kinds.{Kind}
use Rattle.content.specs.declared.refusal.Refusal.{Refusal}
use Rattle.blocks.specs.Ranks.{same_block}
use Rattle.blocks.specs.declared.block.Block.{Block}
use Rattle.state.specs.HandIn.{acceptable, accepted_at, adds, idle, own_blame, slot_open, take_in}
use Rattle.state.specs.Parts.{is_on, with_blamed, with_note, with_spoiled}
use Rattle.wire.specs.declared.message.Certificate.{Certificate}
use Rattle.wire.specs.declared.message.Parts.TheVariants.{Blame, Certified}
use Rattle.state.specs.Sends.{Outcome, Sending, end_of, item_at, relay, write, zero_seal}
use Rattle.state.specs.declared.answer.Answer.{Answer}
use Rattle.state.specs.declared.answer.Item.{Item}
use Rattle.state.specs.declared.answer.Item.TheVariants.{Inbox}
use Rattle.state.specs.declared.answer.Word.{Word}
use Rattle.state.specs.declared.answer.Word.TheVariants.{Accepted as SaysAccepted, Clash as SaysClash, Noted as SaysNoted}
use Rattle.state.specs.declared.notes.Reaction.{Reaction}
use Rattle.state.specs.declared.notes.Reaction.TheVariants.{Nothing, Noted, Accepted, Clash, ClashAndBlame}
use Rattle.state.specs.declared.state.Note.{Note}
use Rattle.state.specs.declared.state.State.{State}
use Rattle.state.specs.declared.state.Terms.{Terms}

-- a proposal that is only noted
abbrev pub fresh : {R : Type 0} → Block R → Note R
fresh b = record { block = b; accepted = None; voted = false }

-- the note that there is, or the proposal as a fresh one
abbrev pub note_or : {R : Type 0} → Block R → Option (Note R) → Note R
note_or b None = fresh b
note_or b (Some note) = note

module _ {S : ℕ} {R : Type 0} where
  -- a different proposal: the seat is spoiled, and blames its view once and if it is on
  abbrev pub clashing : State S R → Reaction
  clashing s = cond (is_on s.phase && not s.blamed) ClashAndBlame Clash

  -- the note can be accepted now
  abbrev pub accepting : State S R → Note R → Bool
  accepting s note = acceptable s note.block && not (is_some note.accepted)

  -- the seat after it
  abbrev pub reacted : State S R → Note R → Reaction → State S R
  reacted s note Nothing = s
  reacted s note Noted = with_note (Some note) s
  reacted s note Accepted = with_note (Some (accepted_at s.now note)) s
  reacted s note Clash = with_spoiled true s
  reacted s note ClashAndBlame = with_blamed true (with_spoiled true s)

module _ {L S : ℕ} {R : Type 0} (k : Kind L R) where
  -- the parent's certificate is taken in first, and written into the outbox if it is new
  abbrev pub parent_taken : State S R → List (Block R) → ℕ → Option (Certificate R (List ℕ)) → Result (Outcome S R) Refusal
  parent_taken s bs cells None = Ok (idle s bs)
  parent_taken s bs cells (Some c) = take_in k s bs cells c (write (Certified c))

  -- the slot's note, if any, decides
  abbrev pub meets : State S R → Block R → Option (Note R) → Reaction
  meets s b None = cond (accepting s (fresh b)) Accepted Noted
  meets s b (Some note) = cond (same_block k note.block b) (cond (accepting s note) Accepted Nothing) (clashing s)

  abbrev pub reaction : State S R → Block R → Reaction
  reaction s b = cond (slot_open s b) (meets s b s.round.note) Nothing

module _ {S : ℕ} {R : Type 0} (p : Terms) where
  -- what the call's outcome becomes by it
  abbrev pub applied : Outcome S R → Note R → Reaction → Outcome S R
  applied o note Nothing = o
  applied o note Noted = adds o SaysNoted None None (reacted o.state note Noted)
  applied o note Accepted = adds o SaysAccepted (Some relay) None (reacted o.state note Accepted)
  applied o note Clash = adds o SaysClash (Some relay) None (reacted o.state note Clash)
  applied o note ClashAndBlame = adds o SaysClash (Some relay) (Some (own_blame p o.state)) (reacted o.state note ClashAndBlame)

-- the blame that a reaction sends
abbrev pub blames_by : {R : Type 0} → (S : ℕ) → Terms → (view : ℕ) → Reaction → Option (Sending R)
blames_by S p view Nothing = None
blames_by S p view Noted = None
blames_by S p view Accepted = None
blames_by S p view Clash = None
blames_by S p view ClashAndBlame = Some (write (Blame p.own view (zero_seal S)))

-- the answer to a proposal, from the one to its parent's certificate
module _ {L : ℕ} {R : Type 0} (k : Kind L R) where
  abbrev pub says : Answer → Word → Option Item → Option (Sending R) → Answer
  says a word message blame = record {
    word = word;
    height = a.height;
    certificate = a.certificate;
    message = message;
    blame = item_at k (end_of a.certificate) blame;
  }

  abbrev pub responded : Answer → Option (Sending R) → Reaction → Answer
  responded a blame Nothing = a
  responded a blame Noted = record { word = SaysNoted; height = a.height; certificate = a.certificate; message = a.message; blame = a.blame }
  responded a blame Accepted = record { word = SaysAccepted; height = a.height; certificate = a.certificate; message = Some Inbox; blame = a.blame }
  responded a blame Clash = record { word = SaysClash; height = a.height; certificate = a.certificate; message = Some Inbox; blame = a.blame }
  responded a blame ClashAndBlame = says a SaysClash (Some Inbox) blame
