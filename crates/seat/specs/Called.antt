-- That a call of a seat does what the model says.
use Rattle.std.specs.Prelude.{◌≡◌, ℕ, List, Ok, Err, Result}
use Rattle.content.specs.Kinds.{Kind}
use Rattle.content.specs.declared.refusal.Refusal.{Refusal}
use Rattle.blocks.specs.declared.block.Block.{Block}
use Rattle.state.specs.Calls.{answer_after, blocks_after, box_after, guarded, state_after}
use Rattle.state.specs.Sends.{Outcome}
use Rattle.state.specs.declared.answer.Answer.{Answer}
use Rattle.state.specs.declared.state.State.{State}
use Rattle.seat.specs.declared.slip.Slip.{Slip}

-- what a call answers, beside the slip that it gives: there is only one kind of slip
abbrev pub answered : Result (Answer × Slip) Refusal → Result Answer Refusal
answered (Ok p) = Ok p.0
answered (Err e) = Err e

-- what a call answers, and what seat, shelf and outbox hold after it, are the model's: one that is carried out gives a
-- slip, one that is refused leaves all as it was
pub record Called {L S : ℕ} {R : Type 0} (k : Kind L R) (r : Result (Outcome S R) Refusal) (s : State S R) (bs : List (Block R)) (out : List ℕ)
    (result : Result (Answer × Slip) Refusal) (s' : State S R) (bs' : List (Block R)) (out' : List ℕ) : Type 0 where
  pub answer : answered result ≡ answer_after k r
  pub state : s' ≡ state_after s r
  pub blocks : bs' ≡ blocks_after bs r
  pub outbox : out' ≡ box_after k out r

-- what every call but sent asks first: no slip out, an outbox of enough bytes
abbrev pub ready : {S : ℕ} {R : Type 0} → State S R → (room : ℕ) → Result Unit Refusal
ready s room = guarded s room (Ok tt)
