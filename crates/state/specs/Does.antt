-- That a call does what the model says.
use Rattle.std.specs.Prelude.{◌≡◌, ℕ, List, Result}
use Rattle.content.specs.Kinds.{Kind}
use Rattle.content.specs.declared.refusal.Refusal.{Refusal}
use Rattle.blocks.specs.declared.block.Block.{Block}
use Rattle.state.specs.Calls.{answer_after, blocks_after, box_after, step_state}
use Rattle.state.specs.Sends.{Outcome}
use Rattle.state.specs.declared.answer.Answer.{Answer}
use Rattle.state.specs.declared.state.State.{State}

-- what a step answers, and what seat, shelf and outbox hold after it, are the model's
pub record Does {L S : ℕ} {R : Type 0} (k : Kind L R) (r : Result (Outcome S R) Refusal) (s : State S R) (bs : List (Block R)) (out : List ℕ)
    (answered : Result Answer Refusal) (s' : State S R) (bs' : List (Block R)) (out' : List ℕ) : Type 0 where
  pub answer : answered ≡ answer_after k r
  pub state : s' ≡ step_state s r
  pub blocks : bs' ≡ blocks_after bs r
  pub outbox : out' ≡ box_after k out r
