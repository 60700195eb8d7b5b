-- What a step of a call leaves.
use Rattle.std.specs.Prelude.{◌≡◌, ℕ, List, length, Result}
use Rattle.content.specs.Kinds.{Kind}
use Rattle.content.specs.declared.refusal.Refusal.{Refusal}
use Rattle.shelf.specs.Blocks.{held}
use Rattle.shelf.specs.Cells.{SameCells}
use Rattle.shelf.specs.declared.Shelf.{Shelf}
use Rattle.state.specs.Calls.{answer_after, box_after, step_state}
use Rattle.state.specs.Does.{Does}
use Rattle.state.specs.Sends.{Outcome}
use Rattle.state.specs.declared.answer.Answer.{Answer}
use Rattle.state.specs.declared.call.Call.{Call}
use Rattle.state.specs.declared.state.State.{State}

module _ {S : ℕ} where
  -- the same call: the same terms, and an outbox in the same place and of the same size
  pub record SameCall (d c : Call S) : Type 0 where
    pub terms : d.terms ≡ c.terms
    pub place : d.outbox.ghost_name ≡ c.outbox.ghost_name
    pub size : length d.outbox.now ≡ length c.outbox.now

  -- the same call goes on, with this outbox
  pub record Leaves (d c : Call S) (out : List ℕ) : Type 0 where
    pub same : SameCall d c
    pub outbox : d.outbox.now ≡ out

module _ {L S : ℕ} {R : Type 0} (k : Kind L R) (r : Result (Outcome S R) Refusal) where
  -- what a step answers that looks at no shelf, and what it leaves, are the model's
  pub record Acts (c : Call S) (s : State S R) (answered : Result Answer Refusal) (d : Call S) (t : State S R) : Type 0 where
    pub same : SameCall d c
    pub answer : answered ≡ answer_after k r
    pub state : t ≡ step_state s r
    pub outbox : d.outbox.now ≡ box_after k c.outbox.now r

  -- what a step answers, and what it leaves in the seat, on the shelf and in the outbox, are the model's
  pub record Steps (c : Call S) (s : State S R) (f : Shelf R) (answered : Result Answer Refusal) (d : Call S) (t : State S R) (e : Shelf R) : Type 0 where
    pub same : SameCall d c
    pub does : Does k r s (held f) c.outbox.now answered t (held e) d.outbox.now
    pub cells : SameCells e f
