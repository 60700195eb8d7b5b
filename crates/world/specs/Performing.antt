-- That a call at a desk, and at the desks of a world, is the model's.
use Rattle.std.specs.Prelude.{◌≡◌, ℕ, List, ◌∷◌, Result}
use Rattle.content.specs.Kinds.{Kind}
use Rattle.content.specs.declared.kind.Content.{Ghosts}
use Rattle.content.specs.declared.refusal.Refusal.{Refusal}
use Rattle.state.specs.Calls.{answer_after, box_after}
use Rattle.state.specs.declared.answer.Answer.{Answer}
use Rattle.agreement.specs.History.{Call, Event, History, result}
use Rattle.agreement.specs.Setting.{Setting}
use Rattle.world.specs.Worlds.{DeskAt, Stands, answer_to, box_of, event_at}
use Rattle.world.specs.declared.desk.Desk.{Desk}

module _ {L S : ℕ} {C R : Type 0} {bound : Ghosts C L R} (k : Kind L R) (w : Setting) where
  -- a call at the desk of seat i: its answer, its outbox, and where the desk stands after it
  pub record Performed (i : ℕ) (c : Call) (h : History) (out : List ℕ) (answer : Result Answer Refusal) (d : Desk L S C R bound) (out' : List ℕ) : Type 0 where
    pub answers : answer ≡ answer_after k (result S k w (event_at i c) h)
    pub outbox : out' ≡ box_after k out (result S k w (event_at i c) h)
    pub stands : DeskAt k w i (event_at i c ∷ h) d

  -- a call in a world of so many desks: its answer, its outbox, and where all desks stand after it
  pub record CalledAt (count : ℕ) (e : Event) (h : History) (out : List ℕ) (answer : Result Answer Refusal) (ds : List (Desk L S C R bound)) (out' : List ℕ) : Type 0 where
    pub answers : answer ≡ answer_to S k w count e h
    pub outbox : out' ≡ box_of S k w count out e h
    pub stands : Stands k w (e ∷ h) ds
