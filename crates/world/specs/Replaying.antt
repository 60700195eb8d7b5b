-- Replaying a list of calls, as far as memory goes.
use Rattle.std.specs.Prelude.{◌≡◌, ℕ, ◌+◌, List, [], ◌∷◌, ◌++◌, length, take, Ok, Err, Result}
use Rattle.content.specs.Kinds.{Kind}
use Rattle.content.specs.declared.kind.Content.{Ghosts}
use Rattle.content.specs.declared.refusal.Refusal.{Refusal}
use Rattle.content.specs.declared.refusal.Refusal.TheVariants.{NoMemory}
use Rattle.agreement.specs.History.{History}
use Rattle.agreement.specs.Setting.{Setting}
use Rattle.world.specs.Worlds.{Stands, event_of, played, tells, told_all, told_of}
use Rattle.world.specs.declared.call.Call.{Call}
use Rattle.world.specs.declared.call.Reply.{Reply}
use Rattle.world.specs.declared.desk.Desk.{Desk}

module _ {L S : ℕ} {C R : Type 0} {bound : Ghosts C L R} (k : Kind L R) (w : Setting) where
  -- one call more: its reply is kept, and every desk stands where the model has it. Without memory nothing is done.
  abbrev pub Stepped : Call → History → List (Desk L S C R bound) → List Reply → Result (Unit {0}) Refusal → List (Desk L S C R bound) → List Reply → Type 0
  Stepped c h ds rs (Ok u) ds' rs' = Stands k w (event_of c ∷ h) ds' × (told_of rs' ≡ told_of rs ++ (tells S k w (length ds) c h ∷ []))
  Stepped c h ds rs (Err e) ds' rs' = (e ≡ NoMemory) × ((ds' ≡ ds) × (rs' ≡ rs))

  -- so many calls of a list were made: every desk stands where the model has it after them, and their answers are the model's
  pub record Played (m : ℕ) (cs : List Call) (h : History) (count : ℕ) (ds : List (Desk L S C R bound)) (rs : List Reply) : Type 0 where
    pub stands : Stands k w (played (take m cs) h) ds
    pub replies : told_of rs ≡ told_all S k w count (take m cs) h

-- a call that was made is counted
abbrev pub Counted : Result (Unit {0}) Refusal → (before after : ℕ) → Type 0
Counted (Ok u) before after = after ≡ before + 1
Counted (Err e) before after = after ≡ before

-- how a replay ended: all calls were made, or memory was wanting
abbrev pub Ended : Result (Unit {0}) Refusal → (made asked : ℕ) → Type 0
Ended (Ok u) made asked = made ≡ asked
Ended (Err e) made asked = e ≡ NoMemory
