-- How a world begins: new seats, each with the number of its place, empty shelves.
use Rattle.std.specs.Prelude.{◌≡◌, ℕ, ◌<◌, ◌≤◌, Bool, true, List, [], length, None, slice_index_or}
use Rattle.content.specs.Kinds.{Kind}
use Rattle.content.specs.declared.kind.Content.{Ghosts}
use Rattle.rota.specs.Limits.{seats_lawful}
use Rattle.blocks.specs.Masks.{faults}
use Rattle.state.specs.Parts.{new_state}
use Rattle.agreement.specs.Setting.{Lawful, Setting, unsound}
use Rattle.world.specs.Worlds.{Stands}
use Rattle.world.specs.declared.desk.Desk.{Desk}

module _ {L S : ℕ} {C R : Type 0} {bound : Ghosts C L R} where
  -- a desk whose seat has this number in a log of n seats and was not called yet
  pub record NewAt (n delta i : ℕ) (d : Desk L S C R bound) : Type 0 where
    pub of_seats : d.seat.terms.seats.n ≡ n
    pub of_delta : d.seat.terms.delta ≡ delta
    pub of_own : d.seat.terms.own ≡ i
    pub uncalled : d.seat.state ≡ new_state
    pub empty : d.filled ≡ 0
    pub no_slip : d.slip ≡ None

  -- a world that begins: a new desk for each seat, at the place of its number
  pub record Begun (n delta : ℕ) (ds : List (Desk L S C R bound)) : Type 0 where
    pub all : length ds ≡ n
    pub lawful_seats : seats_lawful n ≡ true
    pub some_delta : 1 ≤ delta
    pub each : (i : ℕ) (d : Desk L S C R bound) → i < length ds → slice_index_or ds i d ≡ d → NewAt n delta i d

  -- Whichever seats are sound, if at most f are not: there is a lawful setting of the theorem in which a world that begins stands
  -- after no calls.
  abbrev pub CanBegin : Kind L R → (leader : ℕ → ℕ) → (accepts : ℕ → List ℕ → List ℕ → Bool) → List (Desk L S C R bound) → Type 0
  CanBegin k leader accepts ds = (n delta : ℕ) (sound : ℕ → Bool) → Begun n delta ds → ((i : ℕ) → sound i ≡ true → i < n) → unsound sound n ≤ faults n →
      (w : Setting) × ((w.leader ≡ leader) × ((w.accepts ≡ accepts) × ((w.sound ≡ sound) × (Lawful w × Stands k w [] ds))))
