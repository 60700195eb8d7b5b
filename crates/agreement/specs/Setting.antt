-- The seats of one log: what the sound ones share, and what each has of its own.
use Rattle.std.specs.Prelude.{◌≡◌, ℕ, zero, suc, ◌+◌, ◌<◌, ◌≤◌, Bool, true, cond, List}
use Rattle.rota.specs.Limits.{seats_lawful}
use Rattle.blocks.specs.Masks.{faults}
use Rattle.state.specs.declared.state.Terms.{Terms}

pub record Setting : Type 0 where
  -- the number of seats
  pub n : ℕ
  -- within this many ticks a message between sound seats arrives
  pub delta : ℕ
  -- the leader of each view
  pub leader : ℕ → ℕ
  -- which seals stand, for a seat and a statement
  pub accepts : ℕ → List ℕ → List ℕ → Bool
  -- which seats are sound
  pub sound : ℕ → Bool
  -- what each sound seat was made from, and how many cells its shelf has
  pub terms : ℕ → Terms
  pub cells : ℕ → ℕ

-- a seat that keeps to the rules
abbrev pub Sound : Setting → ℕ → Type 0
Sound w i = w.sound i ≡ true

-- how many of the first k seats are not sound
abbrev pub unsound : (ℕ → Bool) → ℕ → ℕ
unsound sound zero = 0
unsound sound (suc k) = cond (sound k) 0 1 + unsound sound k

-- sound seats are among the n and share n and delta; each is made with its own number; at most f seats are unsound
pub record Lawful (w : Setting) : Type 0 where
  pub seats : seats_lawful w.n ≡ true
  pub among : (i : ℕ) → Sound w i → i < w.n
  pub shares_n : (i : ℕ) → Sound w i → (w.terms i).seats.n ≡ w.n
  pub shares_delta : (i : ℕ) → Sound w i → (w.terms i).delta ≡ w.delta
  pub some_delta : 1 ≤ w.delta
  pub own : (i : ℕ) → Sound w i → (w.terms i).own ≡ i
  pub few : unsound w.sound w.n ≤ faults w.n
