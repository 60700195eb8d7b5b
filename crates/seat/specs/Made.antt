-- From what a seat can be made, and how it begins.
use Rattle.std.specs.Prelude.{◌≡◌, ℕ, Bool, ◌&&◌, nat_le, nat_lt}
use Rattle.rota.specs.Limits.{seats_lawful}
use Rattle.state.specs.Parts.{new_state}
use Rattle.state.specs.declared.state.State.{State}
use Rattle.state.specs.declared.state.Terms.{Terms}

-- a lawful number of seats, one of them, delta 1 to 1,000 and patience 1 to 60,000 ticks
abbrev pub terms_lawful : (n own delta patience : ℕ) → Bool
terms_lawful n own delta patience =
    seats_lawful n && (nat_lt own n && ((nat_le 1 delta && nat_le delta 1000) && (nat_le 1 patience && nat_le patience 60000)))

-- a seat made from these, which has not been called
pub record Fresh {S : ℕ} {R : Type 0} (n own delta patience : ℕ) (p : Terms) (s : State S R) : Type 0 where
  pub of_seats : p.seats.n ≡ n
  pub of_own : p.own ≡ own
  pub of_delta : p.delta ≡ delta
  pub of_patience : p.patience ≡ patience
  pub begins : s ≡ new_state
