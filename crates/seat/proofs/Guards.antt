-- What the calls ask first, and what is left where they refuse.
use Rattle.std.proofs.Common.{◌≡◌, ℕ, ◌<◌, ◌≤◌, false, Ok, Err, Result, arith}
use Rattle.std.proofs.lemmas.Bool.Decides.{nat_tests}
use Rattle.content.specs.declared.refusal.Refusal.{Refusal}
use Rattle.content.specs.declared.refusal.Refusal.TheVariants.{SmallOutbox}
use Rattle.state.specs.Calls.{guarded}
use Rattle.state.specs.declared.state.State.{State}
use Rattle.seat.specs.Called.{ready}

module _ {S : ℕ} {R : Type 0} (s : State S R) (room : ℕ) where
  pub ready-small : s.slip ≡ false → room < 1024 → Err SmallOutbox ≡ ready s room
  ready-small e h = grind (arith, nat_tests)

  pub ready_ok : s.slip ≡ false → 1024 ≤ room → Ok tt ≡ ready s room
  ready_ok e h = grind (arith, nat_tests)

  -- a call that is not ready is refused as it says
  pub unready : {X : Type 0} (e : Refusal) (r : Result X Refusal) → Err e ≡ ready s room → guarded s room r ≡ Err e
  unready e r h = grind (arith, nat_tests)

  -- one that is goes on
  pub goes_on : {X : Type 0} (r : Result X Refusal) → Ok tt ≡ ready s room → guarded s room r ≡ r
  goes_on r h = grind (arith, nat_tests)

  pub enough : Ok tt ≡ ready s room → 1024 ≤ room
  enough h = grind (arith, nat_tests)
