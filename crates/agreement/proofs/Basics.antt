-- Constructors are told apart and give back what they hold.
use Rattle.std.proofs.Common.{◌≡◌, ℕ, true, false, List, ◌∷◌, Some, None, Ok, Err, Result, arith}
use Rattle.content.specs.declared.refusal.Refusal.{Refusal}

module _ {X : Type 0} where
  pub some_same : {x y : X} → Some x ≡ Some y → x ≡ y
  some_same e = cc

  pub none-some : {x : X} → None ≡ Some x → ⊥
  none-some e = let z : ◌≡◌ {A = ℕ} 0 1 = cc in omega arith

  pub ok_same : {x y : X} → ◌≡◌ {A = Result X Refusal} (Ok x) (Ok y) → x ≡ y
  ok_same e = cc

  pub err_same : {x y : Refusal} → ◌≡◌ {A = Result X Refusal} (Err x) (Err y) → x ≡ y
  err_same e = cc

  pub err_ok : {r : Refusal} {x : X} → ◌≡◌ {A = Result X Refusal} (Err r) (Ok x) → ⊥
  err_ok e = let z : ◌≡◌ {A = ℕ} 0 1 = cc in omega arith

  pub head-same : {x y : X} {xs ys : List X} → x ∷ xs ≡ y ∷ ys → x ≡ y
  head-same e = cc

  pub tail-same : {x y : X} {xs ys : List X} → x ∷ xs ≡ y ∷ ys → xs ≡ ys
  tail-same e = cc

pub true-false : true ≡ false → ⊥
true-false e = let z : ◌≡◌ {A = ℕ} 0 1 = cc in omega arith
