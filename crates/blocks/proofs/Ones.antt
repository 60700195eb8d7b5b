-- Counting the seats of a set.
use Rattle.std.proofs.Common.{◌≡◌, ℕ, zero, suc, ◌+◌, ◌-◌, ◌/◌, ◌%◌, ◌^◌, ◌<◌, ◌≤◌, true, false, cond, ◌==◌, count_ones, sym, ap, ◌∙◌, add-one, add-zero, arith, lit<}
use Rattle.std.proofs.Math.Nat.{div-eq_of_lt, div-one}
use Rattle.std.proofs.lemmas.Nat.{ones-le}
use Rattle.std.proofs.lemmas.Bool.Decides.{nat_tests}
use lib.Count.{ones_step}
use lib.Pow.{shr-shr}
use Rattle.blocks.specs.Masks.{bit, ones}

-- one seat on
pub ones_in : (mask i n : ℕ) → i < n → bit mask i ≡ true → ones mask i (n - i) ≡ 1 + ones mask (i + 1) (n - (i + 1))
unfolding ones
ones_in mask i n h t = let e : n - i ≡ suc (n - (i + 1)) = omega arith in rw (e, add-one i, t)

pub ones-out : (mask i n : ℕ) → i < n → bit mask i ≡ false → ones mask i (n - i) ≡ ones mask (i + 1) (n - (i + 1))
unfolding ones
ones-out mask i n h t = let e : n - i ≡ suc (n - (i + 1)) = omega arith in rw (e, add-one i, t) (omega arith)

pub ones_none : (mask i n : ℕ) → n ≤ i → ones mask i (n - i) ≡ 0
unfolding ones
ones_none mask i n h = let e : n - i ≡ 0 = omega arith in rw e

-- the seats from i on are the bits above the lowest i
lowest : (n : ℕ) → n % 2 ≡ cond (n % 2 == 1) 1 0
lowest n = let h : n % 2 < 2 = omega arith in grind (arith, nat_tests)

ones_above : (mask i k : ℕ) → mask < 2 ^ (i + k) → ones mask i k ≡ count_ones (mask / 2 ^ i)
unfolding ones
ones_above mask i zero h =
    let e : mask / 2 ^ i ≡ 0 = div-eq_of_lt (rw add-zero at h) in
    let n : count_ones 0 ≤ 0 = ones-le 0 0 (lit< tt) in
    rw e (omega arith)
ones_above mask i (suc k) h =
    let a : suc i + k ≡ i + suc k = omega arith in
    let rest : ones mask (suc i) k ≡ count_ones (mask / 2 ^ suc i) = ones_above mask (suc i) k (rw a h) in
    let e : suc i ≡ i + 1 = omega arith in
    let half : mask / 2 ^ suc i ≡ mask / 2 ^ i / 2 = ap (λ j. mask / 2 ^ j) e ∙ sym (shr-shr mask i 1) in
    rw (rest, half, ← lowest (mask / 2 ^ i)) (sym (ones_step (mask / 2 ^ i)))

-- a set of seats below n has as many of them as its number has bits
pub ones_below : (mask n : ℕ) → mask < 2 ^ n → ones mask 0 n ≡ count_ones mask
ones_below mask n h =
    let e : 0 + n ≡ n = omega arith in
    ones_above mask 0 n (rw e h) ∙ ap count_ones (div-one mask)
