-- A row of seals, one seal on, and how long it is.
use Rattle.std.proofs.Common.{◌≡◌, ℕ, suc, ◌+◌, ◌-◌, ◌*◌, ◌<◌, ◌≤◌, List, length, take, Ok, Err, sym, arith, length-drop}
use Rattle.std.proofs.lemmas.Bool.Decides.{nat_tests}
use Rattle.content.specs.declared.refusal.Refusal.{Refusal}
use Rattle.wire.specs.Reading.{Read, peel, peel_seals, seals_fit}
use Rattle.wire.proofs.Bodies.{fit_back}

-- a seal that does not fit ends the row
pub seals_short : (S k i at : ℕ) (xs : List ℕ) (e : Refusal) → i < k → Err e ≡ peel S at xs → Err e ≡ seals_fit S (k - i) at xs
unfolding seals_fit
seals_short S k i at xs e l h =
    let n : k - i ≡ suc (k - (i + 1)) = omega arith in
    rw n (grind (arith, nat_tests))

pub seals_more : (S k i at : ℕ) (xs seal rest : List ℕ) → i < k → ◌≡◌ {A = Read (List ℕ)} (Ok (seal, rest)) (peel S at xs) → seals_fit S (k - i) at xs ≡ seals_fit S (k - (i + 1)) (at + S) rest
unfolding seals_fit
seals_more S k i at xs seal rest l h =
    let n : k - i ≡ suc (k - (i + 1)) = omega arith in
    rw n (grind (arith, nat_tests))

pub seals_none : (S k i at : ℕ) (xs : List ℕ) → k ≤ i → seals_fit S (k - i) at xs ≡ Ok xs
unfolding seals_fit
seals_none S k i at xs l = let n : k - i ≡ 0 = omega arith in rw n

-- a row that fits is as long as its seals
pub seals_length : (S k at : ℕ) (xs rest : List ℕ) → Ok rest ≡ seals_fit S k at xs → length rest + k * S ≡ length xs
seals_length S k at xs rest h =
    let fits = fit_back S k at xs rest (sym h) in
    rw (fits.1, length-drop (k * S) xs) (omega (arith, fits.0))

pub row-taken : (S k at : ℕ) (xs rest : List ℕ) → Ok rest ≡ seals_fit S k at xs → ◌≡◌ {A = Read (List ℕ)} (Ok (take (length xs - length rest) xs, rest)) (peel_seals S k at xs)
row-taken S k at xs rest h =
    let n : length rest + k * S ≡ length xs = seals_length S k at xs rest h in
    let m : length xs - length rest ≡ k * S = omega arith in
    rw (← h, m)

pub row_short : (S k at : ℕ) (xs : List ℕ) (e : Refusal) → Err e ≡ seals_fit S k at xs → ◌≡◌ {A = Read (List ℕ)} (Err e) (peel_seals S k at xs)
row_short S k at xs e h = rw (← h)
