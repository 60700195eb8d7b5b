-- The key of a seat, in its place in the row of keys.
use Rattle.std.proofs.Common.{◌≡◌, ℕ, zero, suc, ◌+◌, ◌*◌, ◌/◌, ◌<◌, ◌≤◌, true, false, List, length, get_or, take, drop, Some, None, nat_le, refl, ap, ◌∙◌, arith, drop-drop}
use Rattle.std.proofs.lemmas.Bool.Decides.{nat_tests}
use Rattle.std.specs.Simd.{first_chunks}
use Rattle.seals.specs.House.{seal_under, house_seal}

-- a seat behind the row has no key, and no seal
pub keyless : (keys statement : List ℕ) (seat : ℕ) → length keys / 16 ≤ seat → house_seal keys seat statement ≡ None
keyless keys statement seat h =
    let t : nat_le (16 * seat + 16) (length keys) ≡ false = grind (arith, nat_tests) in
    rw t refl

chunk_at : (n k i : ℕ) (xs d : List ℕ) → i < k → get_or (first_chunks n k xs) i d ≡ take n (drop (n * i) xs)
chunk_at n zero i xs d h = absurd (omega arith)
chunk_at n (suc k) zero xs d h = let e : n * 0 ≡ 0 = omega arith in rw e refl
chunk_at n (suc k) (suc i) xs d h =
    let e : n + n * i ≡ n * suc i = grind arith in
    chunk_at n k i (drop n xs) d (omega arith) ∙ ap (take n) (drop-drop (n * i) n xs ∙ ap (λ (m : ℕ). drop m xs) e)

-- any other makes its seal with its key
pub keyed : (keys statement key d : List ℕ) (seat : ℕ) → seat < length keys / 16 → key ≡ get_or (first_chunks 16 (length keys / 16) keys) seat d → Some (seal_under key statement) ≡ house_seal keys seat statement
keyed keys statement key d seat h e =
    let t : nat_le (16 * seat + 16) (length keys) ≡ true = grind (arith, nat_tests) in
    let k : key ≡ take 16 (drop (16 * seat) keys) = e ∙ chunk_at 16 (length keys / 16) seat keys d h in
    rw t (ap (λ (bytes : List ℕ). Some (seal_under bytes statement)) k)
