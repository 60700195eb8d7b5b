-- Whole numbers as bytes, low byte first, and that the two ways undo each other. The laws stand here since
-- the laws of each kind of content rest on them.
use Rattle.std.specs.Prelude.{◌≡◌, ℕ, zero, suc, ◌+◌, ◌*◌, ◌/◌, ◌%◌, ◌^◌, ◌<◌, List, [], ◌∷◌, length, take, drop, refl}
use Rattle.std.proofs.Common.{ap, subst, pow-suc, arith}
use Rattle.content.specs.Kinds.{Bytes}

-- the number that bytes spell
abbrev pub number : List ℕ → ℕ
number [] = 0
number (b ∷ bs) = b + 256 * number bs

-- the bytes of a number, so many
abbrev pub spell : ℕ → ℕ → List ℕ
spell zero n = []
spell (suc k) n = n % 256 ∷ spell k (n / 256)

pub length-spell : (k n : ℕ) → length (spell k n) ≡ k
length-spell zero n = refl
length-spell (suc k) n = ap suc (length-spell k (n / 256))

pub bytes-spell : (k n : ℕ) → Bytes (spell k n)
bytes-spell zero n i = omega arith
bytes-spell (suc k) n zero = omega arith
bytes-spell (suc k) n (suc i) = bytes-spell k (n / 256) i

pub spell-number : (xs : List ℕ) → Bytes xs → spell (length xs) (number xs) ≡ xs
spell-number [] h = refl
spell-number (b ∷ bs) h =
    let low : b < 256 = h 0 in
    let rest : (b + 256 * number bs) / 256 ≡ number bs = omega arith in
    let head : (b + 256 * number bs) % 256 ≡ b = omega arith in
    let tail : spell (length bs) (number bs) ≡ bs = spell-number bs (λ i. h (suc i)) in
    rw (rest, head, tail)

pub number-spell : (k n : ℕ) → n < 256 ^ k → number (spell k n) ≡ n
number-spell zero n h = omega arith
number-spell (suc k) n h =
    let p : 256 ^ suc k ≡ 256 ^ k * 256 = pow-suc 256 k in
    let l : n / 256 < 256 ^ k = omega arith in
    let t : number (spell k (n / 256)) ≡ n / 256 = number-spell k (n / 256) l in
    omega arith

pub number-below : (xs : List ℕ) → Bytes xs → number xs < 256 ^ length xs
number-below [] h = omega arith
number-below (b ∷ bs) h =
    let low : b < 256 = h 0 in
    let p : 256 ^ suc (length bs) ≡ 256 ^ length bs * 256 = pow-suc 256 (length bs) in
    let r : number bs < 256 ^ length bs = number-below bs (λ i. h (suc i)) in
    omega arith

pub spell-all : (k : ℕ) (xs : List ℕ) → Bytes xs → length xs ≡ k → spell k (number xs) ≡ xs
spell-all k xs h e = subst (λ (n : ℕ). spell n (number xs) ≡ xs) e (spell-number xs h)

-- parts of bytes are bytes
pub bytes_take : (k : ℕ) (xs : List ℕ) → Bytes xs → Bytes (take k xs)
bytes_take zero xs h i = omega arith
bytes_take (suc k) [] h i = h i
bytes_take (suc k) (x ∷ xs) h zero = h 0
bytes_take (suc k) (x ∷ xs) h (suc i) = bytes_take k xs (λ j. h (suc j)) i

pub bytes_drop : (k : ℕ) (xs : List ℕ) → Bytes xs → Bytes (drop k xs)
bytes_drop zero xs h i = h i
bytes_drop (suc k) [] h i = h i
bytes_drop (suc k) (x ∷ xs) h i = bytes_drop k xs (λ j. h (suc j)) i
