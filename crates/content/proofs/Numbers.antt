-- The laws of numbers in bytes, and what the standard library's `from_le_bytes` and `to_le_bytes` are by them.
use Rattle.std.proofs.Common.{◌≡◌, ℕ, zero, suc, ◌+◌, ◌*◌, ◌/◌, ◌%◌, ◌^◌, ◌<◌, Bool, true, false, ◌&&◌, eqb, List, [], ◌∷◌, ◌++◌, length, get_or, refl, ap, pow-suc, arith}
use native.Mathlib.Nat.{div-div-eq-div-mul}
use Rattle.std.proofs.lemmas.Bool.{eq-eqb}
use Rattle.std.proofs.lemmas.Bool.Decides.{nat_tests}
use Rattle.std.specs.Str.{bytes_eq}
use Rattle.content.specs.Numbers.{number, spell}
pub use Rattle.content.specs.Numbers.{spell-number, number-spell, length-spell, bytes-spell, number-below}

-- numbers of so many bytes are compared by their bytes
pub same-spell : (k m n : ℕ) (xs ys : List ℕ) → m < 256 ^ k → n < 256 ^ k → bytes_eq (spell k m ++ xs) (spell k n ++ ys) ≡ (eqb m n && bytes_eq xs ys)
same-spell zero m n xs ys h l = let e : eqb m n ≡ true = eq-eqb m n (omega arith) in rw e
same-spell (suc k) m n xs ys h l =
    let p : 256 ^ suc k ≡ 256 ^ k * 256 = pow-suc 256 k in
    let a : m / 256 < 256 ^ k = omega arith in
    let b : n / 256 < 256 ^ k = omega arith in
    let rest = same-spell k (m / 256) (n / 256) xs ys a b in
    rw rest (regroup (eqb (m % 256) (n % 256)) (eqb (m / 256) (n / 256)) (eqb m n) (bytes_eq xs ys) (digits m n))
  where
    digits : (m n : ℕ) → (eqb (m % 256) (n % 256) && eqb (m / 256) (n / 256)) ≡ eqb m n
    digits m n = grind (arith, nat_tests)

    regroup : (a b c d : Bool) → (a && b) ≡ c → (a && (b && d)) ≡ (c && d)
    regroup true b c d e = ap (λ (x : Bool). x && d) e
    regroup false b c d e = ap (λ (x : Bool). x && d) e

-- what `to_le_bytes` answers is the number's spelling
pub to_le_16 : (n : ℕ) → ◌≡◌ {A = List ℕ} (n % 256 ∷ n / 256 % 256 ∷ []) (spell 2 n)
to_le_16 n = refl

pub to_le_32 : (n : ℕ) → ◌≡◌ {A = List ℕ} (n % 256 ∷ n / 256 % 256 ∷ n / 65536 % 256 ∷ n / 16777216 % 256 ∷ []) (spell 4 n)
to_le_32 n = simp div-div-eq-div-mul

pub to_le_64 : (n : ℕ) → ◌≡◌ {A = List ℕ} (n % 256 ∷ n / 256 % 256 ∷ n / 65536 % 256 ∷ n / 16777216 % 256 ∷ n / 4294967296 % 256 ∷ n / 1099511627776 % 256 ∷ n / 281474976710656 % 256 ∷ n / 72057594037927936 % 256 ∷ []) (spell 8 n)
to_le_64 n = simp div-div-eq-div-mul

-- what `from_le_bytes` answers is the number that the bytes spell
pub from_le_16 : (xs : List ℕ) → length xs ≡ 2 → get_or xs 0 0 + get_or xs 1 0 * 256 ≡ number xs
from_le_16 [] h = absurd (omega arith)
from_le_16 (a ∷ []) h = absurd (omega arith)
from_le_16 (a ∷ b ∷ []) h = omega arith
from_le_16 (a ∷ b ∷ c ∷ xs) h = absurd (omega arith)

pub from_le_32 : (xs : List ℕ) → length xs ≡ 4 → get_or xs 0 0 + get_or xs 1 0 * 256 + get_or xs 2 0 * 65536 + get_or xs 3 0 * 16777216 ≡ number xs
from_le_32 [] h = absurd (omega arith)
from_le_32 (a ∷ []) h = absurd (omega arith)
from_le_32 (a ∷ b ∷ []) h = absurd (omega arith)
from_le_32 (a ∷ b ∷ c ∷ []) h = absurd (omega arith)
from_le_32 (a ∷ b ∷ c ∷ d ∷ []) h = omega arith
from_le_32 (a ∷ b ∷ c ∷ d ∷ e ∷ xs) h = absurd (omega arith)

pub from_le_64 : (xs : List ℕ) → length xs ≡ 8 → get_or xs 0 0 + get_or xs 1 0 * 256 + get_or xs 2 0 * 65536 + get_or xs 3 0 * 16777216 + get_or xs 4 0 * 4294967296 + get_or xs 5 0 * 1099511627776 + get_or xs 6 0 * 281474976710656 + get_or xs 7 0 * 72057594037927936 ≡ number xs
from_le_64 [] h = absurd (omega arith)
from_le_64 (a ∷ []) h = absurd (omega arith)
from_le_64 (a ∷ b ∷ []) h = absurd (omega arith)
from_le_64 (a ∷ b ∷ c ∷ []) h = absurd (omega arith)
from_le_64 (a ∷ b ∷ c ∷ d ∷ []) h = absurd (omega arith)
from_le_64 (a ∷ b ∷ c ∷ d ∷ e ∷ []) h = absurd (omega arith)
from_le_64 (a ∷ b ∷ c ∷ d ∷ e ∷ f ∷ []) h = absurd (omega arith)
from_le_64 (a ∷ b ∷ c ∷ d ∷ e ∷ f ∷ g ∷ []) h = absurd (omega arith)
from_le_64 (a ∷ b ∷ c ∷ d ∷ e ∷ f ∷ g ∷ i ∷ []) h = omega arith
from_le_64 (a ∷ b ∷ c ∷ d ∷ e ∷ f ∷ g ∷ i ∷ j ∷ xs) h = absurd (omega arith)
