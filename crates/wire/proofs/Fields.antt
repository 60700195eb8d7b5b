-- What taking a field off the front of a slice gives.
use Rattle.std.proofs.Common.{◌≡◌, ℕ, ◌+◌, ◌-◌, ◌*◌, ◌≤◌, List, [], ◌∷◌, length, get_or, take, drop, Ok, arith, length-drop}
use Rattle.std.proofs.lemmas.List.{take_rest}
use Rattle.std.proofs.lemmas.Bool.{le-ltb}
use Rattle.content.specs.Numbers.{number}
use Rattle.wire.specs.Reading.{peel_number}

pub number-taken : (k at v : ℕ) (xs : List ℕ) → k ≤ length xs → v ≡ number (take k xs) → Ok (v, take (length xs - k) (drop k xs)) ≡ peel_number k at xs
number-taken k at v xs h e = rw (le-ltb (length xs) k h, take_rest xs k, e)

pub length-left : (k : ℕ) (xs : List ℕ) → k ≤ length xs → length (take (length xs - k) (drop k xs)) + k ≡ length xs
length-left k xs h = rw (take_rest xs k, length-drop k xs) (omega arith)

pub two_bytes : (xs : List ℕ) → 2 ≤ length xs → get_or xs 0 0 + get_or xs 1 0 * 256 ≡ number (take 2 xs)
two_bytes [] h = absurd (omega arith)
two_bytes (a ∷ []) h = absurd (omega arith)
two_bytes (a ∷ b ∷ xs) h = omega arith

pub four_bytes : (xs : List ℕ) → 4 ≤ length xs → get_or xs 0 0 + get_or xs 1 0 * 256 + get_or xs 2 0 * 65536 + get_or xs 3 0 * 16777216 ≡ number (take 4 xs)
four_bytes [] h = absurd (omega arith)
four_bytes (a ∷ []) h = absurd (omega arith)
four_bytes (a ∷ b ∷ []) h = absurd (omega arith)
four_bytes (a ∷ b ∷ c ∷ []) h = absurd (omega arith)
four_bytes (a ∷ b ∷ c ∷ d ∷ xs) h = omega arith

pub one_byte_lem : (xs : List ℕ) → 1 ≤ length xs → get_or xs 0 0 ≡ number (take 1 xs)
one_byte_lem [] h = absurd (omega arith)
one_byte_lem (a ∷ xs) h = omega arith
