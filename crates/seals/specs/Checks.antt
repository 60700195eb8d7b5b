-- What a seal check means.
use Rattle.std.specs.Prelude.{◌≡◌, ℕ, suc, ◌≤◌, Bool, true, false, ◌&&◌, T, List, [], ◌∷◌, length, ◌==◌, refl}
use Rattle.std.proofs.Common.{ap, lit≤}
use Rattle.std.specs.Str.{bytes_eq}

-- a seal is 1 to 64 bytes
pub record SealLength (S : ℕ) : Type 0 where
  pub low : 1 ≤ S
  pub high : S ≤ 64

-- only seals of S bytes are accepted
abbrev pub Sized : {C : Type 0} → ℕ → (C → ℕ → List ℕ → List ℕ → Bool) → Type 0
Sized {C} S accepts = (c : C) (seat : ℕ) (statement seal : List ℕ) → T (accepts c seat statement seal) → length seal ≡ S

-- eight bytes are a lawful length
abbrev pub eight : SealLength 8
eight = record { low = lit≤ tt; high = lit≤ tt }

-- a test of two parts is passed if both are
pub and_left : (a b : Bool) → T (a && b) → T a
and_left true b h = tt
and_left false b h = elim h [ ]

pub and_right : (a b : Bool) → T (a && b) → T b
and_right true b h = h
and_right false b h = elim h [ ]

-- equal bytes are equally many
pub same_length : (xs ys : List ℕ) → T (bytes_eq xs ys) → length ys ≡ length xs
same_length [] [] h = refl
same_length [] (y ∷ ys) h = elim h [ ]
same_length (x ∷ xs) [] h = elim h [ ]
same_length (x ∷ xs) (y ∷ ys) h = ap suc (same_length xs ys (and_right (x == y) (bytes_eq xs ys) h))
