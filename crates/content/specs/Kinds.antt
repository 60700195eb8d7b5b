-- What a kind of content means.
use Rattle.std.specs.Prelude.{◌≡◌, ℕ, ◌<◌, ◌≤◌, Bool, true, false, cond, List, ◌++◌, length, drop, Some, Ok, Err, Option, Result, nat_lt, slice_index, refl}
use Rattle.std.proofs.Common.{arith}
use Rattle.std.specs.Option.{ok_or}
use Rattle.std.specs.Bool.{then_some}
use Rattle.content.specs.declared.refusal.Refusal.{Refusal}
use Rattle.content.specs.declared.refusal.Refusal.TheVariants.{Short, Trailing, NoContent, SmallOutbox}

-- every number of the list is a byte
abbrev pub Bytes : List ℕ → Type 0
Bytes xs = (i : ℕ) → slice_index xs i < 256

pub when_is : {X : Type 0} (b : Bool) (x y : X) → then_some b x ≡ Some y → (b ≡ true) × (x ≡ y)
when_is true x y e = (refl, cc)
when_is false x y e = absurd (let z : ◌≡◌ {A = ℕ} 0 1 = cc in omega arith)

pub joins : (xs ys us vs : List ℕ) → xs ≡ us → ys ≡ vs → xs ++ ys ≡ us ++ vs
joins xs ys us vs p q = cc

-- A kind of content with length L and records R: which lists of bytes are content, and as which record
-- they are kept (`reads`), the bytes of a record (`shown`), and the laws that every kind owes.
pub record Kind (L : ℕ) (R : Type 0) : Type 0 where
  pub reads : List ℕ → Option R
  pub shown : R → List ℕ
  -- a length is 1 to 64
  pub low : 1 ≤ L
  pub high : L ≤ 64
  -- only lists of L bytes are content
  pub sized : (xs : List ℕ) (r : R) → reads xs ≡ Some r → length xs ≡ L
  -- a record's bytes are those that it was read from
  pub back : (xs : List ℕ) (r : R) → Bytes xs → reads xs ≡ Some r → shown r ≡ xs

-- a record is lawful if it is the one that its own bytes are read as
abbrev pub Lawful : {L : ℕ} {R : Type 0} → Kind L R → R → Type 0
Lawful k r = k.reads (k.shown r) ≡ Some r

-- reading a slice of any length
abbrev pub read_content : {L : ℕ} {R : Type 0} → Kind L R → List ℕ → Result R Refusal
read_content {L} k xs =
    cond (nat_lt (length xs) L) (Err (Short 0)) (cond (nat_lt L (length xs)) (Err (Trailing L)) (ok_or (k.reads xs) (NoContent 0)))

-- goes on with an answer, or passes a refusal up as it is
abbrev pub next : {X Y : Type 0} → Result X Refusal → (X → Result Y Refusal) → Result Y Refusal
next (Ok x) f = f x
next (Err e) f = Err e

-- Writing n bytes, or a refusal of them, to the front of a memory. One that is too small is refused first.
abbrev pub write_answer : ℕ → Result (List ℕ) Refusal → List ℕ → Result ℕ Refusal
write_answer n ys mem = cond (nat_lt (length mem) n) (Err SmallOutbox) (next ys (λ _. Ok n))

-- bytes over the front of a memory
abbrev pub fronted : ℕ → Result (List ℕ) Refusal → List ℕ → List ℕ
fronted n (Ok ys) mem = ys ++ drop n mem
fronted n (Err e) mem = mem

-- what the memory holds then: the bytes and then what stood there, and all as it was where anything is refused
abbrev pub write_memory : ℕ → Result (List ℕ) Refusal → List ℕ → List ℕ
write_memory n ys mem = cond (nat_lt (length mem) n) mem (fronted n ys mem)

-- a value that is content, if a test says yes
abbrev pub ok_if : {X : Type 0} → Bool → X → Result X Refusal
ok_if b x = ok_or (then_some b x) (NoContent 0)
