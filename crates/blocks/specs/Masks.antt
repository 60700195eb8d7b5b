-- Sets of seats as bits, and seals in a row by rising seat.
use Rattle.std.specs.Prelude.{ℕ, zero, suc, ◌+◌, ◌-◌, ◌*◌, ◌/◌, ◌%◌, ◌^◌, Bool, cond, ◌&&◌, List, [], ◌∷◌, ◌++◌, Some, None, Option, ◌==◌, nat_lt, take, drop}

-- how many seats may go wrong among n
abbrev pub faults : ℕ → ℕ
faults n = (n - 1) / 2

-- how many seats make a quorum among n
abbrev pub quorum : ℕ → ℕ
quorum n = faults n + 1

-- whether seat i is in the set
abbrev pub bit : ℕ → ℕ → Bool
bit mask i = mask / 2 ^ i % 2 == 1

-- how many of the seats from i on, k of them, are in the set
unfoldable pub ones : ℕ → ℕ → ℕ → ℕ
ones mask i zero = 0
ones mask i (suc k) = cond (bit mask i) 1 0 + ones mask (suc i) k

-- exactly a quorum of seats, all below n
abbrev pub lawful_mask : ℕ → ℕ → Bool
lawful_mask n mask = nat_lt mask (2 ^ n) && ones mask 0 n == quorum n

-- Seals by seat: for each seat its seal, if it is there.
abbrev pub Kept : Type 0
Kept = List (Option (List ℕ))

-- how many seals are there
abbrev pub count_kept : Kept → ℕ
count_kept [] = 0
count_kept (None ∷ kept) = count_kept kept
count_kept (Some seal ∷ kept) = suc (count_kept kept)

-- the set of their seats
abbrev pub mask_kept : Kept → ℕ
mask_kept [] = 0
mask_kept (None ∷ kept) = 2 * mask_kept kept
mask_kept (Some seal ∷ kept) = 1 + 2 * mask_kept kept

-- the seals in a row, by rising seat
abbrev pub row_kept : Kept → List ℕ
row_kept [] = []
row_kept (None ∷ kept) = row_kept kept
row_kept (Some seal ∷ kept) = seal ++ row_kept kept

-- a row of seals of length S for the seats in a set, from seat i on, k of them, put by seat
unfoldable pub keep_from : (S mask i k : ℕ) → List ℕ → Kept
keep_from S mask i zero row = []
keep_from S mask i (suc k) row =
    cond (bit mask i) (Some (take S row) ∷ keep_from S mask (suc i) k (drop S row)) (None ∷ keep_from S mask (suc i) k row)
