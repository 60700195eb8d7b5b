-- Seals by seat, one seat on, and rows in memory of a fixed size, one byte on.
use Rattle.std.proofs.Common.{◌≡◌, ℕ, zero, suc, ◌+◌, ◌*◌, ◌%◌, ◌^◌, ◌<◌, ◌≤◌, Bool, true, false, cond, List, [], ◌∷◌, ◌++◌, length, get_or, take, set, replicate, bit_or, is_some, Some, None, Option, sym, refl, ap, ◌∙◌, one-mul, pow-suc, zero-add, zero-mul, add-one, arith, le_refl, length-append, length-take-le}
use denote.Ref.{Bor}
use lib.Pow.{pow-lt}
use lib.Bits.{or_shifted_r}
use Rattle.std.specs.Prelude.{if◌then◌else◌}
use Rattle.std.specs.List.{enumerate_from, flat_map}
use Rattle.std.proofs.lemmas.List.FromFn.{length-enumerate_from, get_or-enumerate_from}
use Rattle.std.specs.Option.{option_len, option_to_list}
use Rattle.std.specs.Iterator.Adapters.{option_iter_item, option_iter_done, option_iter_steps, OptionIterYieldsItsItem}
use Rattle.std.specs.Bool.{MatchBool}
use Rattle.std.proofs.lemmas.Iterator.{YieldsList}
use Rattle.std.proofs.lemmas.Iterator.Consumers.{YieldsList-from_shown}
use Rattle.std.proofs.lemmas.Option.{none-some}
use Rattle.std.proofs.lemmas.List.{take_more}
use Rattle.blocks.specs.Keeping.{padded}
use Rattle.blocks.specs.Masks.{Kept, count_kept, mask_kept, row_kept}

-- how many of one
abbrev pub one : Option (List ℕ) → ℕ
one None = 0
one (Some seal) = 1

-- how many are there so far, one seat on
count_push : (kept : Kept) (slot : Option (List ℕ)) → count_kept (kept ++ slot ∷ []) ≡ count_kept kept + one slot
count_push [] None = refl
count_push [] (Some seal) = refl
count_push (None ∷ kept) slot = count_push kept slot
count_push (Some seal ∷ kept) slot = let h : count_kept (kept ++ slot ∷ []) ≡ count_kept kept + one slot = count_push kept slot in omega arith

-- the set of the seats so far, one seat on
mask_push : (kept : Kept) (slot : Option (List ℕ)) → mask_kept (kept ++ slot ∷ []) ≡ mask_kept kept + option_len slot * 2 ^ length kept
mask_push [] None = refl
mask_push [] (Some seal) = refl
mask_push (None ∷ kept) slot =
    let h : mask_kept (kept ++ slot ∷ []) ≡ mask_kept kept + option_len slot * 2 ^ length kept = mask_push kept slot in
    let p : 2 ^ suc (length kept) ≡ 2 ^ length kept * 2 = pow-suc 2 (length kept) in
    rw (h, p) (omega arith)
mask_push (Some seal ∷ kept) slot =
    let h : mask_kept (kept ++ slot ∷ []) ≡ mask_kept kept + option_len slot * 2 ^ length kept = mask_push kept slot in
    let p : 2 ^ suc (length kept) ≡ 2 ^ length kept * 2 = pow-suc 2 (length kept) in
    rw (h, p) (omega arith)

some-len : (slot : Option (List ℕ)) → is_some slot ≡ true → option_len slot ≡ 1
some-len None h = absurd (cc)
some-len (Some seal) h = refl

none_len : (slot : Option (List ℕ)) → is_some slot ≡ false → option_len slot ≡ 0
none_len None h = refl
none_len (Some seal) h = absurd (cc)

pub one-some : (slot : Option (List ℕ)) (b : Bool) → b ≡ is_some slot → b ≡ true → one slot ≡ 1
one-some None b e h = absurd (let z : ◌≡◌ {A = ℕ} 0 1 = cc in omega arith)
one-some (Some seal) b e h = refl

pub one_none : (slot : Option (List ℕ)) (b : Bool) → b ≡ is_some slot → b ≡ false → one slot ≡ 0
one_none None b e h = refl
one_none (Some seal) b e h = absurd (let z : ◌≡◌ {A = ℕ} 0 1 = cc in omega arith)

module _ (kept : Kept) (i : ℕ) (slot : Option (List ℕ)) (l : i < length kept) (e : slot ≡ get_or kept i slot) where
  pub count_more : count_kept (take (i + 1) kept) ≡ count_kept (take i kept) + one slot
  count_more = ap count_kept (take_more kept i slot l ∙ ap (λ s. take i kept ++ s ∷ []) (sym e)) ∙ count_push (take i kept) slot

  mask_more : mask_kept (take (i + 1) kept) ≡ mask_kept (take i kept) + option_len slot * 2 ^ i
  mask_more =
      ap mask_kept (take_more kept i slot l ∙ ap (λ s. take i kept ++ s ∷ []) (sym e)) ∙ mask_push (take i kept) slot
      ∙ ap (λ n. mask_kept (take i kept) + option_len slot * 2 ^ n) (length-take-le i kept (omega arith))

  pub mask_in : (mask mask' : ℕ) → i < 16 → is_some slot ≡ true → (mask ≡ mask_kept (take i kept)) × (mask < 2 ^ i) → mask' ≡ bit_or mask (1 * 2 ^ i % 65536)
      → (mask' ≡ mask_kept (take (i + 1) kept)) × (mask' < 2 ^ (i + 1))
  mask_in mask mask' w t m f =
      let p : 2 ^ i < 65536 = pow-lt {j = 16} w in
      let q : 2 ^ (i + 1) ≡ 2 ^ i * 2 = ap (λ j. 2 ^ j) (add-one i) ∙ pow-suc 2 i in
      let r : option_len slot * 2 ^ i ≡ 2 ^ i = ap (λ j. j * 2 ^ i) (some-len slot t) ∙ one-mul (2 ^ i) in
      let s : 1 * 2 ^ i % 65536 ≡ 1 * 2 ^ i = omega arith in
      let o : mask' ≡ 1 * 2 ^ i + mask = f ∙ ap (bit_or mask) s ∙ or_shifted_r 1 i mask m.1 in
      let a = mask_more in
      (omega (arith, m.0, a), omega (arith, m.1))

  pub mask_out : (mask mask' : ℕ) → is_some slot ≡ false → (mask ≡ mask_kept (take i kept)) × (mask < 2 ^ i) → mask' ≡ mask
      → (mask' ≡ mask_kept (take (i + 1) kept)) × (mask' < 2 ^ (i + 1))
  mask_out mask mask' t m f =
      let q : 2 ^ (i + 1) ≡ 2 ^ i * 2 = ap (λ j. 2 ^ j) (add-one i) ∙ pow-suc 2 i in
      let r : option_len slot * 2 ^ i ≡ 0 = ap (λ j. j * 2 ^ i) (none_len slot t) ∙ zero-mul (2 ^ i) in
      let a = mask_more in
      (omega (arith, m.0, a), omega (arith, m.1))

-- what is there of an option, as a list
none-there : {A : Type 0} (d : Bool) (o : Option A) → MatchBool d (◌≡◌ {A = Option (Bor A)} None None) (None ≡ o) → length (cond d [] (option_to_list o)) ≡ 0
none-there true o m = refl
none-there false o m = ap (λ p. length (option_to_list p)) (sym m)

one_there : {A : Type 0} (d e : Bool) (o p : Option A) (x : Bor A) → e ≡ true → MatchBool d (Some x ≡ None) (Some x.now ≡ o) → cond d [] (option_to_list o) ≡ x.now ∷ cond e [] (option_to_list p)
one_there true e o p x h m = absurd (none-some x (sym m))
one_there false e o p x h m = rw (h, ← m) refl

pub opened : {A : Type 0} (x : Bor (Option A)) (j : _) → (option_iter_item j ≡ x.now) × (option_iter_done j ≡ false) × ((if option_iter_done j then 0 else option_len (option_iter_item {T = A} j)) ≤ 1) × OptionIterYieldsItsItem A
    → YieldsList option_iter_steps (λ y. y.now) j (option_to_list x.now)
opened {A = A} x j b =
    let e : cond (option_iter_done j) [] (option_to_list (option_iter_item j)) ≡ option_to_list x.now = rw (b.1, b.0) refl in
    rw (← e) (YieldsList-from_shown option_iter_steps (λ y. y.now) (λ s. cond (option_iter_done s) [] (option_to_list (option_iter_item s)))
    (λ s t m. none-there (option_iter_done s) (option_iter_item s) m.1)
    (λ s y t m. one_there (option_iter_done s) (option_iter_done t) (option_iter_item s) (option_iter_item t) y m.0 m.1) j)

-- the seals of a row, one after another
pub count_opened : (kept : Kept) → length (flat_map option_to_list kept) ≡ count_kept kept
count_opened [] = refl
count_opened (None ∷ kept) = count_opened kept
count_opened (Some seal ∷ kept) = ap suc (count_opened kept)

pub count_most : (kept : Kept) → count_kept kept ≤ length kept
count_most [] = le_refl 0
count_most (None ∷ kept) = let h : count_kept kept ≤ length kept = count_most kept in omega arith
count_most (Some seal ∷ kept) = let h : count_kept kept ≤ length kept = count_most kept in omega arith

pub row_opened : (kept : Kept) → flat_map (λ seal. seal) (flat_map option_to_list kept) ≡ row_kept kept
row_opened [] = refl
row_opened (None ∷ kept) = row_opened kept
row_opened (Some seal ∷ kept) = ap (λ r. seal ++ r) (row_opened kept)

-- memory that a byte is put into
pub set-padded : (room : ℕ) (xs : List ℕ) (b : ℕ) → set (padded room xs) (length xs) b ≡ padded room (xs ++ b ∷ [])
unfolding padded
set-padded zero xs b = refl
set-padded (suc room) [] b = refl
set-padded (suc room) (x ∷ xs) b = ap (λ r. x ∷ r) (set-padded room xs b)

pub padded-none : (room : ℕ) → replicate room 0 ≡ padded room []
unfolding padded
padded-none zero = refl
padded-none (suc room) = ap (λ r. 0 ∷ r) (padded-none room)

pub padded-cut : (room : ℕ) (xs : List ℕ) → padded room (take room xs) ≡ padded room xs
unfolding padded
padded-cut zero xs = refl
padded-cut (suc room) [] = refl
padded-cut (suc room) (x ∷ xs) = ap (λ r. x ∷ r) (padded-cut room xs)

-- bytes put into memory one by one, each at its own place
pub byte_poured : {T : Type 0} (bytes row : List ℕ) (at b : ℕ) (before : List T) (next : T) → length before < length (enumerate_from 0 bytes)
    → ◌≡◌ {A = ℕ × ℕ} (at, b) (get_or (enumerate_from 0 bytes) (length before) (at, b)) → row ≡ padded 512 (take (length before) bytes)
    → set row at b ≡ padded 512 (take (length (before ++ next ∷ [])) bytes)
byte_poured bytes row at b before next h e r =
    let i = length before in
    let l : i < length bytes = rw length-enumerate_from at h in
    let g : ◌≡◌ {A = ℕ × ℕ} (at, b) (0 + i, get_or bytes i b) = e ∙ get_or-enumerate_from 0 bytes i (at, b) l in
    let n : length (take i bytes) ≡ i = length-take-le i bytes (omega arith) in
    let a : at ≡ length (take i bytes) = ap (λ p. p.0) g ∙ zero-add i ∙ sym n in
    let m : take (length (before ++ next ∷ [])) bytes ≡ take i bytes ++ b ∷ [] =
    ap (λ k. take k bytes) (length-append before (next ∷ [])) ∙ take_more bytes i b l ∙ ap (λ c. take i bytes ++ c ∷ []) (sym (ap (λ p. p.1) g)) in
    rw (m, r, a) (set-padded 512 (take i bytes) b)
