-- A shelf over cells of which the first so many are blocks.
use Rattle.std.proofs.Common.{◌≡◌, ℕ, zero, suc, ◌≤◌, Bool, true, false, cond, List, [], ◌∷◌, length, take, refl, ap, ◌∙◌, arith}
use denote.Ref.{MutBor}
use Rattle.std.proofs.lemmas.Bool.Decides.{nat_tests}
use Rattle.blocks.specs.declared.block.Block.{Block}
use Rattle.shelf.specs.Cells.{can_take, empty_over, with_filled}
use Rattle.shelf.specs.declared.Shelf.{Shelf}

module _ {X : Type 0} where
  -- what was taken, counted and taken again
  pub retake : (n : ℕ) (xs : List X) → take (length (take n xs)) xs ≡ take n xs
  retake zero xs = refl
  retake (suc n) [] = refl
  retake (suc n) (x ∷ xs) = ap (λ ys. x ∷ ys) (retake n xs)

-- a shelf over these cells, so many of them filled
abbrev pub shelf_over : {R : Type 0} → MutBor (List (Block R)) → ℕ → Shelf R
shelf_over cells filled = record { cells = cells; len = filled }

module _ {R : Type 0} (cells : MutBor (List (Block R))) where
  can_take_lem : (k : ℕ) → k ≤ length cells.now → can_take (empty_over cells) k ≡ true
  can_take_lem k h = grind (arith, nat_tests)

  takes : (k : ℕ) → k ≤ length cells.now → cond (can_take (empty_over cells) k) (with_filled (empty_over cells) k) (empty_over cells) ≡ shelf_over cells k
  takes k h = ap (λ b. cond b (with_filled (empty_over cells) k) (empty_over cells)) (can_take_lem k h)

  -- so many cells, where there are that many
  pub filled_so : (s : Shelf R) (k : ℕ) → s ≡ cond (can_take (empty_over cells) k) (with_filled (empty_over cells) k) (empty_over cells) → k ≤ length cells.now → s ≡ shelf_over cells k
  filled_so s k e h = e ∙ takes k h

  either : (k : ℕ) (b : Bool) → (cond b (with_filled (empty_over cells) k) (empty_over cells)).cells ≡ cells
  either k true = refl
  either k false = refl

  -- whether or not they are taken, it is a shelf over these cells
  pub filled_over : (s : Shelf R) (k : ℕ) → s ≡ cond (can_take (empty_over cells) k) (with_filled (empty_over cells) k) (empty_over cells) → s.cells ≡ cells
  filled_over s k e = ap (λ x. x.cells) e ∙ either k (can_take (empty_over cells) k)
