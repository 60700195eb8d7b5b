-- What the counter of a shelf says of its list.
use Rattle.std.proofs.Common.{◌≡◌, ℕ, ◌<◌, ◌≤◌, min, true, false, ltb, [], ◌∷◌, ◌++◌, ◌∙◌, arith}
use Rattle.std.proofs.lemmas.List.{length-take, length-set, take_more_set}
use Rattle.std.proofs.lemmas.Bool.{lt-ltb, le-ltb}
use Rattle.std.proofs.lemmas.Bool.Decides.{nat_tests}
use Rattle.blocks.specs.declared.block.Block.{Block}
use Rattle.shelf.specs.declared.Shelf.{Shelf}
use Rattle.shelf.specs.Blocks.{held, size}
use Rattle.shelf.specs.Cells.{has_room, with_block}

capped : (n m : ℕ) → ltb (min n m) m ≡ ltb n m
capped n m = grind (arith, nat_tests)

module _ {R : Type 0} where
  -- a cell is free exactly where the counter is below the number of cells
  pub room-by_len : (s : Shelf R) → has_room s ≡ ltb s.len (size s)
  room-by_len s = rw length-take (capped s.len (size s))

  pub full-by_len : (s : Shelf R) (n : ℕ) → n ≡ size s → n ≤ s.len → has_room s ≡ false
  full-by_len s n e h = let l : size s ≤ s.len = omega arith in room-by_len s ∙ le-ltb s.len (size s) l

  pub free_by_len : (s : Shelf R) → s.len < size s → has_room s ≡ true
  free_by_len s h = room-by_len s ∙ lt-ltb s.len (size s) h

  pub held_more : (s : Shelf R) (b : Block R) → s.len < size s → held (with_block s b) ≡ held s ++ b ∷ []
  held_more s b h = take_more_set s.cells.now s.len b h

  pub size_same : (s : Shelf R) (b : Block R) → size (with_block s b) ≡ size s
  size_same s b = length-set s.cells.now s.len b
