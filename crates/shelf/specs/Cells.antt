-- What the calls that fill a shelf leave, and what they answer.
use Rattle.std.specs.Prelude.{◌≡◌, ℕ, ◌+◌, Bool, ◌&&◌, List, length, Some, None, Ok, Err, Option, Result, ◌==◌, nat_le, nat_lt, slice_set}
use denote.Bor.{Bor}
use denote.Ref.{MutBor, at_last}
use Rattle.blocks.specs.declared.block.Block.{Block}
use Rattle.shelf.specs.declared.Shelf.{Shelf}
use Rattle.shelf.specs.Blocks.{held, size}

module _ {R : Type 0} where
  -- over these cells, none of them filled
  abbrev pub empty_over : MutBor (List (Block R)) → Shelf R
  empty_over cells = record { cells = cells; len = 0 }

  -- whether a cell is free
  abbrev pub has_room : Shelf R → Bool
  has_room s = nat_lt (length (held s)) (size s)

  -- one more block, in the next cell; every other cell is as it was
  abbrev pub with_block : Shelf R → Block R → Shelf R
  with_block s b = record { cells = at_last s.cells (slice_set s.cells.now s.len b); len = s.len + 1 }

  -- a shelf over the same cells: as many, and the same place
  abbrev pub SameCells : Shelf R → Shelf R → Type 0
  SameCells t s = (size t ≡ size s) × (t.cells.ghost_name ≡ s.cells.ghost_name)

  -- whether the first k cells may be taken as filled: the shelf is empty and has that many
  abbrev pub can_take : Shelf R → ℕ → Bool
  can_take s k = length (held s) == 0 && nat_le k (size s)

  -- the first k cells as the blocks; every cell is as it was
  abbrev pub with_filled : Shelf R → ℕ → Shelf R
  with_filled s k = record { cells = s.cells; len = k }

-- what stands behind a reference that was answered
abbrev pub behind : {A E : Type 0} → Result (Bor A) E → Result A E
behind (Ok r) = Ok r.now
behind (Err e) = Err e

abbrev pub behind_some : {A E : Type 0} → Result (Option (Bor A)) E → Result (Option A) E
behind_some (Ok None) = Ok None
behind_some (Ok (Some r)) = Ok (Some r.now)
behind_some (Err e) = Err e
