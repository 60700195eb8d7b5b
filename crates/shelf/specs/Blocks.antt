-- A shelf as its list of blocks, in the order in which they were stored.
use Rattle.std.specs.Prelude.{ℕ, zero, suc, ◌+◌, ◌-◌, max, cond, List, [], ◌∷◌, length, take, Some, None, Ok, Err, Option, Result, ◌==◌, nat_lt}
use Rattle.content.specs.declared.refusal.Refusal.{Refusal}
use Rattle.content.specs.declared.refusal.Refusal.TheVariants.{BrokenShelf}
use Rattle.blocks.specs.Ranks.{Place, same_rank}
use Rattle.blocks.specs.declared.block.Block.{Block}
use Rattle.blocks.specs.declared.block.Rank.{Rank}
use Rattle.shelf.specs.declared.Shelf.{Shelf}

-- the greater of a turn and the one so far, if any
abbrev pub higher : ℕ → Option ℕ → Option ℕ
higher t None = Some t
higher t (Some u) = Some (max t u)

module _ {R : Type 0} where
  -- the blocks that a shelf holds, and how many it has room for
  abbrev pub held : Shelf R → List (Block R)
  held s = take s.len s.cells.now

  abbrev pub size : Shelf R → ℕ
  size s = length s.cells.now

  -- the first block of a rank stands for the rank
  unfoldable pub find : Rank → List (Block R) → Option (Block R)
  find r [] = None
  find r (b ∷ bs) = cond (same_rank b.rank r) (Some b) (find r bs)

  -- the highest turn among the blocks of a view
  unfoldable pub top_turn : ℕ → List (Block R) → Option ℕ
  top_turn v [] = None
  top_turn v (b ∷ bs) = cond (b.rank.view == v) (higher b.rank.turn (top_turn v bs)) (top_turn v bs)

  -- the block that stands for a rank, if it is exactly one height lower than h; else the shelf is broken
  abbrev pub one_lower : ℕ → Option (Block R) → Result (Block R) Refusal
  one_lower h None = Err BrokenShelf
  one_lower h (Some p) = cond (p.height + 1 == h) (Ok p) (Err BrokenShelf)

  -- from a block to its parent, so many times
  unfoldable pub climb : (steps : ℕ) → List (Block R) → Block R → Result (Block R) Refusal
  climb zero bs b = Ok b
  climb (suc steps) bs b =
      elim (one_lower b.height (find b.parent bs)) [ Ok p ↦ climb steps bs p | Err e ↦ Err e ]

  -- a block found is an answer; a refusal stays one
  abbrev pub answered : Result (Block R) Refusal → Result (Option (Block R)) Refusal
  answered (Ok b) = Ok (Some b)
  answered (Err e) = Err e

  -- the block of a height that is this block or below it
  abbrev pub below_block : List (Block R) → ℕ → Option (Block R) → Result (Option (Block R)) Refusal
  below_block bs h None = Ok None
  below_block bs h (Some b) =
      cond (h == 0) (Ok None)
      (cond (nat_lt b.height h) (Ok None) (answered (climb (b.height - h) bs b)))

  -- reading a height below a place
  abbrev pub read_below : List (Block R) → Place → ℕ → Result (Option (Block R)) Refusal
  read_below bs None h = Ok None
  read_below bs (Some r) h = below_block bs h (find r bs)
