-- The order of ranks, the ranks that a block names, and equal blocks.
use Rattle.std.specs.Prelude.{ℕ, Bool, true, false, cond, not, ◌&&◌, ◌||◌, Some, None, Option, ◌==◌, nat_lt}
use Rattle.std.specs.Str.{bytes_eq}
use Rattle.content.specs.Kinds.{Kind}
use Rattle.blocks.specs.declared.block.Rank.{Rank}
use Rattle.blocks.specs.declared.block.Block.{Block}

abbrev pub same_rank : Rank → Rank → Bool
same_rank a b = a.view == b.view && a.turn == b.turn

-- by view, then by turn
abbrev pub below : Rank → Rank → Bool
below a b = nat_lt a.view b.view || (a.view == b.view && nat_lt a.turn b.turn)

-- a place is a rank, or the root, which lies below every rank
abbrev pub Place : Type 0
Place = Option Rank

abbrev pub at_least : Place → Place → Bool
at_least None None = true
at_least None (Some b) = false
at_least (Some a) None = true
at_least (Some a) (Some b) = not (below a b)

-- where a block's parent is: a block of height 1 stands on the root
abbrev pub parent_of : {R : Type 0} → Block R → Place
parent_of b = cond (b.height == 1) None (Some b.parent)

-- equal blocks: their numbers, and the bytes of their contents
abbrev pub same_block : {L : ℕ} {R : Type 0} → Kind L R → Block R → Block R → Bool
same_block k a b =
    same_rank a.rank b.rank && (a.height == b.height &&
    (same_rank a.parent b.parent && bytes_eq (k.shown a.content) (k.shown b.content)))
