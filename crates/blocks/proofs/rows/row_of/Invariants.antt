use Rattle.std.proofs.Common.{◌≡◌, ℕ, List, length, take}
use Rattle.std.specs.Iterator.{AlwaysYields}
use Rattle.blocks.specs.Keeping.{padded}
use Rattle.blocks.proofs.rows.row_of.Given as goal

abbrev pub invariant-loop-at : goal.invariant-loop-at
invariant-loop-at g l =
    (xs : List ℕ) → AlwaysYields g.I.Iterator.next_gives {B = ℕ} (λ b. b.now) l.fn.bytes xs → l.row ≡ padded 512 (take (length l.yielded) (take 512 xs))
