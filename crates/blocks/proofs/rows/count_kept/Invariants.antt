use Rattle.std.proofs.Common.{◌≡◌, ◌≤◌, take}
use Rattle.blocks.specs.Masks.{count_kept}
use Rattle.blocks.proofs.rows.count_kept.Given as goal

abbrev pub invariant-loop-i : goal.invariant-loop-i
invariant-loop-i g l = (l.count ≡ count_kept (take l.i l.slots)) × (l.count ≤ l.i)
