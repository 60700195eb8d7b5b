use Rattle.std.proofs.Common.{◌≡◌, ◌-◌}
use Rattle.shelf.specs.Blocks.{climb}
use Rattle.shelf.proofs.search.ancestor_of.Given as goal

-- what is left to climb leads where the whole climb does
abbrev pub invariant-loop : goal.invariant-loop
invariant-loop g l = climb (l.steps - l.counter) l.blocks l.at ≡ climb l.steps l.blocks l.block
