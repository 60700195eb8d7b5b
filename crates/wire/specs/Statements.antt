-- The byte in front of the body of a statement, by what is stated.
use Rattle.std.specs.Prelude.{ℕ}
use Rattle.wire.specs.declared.asking.Statement.{Statement}
use Rattle.wire.specs.declared.asking.Statement.TheVariants.{Proposal, Vote, Blame}

abbrev pub tag_of : Statement → ℕ
tag_of Proposal = 1
tag_of Vote = 2
tag_of Blame = 3
