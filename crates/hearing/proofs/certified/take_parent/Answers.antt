use Rattle.std.proofs.Common.{◌+◌, ◌≤◌, IfOk, sym, subst}
use Rattle.wire.specs.Meaning.{plain_parent}
use Rattle.wire.specs.Writing.{parent_size}
use Rattle.state.specs.Sends.{end_of}
use Rattle.hearing.proofs.certified.take_parent.Goals as goal

pub returns-in-Some-clause-end : goal.returns-in-Some-clause-end
returns-in-Some-clause-end g c =
    subst (λ o. IfOk c.take_written.result (λ a. end_of a.certificate ≤ 1 + parent_size g.row.L (plain_parent o))) (sym c.in-Some.is) c.take_written.ensures.end
