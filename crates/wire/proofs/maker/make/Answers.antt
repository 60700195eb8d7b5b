use Rattle.wire.specs.Meaning.{plain}
use Rattle.wire.proofs.OneForm.{one_form_forth}
use Rattle.wire.proofs.maker.make.Goals as goal

pub returns-clause-returns : goal.returns-clause-returns
returns-clause-returns g c =
    rw c.of.ensures (one_form_forth g.C.Content.kind g.row.S c.args.seats.n (plain c.args.parts) c.in_ok-judge_parts.ensures.lawful)
