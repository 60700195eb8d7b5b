use Rattle.std.proofs.Common.{◌-◌, sym, ◌∙◌, arith}
use Rattle.std.proofs.lemmas.Result.{err_from_is_err_and}
use Rattle.shelf.proofs.Scans.{climb-on, climb-fails, climb-none}
use Rattle.shelf.proofs.search.ancestor_of.Goals as goal

pub loop-preserved : goal.loop-preserved
loop-preserved g c =
    climb-on c.args.steps c.loop.counter c.args.blocks.now c.loop.at.now c.in_ok-at.at.now c.loop-test.true c.in_ok-at.ensures
    ∙ c.loop.invariant

pub returns-in_err-at : goal.returns-in_err-at
returns-in_err-at g c =
    let p = err_from_is_err_and c.from_residual.result c.from_residual.ensures.1 in
    let e = climb-fails c.args.steps c.loop.counter c.args.blocks.now c.loop.at.now c.in_err-at.field-0.0 c.loop-test.true c.in_err-at.ensures in
    rw (p.1, p.2) (sym e ∙ c.loop.invariant)

pub returns : goal.returns
returns g c =
    sym (climb-none (c.args.steps - c.loop.counter) c.args.blocks.now c.loop.at.now (omega arith)) ∙ c.loop.invariant
