use Rattle.std.proofs.Common.{sym, ◌∙◌, arith}
use Rattle.std.proofs.lemmas.Result.{err_from_is_err_and}
use Rattle.wire.proofs.SealRows.{seals_short, seals_more, seals_none, seals_length, row-taken, row_short}
use Rattle.wire.proofs.cursor.Cursor.seals.Goals as goal

pub returns-in_err-take-clause-value : goal.returns-in_err-take-clause-value
returns-in_err-take-clause-value g c =
    let p = err_from_is_err_and c.from_residual.result c.from_residual.ensures.1 in
    rw (p.1, p.2)
    (row_short _ _ _ _ _ (seals_short _ _ c.loop-i._i _ _ _ (omega arith) c.in_err-take.ensures.value ∙ c.loop-i.invariant.0))

pub loop-i-preserved : goal.loop-i-preserved
loop-i-preserved g c = (
  rw c.in_ok-take.ensures.moved.offset
      (sym (seals_more _ _ c.loop-i._i _ _ _ _ (omega arith) c.in_ok-take.ensures.value) ∙ c.loop-i.invariant.0),
  omega (arith, c.in_ok-take.ensures.moved.offset, c.in_ok-take.ensures.moved.left),
)

pub overflow_sub-bytes : goal.overflow_sub-bytes
overflow_sub-bytes g c =
    omega (arith, seals_length g.row.S c.args.count c.args.self.now.at _ _ (sym (seals_none _ _ c.loop-i._i _ _ (omega arith)) ∙ c.loop-i.invariant.0))

pub returns-clause-value : goal.returns-clause-value
returns-clause-value g c =
    let fits = sym (seals_none _ _ c.loop-i._i _ _ (omega arith)) ∙ c.loop-i.invariant.0 in
    rw c.split_at.ensures.front (row-taken g.row.S c.args.count c.args.self.now.at _ _ fits)
