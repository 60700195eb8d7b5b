use Rattle.std.proofs.Common.{sym, ◌∙◌, arith}
use Rattle.blocks.proofs.Keeping.{mask_in, mask_out}
use Rattle.blocks.proofs.rows.SealRow.mask.Goals as goal
use Rattle.blocks.proofs.rows.SealRow.mask.Goals.{then-is_some, else-is_some}

pub loop-seat-preserved : goal.loop-seat-preserved
loop-seat-preserved g c =
    let slot = c.slot-item.result in
    elim c.if-is_some.branch [
      | then-is_some w ↦ mask_in _ _ slot c.loop-seat-test.true c.slot-item.is _ _ (omega arith) (sym c.is_some.ensures ∙ w.if-is_some.true) c.loop-seat.invariant w.mask-is
      | else-is_some w ↦ mask_out _ _ slot c.loop-seat-test.true c.slot-item.is _ _ (sym c.is_some.ensures ∙ w.if-is_some.false) c.loop-seat.invariant w.mask-is
    ]
