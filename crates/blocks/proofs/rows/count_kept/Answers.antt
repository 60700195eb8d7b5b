use Rattle.std.proofs.Common.{◌≡◌, ap, ◌∙◌, arith}
use Rattle.std.proofs.lemmas.List.{take_all}
use Rattle.blocks.specs.Masks.{count_kept}
use Rattle.blocks.proofs.Keeping.{one, one-some, one_none, count_more}
use Rattle.blocks.proofs.rows.count_kept.Goals as goal
use Rattle.blocks.proofs.rows.count_kept.Goals.{then-is_some, else-is_some}

pub loop-i-preserved : goal.loop-i-preserved
loop-i-preserved g c =
    let slot = c.index-slots-i.result in
    let more = count_more c.args.slots.now c.loop-i.i slot c.loop-i-test.true c.index-slots-i.is in
    elim c.if-is_some.branch [
      | then-is_some w ↦ let s : one slot ≡ 1 = one-some slot c.is_some.result c.is_some.ensures w.if-is_some.true in
          (omega (arith, more, s, w.count-is, c.loop-i.invariant.0), omega (arith, w.count-is, c.loop-i.invariant.1))
      | else-is_some w ↦ let s : one slot ≡ 0 = one_none slot c.is_some.result c.is_some.ensures w.if-is_some.false in
          (omega (arith, more, s, w.count-is, c.loop-i.invariant.0), omega (arith, w.count-is, c.loop-i.invariant.1))
    ]

pub returns : goal.returns
returns g c = c.loop-i.invariant.0 ∙ ap count_kept (take_all c.loop-i.i c.args.slots.now c.loop-i-test.false)
