use Rattle.std.proofs.Common.{◌≤◌, length, sym, ◌∙◌, subst}
use Rattle.world.proofs.Sizes.{part_fits}
use Rattle.state.specs.Calls.{tick}
use Rattle.world.proofs.Works.{lent, works}
use Rattle.world.proofs.desk.Desk.tick.Goals as goal

pub tick-outcome-requires : goal.tick-outcome-requires
tick-outcome-requires g c = part_fits _ _ _ _ c.requires-raw.1.1.1.1

pub returns : goal.returns
returns g c tidy =
    let k = g.C.Content.kind in
    let d = c.args.self.now in
    let out = c.args.outbox.now in
    works k d tidy out c.tick-outcome.new.outbox (length out) _ c.tick-outcome.result _ c.settle.new.self c.settle.result
    (lent k d tidy out c.tick-outcome.new.outbox c.as_mut_slice.result.now c.tick-outcome.new.cells d.filled c.tick-outcome.new.seat c.tick-outcome.result
    (λ bs cells. tick d.seat.terms d.seat.state bs (length out)) c.as_mut_slice.ensures.value c.tick-outcome.auto.cells c.tick-outcome.ensures.call
    (subst (λ xs. d.filled ≤ length xs) (sym (c.tick-outcome.ensures.cells ∙ c.as_mut_slice.ensures.value)) tidy.within) c.tick-outcome.ensures.terms) c.settle.ensures
