use Rattle.std.proofs.Common.{length}
use Rattle.world.proofs.Sizes.{part_fits}
use Rattle.state.specs.Calls.{hand_in}
use Rattle.world.proofs.Works.{lent, works}
use Rattle.world.proofs.desk.Desk.hand_in.Goals as goal

pub hand_in-outcome-requires : goal.hand_in-outcome-requires
hand_in-outcome-requires g c = part_fits _ _ _ _ c.requires-raw.1.1.1.1.1.1

pub settle-requires : goal.settle-requires
settle-requires g c = c.requires-raw.1.1.1.1.1.1

pub returns-clause-work : goal.returns-clause-work
returns-clause-work g c tidy =
    let k = g.C.Content.kind in
    let d = c.args.self.now in
    let out = c.args.outbox.now in
    works k d tidy out c.hand_in-outcome.new.outbox (length out) _ c.hand_in-outcome.result.0 _ c.settle.new.self c.settle.result
    (lent k d tidy out c.hand_in-outcome.new.outbox c.as_mut_slice.result.now c.hand_in-outcome.new.cells c.hand_in-outcome.result.1 c.hand_in-outcome.new.seat
    c.hand_in-outcome.result.0 (λ bs cells. hand_in k d.seat.terms (g.Q.Rota.leads c.args.rota.now) (g.K.SealCheck.accepts c.args.check.now) d.seat.state bs cells c.args.inbox.now (length out))
    c.as_mut_slice.ensures.value c.hand_in-outcome.auto.cells c.hand_in-outcome.ensures.call c.hand_in-outcome.ensures.filled c.hand_in-outcome.ensures.terms) c.settle.ensures
