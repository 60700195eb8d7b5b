use Rattle.std.proofs.Common.{length, get_or, sym, refl, ap}
use Rattle.world.specs.Worlds.{call_of, event_at}
use Rattle.world.proofs.Performances.{called_nowhere, called-there}
use Rattle.world.proofs.performing.call_at.Goals as goal

pub returns-then-at-desks-clause-does : goal.returns-then-at-desks-clause-does
returns-then-at-desks-clause-does g c w h rules stands =
    called_nowhere g.C.Content.kind w h (event_at c.args.seat (call_of c.args.what (length c.args.outbox.now))) c.args.desks.now stands c.args.outbox.now c.if-at-desks.true

pub returns-clause-does : goal.returns-clause-does
returns-clause-does g c w h rules stands =
    let call = call_of c.args.what (length c.args.outbox.now) in
    called-there g.C.Content.kind w h (event_at c.args.seat call) c.args.desks.now stands c.args.outbox.now call c.perform.new.self c.perform.result c.perform.new.outbox refl
    c.if-at-desks.false (c.perform.ensures.does w c.args.seat h rules (stands c.args.seat (get_or c.args.desks.now c.args.seat c.index-desks-at.result) c.if-at-desks.false
    (ap (λ x. get_or c.args.desks.now c.args.seat x) (sym c.index-desks-at.is))))
