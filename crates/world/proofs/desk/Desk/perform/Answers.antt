use Rattle.std.proofs.Common.{length, Ok, sym, subst}
use Rattle.world.specs.Performing.{Performed}
use Rattle.world.specs.Worlds.{call_of}
use Rattle.world.proofs.Performances.{hand_performed, offer_performed, sent_performed, tick_performed}
use Rattle.world.proofs.desk.Desk.perform.Goals as goal

pub returns-in-HandIn-clause-does : goal.returns-in-HandIn-clause-does
returns-in-HandIn-clause-does g c w i h rules at =
    let k = g.C.Content.kind in
    let out = c.args.outbox.now in
    subst (λ x. Performed k w i (call_of x (length out)) h out c.hand_in.result c.hand_in.new.self c.hand_in.new.outbox) (sym c.in-HandIn.is)
    (hand_performed k w i h c.args.self.now c.hand_in.new.self at out (g.Q.Rota.leads c.args.rota.now) (g.K.SealCheck.accepts c.args.check.now) rules.led rules.checked
    c.in-HandIn.inbox.now (length out) c.hand_in.new.outbox c.hand_in.result (c.hand_in.ensures.work at.tidy))

pub returns-in-Tick-clause-does : goal.returns-in-Tick-clause-does
returns-in-Tick-clause-does g c w i h rules at =
    let k = g.C.Content.kind in
    let out = c.args.outbox.now in
    subst (λ x. Performed k w i (call_of x (length out)) h out c.tick.result c.tick.new.self c.tick.new.outbox) (sym c.in-Tick.is)
    (tick_performed k w i h c.args.self.now c.tick.new.self at out (length out) c.tick.new.outbox c.tick.result (c.tick.ensures at.tidy))

pub returns-in-Offer-clause-does : goal.returns-in-Offer-clause-does
returns-in-Offer-clause-does g c w i h rules at =
    let k = g.C.Content.kind in
    let out = c.args.outbox.now in
    subst (λ x. Performed k w i (call_of x (length out)) h out c.offer.result c.offer.new.self c.offer.new.outbox) (sym c.in-Offer.is)
    (offer_performed k w i h c.args.self.now c.offer.new.self at out (g.Q.Rota.leads c.args.rota.now) (g.K.SealCheck.accepts c.args.check.now) rules.led rules.checked
    c.in-Offer.content.now (length out) c.offer.new.outbox c.offer.result (c.offer.ensures at.tidy))

pub returns-in-Sent-clause-does : goal.returns-in-Sent-clause-does
returns-in-Sent-clause-does g c w i h rules at =
    let k = g.C.Content.kind in
    let out = c.args.outbox.now in
    subst (λ x. Performed k w i (call_of x (length out)) h out (Ok c.of.result) c.sent.new.self out) (sym c.in-Sent.is)
    (sent_performed k w i h c.args.self.now c.sent.new.self at out c.of.result c.of.ensures (c.sent.ensures at.tidy))
