use Rattle.std.proofs.Common.{[], rules}
use Rattle.std.proofs.lemmas.Result.{err_from_is_err_and}
use Rattle.state.proofs.Going.{unmoved}
use Rattle.acting.proofs.Offers.{offer-unread, offer_barred, offer-made, offer-places}
use Rattle.acting.proofs.Ticks.{ok_same}
use Rattle.acting.proofs.offering.offer_step.Goals as goal

pub returns-in_err-record : goal.returns-in_err-record
returns-in_err-record g c =
    let p = err_from_is_err_and c.from_residual.result c.from_residual.ensures.1 in
    let h = offer-unread g.C.Content.kind c.args.call.now.terms.now (g.Q.Rota.leads c.args.rota.now) c.args.state.now [] c.args.content.now
    c.in_err-record.field-0.0 p.0 c.from_residual.result c.args.call.now.outbox.now c.in_err-record.ensures p.1 p.2 in
    record { same = unmoved; answer = h.answer_is; state = h.state_is; outbox = h.outbox_is }

pub returns-in_err-may_offer : goal.returns-in_err-may_offer
returns-in_err-may_offer g c =
    let p = err_from_is_err_and c.from_residual-in_err-may_offer.result c.from_residual-in_err-may_offer.ensures.1 in
    let h = offer_barred g.C.Content.kind c.args.call.now.terms.now (g.Q.Rota.leads c.args.rota.now) c.args.state.now [] c.args.content.now
    c.in_ok-record.record c.in_err-may_offer.field-0.0 p.0 c.from_residual-in_err-may_offer.result c.args.call.now.outbox.now
    c.in_ok-record.ensures c.in_err-may_offer.ensures p.1 p.2 in
    record { same = unmoved; answer = h.answer_is; state = h.state_is; outbox = h.outbox_is }

pub propose-requires : goal.propose-requires
propose-requires g c =
    let h = offer-places c.args.call.now.terms.now (g.Q.Rota.leads c.args.rota.now) c.args.state.now c.in_ok-may_offer.ensures in
    (search rules, (search rules, (h.0, h.1)))

pub returns : goal.returns
returns g c =
    let p = c.propose.ensures in
    let h = offer-made g.C.Content.kind c.args.call.now.terms.now (g.Q.Rota.leads c.args.rota.now) c.args.state.now [] c.args.content.now
    c.in_ok-record.record c.propose.result c.propose.new.state c.args.call.now.outbox.now c.propose.new.call.outbox.now
    c.in_ok-record.ensures c.in_ok-may_offer.ensures
    (record { answer_is = ok_same p.answer; state_is = p.state; outbox_is = p.outbox }) in
    record { same = p.same; answer = h.answer_is; state = h.state_is; outbox = h.outbox_is }
