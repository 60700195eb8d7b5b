use Rattle.std.proofs.Common.{Ok, sym, ap, ◌∙◌}
use Rattle.shelf.specs.Blocks.{held}
use Rattle.acting.proofs.Ticks.{leaving_shows, ok_same}
use Rattle.acting.proofs.ticking.leaving_tick.Goals as goal

pub returns : goal.returns
returns g c =
    let e = c.entered.ensures in
    let h = leaving_shows g.C.Content.kind c.args.call.now.terms.now c.args.since c.saturating_add-view.result c.turn_after.result
    c.top_turn.result c.args.state.now c.enter.new.self c.entered.new.state (held c.args.shelf.now) c.entered.result
    c.args.call.now.outbox.now c.entered.new.call.outbox.now (sym c.has_left.ensures ∙ c.if-not-has_left.false) c.saturating_add-view.ensures c.top_turn.ensures c.turn_after.ensures c.enter.ensures
    (record { answer_is = ok_same e.answer; state_is = e.state; outbox_is = e.outbox }) in
    record { same = e.same; answer = ap (λ a. Ok a) h.answer_is; state = h.state_is; outbox = h.outbox_is }
