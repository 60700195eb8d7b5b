use Rattle.std.proofs.Common.{◌+◌, Ok, ap}
use Rattle.shelf.specs.Blocks.{held}
use Rattle.state.specs.Parts.{with_now}
use Rattle.acting.proofs.Ticks.{ok_same, on-ticks}
use Rattle.acting.proofs.ticking.tick_step.Goals as goal

pub returns-in-On : goal.returns-in-On
returns-in-On g c =
    let o = c.on_tick.ensures in
    let h = on-ticks g.C.Content.kind c.args.call.now.terms.now c.args.state.now.phase (with_now (c.args.state.now.now + 1) c.args.state.now)
    c.on_tick.new.state (held c.args.shelf.now) c.on_tick.result c.args.call.now.outbox.now c.on_tick.new.call.outbox.now c.in-On.is
    (record { answer_is = ok_same o.answer; state_is = o.state; outbox_is = o.outbox }) in
    record { same = o.same; answer = ap (λ a. Ok a) h.answer_is; state = h.state_is; outbox = h.outbox_is }
