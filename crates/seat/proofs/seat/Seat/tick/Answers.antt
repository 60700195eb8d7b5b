use Rattle.std.proofs.Common.{length, Err, refl, le_trans, lt_of_le_of_lt, le-add_left, rules}
use prog.Align.{up-ge}
use Rattle.std.proofs.lemmas.Result.{err_from_is_err_and}
use Rattle.shelf.specs.Blocks.{held}
use Rattle.content.specs.declared.refusal.Refusal.TheVariants.{LastTick}
use Rattle.state.specs.Calls.{tick}
use Rattle.state.specs.Tick.{tick_step}
use Rattle.seat.proofs.Guards.{enough, unready}
use Rattle.seat.proofs.Outcomes.{carried, refused, tick_goes, tick-late, tick-stays}
use Rattle.seat.proofs.seat.Seat.tick.Goals as goal

pub returns-in_err-ready : goal.returns-in_err-ready
returns-in_err-ready g c =
    let s = c.args.self.now.state in
    let bs = held c.args.shelf.now in
    let out = c.args.outbox.now in
    let p = err_from_is_err_and c.from_residual.result c.from_residual.ensures.1 in
    record {
      call = refused g.C.Content.kind s bs out (tick c.args.self.now.terms s bs (length out)) c.in_err-ready.field-0.0 p.0 c.from_residual.result
          (unready s (length out) c.in_err-ready.field-0.0 _ c.in_err-ready.ensures) p.1 p.2;
      terms = refl;
    }

pub returns-then-self-ge-LAST_TICK : goal.returns-then-self-ge-LAST_TICK
returns-then-self-ge-LAST_TICK g c =
    let s = c.args.self.now.state in
    let bs = held c.args.shelf.now in
    let out = c.args.outbox.now in
    record {
      call = refused g.C.Content.kind s bs out (tick c.args.self.now.terms s bs (length out)) LastTick LastTick (Err LastTick)
          (tick-late c.args.self.now.terms s bs (length out) c.in_ok-ready.ensures c.if-self-ge-LAST_TICK.true) refl refl;
      terms = refl;
    }

pub invariant_of-call : goal.invariant_of-call
invariant_of-call g c = record { short = c.args.self.now.short; room = enough c.args.self.now.state (length c.args.outbox.now) c.in_ok-ready.ensures }

-- a seat has room for its state: the bound on the whole is one on the part
pub tick_step-answer-requires : goal.tick_step-answer-requires
tick_step-answer-requires g c =
    let whole = c.requires-raw.1.1.1.1 in
    (search rules, (lt_of_le_of_lt (le_trans (le-add_left _ _) (up-ge _ _)) whole, c.if-self-ge-LAST_TICK.false))

pub returns : goal.returns
returns g c =
    let s = c.args.self.now.state in
    let bs = held c.args.shelf.now in
    let out = c.args.outbox.now in
    let p = c.args.self.now.terms in
    let t = c.tick_step-answer in
    let d = c.dispatched in
    record {
      call = carried g.C.Content.kind s bs out (tick p s bs (length out)) (tick_step p s bs) t.result d.result
          t.new.state _ bs _
          (tick_goes p s bs (length out) c.in_ok-ready.ensures c.if-self-ge-LAST_TICK.false)
          d.ensures.answer d.ensures.state t.ensures.answer t.ensures.state (tick-stays bs p s) (search rules);
      terms = d.ensures.terms;
    }

pub dispatched-requires : goal.dispatched-requires
dispatched-requires g c = c.requires-raw.1.1.1.1
