use Rattle.std.proofs.Common.{[], length, Ok, refl, le_trans, lt_of_le_of_lt, le-add_left, rules}
use prog.Align.{up-ge}
use Rattle.std.proofs.lemmas.Result.{err_from_is_err_and}
use Rattle.state.specs.Offer.{offer_step}
use Rattle.seat.proofs.Guards.{enough, unready}
use Rattle.seat.proofs.Outcomes.{carried-by, offer-stays, offers_anywhere, refused, refused-by}
use Rattle.seat.proofs.seat.Seat.offer.Goals as goal

pub returns-in_err-ready : goal.returns-in_err-ready
returns-in_err-ready g c =
    let s = c.args.self.now.state in
    let out = c.args.outbox.now in
    let e = c.in_err-ready.field-0.0 in
    let p = err_from_is_err_and c.from_residual.result c.from_residual.ensures.1 in
    record {
      call = λ bs. refused g.C.Content.kind s bs out _ e p.0 c.from_residual.result (unready s (length out) e _ c.in_err-ready.ensures) p.1 p.2;
      terms = refl;
    }

pub invariant_of-call : goal.invariant_of-call
invariant_of-call g c = record { short = c.args.self.now.short; room = enough c.args.self.now.state (length c.args.outbox.now) c.in_ok-ready.ensures }

-- a seat has room for its state: the bound on the whole is one on the part
pub offer_step-requires : goal.offer_step-requires
offer_step-requires g c = (search rules, lt_of_le_of_lt (le_trans (le-add_left _ _) (up-ge _ _)) c.requires-raw.1.1.1.1.1)

pub returns-in_err-answer : goal.returns-in_err-answer
returns-in_err-answer g c =
    let k = g.C.Content.kind in
    let t = c.args.self.now.terms in
    let s = c.args.self.now.state in
    let out = c.args.outbox.now in
    let leader = g.Q.Rota.leads c.args.rota.now in
    let q = offer_step k t leader s [] c.args.content.now in
    let e = c.in_err-answer.field-0.0 in
    let p = err_from_is_err_and c.from_residual-in_err-answer.result c.from_residual-in_err-answer.ensures.1 in
    let d = c.in_err-answer.ensures in
    record {
      call = λ bs. offers_anywhere k s bs out t leader c.args.content.now (length out) c.in_ok-ready.ensures c.from_residual-in_err-answer.result
          c.offer_step.new.state _
          (refused-by k s [] out q q e p.0 c.from_residual-in_err-answer.result c.offer_step.new.state [] _ refl
          (record { answer = d.answer; state = d.state; blocks = offer-stays k s [] out t leader c.args.content.now; outbox = search rules }) p.1 p.2);
      terms = refl;
    }

pub returns : goal.returns
returns g c =
    let k = g.C.Content.kind in
    let t = c.args.self.now.terms in
    let s = c.args.self.now.state in
    let out = c.args.outbox.now in
    let leader = g.Q.Rota.leads c.args.rota.now in
    let q = offer_step k t leader s [] c.args.content.now in
    let d = c.in_ok-answer.ensures in
    record {
      call = λ bs. offers_anywhere k s bs out t leader c.args.content.now (length out) c.in_ok-ready.ensures (Ok c.dispatched.result)
          _ _
          (carried-by k s [] out q q c.in_ok-answer.answer c.dispatched.result c.offer_step.new.state _ [] _ refl
          (record { answer = d.answer; state = d.state; blocks = offer-stays k s [] out t leader c.args.content.now; outbox = search rules }) c.dispatched.ensures.answer c.dispatched.ensures.state);
      terms = c.dispatched.ensures.terms;
    }

pub dispatched-requires : goal.dispatched-requires
dispatched-requires g c = c.requires-raw.1.1.1.1.1
