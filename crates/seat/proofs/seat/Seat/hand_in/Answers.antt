use Rattle.std.proofs.Common.{length, Ok, sym, refl, ap, ◌∙◌, subst, le_trans, lt_of_le_of_lt, le-add_left, rules}
use prog.Align.{up-ge}
use Rattle.std.proofs.lemmas.Result.{err_from_is_err_and}
use Rattle.wire.specs.Lawful.{LawfulParts}
use Rattle.wire.specs.Meaning.{plain}
use Rattle.shelf.specs.Blocks.{held, size}
use Rattle.state.specs.HandIn.{hand_parts}
use Rattle.seat.proofs.Guards.{enough, unready}
use Rattle.seat.proofs.Outcomes.{carried-by, hand-opened, hand_unopened, refused, refused-by}
use Rattle.seat.proofs.seat.Seat.hand_in.Goals as goal

pub returns-in_err-ready : goal.returns-in_err-ready
returns-in_err-ready g c =
    let s = c.args.self.now.state in
    let bs = held c.args.shelf.now in
    let out = c.args.outbox.now in
    let e = c.in_err-ready.field-0.0 in
    let p = err_from_is_err_and c.from_residual.result c.from_residual.ensures.1 in
    record {
      call = refused g.C.Content.kind s bs out _ e p.0 c.from_residual.result (unready s (length out) e _ c.in_err-ready.ensures) p.1 p.2;
      terms = refl;
      cells = (refl, refl);
      check = refl;
    }

pub returns-in_err-message : goal.returns-in_err-message
returns-in_err-message g c =
    let s = c.args.self.now.state in
    let bs = held c.args.shelf.now in
    let out = c.args.outbox.now in
    let e = c.in_err-message.field-0.0 in
    let p = err_from_is_err_and c.from_residual-in_err-message.result c.from_residual-in_err-message.ensures.1 in
    record {
      call = refused g.C.Content.kind s bs out _ e p.0 c.from_residual-in_err-message.result
          (hand_unopened g.C.Content.kind c.args.self.now.terms (g.Q.Rota.leads c.args.rota.now) (g.K.SealCheck.accepts c.args.check.now) s bs
          (size c.args.shelf.now) c.args.inbox.now (length out) c.in_ok-ready.ensures e c.in_err-message.ensures.value) p.1 p.2;
      terms = refl;
      cells = (refl, refl);
      check = c.in_err-message.ensures.kept;
    }

pub invariant_of-call : goal.invariant_of-call
invariant_of-call g c = record { short = c.args.self.now.short; room = enough c.args.self.now.state (length c.args.outbox.now) c.in_ok-ready.ensures }

-- a seat has room for its state: the bound on the whole is one on the part
pub hand_parts-requires : goal.hand_parts-requires
hand_parts-requires g c = (
  search rules,
  (
    lt_of_le_of_lt (le_trans (le-add_left _ _) (up-ge _ _)) c.requires-raw.1.1.1.1.1.1,
    subst (λ m. LawfulParts g.C.Content.kind g.row.S c.args.self.now.terms.seats.n (plain m)) (sym c.parts.ensures) c.in_ok-message.ensures.lawful,
  ),
)

pub returns-in_err-answer : goal.returns-in_err-answer
returns-in_err-answer g c =
    let k = g.C.Content.kind in
    let t = c.args.self.now.terms in
    let s = c.args.self.now.state in
    let bs = held c.args.shelf.now in
    let cells = size c.args.shelf.now in
    let out = c.args.outbox.now in
    let m = plain c.parts.result.now in
    let e = c.in_err-answer.field-0.0 in
    let d = c.in_err-answer.ensures.does in
    let p = err_from_is_err_and c.from_residual-in_err-answer.result c.from_residual-in_err-answer.ensures.1 in
    record {
      call = refused-by k s bs out (hand_parts k t s bs cells m) _ e p.0 c.from_residual-in_err-answer.result
          c.hand_parts.new.state (held c.hand_parts.new.shelf) _
          (hand-opened k t (g.Q.Rota.leads c.args.rota.now) (g.K.SealCheck.accepts c.args.check.now) s bs cells c.args.inbox.now (length out)
          c.in_ok-ready.ensures m (ap (λ x. Ok (plain x)) c.parts.ensures ∙ c.in_ok-message.ensures.value))
          (record { answer = d.answer; state = d.state; blocks = d.blocks; outbox = search rules }) p.1 p.2;
      terms = refl;
      cells = c.in_err-answer.ensures.cells;
      check = c.in_ok-message.ensures.kept;
    }

pub returns : goal.returns
returns g c =
    let k = g.C.Content.kind in
    let t = c.args.self.now.terms in
    let s = c.args.self.now.state in
    let bs = held c.args.shelf.now in
    let cells = size c.args.shelf.now in
    let out = c.args.outbox.now in
    let m = plain c.parts.result.now in
    let d = c.in_ok-answer.ensures.does in
    record {
      call = carried-by k s bs out (hand_parts k t s bs cells m) _ c.in_ok-answer.answer c.dispatched.result
          c.hand_parts.new.state _ (held c.hand_parts.new.shelf) _
          (hand-opened k t (g.Q.Rota.leads c.args.rota.now) (g.K.SealCheck.accepts c.args.check.now) s bs cells c.args.inbox.now (length out)
          c.in_ok-ready.ensures m (ap (λ x. Ok (plain x)) c.parts.ensures ∙ c.in_ok-message.ensures.value))
          (record { answer = d.answer; state = d.state; blocks = d.blocks; outbox = search rules }) c.dispatched.ensures.answer c.dispatched.ensures.state;
      terms = c.dispatched.ensures.terms;
      cells = c.in_ok-answer.ensures.cells;
      check = c.in_ok-message.ensures.kept;
    }

pub dispatched-requires : goal.dispatched-requires
dispatched-requires g c = c.requires-raw.1.1.1.1.1.1
