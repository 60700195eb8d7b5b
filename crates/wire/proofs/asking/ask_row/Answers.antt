use Rattle.std.proofs.Common.{sym, ap, ◌∙◌, arith}
use Rattle.std.proofs.lemmas.Result.{err_from_is_err_and}
use Rattle.wire.proofs.RowsAsked.{going_fits, going_in, going_out, going_no, going_end}
use Rattle.wire.proofs.asking.ask_row.Goals as goal
use Rattle.wire.proofs.asking.ask_row.Goals.{then-has+in_ok-ask, else-has}

pub split_at-requires : goal.split_at-requires
split_at-requires g c =
    going_fits _ _ _ c.args.seats.n c.loop-seat.seat _ _ _ c.loop-seat.invariant.1 (omega arith) (sym c.has.ensures ∙ c.if-has.true)

pub returns-in_err-ask-clause-value : goal.returns-in_err-ask-clause-value
returns-in_err-ask-clause-value g c =
    let p = err_from_is_err_and c.from_residual.result c.from_residual.ensures.1 in
    rw (p.1, p.2)
    (going_no _ _ _ c.args.seats.n c.loop-seat.seat _ _ _ _ c.loop-seat.invariant.0 c.loop-seat.invariant.1 (omega arith)
    (sym c.has.ensures ∙ c.if-has.true) _ c.split_at.ensures.front _ c.in_err-ask.ensures.value)

pub loop-seat-preserved : goal.loop-seat-preserved
loop-seat-preserved g c =
    elim c.if-has.branch [
      | then-has+in_ok-ask w ↦ (
        ap g.K.SealCheck.accepts w.check-is ∙ w.ask.ensures.kept ∙ c.loop-seat.invariant.0,
        going_in _ _ _ c.args.seats.n c.loop-seat.seat _ _ _ _ c.loop-seat.invariant.0 c.loop-seat.invariant.1 (omega arith)
            (sym c.has.ensures ∙ w.if-has.true) _ _ w.split_at.ensures.front (ap (λ x. x.now) w.rest-is ∙ w.split_at.ensures.back)
            w.in_ok-ask.ensures.value,
      )
      | else-has w ↦ (
        ap g.K.SealCheck.accepts w.check-is ∙ c.loop-seat.invariant.0,
        rw w.rest-is
            (going_out _ _ _ c.args.seats.n c.loop-seat.seat _ _ _ c.loop-seat.invariant.1 (omega arith) (sym c.has.ensures ∙ w.if-has.false)),
      )
    ]

pub returns-clause-value : goal.returns-clause-value
returns-clause-value g c = going_end _ _ _ c.args.seats.n c.loop-seat.seat _ _ _ c.loop-seat.invariant.1 (omega arith)
