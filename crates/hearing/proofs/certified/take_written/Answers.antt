use Rattle.std.proofs.Common.{◌≡◌, ◌+◌, ◌≤◌, false, true, length, is_some, Err, ap, ◌∙◌, arith, rules}
use Rattle.std.proofs.lemmas.Bool.Decides.{nat_tests}
use Rattle.std.proofs.lemmas.Result.{err_from_is_err_and}
use Rattle.wire.specs.Meaning.{plain_certificate}
use Rattle.wire.specs.Writing.{body_size}
use Rattle.wire.specs.declared.message.Parts.TheVariants.{Certified}
use Rattle.shelf.specs.Blocks.{held, size}
use Rattle.state.specs.TakeIn.{judge_in}
use Rattle.state.proofs.Going.{followed}
use Rattle.hearing.proofs.Relayed.{known-alike, new-written, quiet_end, refused-alike}
use Rattle.hearing.proofs.certified.take_written.Goals as goal

pub returns-in_err-answer-clause-steps : goal.returns-in_err-answer-clause-steps
returns-in_err-answer-clause-steps g c =
    let k = g.C.Content.kind in
    let s = c.args.state.now in
    let bs = held c.args.shelf.now in
    let cert = plain_certificate c.args.c.now in
    let p = err_from_is_err_and c.from_residual.result c.from_residual.ensures.1 in
    let h = c.in_err-answer.ensures in
    let d = refused-alike k s bs cert (Certified cert) (judge_in k s bs (size c.args.shelf.now) cert.block) c.in_err-answer.field-0.0 h.does in
    record {
      same = h.same;
      does = record { answer = (p.1 ∙ ap (λ e. Err e) p.2) ∙ d.answer; state = d.state; blocks = d.blocks; outbox = d.outbox };
      cells = h.cells;
    }

pub returns-then-is_none-clause-steps : goal.returns-then-is_none-clause-steps
returns-then-is_none-clause-steps g c =
    let k = g.C.Content.kind in
    let s = c.args.state.now in
    let bs = held c.args.shelf.now in
    let cert = plain_certificate c.args.c.now in
    let h = c.in_ok-answer.ensures in
    let n : is_some c.in_ok-answer.answer.certificate ≡ false = grind (arith, nat_tests, c.if-is_none.ensures) in
    record {
      same = h.same;
      does = known-alike k s bs cert (Certified cert) (judge_in k s bs (size c.args.shelf.now) cert.block) c.in_ok-answer.answer n h.does;
      cells = h.cells;
    }

pub returns-then-is_none-clause-end : goal.returns-then-is_none-clause-end
returns-then-is_none-clause-end g c =
    let n : is_some c.in_ok-answer.answer.certificate ≡ false = grind (arith, nat_tests, c.if-is_none.ensures) in
    quiet_end c.in_ok-answer.answer.certificate (1 + body_size g.row.L (plain_certificate c.args.c.now)) n

pub put_certificate-item-requires : goal.put_certificate-item-requires
put_certificate-item-requires g c =
    let z : length c.certificate.new.call.outbox.now ≡ length c.args.call.now.outbox.now = c.in_ok-answer.ensures.same.size in
    let r : 1 + body_size g.row.L (plain_certificate c.args.c.now) ≤ length c.args.call.now.outbox.now = c.requires in
    (search rules, omega arith)

pub returns-clause-steps : goal.returns-clause-steps
returns-clause-steps g c =
    let k = g.C.Content.kind in
    let s = c.args.state.now in
    let bs = held c.args.shelf.now in
    let cert = plain_certificate c.args.c.now in
    let h = c.in_ok-answer.ensures in
    let p = c.put_certificate-item in
    let n : is_some c.in_ok-answer.answer.certificate ≡ true = grind (arith, nat_tests, c.if-is_none.ensures) in
    record {
      same = followed h.same p.ensures.call.same;
      does = new-written k s bs cert (Certified cert) (judge_in k s bs (size c.args.shelf.now) cert.block) c.in_ok-answer.answer
          p.result p.new.call.outbox.now n p.ensures.item p.ensures.call.outbox h.does;
      cells = h.cells;
    }
