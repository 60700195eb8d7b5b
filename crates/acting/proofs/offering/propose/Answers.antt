use Rattle.std.proofs.Common.{Some, Ok, ap, ◌∙◌}
use Rattle.state.specs.declared.answer.Answer.{Answer}
use Rattle.acting.proofs.Offers.{proposes}
use Rattle.acting.proofs.offering.propose.Goals as goal

pub returns : goal.returns
returns g c =
    let b = c.offered_block-block in
    let m = c.put_proposal-message in
    let h = proposes g.C.Content.kind c.args.call.now.terms.now c.args.state.now b.new.self c.args.content b.result m.result
    c.args.call.now.outbox.now m.new.call.outbox.now b.ensures.block b.ensures.state m.ensures.item m.ensures.call.outbox in
    record {
      same = m.ensures.call.same;
      answer = ap (λ (a : Answer). Ok (record { word = a.word; height = a.height; certificate = a.certificate; message = Some m.result; blame = a.blame })) c.of.ensures ∙ ap (λ a. Ok a) h.answer_is;
      state = h.state_is;
      outbox = h.outbox_is;
    }
