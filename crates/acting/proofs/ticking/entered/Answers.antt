use Rattle.std.proofs.Common.{[], length, Some, Ok, ap, ◌∙◌, rules}
use Rattle.state.specs.declared.answer.Answer.{Answer}
use Rattle.acting.proofs.Ticks.{entered-blames, room-blame, room-leaving}
use Rattle.acting.proofs.ticking.entered.Goals as goal

pub blame-requires : goal.blame-requires
blame-requires g c = (search rules, (search rules, room-blame g.row.S (length c.args.call.now.outbox.now) (room-leaving g.row.S (length c.args.call.now.outbox.now) c.args.call.now.short c.args.call.now.room)))

pub returns : goal.returns
returns g c =
    let b = c.blame in
    let h = entered-blames g.C.Content.kind c.args.call.now.terms.now c.args.state.now b.new.state [] c.args.state.now.spoiled
    b.result c.args.call.now.outbox.now b.new.call.outbox.now c.if-not-state.false b.ensures.item b.ensures.state b.ensures.call.outbox in
    record {
      same = b.ensures.call.same;
      answer = ap (λ (a : Answer). Ok (record { word = a.word; height = a.height; certificate = a.certificate; message = a.message; blame = Some b.result })) c.of-2.ensures ∙ ap (λ a. Ok a) h.answer_is;
      state = h.state_is;
      outbox = h.outbox_is;
    }
