use Rattle.std.proofs.Common.{None, Some, Ok, Option, refl, ap, ◌∙◌, rules}
use Rattle.shelf.specs.Blocks.{held}
use Rattle.state.specs.HandIn.{counted, idle, leaves, notice_of}
use Rattle.state.specs.HandIn.{blame as blamed}
use Rattle.state.specs.Parts.{with_blames}
use Rattle.state.specs.Sends.{write}
use Rattle.state.specs.declared.answer.Item.{Item}
use Rattle.state.specs.declared.answer.Word.TheVariants.{Left}
use Rattle.state.proofs.Going.{unmoved}
use Rattle.hearing.proofs.Counts.{blame-counted, blame-idle, blame-leaves, quorum-few}
use Rattle.hearing.proofs.Doing.{does_at}
use Rattle.hearing.proofs.counting.blame.Goals as goal

pub put_notice-message-requires : goal.put_notice-message-requires
put_notice-message-requires g c = (search rules, (search rules, quorum-few c.args.call.now.terms.now c.add_seal.new.row c.if-not-quorate.ensures))

pub leave-requires : goal.leave-requires
leave-requires g c = search rules

pub returns-then-not-counts_blame : goal.returns-then-not-counts_blame
returns-then-not-counts_blame g c =
    let p = c.args.call.now.terms.now in
    let s = c.args.state.now in
    let bs = held c.args.shelf.now in
    let i = c.args.seal.now.seat in
    let seal = c.args.seal.now.bytes.now in
    record {
      same = unmoved;
      does = does_at g.C.Content.kind (Ok (idle s bs)) (blamed p s bs i c.args.view seal)
          (blame-idle p s bs i c.args.view seal c.if-view-eq-LAST_VIEW.false c.if-not-counts_blame.ensures)
          (record { answer = ap (λ a. Ok a) c.of.ensures; state = refl; blocks = refl; outbox = refl });
      cells = (refl, refl);
    }

pub returns-then-not-quorate : goal.returns-then-not-quorate
returns-then-not-quorate g c =
    let p = c.args.call.now.terms.now in
    let s = c.args.state.now in
    let bs = held c.args.shelf.now in
    let i = c.args.seal.now.seat in
    let seal = c.args.seal.now.bytes.now in
    let t = with_blames c.add_seal.new.row s in
    record {
      same = unmoved;
      does = does_at g.C.Content.kind (Ok (counted t bs)) (blamed p s bs i c.args.view seal)
          (blame-counted p s bs i c.args.view seal t c.if-view-eq-LAST_VIEW.false c.if-not-counts_blame.ensures
          (ap (λ r. with_blames r s) c.add_seal.ensures) c.if-not-quorate.ensures)
          (record { answer = ap (λ a. Ok a) c.of-then-not-quorate.ensures; state = refl; blocks = refl; outbox = refl });
      cells = (refl, refl);
    }

pub returns : goal.returns
returns g c =
    let p = c.args.call.now.terms.now in
    let s = c.args.state.now in
    let bs = held c.args.shelf.now in
    let i = c.args.seal.now.seat in
    let seal = c.args.seal.now.bytes.now in
    let t = with_blames c.add_seal.new.row s in
    let n = c.put_notice-message.ensures in
    record {
      same = n.call.same;
      does = does_at g.C.Content.kind (Ok (leaves t bs c.args.view (write (notice_of c.args.view t.blames)))) (blamed p s bs i c.args.view seal)
          (blame-leaves p s bs i c.args.view seal t c.if-view-eq-LAST_VIEW.false c.if-not-counts_blame.ensures
          (ap (λ r. with_blames r s) c.add_seal.ensures) c.if-not-quorate.ensures)
          (record {
            answer = ap (λ a. Ok (record { word = a.word; height = a.height; certificate = a.certificate; message = Some c.put_notice-message.result; blame = a.blame })) c.of-2.ensures
                ∙ ap (λ (m : Option Item). Ok (record { word = Left; height = 0; certificate = None; message = m; blame = None })) n.item;
            state = c.leave.ensures;
            blocks = refl;
            outbox = n.call.outbox;
          });
      cells = (refl, refl);
    }
