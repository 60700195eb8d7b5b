use Rattle.std.proofs.Common.{Some, Ok, refl, ap}
use Rattle.shelf.specs.Blocks.{held}
use Rattle.state.specs.HandIn.{idle, leaves}
use Rattle.state.specs.HandIn.{notice as noticed}
use Rattle.state.specs.Sends.{relay}
use Rattle.state.specs.declared.answer.Item.TheVariants.{Inbox}
use Rattle.state.proofs.Going.{unmoved}
use Rattle.hearing.proofs.Doing.{does_at, notice-idle, notice-leaves}
use Rattle.hearing.proofs.handling.notice.Goals as goal

pub returns-then-not-leaves_by : goal.returns-then-not-leaves_by
returns-then-not-leaves_by g c = record {
  same = unmoved;
  does = does_at g.C.Content.kind (Ok (idle c.args.state.now (held c.args.shelf.now))) (noticed c.args.state.now (held c.args.shelf.now) c.args.view)
      (notice-idle c.args.state.now (held c.args.shelf.now) c.args.view c.if-view-eq-LAST_VIEW.false c.if-not-leaves_by.ensures)
      (record { answer = ap (λ a. Ok a) c.of.ensures; state = refl; blocks = refl; outbox = refl });
  cells = (refl, refl);
}

pub returns : goal.returns
returns g c = record {
  same = unmoved;
  does = does_at g.C.Content.kind (Ok (leaves c.args.state.now (held c.args.shelf.now) c.args.view relay)) (noticed c.args.state.now (held c.args.shelf.now) c.args.view)
      (notice-leaves c.args.state.now (held c.args.shelf.now) c.args.view c.if-view-eq-LAST_VIEW.false c.if-not-leaves_by.ensures)
      (record {
        answer = ap (λ a. Ok (record { word = a.word; height = a.height; certificate = a.certificate; message = Some Inbox; blame = a.blame })) c.of-2.ensures;
        state = c.leave.ensures;
        blocks = refl;
        outbox = refl;
      });
  cells = (refl, refl);
}
