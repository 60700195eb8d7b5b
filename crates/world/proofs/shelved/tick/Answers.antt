use Rattle.std.proofs.Common.{length, take, sym, ap, ◌∙◌, subst}
use Rattle.shelf.specs.Blocks.{held}
use Rattle.state.specs.Calls.{tick}
use Rattle.seat.specs.Called.{Called}
use Rattle.world.proofs.Shelves.{filled_over, filled_so}
use Rattle.world.proofs.shelved.tick.Goals as goal

pub returns : goal.returns
returns g c =
    let k = g.C.Content.kind in
    let p = c.args.seat.now.terms in
    let s = c.args.seat.now.state in
    let out = c.args.outbox.now in
    let n = c.args.filled in
    let a = c.shelf_over.result in
    let over = filled_over _ a n c.shelf_over.ensures in
    let end = c.cells-2-1.given.1.1 (sym (ap (λ x. x.ghost_name) over)) ∙ ap (λ x. x.now) over in
    record {
      call = λ within.
          let t = filled_so _ a n c.shelf_over.ensures within in
          subst (λ xs. Called k (tick p s (take n c.args.cells.now) (length out)) s (take n c.args.cells.now) out c.tick.result c.tick.new.self.state (take n xs) c.tick.new.outbox) (sym end)
          (subst (λ x. Called k (tick p s (held x) (length out)) s (held x) out c.tick.result c.tick.new.self.state (held x) c.tick.new.outbox) t c.tick.ensures.call);
      cells = end;
      terms = c.tick.ensures.terms;
    }
