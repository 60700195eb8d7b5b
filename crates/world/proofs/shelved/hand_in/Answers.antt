use Rattle.std.proofs.Common.{length, take, sym, ap, ◌∙◌, subst, arith}
use Rattle.std.proofs.lemmas.List.{length-take}
use Rattle.shelf.specs.Blocks.{held, size}
use Rattle.state.specs.Calls.{hand_in}
use Rattle.seat.specs.Called.{Called}
use Rattle.world.proofs.Shelves.{filled_over, filled_so, retake}
use Rattle.world.proofs.shelved.hand_in.Goals as goal

pub returns-clause-call : goal.returns-clause-call
returns-clause-call g c within =
    let k = g.C.Content.kind in
    let p = c.args.seat.now.terms in
    let s = c.args.seat.now.state in
    let out = c.args.outbox.now in
    let last = c.hand_in-outcome.new.shelf in
    let named = sym (c.hand_in-outcome.ensures.cells.1 ∙ ap (λ x. x.ghost_name) (filled_over _ c.shelf_over-shelf.result c.args.filled c.shelf_over-shelf.ensures)) in
    let ends = ap (take c.len.result) (c.cells-1.given.1.1 named) ∙ (ap (λ n. take n last.cells.now) c.len.ensures ∙ retake last.len last.cells.now) in
    let t = filled_so _ c.shelf_over-shelf.result c.args.filled c.shelf_over-shelf.ensures within in
    subst (λ bs. Called k (hand_in k p (g.Q.Rota.leads c.args.rota.now) (g.K.SealCheck.accepts c.args.check.now) s (take c.args.filled c.args.cells.now) (length c.args.cells.now) c.args.inbox.now (length out))
    s (take c.args.filled c.args.cells.now) out c.hand_in-outcome.result c.hand_in-outcome.new.self.state bs c.hand_in-outcome.new.outbox) (sym ends)
    (subst (λ x. Called k (hand_in k p (g.Q.Rota.leads c.args.rota.now) (g.K.SealCheck.accepts c.args.check.now) s (held x) (size x) c.args.inbox.now (length out))
    s (held x) out c.hand_in-outcome.result c.hand_in-outcome.new.self.state (held last) c.hand_in-outcome.new.outbox) t c.hand_in-outcome.ensures.call)

pub returns-clause-filled : goal.returns-clause-filled
returns-clause-filled g c =
    let last = c.hand_in-outcome.new.shelf in
    let named = sym (c.hand_in-outcome.ensures.cells.1 ∙ ap (λ x. x.ghost_name) (filled_over _ c.shelf_over-shelf.result c.args.filled c.shelf_over-shelf.ensures)) in
    omega (arith, c.len.ensures, length-take last.len last.cells.now, ap length (c.cells-1.given.1.1 named))
