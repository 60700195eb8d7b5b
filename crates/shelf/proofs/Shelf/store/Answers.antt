use Rattle.std.proofs.Common.{◌≡◌, ◌<◌, [], ◌∷◌, ◌++◌, ap, ◌∙◌, arith}
use Rattle.shelf.specs.Blocks.{held, size}
use Rattle.shelf.proofs.Ancestry.{grown_push}
use Rattle.shelf.proofs.Cells.{held_more}
use Rattle.shelf.proofs.Reading.{reads_stay}
use Rattle.shelf.proofs.Shelf.store.Given.{Over}
use Rattle.shelf.proofs.Shelf.store.Goals as goal

more : (g : Over) (c : goal.After-put g) → held c.put.new.self ≡ held c.args.self.now ++ c.args.block ∷ []
more g c =
    let below : c.args.self.now.len < size c.args.self.now = omega (arith, c.size.ensures, c.if-self-size.false) in
    ap held c.put.ensures ∙ held_more c.args.self.now c.args.block below

pub returns-clause-grows : goal.returns-clause-grows
returns-clause-grows g c = λ grown may. rw (more g c) (grown_push (held c.args.self.now) c.args.block grown may)

pub returns-clause-stays : goal.returns-clause-stays
returns-clause-stays g c = rw (more g c) (reads_stay (held c.args.self.now) (c.args.block ∷ []))
