use Rattle.shelf.proofs.Reading.{reads-ancestor}
use Rattle.shelf.proofs.Shelf.read_below.Goals as goal

pub returns-clause-ancestor : goal.returns-clause-ancestor
returns-clause-ancestor g c = rw (c.block_below.ensures, c.blocks-2.ensures) (reads-ancestor _ _ _)
