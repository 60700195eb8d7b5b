use Rattle.wire.proofs.Lengths.{sized, fits-outbox}
use Rattle.wire.proofs.laws.lengths.Goals as goal

pub returns : goal.returns
returns g c = record { sized = sized g.C.Content.kind g.row.S; fits = fits-outbox g.C.Content.kind g.row.S }
