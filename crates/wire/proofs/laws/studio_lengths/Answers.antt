use Rattle.wire.proofs.Lengths.{studio_sized}
use Rattle.wire.proofs.laws.studio_lengths.Goals as goal

pub returns : goal.returns
returns g c = studio_sized g.C.Content.kind
