use Rattle.std.proofs.Common.{refl}
use Rattle.seals.specs.SipHash.{sip_rounds}
use Rattle.seals.proofs.siphash.published_example.Goals as goal

pub returns : goal.returns
unfolding sip_rounds
returns c = refl
