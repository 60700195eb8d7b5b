use Rattle.agreement.proofs.Witness.{witness}
use Rattle.agreement.proofs.agreement_is_not_empty.Goals as goal

pub returns : goal.returns
returns c = witness
