use Rattle.agreement.proofs.Whole.{agreement, laws_of_seats}
use Rattle.agreement.proofs.agreement_stands.Goals as goal

pub returns : goal.returns
returns g c = record { agreement = agreement g.row.S g.C.Content.kind; laws = laws_of_seats g.row.S g.C.Content.kind }
