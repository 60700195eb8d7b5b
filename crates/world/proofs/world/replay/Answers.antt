use Rattle.agreement.proofs.Whole.{agreement, laws_of_seats}
use Rattle.world.specs.Worlds.{played}
use Rattle.world.proofs.Beginnings.{can_begin}
use Rattle.world.proofs.world.replay.Goals as goal

pub returns-clause-begins : goal.returns-clause-begins
returns-clause-begins g c = can_begin g.C.Content.kind (g.Q.Rota.leads c.args.rota.now) (g.K.SealCheck.accepts c.args.check.now) c.args.world.now

pub returns-clause-agreement : goal.returns-clause-agreement
returns-clause-agreement g c w h lawful run = agreement g.row.S g.C.Content.kind w lawful (played c.args.calls.now h) run

pub returns-clause-always : goal.returns-clause-always
returns-clause-always g c = agreement g.row.S g.C.Content.kind

pub returns-clause-laws : goal.returns-clause-laws
returns-clause-laws g c = laws_of_seats g.row.S g.C.Content.kind
