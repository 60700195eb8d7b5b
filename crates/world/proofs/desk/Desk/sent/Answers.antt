use Rattle.world.proofs.Sizes.{part_fits}
use Rattle.world.proofs.desk.Desk.sent.Goals as goal

pub sent-requires : goal.sent-requires
sent-requires g c = part_fits _ _ _ _ c.requires-raw.1.1.1.1
