use Rattle.std.proofs.Common.{is_some, refl, ap, ◌∙◌}
use Rattle.world.proofs.Sizes.{part_fits}
use Rattle.agreement.proofs.Basics.{true-false}
use Rattle.world.proofs.desk.Desk.keep.Goals as goal

pub sent-requires : goal.sent-requires
sent-requires g c = part_fits _ _ _ _ c.requires-raw.1.1.1.1

pub returns-in-Some : goal.returns-in-Some
returns-in-Some g c = record {
  cells = refl;
  filled = refl;
  held = ap is_some c.in-Some.ensures.after;
  seat_stays = λ empty. absurd (true-false (ap is_some c.in-Some.ensures.value ∙ empty));
}
