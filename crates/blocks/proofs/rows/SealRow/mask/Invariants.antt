use Rattle.std.proofs.Common.{◌≡◌, ◌^◌, ◌<◌, take}
use Rattle.blocks.specs.Masks.{mask_kept}
use Rattle.blocks.proofs.rows.SealRow.mask.Given as goal

abbrev pub invariant-loop-seat : goal.invariant-loop-seat
invariant-loop-seat g l = (l.mask ≡ mask_kept (take l.seat l.slot-items)) × (l.mask < 2 ^ l.seat)
