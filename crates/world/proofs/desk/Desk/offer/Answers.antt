use Rattle.std.proofs.Common.{length, refl}
use Rattle.world.proofs.Sizes.{part_fits}
use Rattle.world.specs.Desks.{blocks_of}
use Rattle.world.proofs.Works.{works}
use Rattle.world.proofs.desk.Desk.offer.Goals as goal

pub offer-outcome-requires : goal.offer-outcome-requires
offer-outcome-requires g c = part_fits _ _ _ _ c.requires-raw.1.1.1.1.1

pub returns : goal.returns
returns g c tidy =
    let d = c.args.self.now in
    let out = c.args.outbox.now in
    works g.C.Content.kind d tidy out c.offer-outcome.new.outbox (length out) _ c.offer-outcome.result _ c.settle.new.self c.settle.result
    (record {
      call = c.offer-outcome.ensures.call (blocks_of d);
      same_terms = c.offer-outcome.ensures.terms;
      same_cells = refl;
      same_slip = refl;
      fits = tidy.within;
    }) c.settle.ensures
