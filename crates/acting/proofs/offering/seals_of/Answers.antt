use Rattle.std.proofs.Common.{◌*◌}
use Rattle.acting.proofs.Offers.{row_fits, row_is, row-short}
use Rattle.acting.proofs.offering.seals_of.Goals as goal

pub slice_bounds-result-end : goal.slice_bounds-result-end
slice_bounds-result-end g c = row_fits c.args.call.now.terms.now.seats.n g.row.S c.quorum.result c.args.call.now.terms.now.seats.lawful c.args.call.now.short c.quorum.ensures

pub returns : goal.returns
returns g c =
    record {
      row = row_is c.args.call.now.terms.now.seats.n g.row.S c.quorum.result c.args.best.now.seals c.quorum.ensures;
      size = row-short (c.quorum.result * g.row.S) c.args.best.now.seals
          (row_fits c.args.call.now.terms.now.seats.n g.row.S c.quorum.result c.args.call.now.terms.now.seats.lawful c.args.call.now.short c.quorum.ensures);
    }
