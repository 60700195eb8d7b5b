use Rattle.std.proofs.Common.{refl, arith}
use Rattle.wire.proofs.Places.{placed_mid}
use Rattle.wire.proofs.writer.Pen.put.Goals as goal

pub returns-clause-bytes : goal.returns-clause-bytes
returns-clause-bytes c =
    record {
      is = placed_mid c.args.self.now.out.now c.copy_from_slice.new.self c.args.bytes.now c.args.self.now.at _ c.copy_from_slice.ensures.after (omega arith);
      behind = refl;
      fits = c.requires;
    }
