use Rattle.std.proofs.lemmas.Iterator.{YieldsList-from_slice}
use Rattle.blocks.proofs.rows.kept_row.Goals as goal

pub returns : goal.returns
returns c = c.row_of.ensures c.args.row.now (YieldsList-from_slice c.args.row.now cc).runs
