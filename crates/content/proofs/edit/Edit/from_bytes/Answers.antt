use Rattle.std.proofs.Common.{sym, arith}
use Rattle.content.proofs.Edits.{bytes_back}
use Rattle.content.proofs.edit.Edit.from_bytes.Goals as goal

pub returns-clause-back : goal.returns-clause-back
returns-clause-back c = bytes_back c.args.src.now c.in_ok-rec.rec c.edit.result (λ i. omega (arith, c.type_inv.src i)) (sym c.in_ok-rec.ensures) c.edit.ensures.back
