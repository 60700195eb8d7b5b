use Rattle.std.proofs.Common.{arith}
use Rattle.content.proofs.Edits.{called_back}
use Rattle.content.proofs.edit.EditRecord.called.Goals as goal

pub returns-in-0-clause-back : goal.returns-in-0-clause-back
returns-in-0-clause-back c = called_back c.args.self.now _ (omega arith) (omega arith)

pub returns-in-1-clause-back : goal.returns-in-1-clause-back
returns-in-1-clause-back c = called_back c.args.self.now _ (omega arith) (omega arith)
