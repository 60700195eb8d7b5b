use Rattle.content.proofs.Edits.{written_back}
use Rattle.content.proofs.edit.Edit.write.Goals as goal

pub returns-clause-back : goal.returns-clause-back
returns-clause-back c =
    let kept = c.in_ok-rec.ensures in
    let wrote = c.write_content.ensures in
    written_back c.in_ok-rec.rec c.args.self.now c.args.out.now c.write_content.new.out c.write_content.result kept.lawful kept.back c.if-out-lt-LEN.false wrote.answer wrote.memory
