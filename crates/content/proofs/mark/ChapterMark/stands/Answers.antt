use Rattle.std.proofs.Common.{rules, arith, length, ◌≡◌}
use Rattle.std.proofs.lemmas.Bool.Decides.{Decides-at}
use Rattle.content.proofs.Marks.{holds_lawful}
use Rattle.content.proofs.mark.ChapterMark.stands.Goals as goal

pub returns-then-start-le-LAST_SECOND-clause-lawful : goal.returns-then-start-le-LAST_SECOND-clause-lawful
returns-then-start-le-LAST_SECOND-clause-lawful c =
    let long : length c.args.self.now.title ≡ 24 = search rules in
    Decides-at _ _ (search rules) (holds_lawful c.args.self.now (omega arith) long)
