use Rattle.std.proofs.Common.{ap, ◌∙◌, length, arith, length-take-le}
use Rattle.content.proofs.Numbers.{from_le_32}
use Rattle.content.proofs.Marks.{marks_read}
use Rattle.content.proofs.mark.ChapterMarkContentChapterMarkLEN.read.Goals as goal

pub returns : goal.returns
returns c =
    let src = c.args.src.now in
    let parts = c.in_ok-start.ensures.cases in
    let title = c.in_ok-title.ensures.cases in
    let four = ap length parts.0 ∙ length-take-le 4 src (omega (arith, parts.2)) in
    let start = c.from_le_bytes-start.ensures ∙ from_le_32 c.in_ok-start.start.now four in
    c.then_some.ensures ∙ marks_read src _ _ _ _ parts.0 (title.same ∙ parts.1) (omega (arith, parts.2, title.long)) start c.stands.ensures.answer
