use Rattle.std.proofs.Common.{ap, ◌∙◌, length, arith, length-take-le}
use Rattle.content.proofs.Numbers.{from_le_64}
use Rattle.content.proofs.Edits.{edits_read}
use Rattle.content.proofs.edit.EditContentEditLEN.read.Goals as goal

pub returns : goal.returns
returns c =
    let whole = c.in_ok-tag.ensures.cases in
    let parts = c.in_ok-first.ensures.cases in
    let second = c.in_ok-second.ensures.cases in
    let eight = ap length parts.0 ∙ length-take-le 8 c.in_ok-tag.numbers.now (omega (arith, parts.2)) in
    let m = c.from_le_bytes.ensures ∙ from_le_64 c.in_ok-first.first.now eight in
    let n = c.from_le_bytes-2.ensures ∙ from_le_64 c.in_ok-second.second.now (ap length second.same ∙ second.long) in
    c.then_some.ensures ∙ edits_read c.args.src.now _ _ _ _ _ _ _ whole.0 parts.0 (second.same ∙ parts.1) (ap length second.same ∙ second.long) m n c.stands.ensures.answer
