use Rattle.std.proofs.Common.{◌≡◌, rules}
use Rattle.wire.specs.Meaning.{plain}
use Rattle.wire.specs.Writing.{write_out}
use Rattle.wire.proofs.Places.{write_end_lem, write_out_lem}
use Rattle.wire.proofs.writer.write_parts.Goals as goal

pub returns-clause-answer : goal.returns-clause-answer
returns-clause-answer g c =
    let p = c.parts.ensures in
    write_end_lem g.C.Content.kind c.args.out.now c.args.at (plain c.args.parts.now) c.parts.new.self.at p.size p.bytes.fits

pub returns-clause-bytes : goal.returns-clause-bytes
returns-clause-bytes g c =
    let p = c.parts.ensures in
    let h : c.parts.new.self.out.now ≡ write_out g.C.Content.kind c.args.out.now c.args.at (plain c.args.parts.now) =
    write_out_lem g.C.Content.kind c.args.out.now c.args.at (plain c.args.parts.now) p.size p.bytes in
    search (rules, h)
