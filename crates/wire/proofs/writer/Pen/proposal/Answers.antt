use Rattle.std.proofs.Common.{◌++◌, sym, ap, ◌∙◌, append-nil}
use Rattle.wire.specs.Layout.{parent_bytes}
use Rattle.wire.specs.Meaning.{plain_parent}
use Rattle.wire.proofs.Places.{put_as, put_then}
use Rattle.wire.proofs.writer.Pen.proposal.Goals as goal

pub returns-in-Some-clause-bytes : goal.returns-in-Some-clause-bytes
returns-in-Some-clause-bytes g c =
    let some = ap (λ o. parent_bytes g.C.Content.kind (plain_parent o)) (sym c.in-Some.is) in
    put_then c.put.ensures.bytes
    (put_then c.block.ensures.bytes (put_then c.put-2.ensures.bytes (put_as some c.body.ensures.bytes)))

pub returns-in_default-clause-bytes : goal.returns-in_default-clause-bytes
returns-in_default-clause-bytes g c =
    let seal = c.args.seal.now in
    let none = ap (λ o. seal ++ parent_bytes g.C.Content.kind (plain_parent o)) (sym c.in_default.is) in
    put_then c.put.ensures.bytes
    (put_then c.block.ensures.bytes (put_as (sym (append-nil seal) ∙ none) c.put-2.ensures.bytes))
