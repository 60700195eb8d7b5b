use Rattle.std.proofs.Common.{sym, ap}
use Rattle.wire.specs.Layout.{message_bytes}
use Rattle.wire.specs.Meaning.{plain}
use Rattle.wire.proofs.Places.{put_as, put_then}
use Rattle.wire.proofs.writer.Pen.parts.Goals as goal

pub returns-in-Vote-clause-bytes : goal.returns-in-Vote-clause-bytes
returns-in-Vote-clause-bytes g c =
    put_as (ap (λ p. message_bytes g.C.Content.kind (plain p)) (sym c.in-Vote.is))
    (put_then c.put.ensures.bytes (put_then c.block.ensures.bytes c.put-in-Vote.ensures.bytes))

pub returns-in-Blame-clause-bytes : goal.returns-in-Blame-clause-bytes
returns-in-Blame-clause-bytes g c =
    put_as (ap (λ p. message_bytes g.C.Content.kind (plain p)) (sym c.in-Blame.is))
    (put_then c.put-in-Blame.ensures.bytes (put_then (put_as c.to_le_bytes.ensures c.put-in-Blame-2.ensures.bytes) c.put-in-Blame-3.ensures.bytes))

pub returns-in-Certified-clause-bytes : goal.returns-in-Certified-clause-bytes
returns-in-Certified-clause-bytes g c =
    put_as (ap (λ p. message_bytes g.C.Content.kind (plain p)) (sym c.in-Certified.is))
    (put_then c.put-in-Certified.ensures.bytes c.body.ensures.bytes)

pub returns-in-Notice-clause-bytes : goal.returns-in-Notice-clause-bytes
returns-in-Notice-clause-bytes g c =
    put_as (ap (λ p. message_bytes g.C.Content.kind (plain p)) (sym c.in-Notice.is))
    (put_then c.put-in-Notice.ensures.bytes
    (put_then (put_as c.to_le_bytes-in-Notice.ensures c.put-in-Notice-2.ensures.bytes)
    (put_then (put_as c.to_le_bytes-in-Notice-2.ensures c.put-in-Notice-3.ensures.bytes) c.put-in-Notice-4.ensures.bytes)))
