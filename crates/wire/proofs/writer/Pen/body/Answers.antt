use Rattle.wire.proofs.Places.{put_as, put_then}
use Rattle.wire.proofs.writer.Pen.body.Goals as goal

pub returns-clause-bytes : goal.returns-clause-bytes
returns-clause-bytes g c =
    put_then c.block.ensures.bytes (put_then (put_as c.to_le_bytes.ensures c.put.ensures.bytes) c.put-2.ensures.bytes)
