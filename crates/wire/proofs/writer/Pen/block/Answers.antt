use Rattle.std.proofs.Common.{◌∙◌}
use Rattle.content.proofs.Numbers.{to_le_32}
use Rattle.wire.proofs.Places.{put_as, put_then}
use Rattle.wire.proofs.writer.Pen.block.Goals as goal

pub returns-clause-bytes : goal.returns-clause-bytes
returns-clause-bytes g c =
    put_then (put_then (put_then (put_then (put_then
    (put_as c.to_le_bytes.ensures c.put.ensures.bytes)
    (put_as c.to_le_bytes-2.ensures c.put-2.ensures.bytes))
    (put_as (c.to_le_bytes-3.ensures ∙ to_le_32 c.args.block.now.height) c.put-3.ensures.bytes))
    (put_as c.to_le_bytes-4.ensures c.put-4.ensures.bytes))
    (put_as c.to_le_bytes-5.ensures c.put-5.ensures.bytes))
    (put_as c.bytes.ensures c.put-6.ensures.bytes)
