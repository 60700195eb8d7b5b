use Rattle.std.proofs.Common.{◌%◌, ◌*◌, ◌^◌, ◌<◌, arith}
use Rattle.std.proofs.lemmas.Bool.{lt-ltb}
use Rattle.blocks.proofs.Ones.{ones_below}
use Rattle.blocks.proofs.masks.lawful_mask.Goals as goal

pub returns-then-mask-get : goal.returns-then-mask-get
returns-then-mask-get c =
    let mask = c.args.mask in
    let n = c.args.seats.n in
    let h : mask < 1 * 2 ^ n % 65536 = rw c.get.ensures at c.if-mask-get.true in
    let l : mask < 2 ^ n = omega arith in
    rw (lt-ltb mask (2 ^ n) l, ones_below mask n l, c.from.ensures, c.quorum.ensures)
