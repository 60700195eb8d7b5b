use Rattle.std.proofs.Common.{◌^◌, ◌<◌, arith}
use Rattle.seals.proofs.Words.{fits_in}
use Rattle.seals.proofs.siphash.first_word.Goals as goal

pub overflow_mul-result : goal.overflow_mul-result
overflow_mul-result c =
    let s : c.part_word.result < 256 ^ 7 = fits_in 7 (omega arith) c.part_word.ensures.room in
    omega arith

pub overflow_add-result : goal.overflow_add-result
overflow_add-result c =
    let s : c.part_word.result < 256 ^ 7 = fits_in 7 (omega arith) c.part_word.ensures.room in
    omega arith
