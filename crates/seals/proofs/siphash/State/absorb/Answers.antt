use Rattle.std.proofs.Common.{◌/◌, length, arith}
use Rattle.seals.proofs.Words.{fits_in, words_fold}
use Rattle.seals.proofs.siphash.State.absorb.Goals as goal

pub close-requires : goal.close-requires
close-requires c = fits_in 7 (omega arith) c.part_word.ensures.room

pub returns : goal.returns
returns c = cc (words_fold (length c.args.bytes.now / 8) c.args.self c.args.size c.args.bytes.now)
