use Rattle.std.proofs.Common.{◌≡◌, ◌+◌, length, arith}
use Rattle.std.proofs.lemmas.Result.{err_from_is_err_and}
use Rattle.wire.proofs.Peeling.{vote_from_block, ended_plain}
use Rattle.wire.proofs.reader.read_as.Goals as goal

pub returns-in_err-block-in-Vote : goal.returns-in_err-block-in-Vote
returns-in_err-block-in-Vote g c =
    let p = err_from_is_err_and c.from_residual-in_err-block-in-Vote.result c.from_residual-in_err-block-in-Vote.ensures.1 in
    rw (p.1, p.2, c.in-Vote.is)
    (vote_from_block g.C.Content.kind g.row.S c.args.seats.n (1 + length c.args.src.now.rest.now) c.args.src.now.at c.seat.new.self.at
    c.args.src.now.rest.now c.seat.new.self.rest.now _ _ c.in_ok-seat-in-Vote.ensures.value (rw (← c.in_err-block-in-Vote.ensures.value))
    c.requires (omega (arith, c.in_ok-seat-in-Vote.ensures.moved.offset)))

pub returns-in_ok-seal-in-Vote : goal.returns-in_ok-seal-in-Vote
returns-in_ok-seal-in-Vote g c =
    let at₂ : c.block.new.self.at ≡ 14 + g.row.L =
    omega (arith, c.in_ok-seat-in-Vote.ensures.moved.offset, c.in_ok-block-in-Vote.ensures.moved.offset) in
    let total : c.take.new.self.at + length c.take.new.self.rest.now ≡ 1 + length c.args.src.now.rest.now =
    omega (
      arith,
      c.in_ok-seat-in-Vote.ensures.moved.offset,
      c.in_ok-seat-in-Vote.ensures.moved.left,
      c.in_ok-block-in-Vote.ensures.moved.offset,
      c.in_ok-block-in-Vote.ensures.moved.left,
      c.in_ok-seal-in-Vote.ensures.moved.offset,
      c.in_ok-seal-in-Vote.ensures.moved.left,
    ) in
    let seal = rw at₂ at c.in_ok-seal-in-Vote.ensures.value in
    rw (c.end.ensures, c.in-Vote.is)
    (vote_from_block g.C.Content.kind g.row.S c.args.seats.n (1 + length c.args.src.now.rest.now) c.args.src.now.at c.seat.new.self.at
    c.args.src.now.rest.now c.seat.new.self.rest.now _ _ c.in_ok-seat-in-Vote.ensures.value
    (rw (← c.in_ok-block-in-Vote.ensures.value, ← seal) (ended_plain _ _ _ _ total))
    c.requires (omega (arith, c.in_ok-seat-in-Vote.ensures.moved.offset)))
