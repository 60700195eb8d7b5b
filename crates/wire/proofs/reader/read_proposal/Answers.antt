use Rattle.std.proofs.Common.{◌+◌, length, arith, rules}
use Rattle.std.proofs.lemmas.Result.{err_from_is_err_and}
use Rattle.wire.proofs.Peeling.{above}
use Rattle.wire.proofs.reader.read_proposal.Goals as goal

pub returns-in_err-parent : goal.returns-in_err-parent
returns-in_err-parent g c =
    let p = err_from_is_err_and c.from_residual-in_err-parent.result c.from_residual-in_err-parent.ensures.1 in
    rw (p.1, p.2)
    (above g.C.Content.kind g.row.S c.args.seats.n (1 + length c.args.src.now.rest.now) _ c.block.new.self.at c.take.new.self.at
    c.args.src.now.rest.now c.block.new.self.rest.now c.take.new.self.rest.now _ _ _
    c.in_ok-block.ensures.value c.in_ok-seal.ensures.value c.if-block-eq1.false (rw (← c.in_err-parent.ensures)) c.requires
    (omega (arith, c.in_ok-block.ensures.moved.offset))
    (omega (arith, c.in_ok-block.ensures.moved.offset, c.in_ok-seal.ensures.moved.offset))
    (omega (arith, c.in_ok-block.ensures.moved.offset, c.in_ok-block.ensures.moved.left, c.in_ok-seal.ensures.moved.offset, c.in_ok-seal.ensures.moved.left)))

pub returns-then-not-is_parent : goal.returns-then-not-is_parent
returns-then-not-is_parent g c =
    rw c.at.ensures
    (above g.C.Content.kind g.row.S c.args.seats.n (1 + length c.args.src.now.rest.now) _ c.block.new.self.at c.take.new.self.at
    c.args.src.now.rest.now c.block.new.self.rest.now c.take.new.self.rest.now _ _ _
    c.in_ok-block.ensures.value c.in_ok-seal.ensures.value c.if-block-eq1.false (rw (← c.in_ok-parent.ensures) (search rules)) c.requires
    (omega (arith, c.in_ok-block.ensures.moved.offset))
    (omega (arith, c.in_ok-block.ensures.moved.offset, c.in_ok-seal.ensures.moved.offset))
    (omega (arith, c.in_ok-block.ensures.moved.offset, c.in_ok-block.ensures.moved.left, c.in_ok-seal.ensures.moved.offset, c.in_ok-seal.ensures.moved.left)))
