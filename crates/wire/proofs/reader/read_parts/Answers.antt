use Rattle.std.proofs.Common.{◌≡◌, ◌∙◌, arith}
use Rattle.std.proofs.lemmas.Result.{err_from_is_err_and}
use Rattle.content.specs.Kinds.{Bytes}
use Rattle.wire.specs.Meaning.{plainly}
use Rattle.wire.specs.Reading.{read_parts}
use Rattle.wire.proofs.Made.{made-back, made-lawful}
use Rattle.wire.proofs.Peeling.{in_steps}
use Rattle.wire.proofs.reader.read_parts.Goals as goal

pub returns-in_err-u8-clause-value : goal.returns-in_err-u8-clause-value
returns-in_err-u8-clause-value g c =
    let k = g.C.Content.kind in
    let p = err_from_is_err_and c.from_residual.result c.from_residual.ensures.1 in
    let first = rw (c.of-src.ensures.at, c.of-src.ensures.rest) at c.in_err-u8.ensures.value in
    rw (p.1, p.2) (rw (← first) at (in_steps k g.row.S c.args.seats.n c.args.bytes.now))

pub returns-in_err-kind-clause-value : goal.returns-in_err-kind-clause-value
returns-in_err-kind-clause-value g c =
    let k = g.C.Content.kind in
    let p = err_from_is_err_and c.from_residual-in_err-kind.result c.from_residual-in_err-kind.ensures.1 in
    let first = rw (c.of-src.ensures.at, c.of-src.ensures.rest) at c.in_ok-u8.ensures.value in
    rw (p.1, p.2) (rw (← first, ← c.in_err-kind.ensures) at (in_steps k g.row.S c.args.seats.n c.args.bytes.now))

pub returns : goal.returns
returns g c =
    let k = g.C.Content.kind in
    let xs = c.args.bytes.now in
    let bytes : Bytes xs = λ i. omega (arith, c.type_inv.bytes i) in
    let r = c.read_as.result in
    let first = rw (c.of-src.ensures.at, c.of-src.ensures.rest) at c.in_ok-u8.ensures.value in
    let e : plainly r ≡ read_parts k g.row.S c.args.seats.n xs =
    c.read_as.ensures ∙ rw (← first, ← c.in_ok-kind.ensures) at (in_steps k g.row.S c.args.seats.n xs) in
    record {
      value = e;
      back = made-back k g.row.S c.args.seats.n xs bytes r e;
      lawful = made-lawful k g.row.S c.args.seats.n xs bytes r e;
    }
