use Rattle.std.proofs.Common.{◌≡◌, ◌^◌, ◌<◌, length, arith}
use Rattle.content.specs.Numbers.{number, number-below}
use Rattle.seals.proofs.Words.{zeros_behind}
use Rattle.seals.proofs.siphash.part_word.Goals as goal

pub returns : goal.returns
returns c =
    let v : c.whole_word.result ≡ number c.args.bytes.now = cc (zeros_behind c.args.bytes.now 8 (length c.args.bytes.now)) in
    let b : number c.args.bytes.now < 256 ^ length c.args.bytes.now = number-below c.args.bytes.now (λ i. omega (arith, c.type_inv.bytes i)) in
    record { value = v; room = omega arith }
