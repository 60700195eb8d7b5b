use Rattle.std.proofs.Common.{◌≡◌, ◌∷◌, ◌<◌, ◌/◌, length, get_or, Some, rules, sym, ap}
use Rattle.std.specs.Simd.{first_chunks}
use Rattle.seals.specs.House.{seal_under, house_seal, is_seal}
use Rattle.seals.proofs.Keys.{keyed}
use Rattle.seals.proofs.house.HouseSeals.sign.Goals as goal

pub returns : goal.returns
returns c =
    let b : c.args.seat < length c.args.self.now.keys.now / 16 = search rules in
    let k : c.in_ok-key.key.now ≡ get_or (first_chunks 16 (length c.args.self.now.keys.now / 16) c.args.self.now.keys.now) c.args.seat c.in_ok-key.key.now = search rules in
    let s : c.to_le_bytes.result ≡ seal_under c.in_ok-key.key.now (c.args.tag ∷ c.args.body.now) = search rules in
    let e : Some c.to_le_bytes.result ≡ house_seal c.args.self.now.keys.now c.args.seat (c.args.tag ∷ c.args.body.now) =
    rw s (keyed c.args.self.now.keys.now _ _ _ c.args.seat b k) in
    record { seal = e; alone = ap is_seal (sym e) }
