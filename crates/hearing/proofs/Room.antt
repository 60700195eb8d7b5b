-- That what a lawful message makes the seat write has room in an outbox of 1,024 bytes.
use Rattle.std.proofs.Common.{◌≡◌, ℕ, ◌*◌, ◌≤◌, true, List, length, Some, None, Option, mul-le-mul, arith}
use Rattle.std.proofs.lemmas.Bool.Decides.{nat_tests}
use Rattle.content.specs.Kinds.{Kind}
use Rattle.rota.specs.Limits.{seats_lawful}
use Rattle.blocks.specs.Masks.{quorum}
use Rattle.blocks.specs.declared.block.Block.{Block}
use Rattle.wire.specs.Lawful.{LawfulParent}
use Rattle.wire.specs.Writing.{parent_size}
use Rattle.wire.specs.declared.message.Certificate.{Certificate}

pub seats-few : (n : ℕ) → seats_lawful n ≡ true → n ≤ 15
seats-few n h = grind (arith, nat_tests)

pub quorum-small : (n : ℕ) → seats_lawful n ≡ true → quorum n ≤ 8
quorum-small n h = let b : n ≤ 15 = seats-few n h in omega arith

pub row_small : (n S : ℕ) → seats_lawful n ≡ true → S ≤ 64 → quorum n * S ≤ 512
row_small n S h s = mul-le-mul (quorum-small n h) s

module _ {L : ℕ} {R : Type 0} (k : Kind L R) (S n : ℕ) (b : Block R) where
  pub parent-small : seats_lawful n ≡ true → S ≤ 64 → (parent : Option (Certificate R (List ℕ))) → LawfulParent k S n b parent → parent_size L parent ≤ 590
  parent-small h s None l = omega arith
  parent-small h s (Some c) l =
      let q : quorum n * S ≤ 512 = row_small n S h s in
      let r : length c.seals ≡ quorum n * S = l.1.1.row in
      let w : L ≤ 64 = k.high in
      omega arith
