-- Where the bodies of the statements lie in the bytes of a message.
use Rattle.std.proofs.Common.{◌≡◌, ℕ, ◌+◌, ◌≤◌, List, [], ◌∷◌, ◌++◌, length, take, drop, Some, Option, refl, ap, ◌∙◌, append_assoc, arith, length-append, take_at, drop_at}
use Rattle.content.specs.Kinds.{Kind}
use Rattle.content.proofs.Numbers.{length-spell}
use Rattle.wire.specs.Lawful.{LawfulBlock, LawfulParts}
use Rattle.wire.specs.Layout.{block_bytes, body_bytes, message_bytes}
use Rattle.wire.specs.Meaning.{Slice, plain, plain_certificate, plain_parent}
use Rattle.blocks.specs.declared.block.Block.{Block}
use Rattle.wire.specs.declared.message.Certificate.{Certificate}
use Rattle.wire.specs.declared.message.Parts.{Parts}
use Rattle.wire.specs.declared.message.Parts.TheVariants.{Proposal, Vote, Certified}

pub record Lies (at len : ℕ) (xs mid : List ℕ) : Type 0 where
  pub is : take len (drop at xs) ≡ mid
  pub within : at + len ≤ length xs

lies : (front mid back xs : List ℕ) (at len : ℕ) → front ++ (mid ++ back) ≡ xs → length front ≡ at → length mid ≡ len → Lies at len xs mid
lies front mid back xs at len e f m =
    let all : length front + (length mid + length back) ≡ length xs = simp length-append at (ap length e) in
    record {
      is = rw (← e, drop_at front (mid ++ back) at f) (take_at mid back len m);
      within = omega arith;
    }

module _ {L : ℕ} {R : Type 0} (k : Kind L R) (S n : ℕ) where
  block-length : (b : Block R) → LawfulBlock k b → length (block_bytes k b) ≡ 12 + L
  block-length b h =
      let sized : length (k.shown b.content) ≡ L = k.sized (k.shown b.content) b.content h.content in
      simp (length-append, length-spell) (omega arith)

  pub proposal-lies : (b : Block R) (seal : List ℕ) (parent : Option (Certificate R (List ℕ))) (xs : List ℕ)
      → message_bytes k (Proposal b seal parent) ≡ xs → LawfulParts k S n (Proposal b seal parent) → Lies 1 (12 + L) xs (block_bytes k b)
  proposal-lies b seal parent xs e h = lies (1 ∷ []) (block_bytes k b) _ xs 1 (12 + L) e refl (block-length b h.0)

  pub parent-lies : (b : Block R) (seal : List ℕ) (parent : Option (Certificate R Slice)) (c : Certificate R Slice) (xs : List ℕ) → parent ≡ Some c
      → message_bytes k (Proposal b seal (plain_parent parent)) ≡ xs → LawfulParts k S n (Proposal b seal (plain_parent parent))
      → Lies (13 + L + S) (12 + L) xs (block_bytes k c.block)
  parent-lies b seal parent c xs p e h =
      let e' : message_bytes k (Proposal b seal (Some (plain_certificate c))) ≡ xs = rw p at e in
      let h' : LawfulParts k S n (Proposal b seal (Some (plain_certificate c))) = rw p at h in
      let own = block-length b h'.0 in
      let both : length (block_bytes k b ++ seal) ≡ length (block_bytes k b) + length seal = length-append (block_bytes k b) seal in
      lies (1 ∷ (block_bytes k b ++ seal)) (block_bytes k c.block) _ xs (13 + L + S) (12 + L)
      (ap (λ ys. 1 ∷ ys) (append_assoc (block_bytes k b) seal (body_bytes k (plain_certificate c))) ∙ e')
      (omega (arith, h'.1))
      (block-length c.block h'.2.1.0)

  pub vote-lies : (m : Parts R Slice) (seat : ℕ) (b : Block R) (seal : Slice) (xs : List ℕ) → m ≡ Vote seat b seal
      → message_bytes k (plain m) ≡ xs → LawfulParts k S n (plain m) → Lies 2 (12 + L) xs (block_bytes k b)
  vote-lies m seat b seal xs p e h =
      let e' : message_bytes k (plain (Vote seat b seal)) ≡ xs = rw p at e in
      let h' : LawfulParts k S n (plain (Vote seat b seal)) = rw p at h in
      lies (2 ∷ (seat ∷ [])) (block_bytes k b) _ xs 2 (12 + L) e' refl (block-length b h'.1)

  pub certified_lies : (m : Parts R Slice) (c : Certificate R Slice) (xs : List ℕ) → m ≡ Certified c
      → message_bytes k (plain m) ≡ xs → LawfulParts k S n (plain m) → Lies 1 (12 + L) xs (block_bytes k c.block)
  certified_lies m c xs p e h =
      let e' : message_bytes k (plain (Certified c)) ≡ xs = rw p at e in
      let h' : LawfulParts k S n (plain (Certified c)) = rw p at h in
      lies (4 ∷ []) (block_bytes k c.block) _ xs 1 (12 + L) e' refl (block-length c.block h'.0)
