-- How long messages are.
use Rattle.std.proofs.Common.{◌≡◌, ℕ, ◌+◌, ◌*◌, ◌%◌, ◌≤◌, true, ◌&&◌, eqb, leb, List, [], ◌++◌, length, Some, None, ap, ◌∙◌, mul-le-mul, arith, length-append}
use Rattle.std.proofs.lemmas.Bool.{and_parts, leb-true}
use Rattle.content.specs.Kinds.{Kind}
use Rattle.content.specs.Numbers.{spell}
use Rattle.rota.specs.Limits.{seats_lawful}
use Rattle.wire.specs.Laws.{Sized, FitsOutbox, StudioSized}
use Rattle.wire.specs.Lawful.{LawfulBlock}
use Rattle.wire.specs.Layout.{block_bytes, body_bytes}
use Rattle.blocks.specs.Masks.{quorum}
use Rattle.wire.specs.Writing.{body_size}
use Rattle.blocks.specs.declared.block.Block.{Block}
use Rattle.wire.specs.declared.message.Certificate.{Certificate}
use Rattle.wire.specs.declared.message.Parts.TheVariants.{Proposal, Vote, Blame, Certified, Notice}

module _ {L : ℕ} {R : Type 0} (k : Kind L R) where
  length-block : (b : Block R) (rest : List ℕ) → LawfulBlock k b → length (block_bytes k b ++ rest) ≡ 12 + L + length rest
  length-block b rest h =
      let s : length (k.shown b.content) ≡ L = k.sized (k.shown b.content) b.content h.content in
      let a : length (k.shown b.content ++ rest) ≡ L + length rest = length-append (k.shown b.content) rest ∙ ap (λ i. i + length rest) s in
      omega arith

  length-body : (c : Certificate R (List ℕ)) → LawfulBlock k c.block → length (body_bytes k c) ≡ body_size L c
  length-body c h = let b = length-block c.block (spell 2 c.mask ++ c.seals) h in omega (arith, b)

  pub sized : (S : ℕ) → Sized k S
  sized S n (Proposal b seal None) h =
      let e = length-block b (seal ++ []) h.0 in
      let a = length-append {A = ℕ} seal [] in
      omega (arith, e, a)
  sized S n (Proposal b seal (Some c)) h =
      let e = length-block b (seal ++ body_bytes k c) h.0 in
      let a = length-append seal (body_bytes k c) in
      let d = length-body c h.2.1.0 in
      omega (arith, e, a, d)
  sized S n (Vote seat b seal) h = let e = length-block b seal h.1 in omega (arith, e)
  sized S n (Blame seat view seal) h = omega arith
  sized S n (Certified c) h = let e = length-body c h.0 in omega (arith, e)
  sized S n (Notice view mask seals) h = omega arith

  row_small : (S n : ℕ) → S ≤ 64 → seats_lawful n ≡ true → quorum n * S ≤ 512
  row_small S n s h =
      let p = and_parts (leb 3 n) (leb n 15 && eqb (n % 2) 1) h in
      let l : n ≤ 15 = leb-true n 15 (and_parts (leb n 15) (eqb (n % 2) 1) p.1).0 in
      let q : quorum n ≤ 8 = omega arith in
      mul-le-mul q s

  pub fits-outbox : (S : ℕ) → FitsOutbox k S
  fits-outbox S s n (Proposal b seal None) l h = omega (arith, k.high, h.1)
  fits-outbox S s n (Proposal b seal (Some c)) l h = let r = row_small S n s l in omega (arith, k.high, r, h.1, h.2.1.1.row)
  fits-outbox S s n (Vote seat b seal) l h = omega (arith, k.high, h.2)
  fits-outbox S s n (Blame seat view seal) l h = omega (arith, h.2)
  fits-outbox S s n (Certified c) l h = let r = row_small S n s l in omega (arith, k.high, r, h.1.row)
  fits-outbox S s n (Notice view mask seals) l h = let r = row_small S n s l in omega (arith, r, h.1.row)

pub studio_sized : {R : Type 0} (k : Kind 17 R) → StudioSized k
studio_sized k (Proposal b seal None) h = sized k 8 3 (Proposal b seal None) h ∙ omega (arith, h.1)
studio_sized k (Proposal b seal (Some c)) h = sized k 8 3 (Proposal b seal (Some c)) h ∙ omega (arith, h.1, h.2.1.1.row)
studio_sized k (Vote seat b seal) h = sized k 8 3 (Vote seat b seal) h ∙ omega (arith, h.2)
studio_sized k (Blame seat view seal) h = sized k 8 3 (Blame seat view seal) h ∙ omega (arith, h.2)
studio_sized k (Certified c) h = sized k 8 3 (Certified c) h ∙ omega (arith, h.1.row)
studio_sized k (Notice view mask seals) h = sized k 8 3 (Notice view mask seals) h ∙ omega (arith, h.1.row)
