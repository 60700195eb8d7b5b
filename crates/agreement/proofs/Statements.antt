-- A statement says what it says: its bytes tell its kind and its block.
use Rattle.std.proofs.Common.{◌≡◌, ℕ, ◌/◌, ◌%◌, true, eqb, List, [], ◌++◌, Ok, sym, refl, ap, ◌∙◌, arith}
use Rattle.std.proofs.lemmas.Slice.Eq.{bytes_eq-Decides}
use Rattle.std.proofs.lemmas.Bool.{and_parts, and_from, eqb-true, eq-eqb}
use Rattle.content.specs.Kinds.{Kind}
use Rattle.content.specs.Numbers.{spell}
use Rattle.blocks.specs.Ranks.{same_block, same_rank}
use Rattle.blocks.specs.declared.block.Block.{Block}
use Rattle.blocks.specs.declared.block.Rank.{Rank}
use Rattle.wire.specs.Lawful.{LawfulBlock, TwoBytes}
use Rattle.wire.specs.Layout.{blame_statement, block_bytes, proposal_statement, vote_statement}
use Rattle.wire.specs.Reading.{Read, peel_block}
use Rattle.wire.proofs.Bodies.{block_forth}
use Rattle.shelf.proofs.Ancestry.{same-ranks}
use Rattle.agreement.proofs.Basics.{head-same, ok_same, tail-same}

-- two bytes tell their number
spelt-two : (a b : ℕ) (xs ys : List ℕ) → TwoBytes a → TwoBytes b → spell 2 a ++ xs ≡ spell 2 b ++ ys → (a ≡ b) × (xs ≡ ys)
spelt-two a b xs ys la lb e =
    let e₁ : a % 256 ≡ b % 256 = cc in
    let e₂ : a / 256 % 256 ≡ b / 256 % 256 = cc in
    let e₃ : xs ≡ ys = cc in
    (omega arith, e₃)

module _ {L : ℕ} {R : Type 0} (k : Kind L R) where
  -- the bytes of a lawful block tell the block
  pub bytes_tell : (a b : Block R) → LawfulBlock k a → LawfulBlock k b → block_bytes k a ≡ block_bytes k b → a ≡ b
  bytes_tell a b la lb e =
      let fa : peel_block k 0 (block_bytes k a ++ []) ≡ Ok (a, []) = block_forth k 0 0 0 a [] la in
      let fb : peel_block k 0 (block_bytes k b ++ []) ≡ Ok (b, []) = block_forth k 0 0 0 b [] lb in
      let g : ◌≡◌ {A = Read (Block R)} (Ok (a, [])) (Ok (b, [])) = sym fa ∙ ap (λ xs. peel_block k 0 (xs ++ [])) e ∙ fb in
      ap (λ (p : Block R × List ℕ). p.0) (ok_same g)

  -- and already the numbers of its rank are told, whatever the content
  pub bytes_tell_rank : (a b : Block R) → TwoBytes a.rank.view → TwoBytes a.rank.turn → TwoBytes b.rank.view → TwoBytes b.rank.turn →
      block_bytes k a ≡ block_bytes k b → a.rank ≡ b.rank
  bytes_tell_rank a b va ta vb tb e =
      let f = spelt-two a.rank.view b.rank.view _ _ va vb e in
      let g = spelt-two a.rank.turn b.rank.turn _ _ ta tb f.1 in
      λ i. record { view = f.0 i; turn = g.0 i }

  pub vote-tells : (a b : Block R) → LawfulBlock k a → LawfulBlock k b → vote_statement k a ≡ vote_statement k b → a ≡ b
  vote-tells a b la lb e = bytes_tell a b la lb (tail-same e)

  pub proposal-tells : (a b : Block R) → proposal_statement k a ≡ proposal_statement k b → block_bytes k a ≡ block_bytes k b
  proposal-tells a b e = tail-same e

  -- statements of different kinds differ
  pub proposal-no-vote : (a b : Block R) → proposal_statement k a ≡ vote_statement k b → ⊥
  proposal-no-vote a b e = let z : ◌≡◌ {A = ℕ} 1 2 = head-same e in omega arith

  pub blame-no-vote : (v : ℕ) (b : Block R) → blame_statement v ≡ vote_statement k b → ⊥
  blame-no-vote v b e = let z : ◌≡◌ {A = ℕ} 3 2 = head-same e in omega arith

  pub vote-no-proposal : (a b : Block R) → vote_statement k a ≡ proposal_statement k b → ⊥
  vote-no-proposal a b e = proposal-no-vote b a (sym e)

  pub blame-no-proposal : (v : ℕ) (b : Block R) → blame_statement v ≡ proposal_statement k b → ⊥
  blame-no-proposal v b e = let z : ◌≡◌ {A = ℕ} 3 1 = head-same e in omega arith

  -- what the test of blocks says of their numbers
  pub record Alike (a b : Block R) : Type 0 where
    pub rank : a.rank ≡ b.rank
    pub height : a.height ≡ b.height
    pub parent : a.parent ≡ b.parent
    pub shown : k.shown a.content ≡ k.shown b.content

  pub same_alike : (a b : Block R) → same_block k a b ≡ true → Alike a b
  same_alike a b e =
      let p = and_parts (same_rank a.rank b.rank) _ e in
      let q = and_parts (eqb a.height b.height) _ p.1 in
      let r = and_parts (same_rank a.parent b.parent) _ q.1 in
      record {
        rank = same-ranks a.rank b.rank p.0;
        height = eqb-true a.height b.height q.0;
        parent = same-ranks a.parent b.parent r.0;
        shown = (bytes_eq-Decides (k.shown a.content) (k.shown b.content)).0 r.1;
      }

  same_rank_lem : (a : Rank) → same_rank a a ≡ true
  same_rank_lem a = and_from (eqb a.view a.view) (eqb a.turn a.turn) (eq-eqb a.view a.view refl) (eq-eqb a.turn a.turn refl)

  pub same_self : (a : Block R) → same_block k a a ≡ true
  same_self a =
      and_from (same_rank a.rank a.rank) _ (same_rank_lem a.rank)
      (and_from (eqb a.height a.height) _ (eq-eqb a.height a.height refl)
      (and_from (same_rank a.parent a.parent) _ (same_rank_lem a.parent)
      ((bytes_eq-Decides (k.shown a.content) (k.shown a.content)).1 refl)))
