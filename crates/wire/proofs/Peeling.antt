-- Reading goes on behind the fields that were taken.
use Rattle.std.proofs.Common.{◌≡◌, ℕ, ◌+◌, Bool, true, false, cond, eqb, List, [], ◌∷◌, length, Some, Ok, Err, Result, ◌≢◌, sym, refl, ap, ◌∙◌, add-zero}
use Rattle.std.proofs.lemmas.Bool.{ne_eqb, cond-false}
use Rattle.content.specs.Kinds.{Kind}
use Rattle.content.specs.declared.refusal.Refusal.{Refusal}
use Rattle.content.specs.declared.refusal.Refusal.TheVariants.{UnknownKind, WrongParent}
use Rattle.blocks.specs.declared.block.Block.{Block}
use Rattle.wire.specs.declared.message.Parts.{Parts}
use Rattle.wire.specs.declared.message.Parts.TheVariants.{Proposal, Vote}
use Rattle.wire.specs.Reading.{next, peel, peel_seat, peel_block, peel_body, ended, is_parent, read_proposal, read_vote, read_kind, read_parts, peel_number}
use Rattle.wire.specs.Meaning.{Slice, plain, plainly}
use Rattle.wire.specs.Kinds.{kind_of, read_as}
use Rattle.wire.proofs.Steps.{next_forth, peel_forth}

next_twice : {X Y Z : Type 0} (r : Result X Refusal) (f : X → Result Y Refusal) (g : Y → Result Z Refusal)
    → next (next r f) g ≡ next r (λ x. next (f x) g)
next_twice (Ok x) f g = refl
next_twice (Err e) f g = refl

module _ {L : ℕ} {R : Type 0} (k : Kind L R) (S n total : ℕ) where
  -- a proposal above height 1, by the certificate that ends it
  pub above : (at at₁ at₂ : ℕ) (xs rest₁ rest₂ seal : List ℕ) (b : Block R) (r : Result (Parts R (List ℕ)) Refusal)
      → Ok (b, rest₁) ≡ peel_block k at xs → Ok (seal, rest₂) ≡ peel S at₁ rest₁ → b.height ≢ 1
      → r ≡ next (next (peel_body k S n at₂ rest₂) (ended (at₂ + length rest₂))) (λ parent.
      cond (is_parent b parent) (Ok (Proposal b seal (Some parent))) (Err (WrongParent at₂)))
      → at ≡ 1 → at₁ ≡ 13 + L → at₂ ≡ 13 + L + S → at₂ + length rest₂ ≡ total
      → r ≡ read_proposal k S n total xs
  above at at₁ at₂ xs rest₁ rest₂ seal b r p q high h a a₁ a₂ t =
      let p' : peel_block k 1 xs ≡ Ok (b, rest₁) = sym (rw a at p) in
      let q' : peel S (13 + L) rest₁ ≡ Ok (seal, rest₂) = sym (rw a₁ at q) in
      let h' = rw (t, a₂) at h in
      sym
      (next_forth _ p' (next_forth _ q'
      (cond-false (eqb b.height 1) _ _ (ne_eqb b.height 1 high) ∙ sym (h' ∙ next_twice (peel_body k S n (13 + L + S) rest₂) (ended total) _))))

  -- a vote, from its block on, by what ends it
  pub vote_from_block : (at at₁ : ℕ) (xs rest : List ℕ) (seat : ℕ) (r : Result (Parts R (List ℕ)) Refusal)
      → Ok (seat, rest) ≡ peel_seat n at xs
      → r ≡ next (peel_block k at₁ rest) (λ block. next (peel S (14 + L) block.1) (λ seal. ended total (Vote seat block.0 seal.0, seal.1)))
      → at ≡ 1 → at₁ ≡ 2
      → r ≡ read_vote k S n total xs
  vote_from_block at at₁ xs rest seat r p h a a₁ =
      let p' : peel_seat n 1 xs ≡ Ok (seat, rest) = sym (rw a at p) in
      let h' = rw a₁ at h in
      h' ∙ sym (next_forth _ p' refl)

-- nothing was left, whatever was read
pub ended_plain : {R : Type 0} (total total' : ℕ) (m : Parts R Slice) (rest : List ℕ) → total ≡ total'
    → plainly (ended total (m, rest)) ≡ ended total' (plain m, rest)
ended_plain total total' m [] e = refl
ended_plain total total' m (x ∷ xs) e = rw e

first_of_five : {X Y : Type 0} (a b c d e : Bool) (v w x y z : X) (none : Refusal) (f : X → Result Y Refusal)
    → next (cond a (Ok v) (cond b (Ok w) (cond c (Ok x) (cond d (Ok y) (cond e (Ok z) (Err none)))))) f
    ≡ cond a (f v) (cond b (f w) (cond c (f x) (cond d (f y) (cond e (f z) (Err none)))))
first_of_five true b c d e v w x y z none f = refl
first_of_five false true c d e v w x y z none f = refl
first_of_five false false true d e v w x y z none f = refl
first_of_five false false false true e v w x y z none f = refl
first_of_five false false false false true v w x y z none f = refl
first_of_five false false false false false v w x y z none f = refl

module _ {L : ℕ} {R : Type 0} (k : Kind L R) (S n : ℕ) where
  kind_chosen : (total byte : ℕ) (rest : List ℕ) → next (kind_of byte) (λ kind. read_as k S n total kind rest) ≡ read_kind k S n total byte rest
  kind_chosen total byte rest =
      first_of_five (eqb byte 1) (eqb byte 2) (eqb byte 3) (eqb byte 4) (eqb byte 5) _ _ _ _ _ UnknownKind (λ kind. read_as k S n total kind rest)

  -- the first byte, its kind, and what the rest is read as
  pub in_steps : (xs : List ℕ) → next (peel_number 1 0 xs) (λ p. next (kind_of p.0) (λ kind. read_as k S n (1 + length p.1) kind p.1)) ≡ read_parts k S n xs
  unfolding read_parts
  in_steps [] = refl
  in_steps (x ∷ xs) =
      next_forth _ (next_forth _ (peel_forth 1 0 (x ∷ []) xs refl) (ap (λ m. Ok (m, xs)) (add-zero x)))
      (kind_chosen (1 + length xs) x xs)
