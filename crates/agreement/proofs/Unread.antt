-- A message that is not read, or whose seals are not good, is refused by a number below 9.
use Rattle.std.proofs.Common.{ℕ, zero, suc, ◌+◌, ◌-◌, ◌<◌, Bool, cond, eqb, ltb, List, [], ◌∷◌, length, drop, Some, None, Ok, Err, Option, Result, refl, arith}
use Rattle.content.specs.Kinds.{Kind}
use Rattle.content.specs.Refusals.{number_of}
use Rattle.content.specs.declared.refusal.Refusal.{Refusal}
use Rattle.content.specs.declared.refusal.Refusal.TheVariants.{BadLayout, BadSeal, NoContent, Short, Trailing, UnknownKind, WrongParent}
use Rattle.blocks.specs.Masks.{lawful_mask, quorum}
use Rattle.wire.specs.Asked.{Question, judge}
use Rattle.wire.specs.Layout.{lawful_numbers}
use Rattle.wire.specs.Reading.{content_of, ended, is_parent, next, peel, peel_block, peel_body, peel_content, peel_mask, peel_number, peel_seals, peel_seat, read_blame, read_certified, read_notice, read_parts, read_proposal, read_vote, seals_fit}
use Rattle.wire.specs.declared.message.Parts.TheVariants.{Proposal, Vote, Blame, Notice}
use Rattle.agreement.proofs.Carried.{Denies, denies_either, denies_err, denies_ok}

-- refusals of reading and of seals
abbrev pub Unread : Refusal → Type 0
Unread x = number_of x < 9

fails : {X : Type 0} (y : Refusal) → Unread y → Denies {X = X} (Err y) Unread
fails y h = denies_err Unread y h

denies_next : {X Y : Type 0} (r : Result X Refusal) (f : X → Result Y Refusal) → Denies r Unread → ((x : X) → Denies (f x) Unread) → Denies (next r f) Unread
denies_next (Ok x) f h g = g x
denies_next (Err e) f h g = fails e (h e refl)

either : {X : Type 0} (b : Bool) (r s : Result X Refusal) → Denies r Unread → Denies s Unread → Denies (cond b r s) Unread
either b r s f g = denies_either {Q = Unread} b r s (λ _. f) (λ _. g)

unread-peel : (k at : ℕ) (xs : List ℕ) → Denies (peel k at xs) Unread
unread-peel k at xs = either (ltb (length xs) k) _ _ (fails (Short at) (omega arith)) (denies_ok Unread _)

unread-number : (k at : ℕ) (xs : List ℕ) → Denies (peel_number k at xs) Unread
unread-number k at xs = denies_next (peel k at xs) _ (unread-peel k at xs) (λ p. denies_ok Unread _)

unread-seat : (n at : ℕ) (xs : List ℕ) → Denies (peel_seat n at xs) Unread
unread-seat n at xs = denies_next (peel_number 1 at xs) _ (unread-number 1 at xs) (λ p. either (ltb p.0 n) _ _ (denies_ok Unread p) (fails (BadLayout at) (omega arith)))

unread_mask : (n at : ℕ) (xs : List ℕ) → Denies (peel_mask n at xs) Unread
unread_mask n at xs = denies_next (peel_number 2 at xs) _ (unread-number 2 at xs) (λ p. either (lawful_mask n p.0) _ _ (denies_ok Unread p) (fails (BadLayout at) (omega arith)))

unread_fit : (S count at : ℕ) (xs : List ℕ) → Denies (seals_fit S count at xs) Unread
unfolding seals_fit
unread_fit S zero at xs = denies_ok Unread xs
unread_fit S (suc count) at xs = either (ltb (length xs) S) _ _ (fails (Short at) (omega arith)) (unread_fit S count (at + S) (drop S xs))

unread_seals : (S count at : ℕ) (xs : List ℕ) → Denies (peel_seals S count at xs) Unread
unread_seals S count at xs = denies_next (seals_fit S count at xs) _ (unread_fit S count at xs) (λ rest. denies_ok Unread _)

unread-end : {X : Type 0} (total : ℕ) (p : X × List ℕ) → Denies (ended total p) Unread
unread-end total (x, []) = denies_ok Unread x
unread-end total (x, y ∷ ys) = fails (Trailing (total - length (y ∷ ys))) (omega arith)

module _ {L : ℕ} {R : Type 0} (k : Kind L R) (S n : ℕ) where
  unread-content : (at : ℕ) (xs : List ℕ) → Denies (peel_content k at xs) Unread
  unread-content at xs = denies_next (peel L at xs) _ (unread-peel L at xs) (λ p. by p.1 (k.reads p.0))
    where
      by : (rest : List ℕ) (o : Option R) → Denies (content_of at rest o) Unread
      by rest None = fails (NoContent at) (omega arith)
      by rest (Some r) = denies_ok Unread (r, rest)

  unread-block : (at : ℕ) (xs : List ℕ) → Denies (peel_block k at xs) Unread
  unread-block at xs =
      denies_next (peel_number 2 at xs) _ (unread-number 2 at xs) (λ view.
      denies_next (peel_number 2 (at + 2) view.1) _ (unread-number 2 (at + 2) view.1) (λ turn.
      denies_next (peel_number 4 (at + 4) turn.1) _ (unread-number 4 (at + 4) turn.1) (λ height.
      denies_next (peel_number 2 (at + 8) height.1) _ (unread-number 2 (at + 8) height.1) (λ pview.
      denies_next (peel_number 2 (at + 10) pview.1) _ (unread-number 2 (at + 10) pview.1) (λ pturn.
      either (lawful_numbers view.0 turn.0 height.0 pview.0 pturn.0) _ _
      (denies_next (peel_content k (at + 12) pturn.1) _ (unread-content (at + 12) pturn.1) (λ content. denies_ok Unread _))
      (fails (BadLayout at) (omega arith)))))))

  unread-body : (at : ℕ) (xs : List ℕ) → Denies (peel_body k S n at xs) Unread
  unread-body at xs =
      denies_next (peel_block k at xs) _ (unread-block at xs) (λ block.
      denies_next (peel_mask n (at + 12 + L) block.1) _ (unread_mask n (at + 12 + L) block.1) (λ mask.
      denies_next (peel_seals S (quorum n) (at + 14 + L) mask.1) _ (unread_seals S (quorum n) (at + 14 + L) mask.1) (λ seals. denies_ok Unread _)))

  unread-proposal : (total : ℕ) (xs : List ℕ) → Denies (read_proposal k S n total xs) Unread
  unread-proposal total xs =
      denies_next (peel_block k 1 xs) _ (unread-block 1 xs) (λ block.
      denies_next (peel S (13 + L) block.1) _ (unread-peel S (13 + L) block.1) (λ seal.
      either (eqb block.0.height 1) _ _ (unread-end total (Proposal block.0 seal.0 None, seal.1))
      (denies_next (peel_body k S n (13 + L + S) seal.1) _ (unread-body (13 + L + S) seal.1) (λ c.
      denies_next (ended total c) _ (unread-end total c) (λ parent.
      either (is_parent block.0 parent) _ _ (denies_ok Unread _) (fails (WrongParent (13 + L + S)) (omega arith)))))))

  unread-vote : (total : ℕ) (xs : List ℕ) → Denies (read_vote k S n total xs) Unread
  unread-vote total xs =
      denies_next (peel_seat n 1 xs) _ (unread-seat n 1 xs) (λ seat.
      denies_next (peel_block k 2 seat.1) _ (unread-block 2 seat.1) (λ block.
      denies_next (peel S (14 + L) block.1) _ (unread-peel S (14 + L) block.1) (λ seal. unread-end total (Vote seat.0 block.0 seal.0, seal.1))))

  unread-blame : (total : ℕ) (xs : List ℕ) → Denies (read_blame k S n total xs) Unread
  unread-blame total xs =
      denies_next (peel_seat n 1 xs) _ (unread-seat n 1 xs) (λ seat.
      denies_next (peel_number 2 2 seat.1) _ (unread-number 2 2 seat.1) (λ view.
      denies_next (peel S 4 view.1) _ (unread-peel S 4 view.1) (λ seal. unread-end total (Blame seat.0 view.0 seal.0, seal.1))))

  unread_certified : (total : ℕ) (xs : List ℕ) → Denies (read_certified k S n total xs) Unread
  unread_certified total xs =
      denies_next (peel_body k S n 1 xs) _ (unread-body 1 xs) (λ c. denies_next (ended total c) _ (unread-end total c) (λ body. denies_ok Unread _))

  unread-notice : (total : ℕ) (xs : List ℕ) → Denies (read_notice k S n total xs) Unread
  unread-notice total xs =
      denies_next (peel_number 2 1 xs) _ (unread-number 2 1 xs) (λ view.
      denies_next (peel_mask n 3 view.1) _ (unread_mask n 3 view.1) (λ mask.
      denies_next (peel_seals S (quorum n) 5 mask.1) _ (unread_seals S (quorum n) 5 mask.1) (λ seals. unread-end total (Notice view.0 mask.0 seals.0, seals.1))))

  pub unread : (xs : List ℕ) → Denies (read_parts k S n xs) Unread
  unfolding read_parts
  unread [] = fails (Short 0) (omega arith)
  unread (kind ∷ rest) =
      either (eqb kind 1) _ _ (unread-proposal (1 + length rest) rest)
      (either (eqb kind 2) _ _ (unread-vote (1 + length rest) rest)
      (either (eqb kind 3) _ _ (unread-blame (1 + length rest) rest)
      (either (eqb kind 4) _ _ (unread_certified (1 + length rest) rest)
      (either (eqb kind 5) _ _ (unread-notice (1 + length rest) rest) (fails UnknownKind (omega arith))))))

pub unsealed : (accepts : ℕ → List ℕ → List ℕ → Bool) (qs : List Question) → Denies (judge accepts qs) Unread
unsealed accepts [] = denies_ok Unread tt
unsealed accepts (q ∷ qs) = either (accepts q.seat q.statement q.seal) _ _ (unsealed accepts qs) (fails (BadSeal q.seat) (omega arith))
