-- One byte form: what reads as a message is what writing that message gives, and a lawful message, written and read,
-- is the same again.
use Rattle.std.proofs.Common.{◌≡◌, ℕ, suc, ◌+◌, cond, eqb, List, [], ◌∷◌, ◌++◌, length, Some, None, Ok, Result, sym, refl, ap, ◌∙◌, append-nil}
use Rattle.std.proofs.lemmas.Bool.{eqb-true, eqb-false, eq-eqb, ne_eqb, cond-true, cond-false}
use Rattle.content.specs.Kinds.{Kind, Bytes}
use Rattle.content.specs.Numbers.{spell}
use Rattle.content.specs.declared.refusal.Refusal.{Refusal}
use Rattle.content.specs.declared.refusal.Refusal.TheVariants.{UnknownKind, WrongParent, Short}
use Rattle.wire.specs.Lawful.{LawfulBlock, LawfulBody, LawfulParts}
use Rattle.wire.specs.Layout.{block_bytes, body_bytes, message_bytes}
use Rattle.blocks.specs.Masks.{quorum}
use Rattle.wire.specs.Reading.{peel, peel_number, peel_seat, peel_mask, peel_seals, peel_block, peel_body, ended, is_parent, proposal_of, read_proposal, read_vote, read_blame, read_certified, read_notice, read_kind, read_parts}
use Rattle.blocks.specs.declared.block.Block.{Block}
use Rattle.wire.specs.declared.message.Certificate.{Certificate}
use Rattle.wire.specs.declared.message.Parts.{Parts}
use Rattle.wire.specs.declared.message.Parts.TheVariants.{Proposal, Vote, Blame, Certified, Notice}
use Rattle.wire.proofs.Steps.{Gives, gives_ok, gives_err, gives_next, gives_if, gives_either, next_forth, peel-back, peel_forth, number-back, number_forth}
use Rattle.wire.proofs.Bodies.{seat-back, seat_forth, mask_back, mask_forth, seals_back, seals_forth, block_back, block_forth, body_back, body_forth}

-- nothing was left
gives_ended : {X : Type 0} (Q : X → Type 0) (total : ℕ) (p : X × List ℕ) → (p.1 ≡ [] → Q p.0) → Gives (ended total p) Q
gives_ended Q total (x, []) h = gives_ok Q x (h refl)
gives_ended Q total (x, y ∷ ys) h = gives_err Q _

-- the parts of a message, from the last that was read to the first
last-two : (a b rest r xs : List ℕ) → a ++ r ≡ xs → b ++ rest ≡ r → rest ≡ [] → a ++ b ≡ xs
last-two a b rest r xs h₁ h₂ e =
    let l : b ++ [] ≡ b = append-nil b in
    let f : b ≡ r = sym l ∙ ap (λ z. b ++ z) (sym e) ∙ h₂ in
    rw f h₁

last-three : (a b c rest r₂ r₁ xs : List ℕ) → a ++ r₁ ≡ xs → b ++ r₂ ≡ r₁ → c ++ rest ≡ r₂ → rest ≡ [] → a ++ (b ++ c) ≡ xs
last-three a b c rest r₂ r₁ xs h₁ h₂ h₃ e =
    let f : b ++ c ≡ r₁ = last-two b c rest r₂ r₁ h₂ h₃ e in
    rw f h₁

last_one : (a rest xs : List ℕ) → a ++ rest ≡ xs → rest ≡ [] → a ≡ xs
last_one a rest xs h e = sym (append-nil a) ∙ ap (λ z. a ++ z) (sym e) ∙ h

next-two : (a b c r₂ r₁ xs : List ℕ) → a ++ r₁ ≡ xs → b ++ r₂ ≡ r₁ → c ≡ r₂ → a ++ (b ++ c) ≡ xs
next-two a b c r₂ r₁ xs h₁ h₂ e = cc

module _ {L : ℕ} {R : Type 0} (k : Kind L R) (S n : ℕ) where
  abbrev pub Whole : List ℕ → Parts R (List ℕ) → Type 0
  Whole xs m = (message_bytes k m ≡ xs) × LawfulParts k S n m

  abbrev Ended : List ℕ → Certificate R (List ℕ) → Type 0
  Ended xs c = (body_bytes k c ≡ xs) × LawfulBody k S n c

  proposal_of_lem : (total : ℕ) (b : Block R) (seal rest r₁ xs : List ℕ) → LawfulBlock k b → Bytes rest → length seal ≡ S
      → block_bytes k b ++ r₁ ≡ xs → seal ++ rest ≡ r₁ → Gives (proposal_of k S n total b seal rest) (Whole (1 ∷ xs))
  proposal_of_lem total b seal rest r₁ xs lawful bytes sized back sealed =
      gives_either (eqb b.height 1) _ _
      (λ low. gives_ended (Whole (1 ∷ xs)) total (Proposal b seal None, rest) (λ end.
      let f : block_bytes k b ++ (seal ++ []) ≡ xs =
      rw (append-nil seal) (last-two (block_bytes k b) seal rest r₁ xs back sealed end) in
      (ap (λ ys. 1 ∷ ys) f, (lawful, sized, eqb-true b.height 1 low))))
      (λ high.
      gives_next (peel_body k S n (13 + L + S) rest) _ (body_back k S n (13 + L + S) rest bytes) (λ c found.
      gives_next (ended total c) _ (gives_ended (Ended rest) total c (λ end. (last_one (body_bytes k c.0) c.1 rest found.back end, found.lawful)))
      (λ parent whole.
      gives_if (is_parent b parent) _ (WrongParent (13 + L + S)) (λ names.
      gives_ok (Whole (1 ∷ xs)) _ (
        ap (λ ys. 1 ∷ ys) (next-two (block_bytes k b) seal (body_bytes k parent) rest r₁ xs back sealed whole.0),
        (lawful, sized, (eqb-false b.height 1 high, whole.1, names)),
      )))))

  proposal-back : (total : ℕ) (xs : List ℕ) → Bytes xs → Gives (read_proposal k S n total xs) (Whole (1 ∷ xs))
  proposal-back total xs h =
      gives_next (peel_block k 1 xs) _ (block_back k S n 1 xs h) (λ block b.
      gives_next (peel S (13 + L) block.1) _ (peel-back S (13 + L) block.1 b.rest) (λ seal s.
      proposal_of_lem total block.0 seal.0 seal.1 block.1 xs b.lawful s.rest s.sized b.back s.back))

  vote-back : (total : ℕ) (xs : List ℕ) → Bytes xs → Gives (read_vote k S n total xs) (Whole (2 ∷ xs))
  vote-back total xs h =
      gives_next (peel_seat n 1 xs) _ (seat-back n 1 xs h) (λ seat i.
      gives_next (peel_block k 2 seat.1) _ (block_back k S n 2 seat.1 i.rest) (λ block b.
      gives_next (peel S (14 + L) block.1) _ (peel-back S (14 + L) block.1 b.rest) (λ seal s.
      gives_ended (Whole (2 ∷ xs)) total (Vote seat.0 block.0 seal.0, seal.1) (λ end.
      let f : block_bytes k block.0 ++ seal.0 ≡ seat.1 = last-two (block_bytes k block.0) seal.0 seal.1 block.1 seat.1 b.back s.back end in
      (ap (λ ys. 2 ∷ (seat.0 ∷ ys)) f ∙ ap (λ ys. 2 ∷ ys) i.back, (i.lawful, b.lawful, s.sized))))))

  blame-back : (total : ℕ) (xs : List ℕ) → Bytes xs → Gives (read_blame k S n total xs) (Whole (3 ∷ xs))
  blame-back total xs h =
      gives_next (peel_seat n 1 xs) _ (seat-back n 1 xs h) (λ seat i.
      gives_next (peel_number 2 2 seat.1) _ (number-back 2 2 seat.1 i.rest) (λ view v.
      gives_next (peel S 4 view.1) _ (peel-back S 4 view.1 v.rest) (λ seal s.
      gives_ended (Whole (3 ∷ xs)) total (Blame seat.0 view.0 seal.0, seal.1) (λ end.
      let f : spell 2 view.0 ++ seal.0 ≡ seat.1 = last-two (spell 2 view.0) seal.0 seal.1 view.1 seat.1 v.back s.back end in
      (ap (λ ys. 3 ∷ (seat.0 ∷ ys)) f ∙ ap (λ ys. 3 ∷ ys) i.back, (i.lawful, v.range, s.sized))))))

  certified_back : (total : ℕ) (xs : List ℕ) → Bytes xs → Gives (read_certified k S n total xs) (Whole (4 ∷ xs))
  certified_back total xs h =
      gives_next (peel_body k S n 1 xs) _ (body_back k S n 1 xs h) (λ c found.
      gives_next (ended total c) _ (gives_ended (Ended xs) total c (λ end. (last_one (body_bytes k c.0) c.1 xs found.back end, found.lawful)))
      (λ body whole. gives_ok (Whole (4 ∷ xs)) _ (ap (λ ys. 4 ∷ ys) whole.0, whole.1)))

  notice-back : (total : ℕ) (xs : List ℕ) → Bytes xs → Gives (read_notice k S n total xs) (Whole (5 ∷ xs))
  notice-back total xs h =
      gives_next (peel_number 2 1 xs) _ (number-back 2 1 xs h) (λ view v.
      gives_next (peel_mask n 3 view.1) _ (mask_back n 3 view.1 v.rest) (λ mask m.
      gives_next (peel_seals S (quorum n) 5 mask.1) _ (seals_back S (quorum n) 5 mask.1 m.rest) (λ seals s.
      gives_ended (Whole (5 ∷ xs)) total (Notice view.0 mask.0 seals.0, seals.1) (λ end. (
        ap (λ ys. 5 ∷ ys) (last-three (spell 2 view.0) (spell 2 mask.0) seals.0 seals.1 mask.1 view.1 xs v.back m.back s.back end),
        (v.range, record { range = m.range; seats = m.lawful; row = s.sized }),
      )))))

  -- the first byte chooses
  kind_of_lem : (total i kind : ℕ) (xs : List ℕ) (r s : Result (Parts R (List ℕ)) Refusal) → Gives r (Whole (i ∷ xs)) → Gives s (Whole (kind ∷ xs))
      → Gives (cond (eqb kind i) r s) (Whole (kind ∷ xs))
  kind_of_lem total i kind xs r s f g =
      gives_either (eqb kind i) r s (λ e. let q : kind ≡ i = eqb-true kind i e in rw q f) (λ _. g)

  kind_back : (total kind : ℕ) (xs : List ℕ) → Bytes xs → Gives (read_kind k S n total kind xs) (Whole (kind ∷ xs))
  kind_back total kind xs h =
      kind_of_lem total 1 kind xs _ _ (proposal-back total xs h)
      (kind_of_lem total 2 kind xs _ _ (vote-back total xs h)
      (kind_of_lem total 3 kind xs _ _ (blame-back total xs h)
      (kind_of_lem total 4 kind xs _ _ (certified_back total xs h)
      (kind_of_lem total 5 kind xs _ _ (notice-back total xs h) (gives_err (Whole (kind ∷ xs)) UnknownKind)))))

  pub read_back : (xs : List ℕ) → Bytes xs → Gives (read_parts k S n xs) (Whole xs)
  unfolding read_parts
  read_back [] h = gives_err (Whole []) (Short 0)
  read_back (x ∷ xs) h = kind_back (1 + length xs) x xs (λ i. h (suc i))

  -- what reads as a message is what writing that message gives
  pub one_form_back : (xs : List ℕ) (m : Parts R (List ℕ)) → Bytes xs → read_parts k S n xs ≡ Ok m → message_bytes k m ≡ xs
  one_form_back xs m h e = (read_back xs h m e).0

  -- and it keeps the layout
  pub lawful-from_read : (xs : List ℕ) (m : Parts R (List ℕ)) → Bytes xs → read_parts k S n xs ≡ Ok m → LawfulParts k S n m
  lawful-from_read xs m h e = (read_back xs h m e).1

  -- the last field of a message has nothing behind it
  at-end : {X : Type 0} (f : List ℕ → X) (xs : List ℕ) → f xs ≡ f (xs ++ [])
  at-end f xs = ap f (sym (append-nil xs))

  proposal_forth : (total : ℕ) (b : Block R) (seal rest : List ℕ) (z : Result (Parts R (List ℕ)) Refusal) → LawfulBlock k b → length seal ≡ S
      → proposal_of k S n total b seal rest ≡ z → read_proposal k S n total (block_bytes k b ++ (seal ++ rest)) ≡ z
  proposal_forth total b seal rest z lawful sized h =
      next_forth _ (block_forth k S n 1 b (seal ++ rest) lawful) (next_forth _ (peel_forth S (13 + L) seal rest sized) h)

  -- a lawful message, written and read, is the same message
  pub one_form_forth : (m : Parts R (List ℕ)) → LawfulParts k S n m → read_parts k S n (message_bytes k m) ≡ Ok m
  unfolding read_parts
  one_form_forth (Proposal b seal None) h =
      let total : ℕ = 1 + length (block_bytes k b ++ (seal ++ [])) in
      proposal_forth total b seal [] _ h.0 h.1 (cond-true (eqb b.height 1) _ _ (eq-eqb b.height 1 h.2))
  one_form_forth (Proposal b seal (Some c)) h =
      let total : ℕ = 1 + length (block_bytes k b ++ (seal ++ body_bytes k c)) in
      proposal_forth total b seal (body_bytes k c) _ h.0 h.1
      (cond-false (eqb b.height 1) _ _ (ne_eqb b.height 1 h.2.0)
      ∙ next_forth _ (at-end (λ xs. peel_body k S n (13 + L + S) xs) (body_bytes k c) ∙ body_forth k S n (13 + L + S) c [] h.2.1)
      (cond-true (is_parent b c) _ _ h.2.2))
  one_form_forth (Vote seat b seal) h =
      next_forth _ (seat_forth n 1 seat (block_bytes k b ++ seal) h.0)
      (next_forth _ (block_forth k S n 2 b seal h.1)
      (next_forth _ (at-end (λ xs. peel S (14 + L) xs) seal ∙ peel_forth S (14 + L) seal [] h.2) refl))
  one_form_forth (Blame seat view seal) h =
      next_forth _ (seat_forth n 1 seat (spell 2 view ++ seal) h.0)
      (next_forth _ (number_forth 2 2 view seal h.1)
      (next_forth _ (at-end (λ xs. peel S 4 xs) seal ∙ peel_forth S 4 seal [] h.2) refl))
  one_form_forth (Certified c) h =
      next_forth _ (at-end (λ xs. peel_body k S n 1 xs) (body_bytes k c) ∙ body_forth k S n 1 c [] h) refl
  one_form_forth (Notice view mask seals) h =
      next_forth _ (number_forth 2 1 view (spell 2 mask ++ seals) h.0)
      (next_forth _ (mask_forth n 3 mask seals h.1.range h.1.seats)
      (next_forth _ (at-end (λ xs. peel_seals S (quorum n) 5 xs) seals ∙ seals_forth S (quorum n) 5 seals [] h.1.row) refl))

  -- two different strings of bytes are never one message
  pub one_form_apart : (xs ys : List ℕ) (m : Parts R (List ℕ)) → Bytes xs → Bytes ys → read_parts k S n xs ≡ Ok m → read_parts k S n ys ≡ Ok m
      → xs ≡ ys
  one_form_apart xs ys m h i e f = sym (one_form_back xs m h e) ∙ one_form_back ys m i f
