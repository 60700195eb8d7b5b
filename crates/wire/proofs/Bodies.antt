-- Blocks, masks and rows of seals: reading and writing are each other's.
use Rattle.std.proofs.Common.{◌≡◌, ℕ, zero, suc, ◌+◌, ◌-◌, ◌*◌, ◌%◌, ◌<◌, ◌≤◌, true, ltb, List, [], ◌∷◌, ◌++◌, length, drop, Some, None, Ok, Option, sym, refl, ap, ◌∙◌, append_assoc, add-zero, zero-mul, arith, length-append, length-drop, take-append-drop, length-take-le, drop-drop, take_at, drop_at}
use Rattle.std.proofs.lemmas.Bool.{ltb-false, le-ltb, lt-ltb, ltb-true, cond-true, cond-false}
use Rattle.content.specs.Kinds.{Kind, Bytes, Lawful}
use Rattle.content.specs.Numbers.{spell}
use Rattle.content.specs.declared.refusal.Refusal.TheVariants.{BadLayout, Short}
use Rattle.wire.specs.Lawful.{LawfulBlock, LawfulBody, TwoBytes}
use Rattle.wire.specs.Layout.{lawful_numbers, block_bytes, body_bytes}
use Rattle.blocks.specs.Masks.{lawful_mask, quorum}
use Rattle.wire.specs.Reading.{peel, peel_number, peel_seat, peel_mask, seals_fit, peel_seals, content_of, peel_content, peel_block, peel_body}
use Rattle.blocks.specs.declared.block.Block.{Block}
use Rattle.wire.specs.declared.message.Certificate.{Certificate}
use Rattle.wire.proofs.Steps.{Gives, gives_ok, gives_err, gives_next, gives_if, gives_unless, next_forth, Peeled, peel-back, peel_forth, number-back, number_forth, bytes_take, bytes_drop}

-- a seat
pub record SeatFound (n : ℕ) (xs : List ℕ) (p : ℕ × List ℕ) : Type 0 where
  pub lawful : p.0 < n
  pub back : p.0 ∷ p.1 ≡ xs
  pub rest : Bytes p.1

pub seat-back : (n at : ℕ) (xs : List ℕ) → Bytes xs → Gives (peel_seat n at xs) (SeatFound n xs)
seat-back n at xs h =
    gives_next (peel_number 1 at xs) _ (number-back 1 at xs h) (λ p s.
    gives_if (ltb p.0 n) (Ok p) (BadLayout at) (λ t.
    gives_ok (SeatFound n xs) p
    (record {
      lawful = ltb-true p.0 n t;
      back = let e : p.0 % 256 ≡ p.0 = omega (arith, s.range) in ap (λ x. x ∷ p.1) (sym e) ∙ s.back;
      rest = s.rest;
    })))

pub seat_forth : (n at seat : ℕ) (rest : List ℕ) → seat < n → peel_seat n at (seat ∷ rest) ≡ Ok (seat, rest)
seat_forth n at seat rest h =
    next_forth _ (next_forth _ (peel_forth 1 at (seat ∷ []) rest refl) (ap (λ m. Ok (m, rest)) (add-zero seat)))
    (cond-true (ltb seat n) _ _ (lt-ltb seat n h))

-- a set of seats
pub record MaskFound (n : ℕ) (xs : List ℕ) (p : ℕ × List ℕ) : Type 0 where
  pub range : TwoBytes p.0
  pub lawful : lawful_mask n p.0 ≡ true
  pub back : spell 2 p.0 ++ p.1 ≡ xs
  pub rest : Bytes p.1

pub mask_back : (n at : ℕ) (xs : List ℕ) → Bytes xs → Gives (peel_mask n at xs) (MaskFound n xs)
mask_back n at xs h =
    gives_next (peel_number 2 at xs) _ (number-back 2 at xs h) (λ p s.
    gives_if (lawful_mask n p.0) (Ok p) (BadLayout at) (λ t.
    gives_ok (MaskFound n xs) p (record { range = s.range; lawful = t; back = s.back; rest = s.rest })))

pub mask_forth : (n at mask : ℕ) (rest : List ℕ) → TwoBytes mask → lawful_mask n mask ≡ true
    → peel_mask n at (spell 2 mask ++ rest) ≡ Ok (mask, rest)
mask_forth n at mask rest h l =
    next_forth _ (number_forth 2 at mask rest h) (cond-true (lawful_mask n mask) _ _ l)

-- seals in a row
pub fit_back : (S count at : ℕ) (xs : List ℕ)
    → Gives (seals_fit S count at xs) (λ rest. (count * S ≤ length xs) × (rest ≡ drop (count * S) xs))
unfolding seals_fit
fit_back S zero at xs =
    let z : 0 * S ≡ 0 = zero-mul S in
    λ rest e. let r : rest ≡ xs = cc in (omega arith, rw z r)
fit_back S (suc count) at xs =
    gives_unless (ltb (length xs) S) (seals_fit S count (at + S) (drop S xs)) (Short at) (λ l rest e.
    let one : S ≤ length xs = ltb-false (length xs) S l in
    let more = fit_back S count (at + S) (drop S xs) rest e in
    let all : suc count * S ≡ S + count * S = omega arith in
    let left : length (drop S xs) ≡ length xs - S = length-drop S xs in
    (omega (arith, more.0), rw all (more.1 ∙ drop-drop (count * S) S xs)))

fit_forth : (S count at : ℕ) (xs : List ℕ) → count * S ≤ length xs → seals_fit S count at xs ≡ Ok (drop (count * S) xs)
unfolding seals_fit
fit_forth S zero at xs h = let z : 0 * S ≡ 0 = zero-mul S in rw z
fit_forth S (suc count) at xs h =
    let all : suc count * S ≡ S + count * S = omega arith in
    let left : length (drop S xs) ≡ length xs - S = length-drop S xs in
    let more = fit_forth S count (at + S) (drop S xs) (omega arith) in
    cond-false (ltb (length xs) S) _ _ (le-ltb (length xs) S (omega arith))
    ∙ more ∙ ap (λ ys. Ok ys) (drop-drop (count * S) S xs) ∙ ap (λ i. Ok (drop i xs)) (sym all)

pub seals_back : (S count at : ℕ) (xs : List ℕ) → Bytes xs → Gives (peel_seals S count at xs) (Peeled (count * S) xs)
seals_back S count at xs h =
    gives_next (seals_fit S count at xs) _ (fit_back S count at xs) (λ rest f.
    gives_ok (Peeled (count * S) xs) _
    (record {
      sized = length-take-le (count * S) xs f.0;
      back = rw f.1 (take-append-drop (count * S) xs);
      bytes = bytes_take (count * S) xs h;
      rest = rw f.1 (bytes_drop (count * S) xs h);
    }))

pub seals_forth : (S count at : ℕ) (row rest : List ℕ) → length row ≡ count * S → peel_seals S count at (row ++ rest) ≡ Ok (row, rest)
seals_forth S count at row rest h =
    let l : count * S ≤ length (row ++ rest) = simp length-append (omega arith) in
    next_forth _ (fit_forth S count at (row ++ rest) l) (simp (take_at, drop_at))

-- content
pub record Found {L : ℕ} {R : Type 0} (k : Kind L R) (xs : List ℕ) (p : R × List ℕ) : Type 0 where
  pub lawful : Lawful k p.0
  pub back : k.shown p.0 ++ p.1 ≡ xs
  pub rest : Bytes p.1

module _ {L : ℕ} {R : Type 0} (k : Kind L R) (S n : ℕ) where
  found : (at : ℕ) (xs : List ℕ) (p : List ℕ × List ℕ) → Peeled L xs p → (o : Option R) → k.reads p.0 ≡ o
      → Gives (content_of at p.1 o) (Found k xs)
  found at xs p h None e = gives_err (Found k xs) _
  found at xs p h (Some r) e =
      let b : k.shown r ≡ p.0 = k.back p.0 r h.bytes e in
      gives_ok (Found k xs) (r, p.1) (record { lawful = rw b e; back = rw b h.back; rest = h.rest })

  pub content-back : (at : ℕ) (xs : List ℕ) → Bytes xs → Gives (peel_content k at xs) (Found k xs)
  content-back at xs h = gives_next (peel L at xs) _ (peel-back L at xs h) (λ p q. found at xs p q (k.reads p.0) refl)

  pub content_forth : (at : ℕ) (r : R) (rest : List ℕ) → Lawful k r → peel_content k at (k.shown r ++ rest) ≡ Ok (r, rest)
  content_forth at r rest h =
      next_forth _ (peel_forth L at (k.shown r) rest (k.sized (k.shown r) r h)) (ap (λ o. content_of at rest o) h)

  pub record BlockFound (xs : List ℕ) (p : Block R × List ℕ) : Type 0 where
    pub lawful : LawfulBlock k p.0
    pub back : block_bytes k p.0 ++ p.1 ≡ xs
    pub rest : Bytes p.1

  joined : (a b c d e f rest r₅ r₄ r₃ r₂ r₁ xs : List ℕ) → a ++ r₁ ≡ xs → b ++ r₂ ≡ r₁ → c ++ r₃ ≡ r₂ → d ++ r₄ ≡ r₃ → e ++ r₅ ≡ r₄
      → f ++ rest ≡ r₅ → (a ++ (b ++ (c ++ (d ++ (e ++ f))))) ++ rest ≡ xs
  joined a b c d e f rest r₅ r₄ r₃ r₂ r₁ xs h₁ h₂ h₃ h₄ h₅ h₆ = simp append_assoc (cc)

  pub three : (a b c rest r₂ r₁ xs : List ℕ) → a ++ r₁ ≡ xs → b ++ r₂ ≡ r₁ → c ++ rest ≡ r₂ → (a ++ (b ++ c)) ++ rest ≡ xs
  three a b c rest r₂ r₁ xs h₁ h₂ h₃ = simp append_assoc (cc)

  pub block_back : (at : ℕ) (xs : List ℕ) → Bytes xs → Gives (peel_block k at xs) (BlockFound xs)
  block_back at xs h =
      gives_next (peel_number 2 at xs) _ (number-back 2 at xs h) (λ view v.
      gives_next (peel_number 2 (at + 2) view.1) _ (number-back 2 (at + 2) view.1 v.rest) (λ turn t.
      gives_next (peel_number 4 (at + 4) turn.1) _ (number-back 4 (at + 4) turn.1 t.rest) (λ height g.
      gives_next (peel_number 2 (at + 8) height.1) _ (number-back 2 (at + 8) height.1 g.rest) (λ pview pv.
      gives_next (peel_number 2 (at + 10) pview.1) _ (number-back 2 (at + 10) pview.1 pv.rest) (λ pturn pt.
      gives_if (lawful_numbers view.0 turn.0 height.0 pview.0 pturn.0) _ (BadLayout at) (λ numbers.
      gives_next (peel_content k (at + 12) pturn.1) _ (content-back (at + 12) pturn.1 pt.rest) (λ content c.
      gives_ok (BlockFound xs) _
      (record {
        lawful = record {
          view = v.range;
          turn = t.range;
          height = g.range;
          pview = pv.range;
          pturn = pt.range;
          numbers = numbers;
          content = c.lawful;
        };
        back = joined (spell 2 view.0) (spell 2 turn.0) (spell 4 height.0) (spell 2 pview.0) (spell 2 pturn.0)
            (k.shown content.0) content.1 _ _ _ _ _ _
            v.back t.back g.back pv.back pt.back c.back;
        rest = c.rest;
      }))))))))

  pub block_forth : (at : ℕ) (b : Block R) (rest : List ℕ) → LawfulBlock k b → peel_block k at (block_bytes k b ++ rest) ≡ Ok (b, rest)
  block_forth at b rest h =
      let r₅ : List ℕ = k.shown b.content ++ rest in
      let r₄ : List ℕ = spell 2 b.parent.turn ++ r₅ in
      let r₃ : List ℕ = spell 2 b.parent.view ++ r₄ in
      let r₂ : List ℕ = spell 4 b.height ++ r₃ in
      let r₁ : List ℕ = spell 2 b.rank.turn ++ r₂ in
      next_forth _ (number_forth 2 at b.rank.view r₁ h.view)
      (next_forth _ (number_forth 2 (at + 2) b.rank.turn r₂ h.turn)
      (next_forth _ (number_forth 4 (at + 4) b.height r₃ h.height)
      (next_forth _ (number_forth 2 (at + 8) b.parent.view r₄ h.pview)
      (next_forth _ (number_forth 2 (at + 10) b.parent.turn r₅ h.pturn)
      (cond-true (lawful_numbers b.rank.view b.rank.turn b.height b.parent.view b.parent.turn) _ _ h.numbers
      ∙ next_forth _ (content_forth (at + 12) b.content rest h.content) refl)))))

  -- a certificate
  pub record BodyFound (xs : List ℕ) (p : Certificate R (List ℕ) × List ℕ) : Type 0 where
    pub lawful : LawfulBody k S n p.0
    pub back : body_bytes k p.0 ++ p.1 ≡ xs
    pub rest : Bytes p.1

  pub body_back : (at : ℕ) (xs : List ℕ) → Bytes xs → Gives (peel_body k S n at xs) (BodyFound xs)
  body_back at xs h =
      gives_next (peel_block k at xs) _ (block_back at xs h) (λ block b.
      gives_next (peel_mask n (at + 12 + L) block.1) _ (mask_back n (at + 12 + L) block.1 b.rest) (λ mask m.
      gives_next (peel_seals S (quorum n) (at + 14 + L) mask.1) _ (seals_back S (quorum n) (at + 14 + L) mask.1 m.rest) (λ seals s.
      gives_ok (BodyFound xs) _
      (record {
        lawful = (b.lawful, record { range = m.range; seats = m.lawful; row = s.sized });
        back = three (block_bytes k block.0) (spell 2 mask.0) seals.0 seals.1 _ _ _ b.back m.back s.back;
        rest = s.rest;
      }))))

  pub body_forth : (at : ℕ) (c : Certificate R (List ℕ)) (rest : List ℕ) → LawfulBody k S n c
      → peel_body k S n at (body_bytes k c ++ rest) ≡ Ok (c, rest)
  body_forth at c rest h =
      ap (λ xs. peel_body k S n at xs) (append_assoc (block_bytes k c.block) (spell 2 c.mask ++ c.seals) rest)
      ∙ next_forth _ (block_forth at c.block (spell 2 c.mask ++ (c.seals ++ rest)) h.0)
      (next_forth _ (mask_forth n (at + 12 + L) c.mask (c.seals ++ rest) h.1.range h.1.seats)
      (next_forth _ (seals_forth S (quorum n) (at + 14 + L) c.seals rest h.1.row) refl))
