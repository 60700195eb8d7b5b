-- Lemmas on an edit's bytes and numbers.
use Rattle.std.proofs.Common.{◌≡◌, ℕ, zero, suc, ◌^◌, ◌<◌, ◌≤◌, Bool, true, false, not, T, eqb, List, ◌∷◌, length, take, drop, length-drop, take_all, IfOk, Ok, Decides, Option, Result, sym, refl, ap, ◌∙◌, subst, arith}
use lib.Ieee.{Float, nan, inf, fin, binary64, to_bits, le, lt, eq, is_nan}
use lib.Ieee.Bits.{to_bits-of_bits}
use Rattle.content.specs.declared.edit.Edit.{Edit}
use Rattle.content.specs.declared.edit.EditRecord.{EditRecord}
use Rattle.std.proofs.lemmas.Bool.{false≢true, and_parts, eqb-true, ne_eqb}
use Rattle.content.specs.declared.refusal.Refusal.{Refusal}
use Rattle.content.specs.declared.refusal.Refusal.TheVariants.{NoContent}
use Rattle.content.specs.Edits.{edits, edit_at, edit_shown, stands, value, within, is_edit, named, called, kept, edit_of, record_of, edit_from, edit_bytes}
use Rattle.std.proofs.lemmas.Result.{IfOk-weaker}
use Rattle.std.specs.Option.{ok_or}
use Rattle.std.specs.Bool.{then_some}
use Rattle.content.specs.Kinds.{Bytes, Lawful, next, ok_if, read_content, write_answer, write_memory}
use Rattle.content.specs.Numbers.{number, number-spell}
use Rattle.content.proofs.Contents.{decides_read, read_back, written-front}

record_is : (t a b m n : ℕ) → a ≡ m → b ≡ n → ◌≡◌ {A = EditRecord} (record { tag = t; first = a; second = b }) (record { tag = t; first = m; second = n })
record_is t a b m n p q = rw (p, q)

-- a record's bytes hold its numbers
pub edit_at-shown : (e : EditRecord) → e.first < 2 ^ 64 → e.second < 2 ^ 64 → edit_at (edit_shown e) ≡ e
edit_at-shown e h k = record_is e.tag _ _ _ _ (number-spell 8 e.first h) (number-spell 8 e.second k)

-- what is read from a tag and two numbers of eight bytes
pub edits_read : (src numbers xs ys : List ℕ) (t m n : ℕ) (b : Bool) → src ≡ t ∷ numbers → xs ≡ take 8 numbers → ys ≡ drop 8 numbers → length ys ≡ 8 → m ≡ number xs → n ≡ number ys → b ≡ is_edit t m n → then_some b (record { tag = t; first = m; second = n }) ≡ edits.reads src
edits_read src numbers xs ys t m n b w p q l e f h =
    let l : length numbers ≡ 16 = omega (arith, length-drop 8 numbers, ap length q) in
    let rest : take 8 (drop 8 numbers) ≡ drop 8 numbers = take_all 8 (drop 8 numbers) (omega (arith, length-drop 8 numbers)) in
    rw (h, e, f, p, q, w, l, rest)

pub stands_lawful : (e : EditRecord) → e.first < 2 ^ 64 → e.second < 2 ^ 64 → Decides (stands e) (Lawful edits e)
stands_lawful e h k = decides_read stands true _ e refl (edit_at-shown e h k)

ok_when : {X : Type 0} (b : Bool) (x : X) → b ≡ true → ok_if b x ≡ Ok x
ok_when b x e = rw e

-- nothing is below or level with a NaN, so a number of a range is none
le-number : (x y : Float) → le x y ≡ true → T (not (is_nan y))
unfolding le lt eq is_nan
le-number nan nan h = absurd (false≢true h)
le-number (inf s) nan h = absurd (false≢true h)
le-number (fin s m e) nan h = absurd (false≢true h)
le-number x (inf s) h = tt
le-number x (fin s m e) h = tt

-- the bits of a number of a range are those that it was read from
within-back : (least most : Float) (n : ℕ) → n < 2 ^ 64 → within least most n ≡ true → to_bits binary64 (value n) ≡ n
within-back least most n h w = to_bits-of_bits binary64 n h (le-number least (value n) (and_parts _ _ w).0)

-- a record that stands is the one of the edit that it stands for
kept-named : (t a b : ℕ) → a < 2 ^ 64 → b < 2 ^ 64 → is_edit t a b ≡ true → kept (named t (value a) (value b)) ≡ record { tag = t; first = a; second = b }
kept-named zero a b h k w =
    let p = and_parts _ _ w in
    record_is 0 _ _ _ _ (within-back _ _ a h p.0) (within-back _ _ b k (and_parts _ _ p.1).0)
kept-named (suc zero) a b h k w =
    let p = and_parts _ _ w in
    record_is 1 _ _ _ _ (within-back _ _ a h p.0) (within-back _ _ b k p.1)
kept-named (suc (suc zero)) a b h k w =
    let p = and_parts _ _ w in
    record_is 2 _ _ _ _ (sym (eqb-true a 0 p.0)) (sym (eqb-true b 0 p.1))
kept-named (suc (suc (suc zero))) a b h k w =
    let p = and_parts _ _ w in
    record_is 3 _ _ _ _ (sym (eqb-true a 0 p.0)) (sym (eqb-true b 0 p.1))
kept-named (suc (suc (suc (suc t)))) a b h k w =
    let n = suc (suc (suc (suc t))) in
    absurd (false≢true (simp (above n 0 (omega arith), above n 1 (omega arith), above n 2 (omega arith), above n 3 (omega arith)) at w))
  where
    above : (n k : ℕ) → k < n → eqb n k ≡ false
    above n k h = ne_eqb n k (λ e. omega arith)

-- an edit that a record stands for has that record
pub called_back : (r : EditRecord) (e : Edit) → r.first < 2 ^ 64 → r.second < 2 ^ 64 → edit_of r ≡ Ok e → record_of e ≡ Ok r
called_back r e h k o =
    let s = stood (stands r) o in
    let same : kept e ≡ r = ap kept (sym s.1) ∙ kept-named r.tag r.first r.second h k s.0 in
    subst (λ (x : EditRecord). ok_if (stands x) x ≡ Ok r) (sym same) (ok_when (stands r) r s.0)
  where
    stood : (b : Bool) → ok_if b (called r) ≡ Ok e → (b ≡ true) × (called r ≡ e)
    stood true h = (refl, cc)
    stood false h = absurd (let z : ◌≡◌ {A = ℕ} 0 1 = cc in omega arith)

-- a record that is an edit stands
pub edit_stands : (r : EditRecord) (e : Edit) → edit_of r ≡ Ok e → stands r ≡ true
edit_stands r e h = told (stands r) h
  where
    told : (b : Bool) → ok_if b (called r) ≡ Ok e → b ≡ true
    told true h = refl
    told false h = absurd (let z : ◌≡◌ {A = ℕ} 0 1 = cc in omega arith)

pub record_back : (e : Edit) (r : EditRecord) → stands r ≡ true → called r ≡ e → edit_of r ≡ Ok e
record_back e r s c = ok_when (stands r) (called r) s ∙ ap Ok c

pub bytes_of : (x : EditRecord) (e : Edit) → Ok x ≡ record_of e → Ok (edit_shown x) ≡ edit_bytes e
bytes_of x e h = ap (λ (q : Result EditRecord Refusal). next q (λ y. Ok (edit_shown y))) h

-- an edit that was read has the bytes that it was read from
pub bytes_back : (xs : List ℕ) (x : EditRecord) (r : Result Edit Refusal) → Bytes xs → read_content edits xs ≡ Ok x → IfOk r (λ e. record_of e ≡ Ok x) → IfOk r (λ e. edit_bytes e ≡ Ok xs)
bytes_back xs x r b h m =
    IfOk-weaker r _ _ (λ e k. sym (bytes_of x e (sym k)) ∙ ap Ok (read_back edits xs x b h)) m

-- an edit's bytes are read as that edit
pub shown-back : (x : EditRecord) (e : Edit) → Lawful edits x → edit_of x ≡ Ok e → edit_from (edit_shown x) ≡ Ok e
shown-back x e l h = ap (λ (o : Option EditRecord). next (ok_or o (NoContent 0)) edit_of) l ∙ h

pub written_back : (x : EditRecord) (e : Edit) (mem out : List ℕ) (r : Result ℕ Refusal) → Lawful edits x → edit_of x ≡ Ok e → 17 ≤ length mem → r ≡ write_answer 17 (Ok (edit_shown x)) mem → out ≡ write_memory 17 (Ok (edit_shown x)) mem → IfOk r (λ n. edit_from (take n out) ≡ Ok e)
written_back x e mem out r l h n a m =
    IfOk-weaker r _ _ (λ k q. ap edit_from q ∙ shown-back x e l h) (written-front 17 (edit_shown x) mem out r n refl a m)
