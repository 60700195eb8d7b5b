-- Lemmas on titles: what filling up with zero bytes makes.
use Rattle.std.proofs.Common.{◌≡◌, ℕ, zero, suc, ◌-◌, ◌<◌, ◌≤◌, true, ◌&&◌, eqb, ltb, leb, List, ◌++◌, length, take, drop, replicate, refl, ap, ◌∙◌, arith, length-append, take_at, drop_at}
use lib.ListN.{length-replicate}
use Rattle.std.proofs.lemmas.Bool.{and_parts, and_from, ltb-true, lt-ltb, leb-true, eqb-true, eq-eqb}
use Rattle.std.proofs.lemmas.List.Folds.{prefix_len-append}
use Rattle.content.specs.Marks.{is_text, text_length, all_zero, is_title, is_heading, fill, text_of}

-- zero bytes are no text, and all zero
zeros_text : (k : ℕ) → text_length (replicate k 0) ≡ 0
zeros_text zero = refl
zeros_text (suc k) = refl

zeros_all : (k : ℕ) → all_zero (replicate k 0) ≡ true
zeros_all zero = refl
zeros_all (suc k) = zeros_all k

-- the text at the front of a text that is filled up is all of it
filled_text : (text : List ℕ) (k : ℕ) → text_length text ≡ length text → text_length (text ++ replicate k 0) ≡ length text
filled_text text k h = grind (arith, prefix_len-append is_text text (replicate k 0), zeros_text k, eq-eqb)

record Heading (text : List ℕ) : Type 0 where
  some : 0 < length text
  short : length text ≤ 24
  whole : text_length text ≡ length text

heading : (text : List ℕ) → is_heading text ≡ true → Heading text
heading text h =
    let p : (ltb 0 (length text) ≡ true) × ((leb (length text) 24 && eqb (text_length text) (length text)) ≡ true) = and_parts _ _ h in
    let q : (leb (length text) 24 ≡ true) × (eqb (text_length text) (length text) ≡ true) = and_parts _ _ p.1 in
    record { some = ltb-true _ _ p.0; short = leb-true _ _ q.0; whole = eqb-true _ _ q.1 }

-- a text that is filled up is a title, and that text is what it says
fill-front : (text : List ℕ) → Heading text → text_length (fill text) ≡ length text
fill-front text h = filled_text text (24 - length text) h.whole

pub fill_title : (text : List ℕ) → is_heading text ≡ true → is_title (fill text) ≡ true
fill_title text t =
    let h = heading text t in
    let zs : List ℕ = replicate (24 - length text) 0 in
    let some : 0 < length text = h.some in
    let front : text_length (fill text) ≡ length text = fill-front text h in
    let rest : drop (text_length (fill text)) (fill text) ≡ zs = ap (λ (n : ℕ). drop n (fill text)) front ∙ drop_at text zs (length text) refl in
    and_from _ _ (lt-ltb 0 (text_length (fill text)) (omega arith)) (ap all_zero rest ∙ zeros_all (24 - length text))

pub fill_text : (text : List ℕ) → is_heading text ≡ true → text_of (fill text) ≡ text
fill_text text t = ap (λ (n : ℕ). take n (fill text)) (fill-front text (heading text t)) ∙ take_at text _ (length text) refl

pub length-fill : (text : List ℕ) → is_heading text ≡ true → length (fill text) ≡ 24
length-fill text t =
    let short : length text ≤ 24 = (heading text t).short in
    omega (arith, length-append text (replicate (24 - length text) 0), length-replicate {A = ℕ} (24 - length text) 0)
