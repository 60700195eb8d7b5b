-- Asking about a row of seals, one seat on.
use Rattle.std.proofs.Common.{◌≡◌, ℕ, suc, ◌+◌, ◌-◌, ◌*◌, ◌<◌, ◌≤◌, Bool, true, false, cond, List, [], ◌∷◌, length, take, drop, Ok, Err, Result, sym, refl, ap, ◌∙◌, add-mul, add-one, arith, length-drop}
use Rattle.content.specs.declared.refusal.Refusal.{Refusal}
use Rattle.wire.specs.Asked.{Question, asked_one, row_asked, judge}
use Rattle.blocks.specs.Masks.{bit, ones}
use Rattle.blocks.proofs.Ones.{ones_in, ones-out}

-- a seat of the set: it is asked first
row_in : (S mask i n : ℕ) (statement row : List ℕ) → i < n → bit mask i ≡ true
    → row_asked S mask i (n - i) statement row ≡ asked_one i statement (take S row) ∷ row_asked S mask (i + 1) (n - (i + 1)) statement (drop S row)
unfolding row_asked
row_in S mask i n statement row h t = let e : n - i ≡ suc (n - (i + 1)) = omega arith in rw (e, add-one i, t)

-- any other is passed over
pub row_out : (S mask i n : ℕ) (statement row : List ℕ) → i < n → bit mask i ≡ false
    → row_asked S mask i (n - i) statement row ≡ row_asked S mask (i + 1) (n - (i + 1)) statement row
unfolding row_asked
row_out S mask i n statement row h t = let e : n - i ≡ suc (n - (i + 1)) = omega arith in rw (e, add-one i, t)

pub row-none : (S mask i n : ℕ) (statement row : List ℕ) → n ≤ i → row_asked S mask i (n - i) statement row ≡ []
unfolding row_asked
row-none S mask i n statement row h = let e : n - i ≡ 0 = omega arith in rw e

abbrev Verdict : Type 0
Verdict = Result (Unit {0}) Refusal

-- a yes goes on with the others, a no is the answer
after_yes : (b : Bool) (r : Verdict) (e : Refusal) → ◌≡◌ {A = Verdict} (Ok tt) (cond b (Ok tt) (Err e)) → cond b r (Err e) ≡ r
after_yes true r e h = refl
after_yes false r e h = absurd (let z : ◌≡◌ {A = ℕ} 0 1 = cc in omega arith)

after-no : (b : Bool) (r : Verdict) (d e : Refusal) → ◌≡◌ {A = Verdict} (Err d) (cond b (Ok tt) (Err e)) → ◌≡◌ {A = Verdict} (Err d) (cond b r (Err e))
after-no true r d e h = absurd (let z : ◌≡◌ {A = ℕ} 0 1 = cc in omega arith)
after-no false r d e h = h

-- on the way through a row, before seat i: the seats that are still to come decide as all of them do, and their seals are there
pub record Going (accepts : ℕ → List ℕ → List ℕ → Bool) (S mask n i : ℕ) (statement row rest : List ℕ) : Type 0 where
  pub same : judge accepts (row_asked S mask i (n - i) statement rest) ≡ judge accepts (row_asked S mask 0 n statement row)
  pub there : ones mask i (n - i) * S ≡ length rest

module _ (accepts : ℕ → List ℕ → List ℕ → Bool) (S mask n i : ℕ) (statement row rest : List ℕ) where
  pub going_fits : Going accepts S mask n i statement row rest → i < n → bit mask i ≡ true → S ≤ length rest
  going_fits g h t =
      let m = ones_in mask i n h t in
      let l : (1 + ones mask (i + 1) (n - (i + 1))) * S ≡ length rest = rw m at g.there in
      let d = add-mul 1 (ones mask (i + 1) (n - (i + 1))) S in
      omega arith

  pub going_in : (now : ℕ → List ℕ → List ℕ → Bool) → now ≡ accepts → Going accepts S mask n i statement row rest → i < n → bit mask i ≡ true
      → (seal next : List ℕ) → seal ≡ take S rest → next ≡ drop S rest → Ok tt ≡ judge now (asked_one i statement seal ∷ [])
      → Going accepts S mask n (i + 1) statement row next
  going_in now k g h t seal next s d a =
      let rest-asked = row_asked S mask (i + 1) (n - (i + 1)) statement (drop S rest) in
      let a' : ◌≡◌ {A = Verdict} (Ok tt) (judge accepts (asked_one i statement (take S rest) ∷ [])) = rw (k, s) at a in
      let others : judge accepts (asked_one i statement (take S rest) ∷ rest-asked) ≡ judge accepts rest-asked = after_yes _ _ _ a' in
      let m = ones_in mask i n h t in
      let l : (1 + ones mask (i + 1) (n - (i + 1))) * S ≡ length rest = rw m at g.there in
      let f = add-mul 1 (ones mask (i + 1) (n - (i + 1))) S in
      record {
        same = rw d (sym others ∙ ap (judge accepts) (sym (row_in S mask i n statement rest h t)) ∙ g.same);
        there = rw (d, length-drop S rest) (omega arith);
      }

  pub going_out : Going accepts S mask n i statement row rest → i < n → bit mask i ≡ false → Going accepts S mask n (i + 1) statement row rest
  going_out g h t = record {
    same = ap (judge accepts) (sym (row_out S mask i n statement rest h t)) ∙ g.same;
    there = ap (λ x. x * S) (sym (ones-out mask i n h t)) ∙ g.there;
  }

  pub going_no : (now : ℕ → List ℕ → List ℕ → Bool) → now ≡ accepts → Going accepts S mask n i statement row rest → i < n → bit mask i ≡ true
      → (seal : List ℕ) → seal ≡ take S rest → (e : Refusal) → Err e ≡ judge now (asked_one i statement seal ∷ [])
      → Err e ≡ judge accepts (row_asked S mask 0 n statement row)
  going_no now k g h t seal s e a =
      let a' : ◌≡◌ {A = Verdict} (Err e) (judge accepts (asked_one i statement (take S rest) ∷ [])) = rw (k, s) at a in
      after-no _ _ e _ a' ∙ ap (judge accepts) (sym (row_in S mask i n statement rest h t)) ∙ g.same

  pub going_end : Going accepts S mask n i statement row rest → n ≤ i → Ok tt ≡ judge accepts (row_asked S mask 0 n statement row)
  going_end g h = ap (judge accepts) (sym (row-none S mask i n statement rest h)) ∙ g.same

-- a first question and others: the seat and the body as the code has them, and as they are meant
module _ (accepts : ℕ → List ℕ → List ℕ → Bool) (seat seat' tag : ℕ) (body body' seal : List ℕ) where
  pub first-only : (r : Verdict) → seat ≡ seat' → body ≡ body' → r ≡ judge accepts (asked_one seat (tag ∷ body) seal ∷ [])
      → r ≡ judge accepts (asked_one seat' (tag ∷ body') seal ∷ [])
  first-only r p q a = rw (p, q) at a

  pub first-no : (qs : List Question) (e : Refusal) → seat ≡ seat' → body ≡ body' → ◌≡◌ {A = Verdict} (Err e) (judge accepts (asked_one seat (tag ∷ body) seal ∷ []))
      → ◌≡◌ {A = Verdict} (Err e) (judge accepts (asked_one seat' (tag ∷ body') seal ∷ qs))
  first-no qs e p q a = after-no _ _ e _ (first-only (Err e) p q a)

  pub first_yes : (qs qs' : List Question) (r : Verdict) (now : ℕ → List ℕ → List ℕ → Bool) → seat ≡ seat' → body ≡ body' → qs ≡ qs' → now ≡ accepts
      → ◌≡◌ {A = Verdict} (Ok tt) (judge accepts (asked_one seat (tag ∷ body) seal ∷ [])) → r ≡ judge now qs
      → r ≡ judge accepts (asked_one seat' (tag ∷ body') seal ∷ qs')
  first_yes qs qs' r now p q f k a h =
      let g : r ≡ judge accepts qs' = rw (k, f) at h in
      g ∙ sym (after_yes _ _ _ (first-only (Ok tt) p q a))
