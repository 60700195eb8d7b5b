-- A quorum of seats has a sound one.
use Rattle.std.proofs.Common.{◌≡◌, ℕ, zero, suc, ◌+◌, ◌<◌, ◌≤◌, Bool, true, false, cond, List, [], ◌∷◌, get_or, drop, Some, None, Ok, Err, Result, refl, inl, inr, arith}
use Rattle.content.specs.declared.refusal.Refusal.{Refusal}
use Rattle.blocks.specs.Masks.{Kept, bit, count_kept, ones}
use Rattle.wire.specs.Asked.{Question, judge, row_asked}
use Rattle.agreement.specs.Run.{Among, Each}
use Rattle.agreement.specs.Setting.{unsound}

-- how many of the seats from i on, so many, are not sound
unfoldable pub unsound_from : (ℕ → Bool) → ℕ → ℕ → ℕ
unsound_from sound i zero = 0
unsound_from sound i (suc k) = cond (sound i) 0 1 + unsound_from sound (suc i) k

unsound-last : (sound : ℕ → Bool) (i k : ℕ) → unsound_from sound i (suc k) ≡ unsound_from sound i k + cond (sound (i + k)) 0 1
unfolding unsound_from
unsound-last sound i zero = let e : i + 0 ≡ i = omega arith in rw e (omega arith)
unsound-last sound i (suc k) =
    let r : unsound_from sound (suc i) (suc k) ≡ unsound_from sound (suc i) k + cond (sound (suc i + k)) 0 1 = unsound-last sound (suc i) k in
    let e : suc i + k ≡ i + suc k = omega arith in
    let q : unsound_from sound (suc i) (suc k) ≡ unsound_from sound (suc i) k + cond (sound (i + suc k)) 0 1 = rw e at r in
    omega arith

pub unsound_from_lem : (sound : ℕ → Bool) (n : ℕ) → unsound_from sound 0 n ≡ unsound sound n
unfolding unsound_from
unsound_from_lem sound zero = refl
unsound_from_lem sound (suc n) =
    let r : unsound_from sound 0 n ≡ unsound sound n = unsound_from_lem sound n in
    let l : unsound_from sound 0 (suc n) ≡ unsound_from sound 0 n + cond (sound (0 + n)) 0 1 = unsound-last sound 0 n in
    let e : 0 + n ≡ n = omega arith in
    let q : unsound_from sound 0 (suc n) ≡ unsound_from sound 0 n + cond (sound n) 0 1 = rw e at l in
    omega arith

-- among more questions on a statement than seats can go wrong, one is put about a sound seat
abbrev pub AskedSound : (ℕ → Bool) → List ℕ → Question → Type 0
AskedSound sound st q = (sound q.seat ≡ true) × (q.statement ≡ st)

asked-bit : (sound : ℕ → Bool) (S mask i k : ℕ) (st row : List ℕ) (b s : Bool) → bit mask i ≡ b → sound i ≡ s →
    unsound_from sound i (suc k) < ones mask i (suc k) →
    ((row : List ℕ) → unsound_from sound (suc i) k < ones mask (suc i) k → Among (AskedSound sound st) (row_asked S mask (suc i) k st row)) →
    Among (AskedSound sound st) (row_asked S mask i (suc k) st row)
unfolding unsound_from ones row_asked
asked-bit sound S mask i k st row true true eb es h r = rw eb (inl (es, refl))
asked-bit sound S mask i k st row true false eb es h r =
    let h1 : cond false 0 1 + unsound_from sound (suc i) k < cond true 1 0 + ones mask (suc i) k = rw (eb, es) at h in
    rw eb (inr (r (drop S row) (omega arith)))
asked-bit sound S mask i k st row false true eb es h r =
    let h1 : cond true 0 1 + unsound_from sound (suc i) k < cond false 1 0 + ones mask (suc i) k = rw (eb, es) at h in
    rw eb (r row (omega arith))
asked-bit sound S mask i k st row false false eb es h r =
    let h1 : cond false 0 1 + unsound_from sound (suc i) k < cond false 1 0 + ones mask (suc i) k = rw (eb, es) at h in
    rw eb (r row (omega arith))

none-asked : (sound : ℕ → Bool) (mask i : ℕ) → unsound_from sound i 0 < ones mask i 0 → ⊥
unfolding unsound_from ones
none-asked sound mask i h = omega arith

pub asked-sound : (sound : ℕ → Bool) (S mask i k : ℕ) (st row : List ℕ) → unsound_from sound i k < ones mask i k →
    Among (AskedSound sound st) (row_asked S mask i k st row)
asked-sound sound S mask i zero st row h = absurd (none-asked sound mask i h)
asked-sound sound S mask i (suc k) st row h =
    asked-bit sound S mask i k st row (bit mask i) (sound i) refl refl h (λ row. asked-sound sound S mask (suc i) k st row)

-- among more seals kept than seats can go wrong, one is of a sound seat
kept-one : (sound : ℕ → Bool) (kept : Kept) (i k : ℕ) (seal : List ℕ) (s : Bool) → sound i ≡ s → unsound_from sound i (suc k) < suc (count_kept kept) →
    (unsound_from sound (suc i) k < count_kept kept → (j : ℕ) × (t : List ℕ) × (get_or kept j None ≡ Some t) × (sound (suc i + j) ≡ true)) →
    (j : ℕ) × (t : List ℕ) × (get_or (Some seal ∷ kept) j None ≡ Some t) × (sound (i + j) ≡ true)
unfolding unsound_from
kept-one sound kept i k seal true e h r = let z : i + 0 ≡ i = omega arith in (0, seal, refl, rw z e)
kept-one sound kept i k seal false e h r =
    let h1 : cond false 0 1 + unsound_from sound (suc i) k < suc (count_kept kept) = rw e at h in
    let f = r (omega arith) in
    let z : suc i + f.0 ≡ i + suc f.0 = omega arith in
    (suc f.0, f.1, f.2, rw (← z) f.3)

pub kept-sound : (sound : ℕ → Bool) (kept : Kept) (i k : ℕ) → unsound_from sound i k < count_kept kept →
    ((j : ℕ) → k ≤ j → get_or kept j None ≡ None) → (j : ℕ) × (seal : List ℕ) × (get_or kept j None ≡ Some seal) × (sound (i + j) ≡ true)
unfolding unsound_from
kept-sound sound [] i k h none = absurd (omega arith)
kept-sound sound (None ∷ kept) i zero h none =
    let f = kept-sound sound kept (suc i) zero h (λ j l. none (suc j) (omega arith)) in
    let z : suc i + f.0 ≡ i + suc f.0 = omega arith in
    (suc f.0, f.1, f.2, rw (← z) f.3)
kept-sound sound (Some seal ∷ kept) i zero h none =
    let e : Some seal ≡ None = none 0 (omega arith) in
    absurd (let z : ◌≡◌ {A = ℕ} 0 1 = cc in omega arith)
kept-sound sound (None ∷ kept) i (suc k) h none =
    let f = kept-sound sound kept (suc i) k (omega arith) (λ j l. none (suc j) (omega arith)) in
    let z : suc i + f.0 ≡ i + suc f.0 = omega arith in
    (suc f.0, f.1, f.2, rw (← z) f.3)
kept-sound sound (Some seal ∷ kept) i (suc k) h none =
    kept-one sound kept i k seal (sound i) refl h (λ l. kept-sound sound kept (suc i) k l (λ j m. none (suc j) (omega arith)))

-- what is one of a list of which every one is so
pub among-each : {X : Type 0} (P Q : X → Type 0) (xs : List X) → Among P xs → Each Q xs → (x : X) × P x × Q x
among-each P Q [] p q = elim p [ ]
among-each P Q (x ∷ xs) (inl p) q = (x, p, q.0)
among-each P Q (x ∷ xs) (inr p) q = among-each P Q xs p q.1

-- a message passes if the check says yes to each of its seals
pub judged-first : (accepts : ℕ → List ℕ → List ℕ → Bool) (q : Question) (qs : List Question) → judge accepts (q ∷ qs) ≡ Ok tt →
    (accepts q.seat q.statement q.seal ≡ true) × (judge accepts qs ≡ Ok tt)
judged-first accepts q qs e = by (accepts q.seat q.statement q.seal) refl
  where
    by : (b : Bool) → accepts q.seat q.statement q.seal ≡ b → (accepts q.seat q.statement q.seal ≡ true) × (judge accepts qs ≡ Ok tt)
    by true t = (t, rw t at e)
    by false t = let z : ◌≡◌ {A = Result Unit Refusal} (Err _) (Ok tt) = rw t at e in absurd (let y : ◌≡◌ {A = ℕ} 0 1 = cc in omega arith)

pub judged : (accepts : ℕ → List ℕ → List ℕ → Bool) (qs : List Question) → judge accepts qs ≡ Ok tt →
    Each (λ q. accepts q.seat q.statement q.seal ≡ true) qs
judged accepts [] e = tt
judged accepts (q ∷ qs) e = let f = judged-first accepts q qs e in (f.0, judged accepts qs f.1)
