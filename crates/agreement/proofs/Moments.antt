-- Earlier moments of a history, and what held of one of its calls.
use Rattle.std.proofs.Common.{◌≡◌, ℕ, ◌⊎◌, [], ◌∷◌, ◌++◌, sym, refl, ap, ◌∙◌, subst, inl, inr}
use Rattle.std.proofs.lemmas.List.{append_assoc}
use Rattle.content.specs.Kinds.{Kind}
use Rattle.agreement.specs.History.{Always, Event, History, Once}
use Rattle.agreement.specs.Run.{Moment, Run}
use Rattle.agreement.specs.Setting.{Setting}
use Rattle.agreement.specs.Laws.{Earlier, Was}

pub earlier_refl : (h : History) → Earlier h h
earlier_refl h = ([], refl)

pub earlier_trans : (a b c : History) → Earlier a b → Earlier b c → Earlier a c
earlier_trans a b c (p, s) (q, t) = (q ++ p, t ∙ (ap (λ x. q ++ x) s ∙ sym (append_assoc q p a)))

-- the history before a call is earlier than the one after it
pub earlier_step : (e : Event) (p : History) → Earlier p (e ∷ p)
earlier_step e p = (e ∷ [], refl)

pub earlier_before : (e : Event) (p h : History) → Earlier (e ∷ p) h → Earlier p h
earlier_before e p h s = earlier_trans p (e ∷ p) h (earlier_step e p) s

pub earlier_more : (e : Event) (p h : History) → Earlier p h → Earlier p (e ∷ h)
earlier_more e p h s = earlier_trans p h (e ∷ h) s (earlier_step e h)

tails_same : (x y : Event) (a b : History) → x ∷ a ≡ y ∷ b → a ≡ b
tails_same x y a b e = cc

cases_fronts : (q r a b : History) → q ++ a ≡ r ++ b → Earlier a b ⊎ Earlier b a
cases_fronts [] r a b e = inr (r, e)
cases_fronts (x ∷ q) [] a b e = inl (x ∷ q, sym e)
cases_fronts (x ∷ q) (y ∷ r) a b e = cases_fronts q r a b (tails_same x y (q ++ a) (r ++ b) e)

-- of two moments of one history, one is the earlier
pub cases_earlier : (a b h : History) → Earlier a h → Earlier b h → Earlier a b ⊎ Earlier b a
cases_earlier a b h s t = cases_fronts s.0 t.0 a b (sym s.1 ∙ t.1)

cases_front : (q a p : History) (e : Event) → e ∷ p ≡ q ++ a → (e ∷ p ≡ a) ⊎ Earlier a p
cases_front [] a p e s = inl s
cases_front (x ∷ q) a p e s = inr (q, tails_same e x p (q ++ a) s)

-- a moment of a history is the last one, or a moment of what was before
pub cases_last : (a p : History) (e : Event) → Earlier a (e ∷ p) → (e ∷ p ≡ a) ⊎ Earlier a p
cases_last a p e s = cases_front s.0 a p e s.1

module _ (P : Event → History → Type 0) where
  -- what held of one of the calls, in its two forms
  pub was-from_once : (h : History) → Once P h → Was P h
  was-from_once [] o = elim o [ ]
  was-from_once (e ∷ h) (inl x) = ([], e, h, refl, x)
  was-from_once (e ∷ h) (inr o) =
      let r = was-from_once h o in
      (e ∷ r.0, r.1, r.2, ap (λ z. e ∷ z) r.3, r.4)

  once_in : (q : History) (e : Event) (p : History) → P e p → Once P (q ++ (e ∷ p))
  once_in [] e p x = inl x
  once_in (y ∷ q) e p x = inr (once_in q e p x)

  pub once_from-was : (h : History) → Was P h → Once P h
  once_from-was h (q, e, p, s, x) = subst (Once P) (sym s) (once_in q e p x)

  -- what held of one of the calls before held of one of the calls
  pub was-later : (p h : History) → Earlier p h → Was P p → Was P h
  was-later p h s (q, e, r, t, x) = (s.0 ++ q, e, r, s.1 ∙ (ap (λ z. s.0 ++ z) t ∙ sym (append_assoc s.0 q (e ∷ r))), x)

  -- of the newest call, or of one before it
  pub was-here : (e : Event) (p : History) → P e p → Was P (e ∷ p)
  was-here e p x = ([], e, p, refl, x)

  pub was-more : (e : Event) (p : History) → Was P p → Was P (e ∷ p)
  was-more e p x = was-later p (e ∷ p) (earlier_step e p) x

  always_past : (q p : History) → Always P (q ++ p) → Always P p
  always_past [] p a = a
  always_past (x ∷ q) p a = always_past q p a.1

  -- what always holds has always held
  pub always_earlier : (p h : History) → Earlier p h → Always P h → Always P p
  always_earlier p h s a = always_past s.0 p (subst (Always P) s.1 a)

  pub always_at : (e : Event) (p h : History) → Earlier (e ∷ p) h → Always P h → P e p
  always_at e p h s a = (always_earlier (e ∷ p) h s a).0

  -- what something that always holds rules out was never so
  pub never-from_always : (Q : Event → History → Type 0) → ((e : Event) (p : History) → Q e p → P e p → ⊥) → (h : History) → Always Q h → Once P h → ⊥
  never-from_always Q rules-out [] a o = elim o [ ]
  never-from_always Q rules-out (e ∷ h) a (inl x) = rules-out e h a.0 x
  never-from_always Q rules-out (e ∷ h) a (inr o) = never-from_always Q rules-out h a.1 o

module _ {L : ℕ} {R : Type 0} (S : ℕ) (k : Kind L R) (w : Setting) where
  -- every moment of a run is a run
  pub run_earlier : (p h : History) → Earlier p h → Run S k w h → Run S k w p
  run_earlier p h s run = always_earlier (Moment S k w) p h s run

  stays_on : (Q : History → Type 0) → ((e : Event) (r : History) → Run S k w (e ∷ r) → Q r → Q (e ∷ r)) → (q p : History) → Run S k w (q ++ p) → Q p → Q (q ++ p)
  stays_on Q step [] p run x = x
  stays_on Q step (e ∷ q) p run x = step e (q ++ p) run (stays_on Q step q p run.1 x)

  -- what every call of a run keeps holds at every later moment
  pub stays : (Q : History → Type 0) → ((e : Event) (r : History) → Run S k w (e ∷ r) → Q r → Q (e ∷ r)) → (p h : History) → Run S k w h → Earlier p h → Q p → Q h
  stays Q step p h run s x = subst Q (sym s.1) (stays_on Q step s.0 p (subst (Run S k w) s.1 run) x)
