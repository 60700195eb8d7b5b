-- Sound clocks go in step, and what a sound seat sends is handed to every sound seat within delta ticks.
use Rattle.std.proofs.Common.{◌≡◌, ℕ, ◌+◌, ◌<◌, ◌≤◌, List, [], ◌∷◌, ◌++◌, sym, refl, ap, ◌∙◌, subst, inl, inr, arith}
use Rattle.std.proofs.lemmas.List.{append_assoc}
use Rattle.std.proofs.lemmas.Bool.{cases_lt}
use Rattle.content.specs.Kinds.{Kind}
use Rattle.agreement.specs.History.{Call, Event, History, Sends, clock, desk, hand, offer, sent, tick}
use Rattle.agreement.specs.Run.{Alike, Hands, Run, StepAt}
use Rattle.agreement.specs.Setting.{Setting, Sound}
use Rattle.agreement.specs.Laws.{Earlier, Was}
use Rattle.agreement.proofs.Facts.{SeatFacts, Ticks}
use Rattle.agreement.proofs.Moments.{earlier_before, earlier_more, earlier_step, run_earlier, was-from_once}

module _ {L : ℕ} {R : Type 0} (S : ℕ) (k : Kind L R) (w : Setting) (f : SeatFacts S k w) where
  hands-no-tick : (m : List ℕ) (c : Call) → Hands S k w m c → Ticks c → ⊥
  hands-no-tick m (hand inbox room) a t = t
  hands-no-tick m (tick room) a t = a
  hands-no-tick m (offer content room) a t = t
  hands-no-tick m sent a t = t

  hands-alike : (m : List ℕ) (c : Call) (i : ℕ) (h : History) → Hands S k w m c → StepAt S k w i c h → Alike S k w i h
  hands-alike m (hand inbox room) i h a t = t
  hands-alike m (tick room) i h a t = absurd a
  hands-alike m (offer content room) i h a t = t
  hands-alike m sent i h a t = t

  tick-behind : (c : Call) (i : ℕ) (h : History) → Ticks c → StepAt S k w i c h → (j : ℕ) → Sound w j → clock S k w i h ≤ clock S k w j h
  tick-behind (hand inbox room) i h t s = absurd t
  tick-behind (tick room) i h t s = s
  tick-behind (offer content room) i h t s = absurd t
  tick-behind sent i h t s = absurd t

  -- a seat that is handed something finds all sound clocks alike
  pub handed-alike : (m : List ℕ) (x : Event) (r : History) → Run S k w (x ∷ r) → Hands S k w m x.what → (i j : ℕ) → Sound w i → Sound w j →
      clock S k w i r ≡ clock S k w j r
  handed-alike m x r run a i j si sj =
      let t = hands-alike m x.what x.who r a run.0.in_step in
      t i si ∙ sym (t j sj)

  -- and no clock moves
  pub handed-still : (m : List ℕ) (x : Event) (r : History) (i : ℕ) → Hands S k w m x.what → clock S k w i (x ∷ r) ≡ clock S k w i r
  handed-still m x r i a = elim (f.clock_moves i x r) [ inl e ↦ e | inr t ↦ absurd (hands-no-tick m x.what a t.1) ]

  -- a new seat's clock
  clock_new : (i : ℕ) → clock S k w i [] ≡ 0
  unfolding desk
  clock_new i = refl

  -- sound clocks are never more than one tick apart
  pub clocks_close : (h : History) (i j : ℕ) → Run S k w h → Sound w i → Sound w j → clock S k w i h ≤ clock S k w j h + 1
  clocks_close [] i j run si sj = let a : clock S k w i [] ≡ 0 = clock_new i in omega arith
  clocks_close (e ∷ h) i j run si sj =
      let back : clock S k w i h ≤ clock S k w j h + 1 = clocks_close h i j run.1 si sj in
      let up : clock S k w j h ≤ clock S k w j (e ∷ h) = f.clock_rises j h (e ∷ h) (earlier_step e h) in
      elim (f.clock_moves i e h) [
        | inl same ↦ omega arith
        | inr t ↦
            let low : clock S k w e.who h ≤ clock S k w j h = tick-behind e.what e.who h t.1 run.0.in_step j sj in
            let mine : clock S k w e.who h ≡ clock S k w i h = ap (λ z. clock S k w z h) t.0 in
            let one : clock S k w i (e ∷ h) ≡ clock S k w i h + 1 = t.2 in
            omega arith
      ]

  -- seat j was handed m, after the moment g and not after h, in a tick no later than `last`
  pub record Handing (j : ℕ) (m : List ℕ) (last : ℕ) (g h : History) : Type 0 where
    pub at : Event
    pub past : History
    pub mine : at.who ≡ j
    pub hands : Hands S k w m at.what
    pub after : Earlier g past
    pub before : Earlier (at ∷ past) h
    pub by : clock S k w j (at ∷ past) ≤ last

  handing_more : (j : ℕ) (m : List ℕ) (last : ℕ) (g h : History) (y : Event) → Handing j m last g h → Handing j m last g (y ∷ h)
  handing_more j m last g h y a =
      record { at = a.at; past = a.past; mine = a.mine; hands = a.hands; after = a.after; before = earlier_more y (a.at ∷ a.past) h a.before; by = a.by }

  -- what was handed while the clock of a sound seat was at most `last`
  handing_from : (j l : ℕ) (m : List ℕ) (last : ℕ) (q g : History) → Run S k w (q ++ g) → Sound w j → Sound w l → clock S k w l (q ++ g) ≤ last →
      Was (λ x _. (x.who ≡ j) × Hands S k w m x.what) q → Handing j m last g (q ++ g)
  handing_from j l m last q g run sj sl low (q1, x, q2, s, (mine, hands)) =
      let r : History = q2 ++ g in
      let place : Earlier (x ∷ r) (q ++ g) = (q1, ap (λ z. z ++ g) s ∙ append_assoc q1 (x ∷ q2) g) in
      let still : clock S k w j (x ∷ r) ≡ clock S k w j r = handed-still m x r j hands in
      let alike : clock S k w j r ≡ clock S k w l r = handed-alike m x r (run_earlier S k w (x ∷ r) (q ++ g) place run) hands j l sj sl in
      let up : clock S k w l r ≤ clock S k w l (q ++ g) = f.clock_rises l r (q ++ g) (earlier_before x r (q ++ g) place) in
      record { at = x; past = r; mine = mine; hands = hands; after = (q2, refl); before = place; by = omega arith }

  delivered_in : (q : History) (e : Event) (p : History) (m : List ℕ) (l j : ℕ) → Run S k w (q ++ (e ∷ p)) → Sends S k w m e p → Sound w l → Sound w j →
      clock S k w e.who (e ∷ p) + w.delta < clock S k w l (q ++ (e ∷ p)) →
      Handing j m (clock S k w e.who (e ∷ p) + w.delta) (e ∷ p) (q ++ (e ∷ p))
  delivered_in [] e p m l j run sends sl sj late = absurd (run.0.timely [] e p refl m sends l sl late j sj)
  delivered_in (y ∷ q) e p m l j run sends sl sj late =
      let h : History = q ++ (e ∷ p) in
      let last : ℕ = clock S k w e.who (e ∷ p) + w.delta in
      let rec : last < clock S k w l h → Handing j m last (e ∷ p) h = delivered_in q e p m l j run.1 sends sl sj in
      elim (cases_lt last (clock S k w l h)) [
        | inl more ↦ handing_more j m last (e ∷ p) h y (rec more)
        | inr less ↦
            elim (f.clock_moves l y h) [
              | inl same ↦ absurd (omega arith)
              | inr t ↦
                  elim (run.0.timely (y ∷ q) e p refl m sends l sl late j sj) [
                    | inl x ↦ absurd (hands-no-tick m y.what x.1 t.1)
                    | inr o ↦
                        handing_more j m last (e ∷ p) h y
                        (handing_from j l m last q (e ∷ p) run.1 sj sl (omega arith) (was-from_once (λ x _. (x.who ≡ j) × Hands S k w m x.what) q o))
                  ]
            ]
      ]

  -- what a call sends in tick t is handed to every sound seat by tick t + delta, once a sound clock is past that
  pub delivered : (e : Event) (p h : History) (m : List ℕ) (l j : ℕ) → Run S k w h → Earlier (e ∷ p) h → Sends S k w m e p → Sound w l → Sound w j →
      clock S k w e.who (e ∷ p) + w.delta < clock S k w l h → Handing j m (clock S k w e.who (e ∷ p) + w.delta) (e ∷ p) h
  delivered e p h m l j run (q, s) sends sl sj late =
      subst (Handing j m (clock S k w e.who (e ∷ p) + w.delta) (e ∷ p)) (sym s)
      (delivered_in q e p m l j (subst (Run S k w) s run) sends sl sj (subst (λ z. clock S k w e.who (e ∷ p) + w.delta < clock S k w l z) s late))
