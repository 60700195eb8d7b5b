-- What every call of a seat keeps holds of the seat along every run.
use Rattle.std.proofs.Common.{◌≡◌, ℕ, Bool, true, false, List, [], ◌∷◌, Ok, Err, Result, sym, refl, ap, ◌∙◌, subst, inl, inr}
use Rattle.content.specs.Kinds.{Kind}
use Rattle.content.specs.declared.refusal.Refusal.{Refusal}
use Rattle.blocks.specs.declared.block.Block.{Block}
use Rattle.wire.specs.Asked.{asked, judge}
use Rattle.wire.specs.Lawful.{LawfulParts}
use Rattle.wire.specs.Reading.{read_parts}
use Rattle.wire.specs.declared.message.Parts.{Parts}
use Rattle.wire.proofs.OneForm.{lawful-from_read}
use Rattle.state.specs.Calls.{blocks_after, state_after}
use Rattle.state.specs.HandIn.{hand_parts}
use Rattle.state.specs.Parts.{new_state, with_slip}
use Rattle.state.specs.Sends.{Outcome}
use Rattle.state.specs.declared.state.State.{State}
use Rattle.agreement.specs.History.{Call, Desk, Event, History, after, desk, hand, inbox_of, offer, outcome, result, sent, tick}
use Rattle.agreement.specs.Run.{Moment, Run}
use Rattle.agreement.specs.Setting.{Lawful, Setting, Sound}
use Rattle.agreement.proofs.Basics.{err_ok, ok_same}
use Rattle.agreement.proofs.Cases.{handed, offered_so, tick_so}
use Rattle.agreement.specs.Laws.{shelf, state}
use Rattle.agreement.proofs.Facts.{GoodMessage}
use Rattle.agreement.proofs.Invariant.{whose}
use Rattle.agreement.proofs.Keeps.{Keeps, keep_hand, keep_tick}
use Rattle.agreement.proofs.Steps.{desk-mine, desk-none, desk-other}

module _ {L : ℕ} {R : Type 0} (S : ℕ) (k : Kind L R) (w : Setting) where
  -- the seat after a call that was carried out, and after one that was refused
  pub desk-done : (e : Event) (p : History) (o : Outcome S R) → result S k w e p ≡ Ok o →
      (out : Bool) × (desk S k w e.who (e ∷ p) ≡ record { state = with_slip out o.state; blocks = o.blocks })
  desk-done e p o r = by e.what refl
    where
      d : Desk S R
      d = desk S k w e.who p

      by : (c : Call) → e.what ≡ c → (out : Bool) × (desk S k w e.who (e ∷ p) ≡ record { state = with_slip out o.state; blocks = o.blocks })
      by (hand inbox room) q =
          let r' : outcome k w e.who (hand inbox room) d ≡ Ok o = ap (λ c. outcome k w e.who c d) (sym q) ∙ r in
          (true, desk-mine S k w e.who e p refl ∙ ap (λ c. after k w e.who c d) q ∙ ap (λ (x : Result (Outcome S R) Refusal). record { state = state_after d.state x; blocks = blocks_after d.blocks x }) r')
      by (tick room) q =
          let r' : outcome k w e.who (tick room) d ≡ Ok o = ap (λ c. outcome k w e.who c d) (sym q) ∙ r in
          (true, desk-mine S k w e.who e p refl ∙ ap (λ c. after k w e.who c d) q ∙ ap (λ (x : Result (Outcome S R) Refusal). record { state = state_after d.state x; blocks = blocks_after d.blocks x }) r')
      by (offer content room) q =
          let r' : outcome k w e.who (offer content room) d ≡ Ok o = ap (λ c. outcome k w e.who c d) (sym q) ∙ r in
          (true, desk-mine S k w e.who e p refl ∙ ap (λ c. after k w e.who c d) q ∙ ap (λ (x : Result (Outcome S R) Refusal). record { state = state_after d.state x; blocks = blocks_after d.blocks x }) r')
      by sent q =
          let r' : outcome k w e.who sent d ≡ Ok o = ap (λ c. outcome k w e.who c d) (sym q) ∙ r in
          (false, desk-mine S k w e.who e p refl ∙ ap (λ c. after k w e.who c d) q ∙ ap (λ (x : Outcome S R). record { state = with_slip false x.state; blocks = x.blocks }) (ok_same r'))

  pub desk-refused : (e : Event) (p : History) (x : Refusal) → result S k w e p ≡ Err x → desk S k w e.who (e ∷ p) ≡ desk S k w e.who p
  desk-refused e p x r = by e.what refl
    where
      d : Desk S R
      d = desk S k w e.who p

      by : (c : Call) → e.what ≡ c → desk S k w e.who (e ∷ p) ≡ desk S k w e.who p
      by (hand inbox room) q =
          let r' : outcome k w e.who (hand inbox room) d ≡ Err x = ap (λ c. outcome k w e.who c d) (sym q) ∙ r in
          desk-mine S k w e.who e p refl ∙ ap (λ c. after k w e.who c d) q ∙ ap (λ (x : Result (Outcome S R) Refusal). record { state = state_after d.state x; blocks = blocks_after d.blocks x }) r'
      by (tick room) q =
          let r' : outcome k w e.who (tick room) d ≡ Err x = ap (λ c. outcome k w e.who c d) (sym q) ∙ r in
          desk-mine S k w e.who e p refl ∙ ap (λ c. after k w e.who c d) q ∙ ap (λ (x : Result (Outcome S R) Refusal). record { state = state_after d.state x; blocks = blocks_after d.blocks x }) r'
      by (offer content room) q =
          let r' : outcome k w e.who (offer content room) d ≡ Err x = ap (λ c. outcome k w e.who c d) (sym q) ∙ r in
          desk-mine S k w e.who e p refl ∙ ap (λ c. after k w e.who c d) q ∙ ap (λ (x : Result (Outcome S R) Refusal). record { state = state_after d.state x; blocks = blocks_after d.blocks x }) r'
      by sent q = absurd (err_ok (sym r ∙ ap (λ c. outcome k w e.who c d) q))

  -- the call handed in this message: it was read, it keeps the layout, and its seals are good
  abbrev pub Handed : Event → Parts R (List ℕ) → Type 0
  Handed e m = GoodMessage S k w m e × LawfulParts k S w.n m

  -- the call ended so
  abbrev pub Ends : Event → History → Outcome S R → Type 0
  Ends e p o = result S k w e p ≡ Ok o

  -- what the small changes of this call keep
  abbrev pub Kept : Event → History → (State S R → List (Block R) → Type 0) → Type 0
  Kept e p Q = Keeps k (w.terms e.who) (w.cells e.who) (Handed e) (Ends e p) (shelf S k w e.who p) Q

module _ {L : ℕ} {R : Type 0} (S : ℕ) (k : Kind L R) (w : Setting) (law : Lawful w) where
  -- a message handed in, as the seat's terms read it
  pub handed-good : (e : Event) (p : History) (inbox : List ℕ) (room : ℕ) (o : Outcome S R) → Moment S k w e p → e.what ≡ hand inbox room → result S k w e p ≡ Ok o →
      (m : Parts R (List ℕ)) × Handed S k w e m × (hand_parts k (w.terms e.who) (state S k w e.who p) (shelf S k w e.who p) (w.cells e.who) m ≡ Ok o)
  handed-good e p inbox room o now q r =
      let d : Desk S R = desk S k w e.who p in
      let r' : outcome k w e.who (hand inbox room) d ≡ Ok o = ap (λ c. outcome k w e.who c d) (sym q) ∙ r in
      let h = handed k (w.terms e.who) w.leader w.accepts d.state d.blocks (w.cells e.who) inbox room o r' in
      let n : (w.terms e.who).seats.n ≡ w.n = law.shares_n e.who now.driven.at_sound in
      let box : inbox ≡ inbox_of e.what = ap inbox_of (sym q) in
      let reads : read_parts k S w.n (inbox_of e.what) ≡ Ok h.0 =
      subst (λ (xs : List ℕ). read_parts k S w.n xs ≡ Ok h.0) box (subst (λ (j : ℕ). read_parts k S j inbox ≡ Ok h.0) n h.1) in
      let good : judge w.accepts (asked k S w.n w.leader h.0) ≡ Ok tt = subst (λ (j : ℕ). judge w.accepts (asked k S j w.leader h.0) ≡ Ok tt) n h.2 in
      (h.0, ((reads, good), lawful-from_read k S w.n (inbox_of e.what) h.0 now.driven.in_bytes reads), h.3)

  -- one call
  pub keep_call : (Q : State S R → List (Block R) → Type 0) (e : Event) (p : History) → Moment S k w e p → Kept S k w e p Q →
      Q (state S k w e.who p) (shelf S k w e.who p) → Q (state S k w e.who (e ∷ p)) (shelf S k w e.who (e ∷ p))
  keep_call Q e p now keep q = by (result S k w e p) refl
    where
      d : Desk S R
      d = desk S k w e.who p

      call : (c : Call) (o : Outcome S R) → e.what ≡ c → result S k w e p ≡ Ok o → Q o.state o.blocks
      call (hand inbox room) o c r =
          let h = handed-good e p inbox room o now c r in
          keep_hand k (w.terms e.who) (w.cells e.who) (Handed S k w e) (Ends S k w e p) d.blocks Q keep d.state h.0 o h.1 h.2 r q
      call (tick room) o c r =
          let r' : outcome k w e.who (tick room) d ≡ Ok o = ap (λ c. outcome k w e.who c d) (sym c) ∙ r in
          subst (λ (x : Outcome S R). Q x.state x.blocks) (sym (tick_so (w.terms e.who) d.state d.blocks room o r'))
          (keep_tick k (w.terms e.who) (w.cells e.who) (Handed S k w e) (Ends S k w e p) d.blocks Q keep d.state d.blocks q)
      call (offer content room) o c r =
          let r' : outcome k w e.who (offer content room) d ≡ Ok o = ap (λ c. outcome k w e.who c d) (sym c) ∙ r in
          let h = offered_so k (w.terms e.who) w.leader d.state d.blocks content room o r' in
          subst (λ (x : Outcome S R). Q x.state x.blocks) (sym h.1) (keep.offers_own d.state d.blocks h.2 h.3 h.4 q)
      call sent o c r =
          let r' : outcome k w e.who sent d ≡ Ok o = ap (λ c. outcome k w e.who c d) (sym c) ∙ r in
          subst (λ (x : Outcome S R). Q x.state x.blocks) (ok_same r') (keep.slips d.state d.blocks false q)

      by : (x : Result (Outcome S R) Refusal) → result S k w e p ≡ x → Q (state S k w e.who (e ∷ p)) (shelf S k w e.who (e ∷ p))
      by (Err x) r = subst (λ (y : Desk S R). Q y.state y.blocks) (sym (desk-refused S k w e p x r)) q
      by (Ok o) r =
          let f = desk-done S k w e p o r in
          subst (λ (y : Desk S R). Q y.state y.blocks) (sym f.1) (keep.slips o.state o.blocks f.0 (call e.what o refl r))

  -- every call
  module _ (Inv : ℕ → History → State S R → List (Block R) → Type 0)
      (base : (i : ℕ) → Inv i [] new_state [])
      (lift : (i : ℕ) (e : Event) (p : History) (s : State S R) (bs : List (Block R)) → Inv i p s bs → Inv i (e ∷ p) s bs)
      (keep : (e : Event) (p : History) → Moment S k w e p → Run S k w p → Kept S k w e p (Inv e.who (e ∷ p))) where
    pub along : (i : ℕ) (h : History) → Sound w i → Run S k w h → Inv i h (state S k w i h) (shelf S k w i h)
    along i [] sound run = subst (λ (d : Desk S R). Inv i [] d.state d.blocks) (sym (desk-none S k w i)) (base i)
    along i (e ∷ p) sound run =
        let q : Inv i p (state S k w i p) (shelf S k w i p) = along i p sound run.1 in
        let l : Inv i (e ∷ p) (state S k w i p) (shelf S k w i p) = lift i e p (state S k w i p) (shelf S k w i p) q in
        elim (whose e.who i) [
          | inl mine ↦
              let same : i ≡ e.who = sym mine in
              subst (λ (j : ℕ). Inv j (e ∷ p) (state S k w j (e ∷ p)) (shelf S k w j (e ∷ p))) (sym same)
              (keep_call (Inv e.who (e ∷ p)) e p run.0 (keep e p run.0 run.1)
              (subst (λ (j : ℕ). Inv j (e ∷ p) (state S k w j p) (shelf S k w j p)) same l))
          | inr other ↦ subst (λ (d : Desk S R). Inv i (e ∷ p) d.state d.blocks) (sym (desk-other S k w i e p other)) l
        ]

  -- the same for facts that are said of the moment before each call
  module _ (Inv : ℕ → History → State S R → List (Block R) → Type 0)
      (base : (i : ℕ) → Inv i [] new_state [])
      (lift : (i : ℕ) (e : Event) (p : History) (s : State S R) (bs : List (Block R)) → Inv i p s bs → Inv i (e ∷ p) s bs)
      (keep : (e : Event) (p : History) → Moment S k w e p → Run S k w p → Kept S k w e p (Inv e.who p)) where
    pub along-before : (i : ℕ) (h : History) → Sound w i → Run S k w h → Inv i h (state S k w i h) (shelf S k w i h)
    along-before i [] sound run = subst (λ (d : Desk S R). Inv i [] d.state d.blocks) (sym (desk-none S k w i)) (base i)
    along-before i (e ∷ p) sound run =
        let q : Inv i p (state S k w i p) (shelf S k w i p) = along-before i p sound run.1 in
        elim (whose e.who i) [
          | inl mine ↦
              let same : i ≡ e.who = sym mine in
              subst (λ (j : ℕ). Inv j (e ∷ p) (state S k w j (e ∷ p)) (shelf S k w j (e ∷ p))) (sym same)
              (lift e.who e p (state S k w e.who (e ∷ p)) (shelf S k w e.who (e ∷ p))
              (keep_call (Inv e.who p) e p run.0 (keep e p run.0 run.1)
              (subst (λ (j : ℕ). Inv j p (state S k w j p) (shelf S k w j p)) same q)))
          | inr other ↦ subst (λ (d : Desk S R). Inv i (e ∷ p) d.state d.blocks) (sym (desk-other S k w i e p other)) (lift i e p (state S k w i p) (shelf S k w i p) q)
        ]
