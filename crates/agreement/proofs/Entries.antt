-- How a seat came into its view.
use Rattle.std.proofs.Common.{◌≡◌, ℕ, suc, ◌+◌, ◌-◌, ◌*◌, ◌<◌, ◌≤◌, min, true, [], ◌∷◌, Some, sym, refl, ap, ◌∙◌, subst, inl, inr, arith}
use Rattle.content.specs.Kinds.{Kind}
use Rattle.blocks.specs.Ranks.{at_least}
use Rattle.state.specs.declared.state.Phase.TheVariants.{On, Leaving}
use Rattle.state.specs.declared.state.State.{State}
use Rattle.agreement.specs.History.{Desk, Event, History, clock, desk}
use Rattle.agreement.specs.Run.{Driven, Run}
use Rattle.agreement.specs.Setting.{Lawful, Setting, Sound}
use Rattle.agreement.specs.Laws.{SendsSome, Was, shelf, state}
use Rattle.agreement.proofs.Facts.{AsNotice, Entry, OnIn}
use Rattle.agreement.proofs.Invariant.{ordered, whose}
use Rattle.agreement.proofs.OneStep.{Core, on-leaving}
use Rattle.agreement.proofs.Sane.{PhaseFits}
use Rattle.agreement.proofs.Steps.{Step, departs, desk-none, desk-other, enters, rests, step, takes, ticks}
use Rattle.agreement.proofs.Time.{leaving-short, was_map, was-more}

module _ {L : ℕ} {R : Type 0} (S : ℕ) (k : Kind L R) (w : Setting) (lawful : Lawful w) where
  -- a call of the seat sent the notice of the view, in the tick since which the seat has been leaving it
  abbrev Left : ℕ → ℕ → ℕ → Event → History → Type 0
  Left i v since x r = (x.who ≡ i) × SendsSome S k w (AsNotice S k w v) x r × (clock S k w i (x ∷ r) ≡ since)

  -- a seat in this phase at this view, or leaving since
  abbrev LeavingIn : ℕ → ℕ → ℕ → History → Type 0
  LeavingIn i v since h = ((state S k w i h).phase ≡ Leaving since) × ((state S k w i h).view ≡ v)

  left_step : (e : Event) (p : History) (v since : ℕ) → Driven S k w e p → Step S k w e p (desk S k w e.who (e ∷ p)) →
      (LeavingIn e.who v since p → Was (Left e.who v since) p) → LeavingIn e.who v since (e ∷ p) → Was (Left e.who v since) (e ∷ p)
  left_step e p v since driven (rests c b) old h =
      was-more _ e p (old (sym (ap (λ (x : Core R). x.phase) c) ∙ h.0, sym (ap (λ (x : Core R). x.view) c) ∙ h.1))
  left_step e p v since driven (ticks call c b short) old h =
      was-more _ e p (old (sym (ap (λ (x : Core R). x.phase) c) ∙ h.0, sym (ap (λ (x : Core R). x.view) c) ∙ h.1))
  left_step e p v since driven (enters call other g long c b) old h = absurd (on-leaving since (sym (ap (λ (x : Core R). x.phase) c) ∙ h.0))
  left_step e p v since driven (takes c good follows co b took sends) old h =
      was-more _ e p (old (sym (ap (λ (x : Core R). x.phase) co) ∙ h.0, sym (ap (λ (x : Core R). x.view) co) ∙ h.1))
  left_step e p v since driven (departs u small leads c b sends) old h =
      let same : u ≡ v = sym (ap (λ (x : Core R). x.view) c) ∙ h.1 in
      let f : Leaving (state S k w e.who p).now ≡ Leaving since = sym (ap (λ (x : Core R). x.phase) c) ∙ h.0 in
      let t : (state S k w e.who p).now ≡ since = cc in
      ([], e, p, refl, (refl, subst (λ y. SendsSome S k w (AsNotice S k w y) e p) same (sends lawful driven), ap (λ (x : Core R). x.now) c ∙ t))

  left-was : (i v since : ℕ) (h : History) → Run S k w h → LeavingIn i v since h → Was (Left i v since) h
  left-was i v since [] run h = absurd (on-leaving since (sym (ap (λ (d : Desk S R). d.state.phase) (desk-none S k w i)) ∙ h.0))
  left-was i v since (e ∷ p) run h =
      elim (whose e.who i) [
        | inl q ↦
            subst (λ j. Was (Left j v since) (e ∷ p)) q
            (left_step e p v since run.0.driven (step S k w e p) (left-was e.who v since p run.1)
            (subst (λ j. LeavingIn j v since (e ∷ p)) (sym q) h))
        | inr q ↦
            was-more _ e p (left-was i v since p run.1
            (subst (λ (d : Desk S R). (d.state.phase ≡ Leaving since) × (d.state.view ≡ v)) (desk-other S k w i e p q) h))
      ]

  -- an entry stays one while the lock stays
  entry_kept : (i u : ℕ) (g h : History) → (state S k w i g).lock ≡ (state S k w i h).lock → (e : Event) (p : History) → Entry S k w i u g e p → Entry S k w i u h e p
  entry_kept i u g h same e p x = record {
    mine = x.mine;
    on_after = x.on_after;
    locks = λ b on. subst (λ l. at_least l (Some b.rank) ≡ true) same (x.locks b on);
    notice = x.notice;
  }

  entry_more : (i u : ℕ) (e : Event) (p : History) → (state S k w i p).lock ≡ (state S k w i (e ∷ p)).lock → Was (Entry S k w i u p) p → Was (Entry S k w i u (e ∷ p)) (e ∷ p)
  entry_more i u e p same x = was-more _ e p (was_map _ _ p (entry_kept i u p (e ∷ p) same) x)

  entry-step : (e : Event) (p : History) (u : ℕ) → Run S k w (e ∷ p) → Step S k w e p (desk S k w e.who (e ∷ p)) →
      (OnIn S k w e.who (suc u) p → Was (Entry S k w e.who u p) p) → OnIn S k w e.who (suc u) (e ∷ p) → Was (Entry S k w e.who u (e ∷ p)) (e ∷ p)
  entry-step e p u run (rests c b) old h =
      entry_more e.who u e p (sym (ap (λ (x : Core R). x.lock) c))
      (old (sym (ap (λ (x : Core R). x.phase) c) ∙ h.0, sym (ap (λ (x : Core R). x.view) c) ∙ h.1))
  entry-step e p u run (ticks call c b short) old h =
      entry_more e.who u e p (sym (ap (λ (x : Core R). x.lock) c))
      (old (sym (ap (λ (x : Core R). x.phase) c) ∙ h.0, sym (ap (λ (x : Core R). x.view) c) ∙ h.1))
  entry-step e p u run (takes c good follows co b took sends) old h =
      entry_more e.who u e p (sym (ap (λ (x : Core R). x.lock) co))
      (old (sym (ap (λ (x : Core R). x.phase) co) ∙ h.0, sym (ap (λ (x : Core R). x.view) co) ∙ h.1))
  entry-step e p u run (departs v small leads c b sends) old h =
      absurd (on-leaving (state S k w e.who p).now (sym h.0 ∙ ap (λ (x : Core R). x.phase) c))
  entry-step e p u run (enters call since f long c b) old h =
      let s : State S R = state S k w e.who p in
      let o = ordered S k w lawful e.who p run.1 in
      let short = leaving-short S k w lawful e.who since p run.0.driven.at_sound run.1 f in
      let low : since ≤ s.now = short.0 in
      let high : s.now ≤ since + 2 * w.delta = short.1 in
      let same : (w.terms e.who).delta ≡ w.delta = lawful.shares_delta e.who run.0.driven.at_sound in
      let enough : 2 * w.delta + 1 ≤ (s.now + 1) - since = subst (λ y. 2 * y + 1 ≤ (s.now + 1) - since) same long in
      let small : s.view < 65535 = (subst (λ ph. PhaseFits w.delta ph s.now s.view s.turn (shelf S k w e.who p)) f o.core_sane.phase_fits).0 in
      let into : min (s.view + 1) 65535 ≡ suc u = sym (ap (λ (x : Core R). x.view) c) ∙ h.1 in
      let from : s.view ≡ u = omega arith in
      let tick : clock S k w e.who (e ∷ p) ≡ s.now + 1 = ap (λ (x : Core R). x.now) c in
      let on_time : since + (2 * w.delta + 1) ≡ clock S k w e.who (e ∷ p) = omega arith in (
        [],
        e,
        p,
        refl,
        record {
          mine = refl;
          on_after = h;
          locks = λ x on. subst (λ l. at_least l (Some x.rank) ≡ true) (sym (ap (λ (x : Core R). x.lock) c)) (o.core_sane.covers x on);
          notice = was_map _ _ p (λ x r l. (l.0, l.1, ap (λ y. y + (2 * w.delta + 1)) l.2 ∙ on_time)) (left-was e.who u since p run.1 (f, from));
        },
      )

  entry-was : (i u : ℕ) (h : History) → Run S k w h → OnIn S k w i (suc u) h → Was (Entry S k w i u h) h
  entry-was i u [] run h = absurd (let z : 0 ≡ suc u = sym (ap (λ (d : Desk S R). d.state.view) (desk-none S k w i)) ∙ h.1 in omega arith)
  entry-was i u (e ∷ p) run h =
      elim (whose e.who i) [
        | inl q ↦
            subst (λ j. Was (Entry S k w j u (e ∷ p)) (e ∷ p)) q
            (entry-step e p u run (step S k w e p) (entry-was e.who u p run.1) (subst (λ j. OnIn S k w j (suc u) (e ∷ p)) (sym q) h))
        | inr q ↦
            entry_more i u e p (sym (ap (λ (d : Desk S R). d.state.lock) (desk-other S k w i e p q)))
            (entry-was i u p run.1 (subst (λ (d : Desk S R). (d.state.phase ≡ On) × (d.state.view ≡ suc u)) (desk-other S k w i e p q) h))
      ]

  pub entry : (i u : ℕ) (h : History) → Sound w i → Run S k w h → OnIn S k w i (suc u) h → (suc u ≤ 65535) × Was (Entry S k w i u h) h
  entry i u h sound run on =
      let s : State S R = state S k w i h in
      let small : s.view ≤ 65535 =
      (subst (λ ph. PhaseFits w.delta ph s.now s.view s.turn (shelf S k w i h)) on.0 (ordered S k w lawful i h run).core_sane.phase_fits).0 in
      (subst (λ v. v ≤ 65535) on.1 small, entry-was i u h run on)
