-- The time of one seat: its stage and its clock never fall, it leaves a view for 2D + 1 ticks, and how it entered its view.
use Rattle.std.proofs.Common.{◌≡◌, ℕ, ◌+◌, ◌*◌, ◌<◌, ◌≤◌, min, Bool, true, false, cond, ◌⊎◌, [], ◌∷◌, ◌++◌, sym, refl, ap, ◌∙◌, subst, inl, inr, arith}
use Rattle.content.specs.Kinds.{Kind}
use Rattle.state.specs.Parts.{is_on}
use Rattle.state.specs.declared.state.Phase.{Phase}
use Rattle.state.specs.declared.state.Phase.TheVariants.{On, Leaving}
use Rattle.state.specs.declared.state.State.{State}
use Rattle.agreement.specs.History.{Desk, Event, History, clock, desk}
use Rattle.agreement.specs.Run.{Run}
use Rattle.agreement.specs.Setting.{Lawful, Setting, Sound}
use Rattle.agreement.specs.Laws.{Earlier, Was, shelf, stage, state}
use Rattle.agreement.proofs.Facts.{Ticks}
use Rattle.agreement.proofs.Invariant.{Ordered, ordered, whose}
use Rattle.agreement.proofs.OneStep.{Core, on-leaving}
use Rattle.agreement.proofs.Sane.{PhaseFits}
use Rattle.agreement.proofs.Steps.{Step, departs, desk-other, enters, rests, step, takes, ticks}

-- the stage of a core
abbrev pub stage_of : {R : Type 0} → Core R → ℕ
stage_of x = cond (is_on x.phase) (2 * x.view) (2 * x.view + 1)

stage_most : (b : Bool) (v : ℕ) → cond b (2 * v) (2 * v + 1) ≤ 2 * v + 1
stage_most true v = omega arith
stage_most false v = omega arith

pub stage-leaving : (ph : Phase) (since v : ℕ) → ph ≡ Leaving since → cond (is_on ph) (2 * v) (2 * v + 1) ≡ 2 * v + 1
stage-leaving ph since v e = ap (λ x. cond (is_on x) (2 * v) (2 * v + 1)) e

pub stage-on : (ph : Phase) (v : ℕ) → ph ≡ On → cond (is_on ph) (2 * v) (2 * v + 1) ≡ 2 * v
stage-on ph v e = ap (λ x. cond (is_on x) (2 * v) (2 * v + 1)) e

-- an earlier call is one of the calls since
pub was-more : (P : Event → History → Type 0) (e : Event) (h : History) → Was P h → Was P (e ∷ h)
was-more P e h x = (e ∷ x.0, x.1, x.2, ap (λ r. e ∷ r) x.3, x.4)

pub was_map : (P Q : Event → History → Type 0) (h : History) → ((e : Event) (p : History) → P e p → Q e p) → Was P h → Was Q h
was_map P Q h f x = (x.0, x.1, x.2, x.3, f x.1 x.2 x.4)

module _ {L : ℕ} {R : Type 0} (S : ℕ) (k : Kind L R) (w : Setting) where
  -- a moment of a run ends a run
  pub run_tail : (q p : History) → Run S k w (q ++ p) → Run S k w p
  run_tail [] p run = run
  run_tail (e ∷ q) p run = run_tail q p run.1

  pub run_earlier : (p h : History) → Run S k w h → Earlier p h → Run S k w p
  run_earlier p h run x = run_tail x.0 p (subst (Run S k w) x.1 run)

  -- what holds at a moment and is kept by every call holds later
  pub kept-later : (P : History → Type 0) (p : History) → P p → ((e : Event) (h : History) → P h → P (e ∷ h)) → (h : History) → Earlier p h → P h
  kept-later P p base more h x = subst P (sym x.1) (go x.0)
    where
      go : (q : History) → P (q ++ p)
      go [] = base
      go (e ∷ q) = more e (q ++ p) (go q)

  pub kept_in_run : (P : History → Type 0) (p : History) → P p → ((e : Event) (h : History) → Run S k w (e ∷ h) → Earlier p h → P h → P (e ∷ h)) → (h : History) → Run S k w h → Earlier p h → P h
  kept_in_run P p base more h run x = subst P (sym x.1) (go x.0 (subst (Run S k w) x.1 run))
    where
      go : (q : History) → Run S k w (q ++ p) → P (q ++ p)
      go [] r = base
      go (e ∷ q) r = more e (q ++ p) r (q, refl) (go q r.1)

  -- only a tick moves a clock, its own seat's, and by one
  abbrev Moves : ℕ → Event → ℕ → ℕ → Type 0
  Moves i e before now = (now ≡ before) ⊎ ((e.who ≡ i) × Ticks e.what × (now ≡ before + 1))

  clock-step : (e : Event) (p : History) (d : Desk S R) → Step S k w e p d → Moves e.who e (clock S k w e.who p) d.state.now
  clock-step e p d (rests c b) = inl (ap (λ (x : Core R). x.now) c)
  clock-step e p d (ticks call c b short) = inr (refl, call, ap (λ (x : Core R). x.now) c)
  clock-step e p d (enters call since f long c b) = inr (refl, call, ap (λ (x : Core R). x.now) c)
  clock-step e p d (takes c good follows co b took sends) = inl (ap (λ (x : Core R). x.now) co)
  clock-step e p d (departs v small leads c b sends) = inl (ap (λ (x : Core R). x.now) c)

  pub clock_moves : (i : ℕ) (e : Event) (p : History) → (clock S k w i (e ∷ p) ≡ clock S k w i p) ⊎
      ((e.who ≡ i) × Ticks e.what × (clock S k w i (e ∷ p) ≡ clock S k w i p + 1))
  clock_moves i e p =
      elim (whose e.who i) [
        | inl q ↦ subst (λ j. Moves j e (clock S k w j p) (clock S k w j (e ∷ p))) q (clock-step e p (desk S k w e.who (e ∷ p)) (step S k w e p))
        | inr q ↦ inl (ap (λ (d : Desk S R). d.state.now) (desk-other S k w i e p q))
      ]

  -- so no clock falls
  clock-next : (i : ℕ) (e : Event) (p : History) → clock S k w i p ≤ clock S k w i (e ∷ p)
  clock-next i e p =
      elim (clock_moves i e p) [
        | inl q ↦ (let z : clock S k w i (e ∷ p) ≡ clock S k w i p = q in omega arith)
        | inr q ↦ (let z : clock S k w i (e ∷ p) ≡ clock S k w i p + 1 = q.2 in omega arith)
      ]

  pub clock_rises : (i : ℕ) (p h : History) → Earlier p h → clock S k w i p ≤ clock S k w i h
  clock_rises i p h x =
      kept-later (λ h. clock S k w i p ≤ clock S k w i h) p (omega arith)
      (λ e h l. let n : clock S k w i h ≤ clock S k w i (e ∷ h) = clock-next i e h in omega arith) h x

  -- while leaving, what the order of a seat says of its time
  fits-leaving : (i since : ℕ) (h : History) → Ordered S k w (desk S k w i h) → (state S k w i h).phase ≡ Leaving since →
      ((state S k w i h).view < 65535) × (since ≤ clock S k w i h) × (clock S k w i h ≤ since + 2 * w.delta)
  fits-leaving i since h o e =
      let s : State S R = state S k w i h in
      subst (λ ph. PhaseFits w.delta ph s.now s.view s.turn (shelf S k w i h)) e o.core_sane.phase_fits

  module _ (lawful : Lawful w) where
    pub leaving-short : (i since : ℕ) (h : History) → Sound w i → Run S k w h → (state S k w i h).phase ≡ Leaving since →
        (since ≤ clock S k w i h) × (clock S k w i h ≤ since + 2 * w.delta)
    leaving-short i since h sound run e =
        let f = fits-leaving i since h (ordered S k w lawful i h run) e in
        (f.1, f.2)

    -- the stage never falls
    stage-step : (e : Event) (p : History) (d : Desk S R) → Ordered S k w (desk S k w e.who p) → Step S k w e p d → stage (state S k w e.who p) ≤ stage d.state
    stage-step e p d o (rests c b) = let z : stage d.state ≡ stage (state S k w e.who p) = ap stage_of c in omega arith
    stage-step e p d o (ticks call c b short) = let z : stage d.state ≡ stage (state S k w e.who p) = ap stage_of c in omega arith
    stage-step e p d o (enters call since f long c b) =
        let v : ℕ = (state S k w e.who p).view in
        let z : stage d.state ≡ 2 * min (v + 1) 65535 = ap stage_of c in
        let y : stage (state S k w e.who p) ≡ 2 * v + 1 = stage-leaving (state S k w e.who p).phase since v f in
        let small : v < 65535 = (fits-leaving e.who since p o f).0 in
        omega arith
    stage-step e p d o (takes c good follows co b took sends) = let z : stage d.state ≡ stage (state S k w e.who p) = ap stage_of co in omega arith
    stage-step e p d o (departs v small leads c b sends) =
        let u : ℕ = (state S k w e.who p).view in
        let z : stage d.state ≡ 2 * v + 1 = ap stage_of c in
        let y : stage (state S k w e.who p) ≤ 2 * u + 1 = stage_most (is_on (state S k w e.who p).phase) u in
        elim leads [
          | inl l ↦ (let m : u < v = l in omega arith)
          | inr l ↦ (let m : u ≡ v = l.1 in omega arith)
        ]

    stage-next : (i : ℕ) (e : Event) (p : History) → Run S k w (e ∷ p) → stage (state S k w i p) ≤ stage (state S k w i (e ∷ p))
    stage-next i e p run =
        elim (whose e.who i) [
          | inl q ↦
              subst (λ j. stage (state S k w j p) ≤ stage (state S k w j (e ∷ p))) q
              (stage-step e p (desk S k w e.who (e ∷ p)) (ordered S k w lawful e.who p run.1) (step S k w e p))
          | inr q ↦ (let z : stage (state S k w i (e ∷ p)) ≡ stage (state S k w i p) = ap (λ (d : Desk S R). stage d.state) (desk-other S k w i e p q) in omega arith)
        ]

    pub stage_rises : (i : ℕ) (p h : History) → Sound w i → Run S k w h → Earlier p h → stage (state S k w i p) ≤ stage (state S k w i h)
    stage_rises i p h sound run x =
        kept_in_run (λ h. stage (state S k w i p) ≤ stage (state S k w i h)) p (omega arith)
        (λ e h r _ l. let n : stage (state S k w i h) ≤ stage (state S k w i (e ∷ h)) = stage-next i e h r in omega arith) h run x

    -- a seat that is leaving, and was at the same stage before the call, has been leaving since the same tick
    since-step : (e : Event) (p : History) (d : Desk S R) (since : ℕ) → Step S k w e p d → stage (state S k w e.who p) ≡ stage d.state →
        d.state.phase ≡ Leaving since → (state S k w e.who p).phase ≡ Leaving since
    since-step e p d since (rests c b) s f = sym (ap (λ (x : Core R). x.phase) c) ∙ f
    since-step e p d since (ticks call c b short) s f = sym (ap (λ (x : Core R). x.phase) c) ∙ f
    since-step e p d since (enters call since' g long c b) s f = absurd (on-leaving since (sym (ap (λ (x : Core R). x.phase) c) ∙ f))
    since-step e p d since (takes c good follows co b took sends) s f = sym (ap (λ (x : Core R). x.phase) co) ∙ f
    since-step e p d since (departs v small leads c b sends) s f =
        let u : ℕ = (state S k w e.who p).view in
        let z : stage d.state ≡ 2 * v + 1 = ap stage_of c in
        let y : stage (state S k w e.who p) ≤ 2 * u + 1 = stage_most (is_on (state S k w e.who p).phase) u in
        absurd (elim leads [
          | inl l ↦ (let m : u < v = l in omega arith)
          | inr l ↦ (let m : u ≡ v = l.1 in let n : stage (state S k w e.who p) ≡ 2 * u = stage-on (state S k w e.who p).phase u l.0 in omega arith)
        ])

    since-next : (i : ℕ) (e : Event) (p : History) (since : ℕ) → stage (state S k w i p) ≡ stage (state S k w i (e ∷ p)) →
        (state S k w i (e ∷ p)).phase ≡ Leaving since → (state S k w i p).phase ≡ Leaving since
    since-next i e p since s f =
        elim (whose e.who i) [
          | inl q ↦
              subst (λ j. (state S k w j p).phase ≡ Leaving since) q
              (since-step e p (desk S k w e.who (e ∷ p)) since (step S k w e p)
              (subst (λ j. stage (state S k w j p) ≡ stage (state S k w j (e ∷ p))) (sym q) s) (subst (λ j. (state S k w j (e ∷ p)).phase ≡ Leaving since) (sym q) f))
          | inr q ↦ sym (ap (λ (d : Desk S R). d.state.phase) (desk-other S k w i e p q)) ∙ f
        ]

    pub leaving-began : (i since : ℕ) (p h : History) → Sound w i → Run S k w h → Earlier p h →
        stage (state S k w i p) ≡ stage (state S k w i h) → (state S k w i h).phase ≡ Leaving since → since ≤ clock S k w i p
    leaving-began i since p h sound run x =
        kept_in_run (λ h. stage (state S k w i p) ≡ stage (state S k w i h) → (state S k w i h).phase ≡ Leaving since → since ≤ clock S k w i p) p
        (λ s f. (leaving-short i since p sound (run_earlier p h run x) f).0)
        (λ e h r y l s f.
        let a : stage (state S k w i p) ≤ stage (state S k w i h) = stage_rises i p h sound r.1 y in
        let b : stage (state S k w i h) ≤ stage (state S k w i (e ∷ h)) = stage-next i e h r in
        let c : stage (state S k w i h) ≡ stage (state S k w i (e ∷ h)) = omega arith in
        l (omega arith) (since-next i e h since c f)) h run x
