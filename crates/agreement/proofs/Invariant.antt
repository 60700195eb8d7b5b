-- Every sound seat, at every moment of a run, is in order.
use Rattle.std.proofs.Common.{◌≡◌, ℕ, ◌+◌, ◌-◌, ◌*◌, ◌<◌, min, false, eqb, leb, ◌⊎◌, List, [], ◌∷◌, ◌++◌, Ok, Err, Result, sym, refl, subst, inl, inr, arith}
use Rattle.std.proofs.lemmas.Bool.{cases_Bool, eqb-true, eqb-false, true≢false}
use Rattle.content.specs.Kinds.{Kind}
use Rattle.content.specs.declared.refusal.Refusal.{Refusal}
use Rattle.content.specs.declared.refusal.Refusal.TheVariants.{LastTick}
use Rattle.blocks.specs.declared.block.Block.{Block}
use Rattle.wire.proofs.OneForm.{lawful-from_read}
use Rattle.wire.proofs.Steps.{Gives, gives_ok, gives_unless}
use Rattle.state.specs.Calls.{last_tick_of, state_after}
use Rattle.state.specs.Parts.{is_on, new_state}
use Rattle.state.specs.Sends.{Outcome}
use Rattle.state.specs.Tick.{tick_step}
use Rattle.state.specs.declared.state.Phase.{Phase}
use Rattle.state.specs.declared.state.Phase.TheVariants.{On, Leaving}
use Rattle.state.specs.declared.state.State.{State}
use Rattle.agreement.specs.History.{Call, Desk, Event, History, after, desk, hand, offer, outcome, sent, tick}
use Rattle.agreement.specs.Run.{Driven, Run}
use Rattle.agreement.specs.Setting.{Lawful, Setting}
use Rattle.agreement.specs.Laws.{shelf, state}
use Rattle.agreement.proofs.OneStep.{core}
use Rattle.agreement.proofs.Rounds.{RoundSane, message_sane, offer_sane, tick_sane}
use Rattle.agreement.proofs.Sane.{CoreSane, PhaseFits, sane_arrived, sane_later, sane_left, sane_shelved}
use Rattle.agreement.proofs.Steps.{Step, departs, desk-mine, desk-none, desk-other, enters, event, gives_guarded, gives_hand, rests, step, takes, ticks}

-- whose call it is
pub whose : (i j : ℕ) → (i ≡ j) ⊎ (i ≡ j → ⊥)
whose i j = elim (cases_Bool (eqb i j)) [ inl t ↦ inl (eqb-true i j t) | inr f ↦ inr (eqb-false i j f) ]

leaving-small : {R : Type 0} (delta : ℕ) (ph : Phase) (now view turn : ℕ) (bs : List (Block R)) → PhaseFits delta ph now view turn bs → is_on ph ≡ false → view < 65535
leaving-small delta On now view turn bs h e = absurd (true≢false e)
leaving-small delta (Leaving since) now view turn bs h e = h.0

module _ {L : ℕ} {R : Type 0} (S : ℕ) (k : Kind L R) (w : Setting) where
  -- a seat in order: its core with its shelf, and its note with its rows of seals
  pub record Ordered (d : Desk S R) : Type 0 where
    pub core_sane : CoreSane k w.delta (core d.state) d.blocks
    pub round_sane : RoundSane k d.state

  module _ (lawful : Lawful w) where
    core-step : (e : Event) (p : History) (d : Desk S R) → Driven S k w e p →
        CoreSane k w.delta (core (state S k w e.who p)) (shelf S k w e.who p) → Step S k w e p d → CoreSane k w.delta (core d.state) d.blocks
    core-step e p d driven h (rests c b) =
        subst (CoreSane k w.delta (core d.state)) (sym b) (subst (λ x. CoreSane k w.delta x (shelf S k w e.who p)) (sym c) h)
    core-step e p d driven h (ticks call c b short) =
        let same : (w.terms e.who).delta ≡ w.delta = lawful.shares_delta e.who driven.at_sound in
        let n : (since : ℕ) → (state S k w e.who p).phase ≡ Leaving since → ((state S k w e.who p).now + 1) - since < 2 * w.delta + 1 =
        λ since f. subst (λ x. ((state S k w e.who p).now + 1) - since < 2 * x + 1) same (short since f) in
        let g = sane_later k w.delta (core (state S k w e.who p)) (shelf S k w e.who p) n h in
        subst (CoreSane k w.delta (core d.state)) (sym b) (subst (λ x. CoreSane k w.delta x (shelf S k w e.who p)) (sym c) g)
    core-step e p d driven h (enters call since f long c b) =
        let g = sane_arrived k w.delta (min ((state S k w e.who p).view + 1) 65535) (core (state S k w e.who p)) (shelf S k w e.who p) (omega arith) h in
        subst (CoreSane k w.delta (core d.state)) (sym b) (subst (λ x. CoreSane k w.delta x (shelf S k w e.who p)) (sym c) g)
    core-step e p d driven h (takes c good follows co b took sends) =
        let g = sane_shelved k w.delta c (state S k w e.who p).spoiled (core (state S k w e.who p)) (shelf S k w e.who p) (good lawful driven) follows h in
        subst (CoreSane k w.delta (core d.state)) (sym b) (subst (λ x. CoreSane k w.delta x (shelf S k w e.who p ++ (c.block ∷ []))) (sym co) g)
    core-step e p d driven h (departs v small leads c b sends) =
        let g = sane_left k w.delta v (core (state S k w e.who p)) (shelf S k w e.who p) (small lawful driven) h in
        subst (CoreSane k w.delta (core d.state)) (sym b) (subst (λ x. CoreSane k w.delta x (shelf S k w e.who p)) (sym c) g)

    round_result : (s : State S R) (r : Result (Outcome S R) Refusal) → RoundSane k s → Gives r (λ o. RoundSane k o.state) → RoundSane k (state_after s r)
    round_result s (Ok o) h g = g o refl
    round_result s (Err x) h g = h

    round_step : (i : ℕ) (c : Call) (p : History) → Driven S k w (event i c) p → Ordered (desk S k w i p) → RoundSane k (after k w i c (desk S k w i p)).state
    round_step i (hand inbox room) p driven h =
        let d : Desk S R = desk S k w i p in
        round_result d.state (outcome k w i (hand inbox room) d) h.round_sane (λ o e.
        let g = gives_hand S k w i inbox room d o e in
        message_sane k (w.terms i) (w.terms i).seats.n d.state d.blocks (w.cells i) g.0
        (lawful-from_read k S (w.terms i).seats.n inbox g.0 driven.in_bytes g.1.0) h.round_sane o g.2)
    round_step i (tick room) p driven h =
        let d : Desk S R = desk S k w i p in
        let s : State S R = d.state in
        let small : is_on s.phase ≡ false → s.view < 65535 = leaving-small w.delta s.phase s.now s.view s.turn d.blocks h.core_sane.phase_fits in
        round_result s (outcome k w i (tick room) d) h.round_sane
        (gives_guarded {Q = λ o. RoundSane k o.state} s room _
        (gives_unless {Q = λ o. RoundSane k o.state} (leb last_tick_of s.now) _ LastTick (λ _.
        gives_ok (λ o. RoundSane k o.state) (tick_step (w.terms i) s d.blocks) (tick_sane k (w.terms i) s d.blocks small h.round_sane))))
    round_step i (offer content room) p driven h =
        let d : Desk S R = desk S k w i p in
        round_result d.state (outcome k w i (offer content room) d) h.round_sane
        (gives_guarded {Q = λ o. RoundSane k o.state} d.state room _
        (offer_sane k (w.terms i) w.leader d.state d.blocks content h.round_sane))
    round_step i sent p driven h = h.round_sane

    -- a call keeps its seat in order
    pub keeps_order : (e : Event) (p : History) → Driven S k w e p → Ordered (desk S k w e.who p) → Ordered (desk S k w e.who (e ∷ p))
    keeps_order e p driven h = record {
      core_sane = core-step e p (desk S k w e.who (e ∷ p)) driven h.core_sane (step S k w e p);
      round_sane = subst (λ (d : Desk S R). RoundSane k d.state) (sym (desk-mine S k w e.who e p refl)) (round_step e.who e.what p driven h);
    }

    new_order : Ordered (record { state = new_state; blocks = [] })
    new_order = record {
      core_sane = record {
        grown = tt;
        lawful = λ b h. absurd h;
        phase_fits = (omega arith, ((λ t z. absurd (omega arith)), λ b h e. absurd h));
        covers = λ b h. absurd h;
        best_lawful = tt;
        committed_lawful = tt;
      };
      round_sane = (tt, tt);
    }

    -- every sound seat, at every moment of a run, is in order
    pub ordered : (i : ℕ) (h : History) → Run S k w h → Ordered (desk S k w i h)
    ordered i [] run = subst Ordered (sym (desk-none S k w i)) new_order
    ordered i (e ∷ p) run =
        elim (whose e.who i) [
          | inl q ↦ subst (λ j. Ordered (desk S k w j (e ∷ p))) q (keeps_order e p run.0.driven (ordered e.who p run.1))
          | inr q ↦ subst Ordered (sym (desk-other S k w i e p q)) (ordered i p run.1)
        ]
