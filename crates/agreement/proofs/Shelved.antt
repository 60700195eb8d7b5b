-- The shelf of one seat: it only grows, has lawful blocks with their parents, one a rank, and each was sent when it was taken in.
use Rattle.std.proofs.Common.{◌≡◌, ℕ, ◌<◌, ◌≤◌, [], ◌∷◌, Some, Ok, sym, refl, subst, inl, inr, arith}
use Rattle.std.proofs.lemmas.Bool.{cases_lt}
use Rattle.content.specs.Kinds.{Kind}
use Rattle.blocks.specs.declared.block.Block.{Block}
use Rattle.wire.specs.Lawful.{LawfulBlock}
use Rattle.shelf.specs.Blocks.{read_below}
use Rattle.state.specs.declared.state.State.{State}
use Rattle.agreement.specs.Committed.{Takes}
use Rattle.agreement.specs.History.{Desk, Event, History, desk}
use Rattle.agreement.specs.Run.{Driven, Run}
use Rattle.agreement.specs.Setting.{Lawful, Setting, Sound}
use Rattle.agreement.specs.Laws.{AsCertificate, Earlier, OnShelf, ParentOn, SendsSome, Was, shelf, state}
use Rattle.agreement.proofs.Facts.{Descends, OnIn}
use Rattle.agreement.proofs.Invariant.{ordered, whose}
use Rattle.agreement.proofs.Sane.{PhaseFits, Turns}
use Rattle.agreement.proofs.Shelves.{lawful-high, on_append, on_pushed, one_rank, parent-on, reads-below}
use Rattle.agreement.proofs.Steps.{Step, departs, desk-none, desk-other, enters, rests, step, takes, ticks}
use Rattle.agreement.proofs.Time.{kept-later, was-more}

module _ {L : ℕ} {R : Type 0} (S : ℕ) (k : Kind L R) (w : Setting) where
  grows_step : (e : Event) (p : History) (d : Desk S R) (b : Block R) → Step S k w e p d → OnShelf b (shelf S k w e.who p) → OnShelf b d.blocks
  grows_step e p d b (rests c f) h = subst (OnShelf b) (sym f) h
  grows_step e p d b (ticks call c f short) h = subst (OnShelf b) (sym f) h
  grows_step e p d b (enters call since g long c f) h = subst (OnShelf b) (sym f) h
  grows_step e p d b (takes c good follows co f took sends) h = subst (OnShelf b) (sym f) (on_append b (shelf S k w e.who p) (c.block ∷ []) h)
  grows_step e p d b (departs v small leads c f sends) h = subst (OnShelf b) (sym f) h

  pub shelf_grows : (i : ℕ) (p h : History) (b : Block R) → Earlier p h → OnShelf b (shelf S k w i p) → OnShelf b (shelf S k w i h)
  shelf_grows i p h b x on =
      kept-later S k w (λ h. OnShelf b (shelf S k w i h)) p on (λ e h old.
      elim (whose e.who i) [
        | inl q ↦
            subst (λ j. OnShelf b (shelf S k w j (e ∷ h))) q
            (grows_step e h (desk S k w e.who (e ∷ h)) b (step S k w e h) (subst (λ j. OnShelf b (shelf S k w j h)) (sym q) old))
        | inr q ↦ subst (λ (d : Desk S R). OnShelf b d.blocks) (sym (desk-other S k w i e h q)) old
      ]) h x

  module _ (lawful : Lawful w) where
    pub shelf-lawful : (i : ℕ) (h : History) (b : Block R) → Sound w i → Run S k w h → OnShelf b (shelf S k w i h) → LawfulBlock k b
    shelf-lawful i h b sound run on = (ordered S k w lawful i h run).core_sane.lawful b on

    pub shelf-closed : (i : ℕ) (h : History) (b : Block R) → Sound w i → Run S k w h → OnShelf b (shelf S k w i h) → ParentOn S k w b (shelf S k w i h)
    shelf-closed i h b sound run on =
        let o = (ordered S k w lawful i h run).core_sane in
        let l = o.lawful b on in
        let low : 1 ≤ b.height = lawful-high b.rank.view b.rank.turn b.height b.parent.view b.parent.turn l.numbers in
        elim (cases_lt 1 b.height) [
          | inl high ↦ inr (parent-on (shelf S k w i h) b o.grown on high)
          | inr one ↦ inl (omega arith)
        ]

    pub one-a-rank : (i : ℕ) (h : History) (b c : Block R) → Sound w i → Run S k w h → OnShelf b (shelf S k w i h) → OnShelf c (shelf S k w i h) → b.rank ≡ c.rank → b ≡ c
    one-a-rank i h b c sound run onb onc e = one_rank (shelf S k w i h) b c (ordered S k w lawful i h run).core_sane.grown onb onc e

    pub reads-ancestor : (i : ℕ) (h : History) (b d : Block R) → Sound w i → Run S k w h → Descends (shelf S k w i h) b d →
        read_below (shelf S k w i h) (Some b.rank) d.height ≡ Ok (Some d)
    reads-ancestor i h b d sound run x = reads-below (shelf S k w i h) b d (ordered S k w lawful i h run).core_sane.grown x

    -- while on, the turns of the view on the shelf are those below the seat's turn
    turns_of : (i v : ℕ) (h : History) → Run S k w h → OnIn S k w i v h → Turns v (state S k w i h).turn (shelf S k w i h)
    turns_of i v h run on =
        let s : State S R = state S k w i h in
        let f = subst (λ ph. PhaseFits w.delta ph s.now s.view s.turn (shelf S k w i h)) on.0 (ordered S k w lawful i h run).core_sane.phase_fits in
        subst (λ y. Turns y s.turn (shelf S k w i h)) on.1 f.1

    pub turns-there : (i v t : ℕ) (h : History) → Sound w i → Run S k w h → OnIn S k w i v h → t < (state S k w i h).turn →
        (b : Block R) × OnShelf b (shelf S k w i h) × (b.rank.view ≡ v) × (b.rank.turn ≡ t)
    turns-there i v t h sound run on l = (turns_of i v h run on).0 t l

    pub turns-below : (i v : ℕ) (h : History) (b : Block R) → Sound w i → Run S k w h → OnIn S k w i v h → OnShelf b (shelf S k w i h) →
        b.rank.view ≡ v → b.rank.turn < (state S k w i h).turn
    turns-below i v h b sound run on there e = (turns_of i v h run on).1 b there e

    -- the call that took in a block sent its certificate
    abbrev Sent : ℕ → Block R → Event → History → Type 0
    Sent i b e p = (e.who ≡ i) × Takes S k w b e p × SendsSome S k w (AsCertificate S k w b) e p

    sent_step_lem : (e : Event) (p : History) (b : Block R) → Driven S k w e p → Step S k w e p (desk S k w e.who (e ∷ p)) →
        (OnShelf b (shelf S k w e.who p) → Was (Sent e.who b) p) → OnShelf b (shelf S k w e.who (e ∷ p)) → Was (Sent e.who b) (e ∷ p)
    sent_step_lem e p b driven (rests c f) old on = was-more _ e p (old (subst (OnShelf b) f on))
    sent_step_lem e p b driven (ticks call c f short) old on = was-more _ e p (old (subst (OnShelf b) f on))
    sent_step_lem e p b driven (enters call since g long c f) old on = was-more _ e p (old (subst (OnShelf b) f on))
    sent_step_lem e p b driven (departs v small leads c f sends) old on = was-more _ e p (old (subst (OnShelf b) f on))
    sent_step_lem e p b driven (takes c good follows co f took sends) old on =
        elim (on_pushed b c.block (shelf S k w e.who p) (subst (OnShelf b) f on)) [
          | inl there ↦ was-more _ e p (old there)
          | inr same ↦ ([], e, p, refl, subst (λ x. Sent e.who x e p) same (refl, took, sends lawful driven))
        ]

    sent-was : (i : ℕ) (h : History) (b : Block R) → Run S k w h → OnShelf b (shelf S k w i h) → Was (Sent i b) h
    sent-was i [] b run on = absurd (subst (λ (d : Desk S R). OnShelf b d.blocks) (desk-none S k w i) on)
    sent-was i (e ∷ p) b run on =
        elim (whose e.who i) [
          | inl q ↦
              subst (λ j. Was (Sent j b) (e ∷ p)) q
              (sent_step_lem e p b run.0.driven (step S k w e p) (sent-was e.who p b run.1) (subst (λ j. OnShelf b (shelf S k w j (e ∷ p))) (sym q) on))
          | inr q ↦ was-more _ e p (sent-was i p b run.1 (subst (λ (d : Desk S R). OnShelf b d.blocks) (desk-other S k w i e p q) on))
        ]

    pub shelved-sent : (i : ℕ) (h : History) (b : Block R) → Sound w i → Run S k w h → OnShelf b (shelf S k w i h) →
        Was (λ e p. (e.who ≡ i) × Takes S k w b e p × SendsSome S k w (AsCertificate S k w b) e p) h
    shelved-sent i h b sound run on = sent-was i h b run on
