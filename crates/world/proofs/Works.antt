-- From a seat's call and its settling to what it does at a desk.
use Rattle.std.proofs.Common.{◌≡◌, ℕ, ◌≤◌, Bool, true, false, cond, ltb, List, ◌++◌, length, take, drop, is_some, Ok, Err, vec_items, Result, Vec, sym, refl, ap, ◌∙◌, subst}
use Rattle.std.proofs.Math.Seq.{take-append_seam}
use Rattle.std.specs.Vec.{with_items}
use Rattle.content.specs.Kinds.{Kind}
use Rattle.content.specs.declared.kind.Content.{Ghosts}
use Rattle.content.specs.declared.refusal.Refusal.{Refusal}
use Rattle.content.specs.declared.refusal.Refusal.TheVariants.{SlipOut, SmallOutbox}
use Rattle.blocks.specs.declared.block.Block.{Block}
use Rattle.state.specs.Calls.{answer_after, guarded}
use Rattle.state.specs.Sends.{Outcome}
use Rattle.state.specs.declared.answer.Answer.{Answer}
use Rattle.state.specs.declared.state.State.{State}
use Rattle.seat.specs.Called.{Called}
use Rattle.seat.specs.declared.seat.Seat.{Seat}
use Rattle.seat.specs.declared.slip.Slip.{Slip}
use Rattle.agreement.proofs.Basics.{err_ok}
use Rattle.world.specs.Desks.{Settled, Tidy, Worked, blocks_of, cells_of}
use Rattle.world.specs.declared.desk.Desk.{Desk}

-- a call that was carried out found no slip out
module _ {L S : ℕ} {R : Type 0} (k : Kind L R) (room : ℕ) (x : Result (Outcome S R) Refusal) where
  free_if : (b : Bool) (a : Answer) → Ok a ≡ answer_after k (cond b (Err SlipOut) (cond (ltb room 1024) (Err SmallOutbox) x)) → b ≡ false
  free_if true a e = absurd (err_ok (sym e))
  free_if false a e = refl

  pub was_free : (s : State S R) (a : Answer) → Ok a ≡ answer_after k (guarded s room x) → s.slip ≡ false
  was_free s a e = free_if s.slip a e

module _ {L S : ℕ} {C R : Type 0} {bound : Ghosts C L R} (k : Kind L R) (d : Desk L S C R bound) (tidy : Tidy d) (out out' : List ℕ) where
  -- a desk after its seat's call, before the slip is kept
  pub record CallAtDesk (r : Result (Outcome S R) Refusal) (outcome : Result (Answer × Slip) Refusal) (d₁ : Desk L S C R bound) : Type 0 where
    pub call : Called k r d.seat.state (blocks_of d) out outcome d₁.seat.state (blocks_of d₁) out'
    pub same_terms : d₁.seat.terms ≡ d.seat.terms
    pub same_cells : cells_of d₁ ≡ cells_of d
    pub same_slip : d₁.slip ≡ d.slip
    pub fits : d₁.filled ≤ length (vec_items d₁.cells)

  refused-works : (r : Result (Outcome S R) Refusal) (e : Refusal) (d₁ d₂ : Desk L S C R bound) (answer : Result Answer Refusal) → CallAtDesk r (Err e) d₁ →
      answer ≡ Err e → d₂ ≡ d₁ → Worked k r d out answer d₂ out'
  refused-works (Ok o) e d₁ d₂ answer c a m = absurd (err_ok c.call.answer)
  refused-works (Err x) e d₁ d₂ answer c a m = record {
    answers = a ∙ c.call.answer;
    state = ap (λ z. z.seat.state) m ∙ c.call.state;
    blocks = ap blocks_of m ∙ c.call.blocks;
    outbox = c.call.outbox;
    terms = ap (λ z. z.seat.terms) m ∙ c.same_terms;
    cells = ap cells_of m ∙ c.same_cells;
    tidy = record {
      within = subst (λ z. z.filled ≤ length (vec_items z.cells)) (sym m) c.fits;
      slip_held = ap (λ z. is_some z.slip) m ∙ (ap is_some c.same_slip ∙ (tidy.slip_held ∙ (sym (ap (λ s. s.slip) c.call.state) ∙ sym (ap (λ z. z.seat.state.slip) m))));
    };
  }

  carried-works : (r : Result (Outcome S R) Refusal) (p : Answer × Slip) (d₁ d₂ : Desk L S C R bound) (answer : Result Answer Refusal) → d.seat.state.slip ≡ false →
      CallAtDesk r (Ok p) d₁ → Settled (Ok p) d₁ answer d₂ → Worked k r d out answer d₂ out'
  carried-works (Err x) p d₁ d₂ answer free c s = absurd (err_ok (sym c.call.answer))
  carried-works (Ok o) p d₁ d₂ answer free c s =
      let none = ap is_some c.same_slip ∙ (tidy.slip_held ∙ free) in
      let m = s.1.seat_stays none in
      let cs = s.1.cells in
      let fs = s.1.filled in
      record {
        answers = s.0 ∙ c.call.answer;
        state = ap (λ z. z.state) m ∙ c.call.state;
        blocks = ap (λ z. take z (vec_items d₂.cells)) fs ∙ (ap (λ z. take d₁.filled (vec_items z)) cs ∙ c.call.blocks);
        outbox = c.call.outbox;
        terms = ap (λ z. z.terms) m ∙ c.same_terms;
        cells = ap (λ z. length (vec_items z)) cs ∙ c.same_cells;
        tidy = record {
          within = subst (λ n. n ≤ length (vec_items d₂.cells)) (sym fs) (subst (λ z. d₁.filled ≤ length (vec_items z)) (sym cs) c.fits);
          slip_held = s.1.held ∙ (sym (ap (λ z. z.slip) c.call.state) ∙ sym (ap (λ z. z.state.slip) m));
        };
      }

  -- the call, its slip kept
  pub works : (room : ℕ) (x : Result (Outcome S R) Refusal) (outcome : Result (Answer × Slip) Refusal) (d₁ d₂ : Desk L S C R bound) (answer : Result Answer Refusal) →
      CallAtDesk (guarded d.seat.state room x) outcome d₁ → Settled outcome d₁ answer d₂ → Worked k (guarded d.seat.state room x) d out answer d₂ out'
  works room x (Err e) d₁ d₂ answer c s = refused-works (guarded d.seat.state room x) e d₁ d₂ answer c s.0 s.1
  works room x (Ok p) d₁ d₂ answer c s =
      carried-works (guarded d.seat.state room x) p d₁ d₂ answer (was_free k room x d.seat.state p.0 c.call.answer) c s

module _ {X : Type 0} where
  -- a vector lent as a slice holds afterwards what the slice then holds
  pub refill : {Z : Type 0} (v : Vec X Z) (ws : List X) → length ws ≡ length (vec_items v) → vec_items (with_items v ws) ≡ ws
  refill v ws e = ap (λ n. take n (ws ++ drop (length ws) (vec_items v))) (v.ok.0 ∙ sym e) ∙ take-append_seam ws (drop (length ws) (vec_items v))

module _ {L S : ℕ} {C R : Type 0} {bound : Ghosts C L R} (k : Kind L R) (d : Desk L S C R bound) (tidy : Tidy d) (out out' : List ℕ) where
  -- a desk whose cells were lent to its seat's call: xs before it, ws after it
  abbrev pub lent_desk : List (Block R) → ℕ → Seat L S C R bound → Desk L S C R bound
  lent_desk ws n seat = record { cells = with_items d.cells ws; filled = n; slip = d.slip; seat = seat }

  lent-cells : (ws : List (Block R)) (n : ℕ) (seat : Seat L S C R bound) (outcome : Result (Answer × Slip) Refusal) (f : List (Block R) → ℕ → Result (Outcome S R) Refusal) →
      length ws ≡ cells_of d →
      Called k (f (blocks_of d) (cells_of d)) d.seat.state (blocks_of d) out outcome seat.state (take n ws) out' →
      n ≤ length ws → seat.terms ≡ d.seat.terms → CallAtDesk k d tidy out out' (f (blocks_of d) (cells_of d)) outcome (lent_desk ws n seat)
  lent-cells ws n seat outcome f e c l t =
      let m = refill d.cells ws e in
      record {
        call = subst (λ zs. Called k (f (blocks_of d) (cells_of d)) d.seat.state (blocks_of d) out outcome seat.state (take n zs) out') (sym m) c;
        same_terms = t;
        same_cells = ap length m ∙ e;
        same_slip = refl;
        fits = subst (λ zs. n ≤ length zs) (sym m) l;
      }

  pub lent : (xs ws : List (Block R)) (n : ℕ) (seat : Seat L S C R bound) (outcome : Result (Answer × Slip) Refusal) (f : List (Block R) → ℕ → Result (Outcome S R) Refusal) →
      xs ≡ vec_items d.cells → length ws ≡ length xs →
      (d.filled ≤ length xs → Called k (f (take d.filled xs) (length xs)) d.seat.state (take d.filled xs) out outcome seat.state (take n ws) out') →
      n ≤ length ws → seat.terms ≡ d.seat.terms → CallAtDesk k d tidy out out' (f (blocks_of d) (cells_of d)) outcome (lent_desk ws n seat)
  lent xs ws n seat outcome f ex el c l t =
      lent-cells ws n seat outcome f (el ∙ ap length ex)
      (subst (λ zs. d.filled ≤ length zs → Called k (f (take d.filled zs) (length zs)) d.seat.state (take d.filled zs) out outcome seat.state (take n ws) out') ex c tidy.within) l t
