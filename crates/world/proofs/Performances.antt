-- From what a call does at a desk to the model's history.
use Rattle.std.proofs.Common.{◌≡◌, ℕ, ◌<◌, ◌≤◌, Bool, cond, ltb, ◌⊎◌, List, ◌∷◌, length, get_or, set, Ok, Err, Result, sym, refl, ap, ◌∙◌, subst, inl, inr, arith, length-set, get_or-set_other, get_or-set_same}
use Rattle.std.proofs.lemmas.Bool.{cases_eq}
use Rattle.std.proofs.lemmas.Bool.Decides.{nat_tests}
use Rattle.content.specs.Kinds.{Kind}
use Rattle.content.specs.declared.kind.Content.{Ghosts}
use Rattle.content.specs.declared.refusal.Refusal.{Refusal}
use Rattle.content.specs.declared.refusal.Refusal.TheVariants.{OutOfLimits}
use Rattle.state.specs.Answers.{saying}
use Rattle.state.specs.Calls.{answer_after, blocks_after, box_after, hand_in, state_after}
use Rattle.state.specs.Calls.{offer as offer_call, tick as tick_call}
use Rattle.state.specs.Sends.{Outcome}
use Rattle.state.specs.declared.answer.Answer.{Answer}
use Rattle.state.specs.declared.answer.Word.TheVariants.{Idle}
use Rattle.agreement.specs.History.{Call, Event, History, after, desk, hand, offer, result, sent, tick}
use Rattle.agreement.specs.Setting.{Setting}
use Rattle.agreement.proofs.Steps.{desk-mine, desk-other}
use Rattle.world.specs.Desks.{Freed, Worked, blocks_of, cells_of}
use Rattle.world.specs.Performing.{CalledAt, Performed}
use Rattle.world.specs.Worlds.{DeskAt, Stands, event_at}
use Rattle.world.specs.declared.desk.Desk.{Desk}

module _ {L S : ℕ} {C R : Type 0} {bound : Ghosts C L R} (k : Kind L R) (w : Setting) (i : ℕ) (h : History) (d d' : Desk L S C R bound) (at : DeskAt k w i h d) (out : List ℕ) where
  -- a call that works at the desk as the model says
  as_worked : (c : Call) (r : Result (Outcome S R) Refusal) (out' : List ℕ) (answer : Result Answer Refusal) → r ≡ result S k w (event_at i c) h →
      after k w i c (desk S k w i h) ≡ record {
        state = state_after (desk S k w i h).state (result S k w (event_at i c) h);
        blocks = blocks_after (desk S k w i h).blocks (result S k w (event_at i c) h);
      } →
      Worked k r d out answer d' out' → Performed k w i c h out answer d' out'
  as_worked c r out' answer m a wk =
      let steps = desk-mine S k w i (event_at i c) h refl ∙ a in
      record {
        answers = wk.answers ∙ ap (λ x. answer_after k x) m;
        outbox = wk.outbox ∙ ap (λ x. box_after k out x) m;
        stands = record {
          terms = wk.terms ∙ at.terms;
          cells = wk.cells ∙ at.cells;
          state = wk.state ∙ (ap (λ s. state_after s r) at.state ∙ (ap (λ x. state_after (desk S k w i h).state x) m ∙ sym (ap (λ x. x.state) steps)));
          blocks = wk.blocks ∙ (ap (λ bs. blocks_after bs r) at.blocks ∙ (ap (λ x. blocks_after (desk S k w i h).blocks x) m ∙ sym (ap (λ x. x.blocks) steps)));
          tidy = wk.tidy;
        };
      }

  module _ (leader : ℕ → ℕ) (accepts : ℕ → List ℕ → List ℕ → Bool) (led : w.leader ≡ leader) (checked : w.accepts ≡ accepts) where
    pub hand_performed : (inbox : List ℕ) (room : ℕ) (out' : List ℕ) (answer : Result Answer Refusal) →
        Worked k (hand_in k d.seat.terms leader accepts d.seat.state (blocks_of d) (cells_of d) inbox room) d out answer d' out' →
        Performed k w i (hand inbox room) h out answer d' out'
    hand_performed inbox room out' answer wk =
        as_worked (hand inbox room) (hand_in k d.seat.terms leader accepts d.seat.state (blocks_of d) (cells_of d) inbox room) out' answer
        (ap (λ x. hand_in k x leader accepts d.seat.state (blocks_of d) (cells_of d) inbox room) at.terms ∙
        (ap (λ x. hand_in k (w.terms i) x accepts d.seat.state (blocks_of d) (cells_of d) inbox room) (sym led) ∙
        (ap (λ x. hand_in k (w.terms i) w.leader x d.seat.state (blocks_of d) (cells_of d) inbox room) (sym checked) ∙
        (ap (λ x. hand_in k (w.terms i) w.leader w.accepts x (blocks_of d) (cells_of d) inbox room) at.state ∙
        (ap (λ x. hand_in k (w.terms i) w.leader w.accepts (desk S k w i h).state x (cells_of d) inbox room) at.blocks ∙
        ap (λ x. hand_in k (w.terms i) w.leader w.accepts (desk S k w i h).state (desk S k w i h).blocks x inbox room) at.cells))))) refl wk

    pub offer_performed : (content : List ℕ) (room : ℕ) (out' : List ℕ) (answer : Result Answer Refusal) →
        Worked k (offer_call k d.seat.terms leader d.seat.state (blocks_of d) content room) d out answer d' out' →
        Performed k w i (offer content room) h out answer d' out'
    offer_performed content room out' answer wk =
        as_worked (offer content room) (offer_call k d.seat.terms leader d.seat.state (blocks_of d) content room) out' answer
        (ap (λ x. offer_call k x leader d.seat.state (blocks_of d) content room) at.terms ∙
        (ap (λ x. offer_call k (w.terms i) x d.seat.state (blocks_of d) content room) (sym led) ∙
        (ap (λ x. offer_call k (w.terms i) w.leader x (blocks_of d) content room) at.state ∙
        ap (λ x. offer_call k (w.terms i) w.leader (desk S k w i h).state x content room) at.blocks))) refl wk

  pub tick_performed : (room : ℕ) (out' : List ℕ) (answer : Result Answer Refusal) →
      Worked k (tick_call d.seat.terms d.seat.state (blocks_of d) room) d out answer d' out' → Performed k w i (tick room) h out answer d' out'
  tick_performed room out' answer wk =
      as_worked (tick room) (tick_call d.seat.terms d.seat.state (blocks_of d) room) out' answer
      (ap (λ x. tick_call x d.seat.state (blocks_of d) room) at.terms ∙
      (ap (λ x. tick_call (w.terms i) x (blocks_of d) room) at.state ∙ ap (λ x. tick_call (w.terms i) (desk S k w i h).state x room) at.blocks)) refl wk

  pub sent_performed : (answer : Answer) → answer ≡ saying Idle → Freed d d' → Performed k w i sent h out (Ok answer) d' out
  sent_performed answer a f =
      let steps = desk-mine S k w i (event_at i sent) h refl in
      record {
        answers = ap (λ x. Ok x) a;
        outbox = refl;
        stands = record {
          terms = f.terms ∙ at.terms;
          cells = f.cells ∙ at.cells;
          state = f.state ∙ (ap (λ s. (after k w i sent (record { state = s; blocks = (desk S k w i h).blocks })).state) at.state ∙ sym (ap (λ x. x.state) steps));
          blocks = f.blocks ∙ (at.blocks ∙ sym (ap (λ x. x.blocks) steps));
          tidy = f.tidy;
        };
      }

module _ {L S : ℕ} {C R : Type 0} {bound : Ghosts C L R} (k : Kind L R) (w : Setting) (h : History) (e : Event) where
  -- a desk that is not called stays where it is
  elsewhere : (j : ℕ) (d : Desk L S C R bound) → (e.who ≡ j → ⊥) → DeskAt k w j h d → DeskAt k w j (e ∷ h) d
  elsewhere j d ne at =
      let stays = desk-other S k w j e h ne in
      record {
        terms = at.terms;
        cells = at.cells;
        state = at.state ∙ sym (ap (λ x. x.state) stays);
        blocks = at.blocks ∙ sym (ap (λ x. x.blocks) stays);
        tidy = at.tidy;
      }

  module _ (ds : List (Desk L S C R bound)) (stands : Stands k w h ds) (out : List ℕ) where
    -- a seat that is not there
    pub called_nowhere : length ds ≤ e.who → CalledAt k w (length ds) e h out (Err OutOfLimits) ds out
    called_nowhere far = record {
      answers = sym (outside (answer_after k (result S k w e h)) (Err OutOfLimits));
      outbox = sym (outside (box_after k out (result S k w e h)) out);
      stands = λ j d l g. elsewhere j d (λ same. absurd (omega arith)) (stands j d l g);
    }
      where
        outside : {X : Type 0} (x y : X) → cond (ltb e.who (length ds)) x y ≡ y
        outside x y = grind (arith, nat_tests)

    set-stands : (d₁ : Desk L S C R bound) → e.who < length ds → DeskAt k w e.who (e ∷ h) d₁ →
        (j : ℕ) (d : Desk L S C R bound) → (e.who ≡ j) ⊎ (e.who ≡ j → ⊥) → j < length ds → get_or (set ds e.who d₁) j d ≡ d → DeskAt k w j (e ∷ h) d
    set-stands d₁ near at j d (inl same) l g =
        subst (λ n. DeskAt k w n (e ∷ h) d) same
        (subst (λ x. DeskAt k w e.who (e ∷ h) x) (sym (get_or-set_same ds e.who d₁ d near) ∙ subst (λ n. get_or (set ds e.who d₁) n d ≡ d) (sym same) g) at)
    set-stands d₁ near at j d (inr ne) l g =
        elsewhere j d ne (stands j d l (sym (get_or-set_other ds e.who j d₁ d (λ q. ne (sym q))) ∙ g))

    -- a seat that is there
    pub called-there : (c : Call) (d₁ : Desk L S C R bound) (answer : Result Answer Refusal) (out' : List ℕ) → e ≡ event_at e.who c → e.who < length ds →
        Performed k w e.who c h out answer d₁ out' → CalledAt k w (length ds) e h out answer (set ds e.who d₁) out'
    called-there c d₁ answer out' is near p =
        let at = subst (λ x. DeskAt k w e.who (x ∷ h) d₁) (sym is) p.stands in
        record {
          answers = p.answers ∙ (ap (λ x. answer_after k (result S k w x h)) (sym is) ∙ sym (inside (answer_after k (result S k w e h)) (Err OutOfLimits)));
          outbox = p.outbox ∙ (ap (λ x. box_after k out (result S k w x h)) (sym is) ∙ sym (inside (box_after k out (result S k w e h)) out));
          stands = λ j d l g. set-stands d₁ near at j d (cases_eq e.who j) (subst (λ n. j < n) (length-set ds e.who d₁) l) g;
        }
      where
        inside : {X : Type 0} (x y : X) → cond (ltb e.who (length ds)) x y ≡ x
        inside x y = grind (arith, nat_tests)
