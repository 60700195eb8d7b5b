-- Calls that are refused, and calls that are carried out, as the model says.
use Rattle.std.proofs.Common.{◌≡◌, ℕ, ◌+◌, ◌-◌, ◌*◌, ◌<◌, ◌≤◌, min, Bool, true, false, cond, not, eqb, leb, List, [], Some, None, Ok, Err, Option, Result, sym, refl, ap, ◌∙◌, arith}
use Rattle.std.proofs.lemmas.Bool.Decides.{nat_tests}
use Rattle.content.specs.Kinds.{Kind, read_content}
use Rattle.content.specs.declared.refusal.Refusal.{Refusal}
use Rattle.content.specs.declared.refusal.Refusal.TheVariants.{LastTick, NotLeader, OfferLeaving, OfferSpoiled, OfferedAlready, NoPlaceLeft, OfferTooSoon, NoLawfulParent}
use Rattle.blocks.specs.declared.block.Block.{Block}
use Rattle.wire.specs.Reading.{next}
use Rattle.wire.specs.declared.message.Parts.{Parts}
use Rattle.wire.specs.Asked.{opened}
use Rattle.shelf.specs.Blocks.{top_turn}
use Rattle.state.specs.Calls.{answer_after, blocks_after, box_after, hand_in, last_tick_of, offer, state_after, tick}
use Rattle.state.specs.Does.{Does}
use Rattle.state.specs.HandIn.{hand_parts, idle, last_view}
use Rattle.state.specs.Offer.{can_carry, may_offer, no_place, offer_step, offers, too_soon}
use Rattle.state.specs.Parts.{is_on, with_note, with_now, with_slip}
use Rattle.state.specs.Sends.{Outcome, outbox_after}
use Rattle.state.specs.Tick.{blame_due, enter, entered, on_tick, ticked, tick_step, turn_after, voted_for, vote_due}
use Rattle.state.specs.declared.answer.Answer.{Answer}
use Rattle.state.specs.declared.state.Note.{Note}
use Rattle.state.specs.declared.state.Phase.{Phase}
use Rattle.state.specs.declared.state.Phase.TheVariants.{On, Leaving}
use Rattle.state.specs.declared.state.State.{State}
use Rattle.state.specs.declared.state.Terms.{Terms}
use Rattle.seat.specs.Called.{Called, answered, ready}
use Rattle.seat.specs.declared.slip.Slip.{Slip}
use Rattle.seat.proofs.Guards.{goes_on}

module _ {L S : ℕ} {R : Type 0} (k : Kind L R) (s : State S R) (bs : List (Block R)) (out : List ℕ) (r : Result (Outcome S R) Refusal) where
  -- a refused call leaves all as it was
  pub refused : (e f : Refusal) (result : Result (Answer × Slip) Refusal) → r ≡ Err e → result ≡ Err f → f ≡ e → Called k r s bs out result s bs out
  refused e f result m q p = record {
    answer = ap answered q ∙ (ap (λ x. Err x) p ∙ sym (ap (λ x. answer_after k x) m));
    state = sym (ap (λ x. state_after s x) m);
    blocks = sym (ap (λ x. blocks_after bs x) m);
    outbox = sym (ap (λ x. box_after k out x) m);
  }

  -- one that is carried out gives a slip
  pub carried : (o : Outcome S R) (a : Answer) (p : Answer × Slip) (s' t : State S R) (bs' : List (Block R)) (out' : List ℕ) → r ≡ Ok o →
      p.0 ≡ a → t ≡ with_slip true s' → Ok a ≡ answer_after k (Ok o) → s' ≡ o.state → bs' ≡ o.blocks → out' ≡ outbox_after k o.sends out →
      Called k r s bs out (Ok p) t bs' out'
  carried o a p s' t bs' out' m ep et ea es eb eo = record {
    answer = ap (λ x. Ok x) ep ∙ (ea ∙ sym (ap (λ x. answer_after k x) m));
    state = et ∙ (ap (with_slip true) es ∙ sym (ap (λ x. state_after s x) m));
    blocks = eb ∙ sym (ap (λ x. blocks_after bs x) m);
    outbox = eo ∙ sym (ap (λ x. box_after k out x) m);
  }

-- a step inside a call: where it is refused, so is the call; where it is carried out, the call gives a slip
module _ {L S : ℕ} {R : Type 0} (k : Kind L R) (s : State S R) (bs : List (Block R)) (out : List ℕ) where
  step-refused : (q : Result (Outcome S R) Refusal) (e f : Refusal) (result : Result (Answer × Slip) Refusal) (s' : State S R) (bs' : List (Block R)) (out' : List ℕ) →
      Does k q s bs out (Err e) s' bs' out' → result ≡ Err f → f ≡ e → Called k q s bs out result s' bs' out'
  step-refused (Ok o) e f result s' bs' out' d a b = absurd (let h = d.answer in let z : ◌≡◌ {A = ℕ} 0 1 = cc in omega arith)
  step-refused (Err x) e f result s' bs' out' d a b = record {
    answer = ap answered a ∙ (ap (λ y. Err y) b ∙ d.answer);
    state = d.state;
    blocks = d.blocks;
    outbox = d.outbox;
  }

  step-carried : (q : Result (Outcome S R) Refusal) (a : Answer) (p : Answer × Slip) (s' t : State S R) (bs' : List (Block R)) (out' : List ℕ) →
      Does k q s bs out (Ok a) s' bs' out' → p.0 ≡ a → t ≡ with_slip true s' → Called k q s bs out (Ok p) t bs' out'
  step-carried (Ok o) a p s' t bs' out' d ep et = record {
    answer = ap (λ x. Ok x) ep ∙ d.answer;
    state = et ∙ ap (with_slip true) d.state;
    blocks = d.blocks;
    outbox = d.outbox;
  }
  step-carried (Err x) a p s' t bs' out' d ep et = absurd (let h = d.answer in let z : ◌≡◌ {A = ℕ} 0 1 = cc in omega arith)

  called_at : (q r : Result (Outcome S R) Refusal) (result : Result (Answer × Slip) Refusal) (s' : State S R) (bs' : List (Block R)) (out' : List ℕ) → r ≡ q →
      Called k q s bs out result s' bs' out' → Called k r s bs out result s' bs' out'
  called_at q r result s' bs' out' e c = record {
    answer = c.answer ∙ sym (ap (λ x. answer_after k x) e);
    state = c.state ∙ sym (ap (λ x. state_after s x) e);
    blocks = c.blocks ∙ sym (ap (λ x. blocks_after bs x) e);
    outbox = c.outbox ∙ sym (ap (λ x. box_after k out x) e);
  }

  pub refused-by : (q r : Result (Outcome S R) Refusal) (e f : Refusal) (result : Result (Answer × Slip) Refusal) (s' : State S R) (bs' : List (Block R)) (out' : List ℕ) → r ≡ q →
      Does k q s bs out (Err e) s' bs' out' → result ≡ Err f → f ≡ e → Called k r s bs out result s' bs' out'
  refused-by q r e f result s' bs' out' h d a b = called_at q r result s' bs' out' h (step-refused q e f result s' bs' out' d a b)

  pub carried-by : (q r : Result (Outcome S R) Refusal) (a : Answer) (p : Answer × Slip) (s' t : State S R) (bs' : List (Block R)) (out' : List ℕ) → r ≡ q →
      Does k q s bs out (Ok a) s' bs' out' → p.0 ≡ a → t ≡ with_slip true s' → Called k r s bs out (Ok p) t bs' out'
  carried-by q r a p s' t bs' out' h d ep et = called_at q r (Ok p) t bs' out' h (step-carried q a p s' t bs' out' d ep et)

-- a message that is not opened is refused as it says; one that is goes to the seat's step
module _ {L S : ℕ} {R : Type 0} (k : Kind L R) (p : Terms) (leader : ℕ → ℕ) (accepts : ℕ → List ℕ → List ℕ → Bool)
    (s : State S R) (bs : List (Block R)) (cells : ℕ) (inbox : List ℕ) (room : ℕ) (go : Ok tt ≡ ready s room) where
  hand-goes : hand_in k p leader accepts s bs cells inbox room ≡ next (opened k S p.seats.n leader accepts inbox) (hand_parts k p s bs cells)
  hand-goes = goes_on s room (next (opened k S p.seats.n leader accepts inbox) (hand_parts k p s bs cells)) go

  pub hand_unopened : (e : Refusal) → Err e ≡ opened k S p.seats.n leader accepts inbox → hand_in k p leader accepts s bs cells inbox room ≡ Err e
  hand_unopened e h = hand-goes ∙ sym (ap (λ x. next x (hand_parts k p s bs cells)) h)

  pub hand-opened : (m : Parts R (List ℕ)) → Ok m ≡ opened k S p.seats.n leader accepts inbox →
      hand_in k p leader accepts s bs cells inbox room ≡ hand_parts k p s bs cells m
  hand-opened m h = hand-goes ∙ sym (ap (λ x. next x (hand_parts k p s bs cells)) h)

module _ {S : ℕ} {R : Type 0} (p : Terms) (s : State S R) (bs : List (Block R)) (room : ℕ) where
  pub tick-late : Ok tt ≡ ready s room → 1000000000 ≤ s.now → tick p s bs room ≡ Err LastTick
  tick-late h l = goes_on s room (cond (leb last_tick_of s.now) (Err LastTick) (Ok (tick_step p s bs))) h ∙ late l
    where
      late : 1000000000 ≤ s.now → cond (leb last_tick_of s.now) (Err LastTick) (Ok (tick_step p s bs)) ≡ Err LastTick
      late l = grind (arith, nat_tests)

  pub tick_goes : Ok tt ≡ ready s room → s.now < 1000000000 → tick p s bs room ≡ Ok (tick_step p s bs)
  tick_goes h l = goes_on s room (cond (leb last_tick_of s.now) (Err LastTick) (Ok (tick_step p s bs))) h ∙ early l
    where
      early : s.now < 1000000000 → cond (leb last_tick_of s.now) (Err LastTick) (Ok (tick_step p s bs)) ≡ Ok (tick_step p s bs)
      early l = grind (arith, nat_tests)

-- a tick stores nothing
module _ {S : ℕ} {R : Type 0} (bs : List (Block R)) where
  either : (b : Bool) (x y : Outcome S R) → bs ≡ x.blocks → bs ≡ y.blocks → bs ≡ (cond b x y).blocks
  either true x y h k = h
  either false x y h k = k

  on-stays : (p : Terms) (note : Option (Note R)) (s : State S R) → bs ≡ (on_tick p note s bs).blocks
  on-stays p None s = either (blame_due p s) _ _ refl refl
  on-stays p (Some note) s =
      either (vote_due p s note) _ _ (either (blame_due p (with_note (Some (voted_for note)) s)) _ _ refl refl) (either (blame_due p s) _ _ refl refl)

  ticked-stays : (p : Terms) (phase : Phase) (s : State S R) → bs ≡ (ticked p phase s bs).blocks
  ticked-stays p On s = on-stays p s.round.note s
  ticked-stays p (Leaving since) s =
      let view : ℕ = min (s.view + 1) last_view in
      let t : State S R = enter view (turn_after (top_turn view bs)) s in
      either (leb (2 * p.delta + 1) (s.now - since)) (entered p t bs) (idle s bs) (either t.spoiled _ _ refl refl) refl

  pub tick-stays : (p : Terms) (s : State S R) → bs ≡ (tick_step p s bs).blocks
  tick-stays p s = ticked-stays p s.phase (with_now (s.now + 1) s)

-- an offer does not look at the shelf: whatever it holds, the offer is the same and leaves it as it is
pub record Alike {L S : ℕ} {R : Type 0} (k : Kind L R) (s : State S R) (bs : List (Block R)) (out : List ℕ) (q r : Result (Outcome S R) Refusal) : Type 0 where
  pub same_answer : answer_after k q ≡ answer_after k r
  pub same_state : state_after s q ≡ state_after s r
  pub same_outbox : box_after k out q ≡ box_after k out r
  pub blocks_stay : bs ≡ blocks_after bs r

module _ {L S : ℕ} {R : Type 0} (k : Kind L R) (s : State S R) (bs : List (Block R)) (out : List ℕ) where
  alike-refused : (e : Refusal) → Alike k s bs out (Err e) (Err e)
  alike-refused e = record { same_answer = refl; same_state = refl; same_outbox = refl; blocks_stay = refl }

  alike_if : (b : Bool) (e : Refusal) (q r : Result (Outcome S R) Refusal) → Alike k s bs out q r → Alike k s bs out (cond b (Err e) q) (cond b (Err e) r)
  alike_if true e q r h = alike-refused e
  alike_if false e q r h = h

  alike-last : (b : Bool) (e : Refusal) (q r : Result (Outcome S R) Refusal) → Alike k s bs out q r → Alike k s bs out (cond b q (Err e)) (cond b r (Err e))
  alike-last true e q r h = h
  alike-last false e q r h = alike-refused e

  module _ (p : Terms) (leader : ℕ → ℕ) where
    may_alike : (x y : Outcome S R) → Alike k s bs out (Ok x) (Ok y) → Alike k s bs out (may_offer p leader s x) (may_offer p leader s y)
    may_alike x y h =
        alike_if (not (eqb (leader s.view) p.own)) NotLeader _ _
        (alike_if (not (is_on s.phase)) OfferLeaving _ _
        (alike_if s.spoiled OfferSpoiled _ _
        (alike_if s.round.offered OfferedAlready _ _
        (alike_if (no_place s) NoPlaceLeft _ _
        (alike_if (too_soon p s) OfferTooSoon _ _
        (alike-last (can_carry s.view s.turn s.best) NoLawfulParent _ _ h))))))

    offer-alike : (cs : List (Block R)) (content : Result R Refusal) →
        Alike k s bs out (next content (λ c. may_offer p leader s (offers p s cs c))) (next content (λ c. may_offer p leader s (offers p s bs c)))
    offer-alike cs (Ok c) =
        may_alike (offers p s cs c) (offers p s bs c) (record { same_answer = refl; same_state = refl; same_outbox = refl; blocks_stay = refl })
    offer-alike cs (Err e) = alike-refused e

    pub offer-stays : (bytes : List ℕ) → bs ≡ blocks_after bs (offer_step k p leader s bs bytes)
    offer-stays bytes = (offer-alike bs (read_content k bytes)).blocks_stay

    -- what an offer does with no shelf in sight, it does with any
    pub offers_anywhere : (bytes : List ℕ) (room : ℕ) → Ok tt ≡ ready s room → (result : Result (Answer × Slip) Refusal) (s' : State S R) (out' : List ℕ) →
        Called k (offer_step k p leader s [] bytes) s [] out result s' [] out' → Called k (offer k p leader s bs bytes room) s bs out result s' bs out'
    offers_anywhere bytes room go result s' out' c =
        let h = offer-alike [] (read_content k bytes) in
        let m = goes_on s room (offer_step k p leader s bs bytes) go in
        record {
          answer = c.answer ∙ (h.same_answer ∙ sym (ap (λ x. answer_after k x) m));
          state = c.state ∙ (h.same_state ∙ sym (ap (λ x. state_after s x) m));
          blocks = h.blocks_stay ∙ sym (ap (λ x. blocks_after bs x) m);
          outbox = c.outbox ∙ (h.same_outbox ∙ sym (ap (λ x. box_after k out x) m));
        }
