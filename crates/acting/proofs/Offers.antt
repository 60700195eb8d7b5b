-- The offer's outcome, test by test, as its code makes it.
use Rattle.std.proofs.Common.{◌≡◌, ℕ, ◌+◌, ◌-◌, ◌*◌, ◌≤◌, Bool, true, false, cond, not, ◌||◌, eqb, ltb, List, [], length, replicate, take, Some, None, Ok, Err, Option, Result, sym, refl, ap, ◌∙◌, subst, mul-le-mul_left, arith, length-take}
use lib.ListN.{length-replicate}
use native.Mathlib.Nat.{sub-zero}
use Rattle.std.proofs.lemmas.Bool.Decides.{nat_tests}
use Rattle.content.specs.Kinds.{Kind, read_content}
use Rattle.content.specs.declared.refusal.Refusal.{Refusal}
use Rattle.content.specs.declared.refusal.Refusal.TheVariants.{NotLeader, OfferLeaving, OfferSpoiled, OfferedAlready, NoPlaceLeft, OfferTooSoon, NoLawfulParent}
use Rattle.rota.specs.Limits.{seats_lawful}
use Rattle.blocks.specs.Masks.{quorum}
use Rattle.blocks.specs.declared.block.Block.{Block}
use Rattle.wire.specs.Reading.{next}
use Rattle.wire.specs.declared.message.Parts.TheVariants.{Proposal}
use Rattle.state.specs.Calls.{answer_after, blocks_after, box_after, step_state}
use Rattle.state.specs.HandIn.{carried}
use Rattle.state.specs.Offer.{best_body, can_carry, may_offer, next_height, no_place, offered_block, offers, offer_step, too_soon}
use Rattle.state.specs.Parts.{is_on, with_offered}
use Rattle.state.specs.Sends.{Outcome, Sending, item_at, put_item, write, zero_seal}
use Rattle.state.specs.declared.answer.Answer.{Answer}
use Rattle.state.specs.declared.answer.Item.{Item}
use Rattle.state.specs.declared.answer.Word.TheVariants.{Offered}
use Rattle.state.specs.declared.state.State.{State}
use Rattle.state.specs.declared.state.Terms.{Terms}
use Rattle.acting.proofs.Ticks.{Shows, over}

module _ {X : Type 0} where
  passed : (b : Bool) (e : Refusal) (r : Result X Refusal) (x : X) → cond b (Err e) r ≡ Ok x → (b ≡ false) × (r ≡ Ok x)
  passed true e r x h = absurd (let z : ◌≡◌ {A = ℕ} 0 1 = cc in omega arith)
  passed false e r x h = (refl, h)

  carried_unless : {Y : Type 0} (b : Bool) (e : Refusal) (f : Y → X) (r : Result Y Refusal) (q : Result X Refusal) → q ≡ carried f r → cond b (Err e) q ≡ carried f (cond b (Err e) r)
  carried_unless true e f r q h = refl
  carried_unless false e f r q h = h

  carried_if : {Y : Type 0} (b : Bool) (e : Refusal) (f : Y → X) (y : Y) → cond b (Ok (f y)) (Err e) ≡ carried f (cond b (Ok y) (Err e))
  carried_if true e f y = refl
  carried_if false e f y = refl

module _ {S : ℕ} {R : Type 0} (p : Terms) (leader : ℕ → ℕ) (s : State S R) where
  -- the tests do not see what is answered behind them
  may_carried : {X Y : Type 0} (f : Y → X) (y : Y) → may_offer p leader s (f y) ≡ carried f (may_offer p leader s y)
  may_carried f y =
      carried_unless (not (eqb (leader s.view) p.own)) NotLeader f _ _
      (carried_unless (not (is_on s.phase)) OfferLeaving f _ _
      (carried_unless s.spoiled OfferSpoiled f _ _
      (carried_unless s.round.offered OfferedAlready f _ _
      (carried_unless (no_place s) NoPlaceLeft f _ _
      (carried_unless (too_soon p s) OfferTooSoon f _ _
      (carried_if (can_carry s.view s.turn s.best) NoLawfulParent f y))))))

  -- a seat that may offer has a place
  places : {X : Type 0} (x : X) → may_offer p leader s x ≡ Ok x → no_place s ≡ false
  places x h =
      let a = passed (not (eqb (leader s.view) p.own)) NotLeader _ x h in
      let b = passed (not (is_on s.phase)) OfferLeaving _ x a.1 in
      let c = passed s.spoiled OfferSpoiled _ x b.1 in
      let d = passed s.round.offered OfferedAlready _ x c.1 in
      (passed (no_place s) NoPlaceLeft _ x d.1).0

within : (turn height : ℕ) → (ltb 65535 turn || ltb 4294967295 height) ≡ false → (turn ≤ 65535) × (height ≤ 4294967295)
within turn height h = (grind (arith, nat_tests), grind (arith, nat_tests))

-- a quorum of seals fits into the memory of a row
pub row_fits : (n S q : ℕ) → seats_lawful n ≡ true → S ≤ 64 → q ≡ quorum n → q * S ≤ 512
row_fits n S q h k e =
    let o : q ≤ 8 = grind (arith, nat_tests) in
    let m : q * S ≤ q * 64 = mul-le-mul_left q k in
    omega arith

pub row_is : (n S q : ℕ) (seals : List ℕ) → q ≡ quorum n → take (q * S - 0) seals ≡ take (quorum n * S) seals
row_is n S q seals e = ap (λ m. take m seals) (sub-zero (q * S) ∙ ap (λ x. x * S) e)

pub row-short : (k : ℕ) (seals : List ℕ) → k ≤ 512 → length (take (k - 0) seals) ≤ 512
row-short k seals h = omega (arith, length-take (k - 0) seals)

-- a proposal fits into the outbox
pub proposal-fits : (L S room parent : ℕ) → L ≤ 64 → S ≤ 64 → 1024 ≤ room → parent ≤ 526 + L → 0 + (13 + L + length (replicate {A = ℕ} S 0) + parent) ≤ room
proposal-fits L S room parent l s r p = omega (arith, length-replicate {A = ℕ} S 0)

-- what a step shows of its result: its answer, its state, its outbox
pub record Steps {L S : ℕ} {R : Type 0} (k : Kind L R) (s : State S R) (out : List ℕ) (r : Result (Outcome S R) Refusal) (answer : Result Answer Refusal) (s' : State S R) (out' : List ℕ) : Type 0 where
  pub answer_is : answer ≡ answer_after k r
  pub state_is : s' ≡ step_state s r
  pub outbox_is : out' ≡ box_after k out r

module _ {L S : ℕ} {R : Type 0} (k : Kind L R) (p : Terms) (leader : ℕ → ℕ) (s : State S R) (bs : List (Block R)) where
  -- the refusal e, passed on as d
  refuses : (r : Result (Outcome S R) Refusal) (e d : Refusal) (answer : Result Answer Refusal) (out : List ℕ) → r ≡ Err e → answer ≡ Err d → d ≡ e → Steps k s out r answer s out
  refuses r e d answer out h a b =
      subst (λ (x : Result (Outcome S R) Refusal). Steps k s out x answer s out) (sym h) (record { answer_is = a ∙ ap (λ x. Err x) b; state_is = refl; outbox_is = refl })

  -- bytes that are no content
  pub offer-unread : (bytes : List ℕ) (e d : Refusal) (answer : Result Answer Refusal) (out : List ℕ) → Err e ≡ read_content k bytes → answer ≡ Err d → d ≡ e →
      Steps k s out (offer_step k p leader s bs bytes) answer s out
  offer-unread bytes e d answer out h a b =
      refuses (offer_step k p leader s bs bytes) e d answer out (sym (ap (λ r. next r (λ content. may_offer p leader s (offers p s bs content))) h)) a b

  offer-is : (bytes : List ℕ) (content : R) (r : Result (Unit {0}) Refusal) → Ok content ≡ read_content k bytes → r ≡ may_offer p leader s (tt {0}) →
      offer_step k p leader s bs bytes ≡ carried (λ _. offers p s bs content) r
  offer-is bytes content r h a =
      sym (ap (λ r. next r (λ content. may_offer p leader s (offers p s bs content))) h) ∙ (may_carried p leader s (λ _. offers p s bs content) (tt {0}) ∙ ap (λ x. carried (λ _. offers p s bs content) x) (sym a))

  -- a seat that may not offer
  pub offer_barred : (bytes : List ℕ) (content : R) (e d : Refusal) (answer : Result Answer Refusal) (out : List ℕ) → Ok content ≡ read_content k bytes →
      Err e ≡ may_offer p leader s (tt {0}) → answer ≡ Err d → d ≡ e → Steps k s out (offer_step k p leader s bs bytes) answer s out
  offer_barred bytes content e d answer out h a b f = refuses (offer_step k p leader s bs bytes) e d answer out (offer-is bytes content (Err e) h a) b f

  -- a seat that may
  pub offer-made : (bytes : List ℕ) (content : R) (answer : Answer) (s' : State S R) (out out' : List ℕ) → Ok content ≡ read_content k bytes → Ok (tt {0}) ≡ may_offer p leader s (tt {0}) →
      Shows k (offers p s bs content) answer s' out out' → Steps k s out (offer_step k p leader s bs bytes) (Ok answer) s' out'
  offer-made bytes content answer s' out out' h a w =
      subst (λ (x : Result (Outcome S R) Refusal). Steps k s out x (Ok answer) s' out') (sym (offer-is bytes content (Ok (tt {0})) h a))
      (record { answer_is = ap (λ x. Ok x) w.answer_is; state_is = w.state_is; outbox_is = w.outbox_is })

module _ {S : ℕ} {R : Type 0} (p : Terms) (leader : ℕ → ℕ) (s : State S R) where
  pub offer-places : Ok (tt {0}) ≡ may_offer p leader s (tt {0}) → (s.turn ≤ 65535) × (next_height s.best ≤ 4294967295)
  offer-places h = within s.turn (next_height s.best) (places p leader s (tt {0}) (sym h))

module _ {L S : ℕ} {R : Type 0} (k : Kind L R) (p : Terms) where
  -- the proposal, written
  pub proposes : (s s1 : State S R) (content : R) (block : Block R) (item : Item) (out out' : List ℕ) → block ≡ offered_block s content → s1 ≡ with_offered true s →
      Some item ≡ item_at k 0 (Some (write (Proposal block (zero_seal S) (best_body p S s1.best)))) →
      out' ≡ put_item k 0 (Some (write (Proposal block (zero_seal S) (best_body p S s1.best)))) out →
      Shows k (offers p s [] content) (record { word = Offered; height = 0; certificate = None; message = Some item; blame = None }) s1 out out'
  proposes s s1 content block item out out' eb es ei eo =
      let message : Block R → State S R → Option (Sending R) = λ b x. Some (write (Proposal b (zero_seal S) (best_body p S x.best))) in
      record {
        answer_is = ap (λ (m : Option Item). record { word = Offered; height = 0; certificate = None; message = m; blame = None })
            (ei ∙ (ap (λ b. item_at k 0 (message b s1)) eb ∙ ap (λ x. item_at k 0 (message (offered_block s content) x)) es));
        state_is = es;
        outbox_is = eo ∙ (ap (λ b. put_item k 0 (message b s1) out) eb ∙ ap (λ x. put_item k 0 (message (offered_block s content) x) out) es);
      }

-- an offer does not see the blocks, and leaves them alone
module _ {L S : ℕ} {R : Type 0} (k : Kind L R) (p : Terms) (leader : ℕ → ℕ) (s : State S R) (bs : List (Block R)) where
  over-next : (r : Result R Refusal) → next r (λ c. may_offer p leader s (offers p s bs c)) ≡ carried (over bs) (next r (λ c. may_offer p leader s (offers p s [] c)))
  over-next (Ok c) = may_carried p leader s (over bs) (offers p s [] c)
  over-next (Err e) = refl

  offer-over : (bytes : List ℕ) → offer_step k p leader s bs bytes ≡ carried (over bs) (offer_step k p leader s [] bytes)
  offer-over bytes = over-next (read_content k bytes)

  answer-over : (r : Result (Outcome S R) Refusal) → answer_after k (carried (over bs) r) ≡ answer_after k r
  answer-over (Ok o) = refl
  answer-over (Err e) = refl

  state-over : (r : Result (Outcome S R) Refusal) → step_state s (carried (over bs) r) ≡ step_state s r
  state-over (Ok o) = refl
  state-over (Err e) = refl

  box-over : (out : List ℕ) (r : Result (Outcome S R) Refusal) → box_after k out (carried (over bs) r) ≡ box_after k out r
  box-over out (Ok o) = refl
  box-over out (Err e) = refl

  blocks-over : (r : Result (Outcome S R) Refusal) → blocks_after bs (carried (over bs) r) ≡ bs
  blocks-over (Ok o) = refl
  blocks-over (Err e) = refl

  pub offer-answers : (bytes : List ℕ) → answer_after k (offer_step k p leader s [] bytes) ≡ answer_after k (offer_step k p leader s bs bytes)
  offer-answers bytes = sym (ap (λ r. answer_after k r) (offer-over bytes) ∙ answer-over (offer_step k p leader s [] bytes))

  pub offer_states : (bytes : List ℕ) → step_state s (offer_step k p leader s [] bytes) ≡ step_state s (offer_step k p leader s bs bytes)
  offer_states bytes = sym (ap (λ r. step_state s r) (offer-over bytes) ∙ state-over (offer_step k p leader s [] bytes))

  pub offer_boxes : (bytes out : List ℕ) → box_after k out (offer_step k p leader s [] bytes) ≡ box_after k out (offer_step k p leader s bs bytes)
  offer_boxes bytes out = sym (ap (λ r. box_after k out r) (offer-over bytes) ∙ box-over out (offer_step k p leader s [] bytes))

  pub offer-blocks : (bytes : List ℕ) → blocks_after bs (offer_step k p leader s bs bytes) ≡ bs
  offer-blocks bytes = ap (λ r. blocks_after bs r) (offer-over bytes) ∙ blocks-over (offer_step k p leader s [] bytes)
