-- Steps that do what the model says, one outcome at a time.
use Rattle.std.proofs.Common.{◌≡◌, ℕ, Bool, true, false, cond, eqb, List, Ok, Err, Result, ap, ◌∙◌, arith}
use Rattle.std.proofs.lemmas.Bool.Decides.{nat_tests}
use Rattle.content.specs.Kinds.{Kind}
use Rattle.content.specs.declared.refusal.Refusal.{Refusal}
use Rattle.content.specs.declared.refusal.Refusal.TheVariants.{LastView}
use Rattle.blocks.specs.declared.block.Block.{Block}
use Rattle.wire.specs.declared.message.Certificate.{Certificate}
use Rattle.state.specs.Calls.{answer_after, blocks_after, box_after, step_state}
use Rattle.state.specs.Does.{Does}
use Rattle.state.specs.HandIn.{carried, idle, last_view, leaves, leaves_by, notice, take_in, taken}
use Rattle.shelf.specs.declared.Shelf.{Shelf}
use Rattle.state.specs.Sends.{Outcome, Sending, relay}
use Rattle.state.specs.TakeIn.{judge_in}
use Rattle.state.specs.Steps.{Steps}
use Rattle.state.specs.declared.call.Call.{Call}
use Rattle.state.specs.declared.answer.Answer.{Answer}
use Rattle.state.specs.declared.state.State.{State}
use Rattle.state.specs.declared.taking.Verdict.{Verdict}

module _ {L S : ℕ} {R : Type 0} (k : Kind L R) {s : State S R} {bs : List (Block R)} {out : List ℕ} {a : Result Answer Refusal} {s' : State S R} {bs' : List (Block R)} {out' : List ℕ} where
  -- the model's outcome may be written in another way
  pub does_at : (r q : Result (Outcome S R) Refusal) → r ≡ q → Does k r s bs out a s' bs' out' → Does k q s bs out a s' bs' out'
  does_at r q e h = record {
    answer = h.answer ∙ ap (λ x. answer_after k x) e;
    state = h.state ∙ ap (λ x. step_state s x) e;
    blocks = h.blocks ∙ ap (λ x. blocks_after bs x) e;
    outbox = h.outbox ∙ ap (λ x. box_after k out x) e;
  }

module _ {L S : ℕ} {R : Type 0} (k : Kind L R) {c : Call S} {s : State S R} {f : Shelf R} {a : Result Answer Refusal} {d : Call S} {t : State S R} {e : Shelf R} where
  pub steps_at : (r q : Result (Outcome S R) Refusal) → r ≡ q → Steps k r c s f a d t e → Steps k q c s f a d t e
  steps_at r q p h = record { same = h.same; does = does_at k r q p h.does; cells = h.cells }

module _ {S : ℕ} {R : Type 0} (s : State S R) (bs : List (Block R)) (view : ℕ) where
  pub skips : {X : Type 0} (x y z : X) (b : Bool) → (view ≡ last_view → ⊥) → false ≡ b → z ≡ cond (eqb view last_view) x (cond b y z)
  skips x y z b n h = grind (arith, nat_tests)

  pub takes : {X : Type 0} (x y z : X) (b : Bool) → (view ≡ last_view → ⊥) → true ≡ b → y ≡ cond (eqb view last_view) x (cond b y z)
  takes x y z b n h = grind (arith, nat_tests)

  pub notice-idle : (view ≡ last_view → ⊥) → false ≡ leaves_by s view → Ok (idle s bs) ≡ notice s bs view
  notice-idle n h = skips (Err LastView) (Ok (leaves s bs view relay)) (Ok (idle s bs)) (leaves_by s view) n h

  pub notice-leaves : (view ≡ last_view → ⊥) → true ≡ leaves_by s view → Ok (leaves s bs view relay) ≡ notice s bs view
  notice-leaves n h = takes (Err LastView) (Ok (leaves s bs view relay)) (Ok (idle s bs)) (leaves_by s view) n h

module _ {L S : ℕ} {R : Type 0} (k : Kind L R) (s : State S R) (bs : List (Block R)) (cells : ℕ) (c : Certificate R (List ℕ)) (sending : Sending R) where
  -- the model's taking in, by the verdict
  pub take_in_at : (v : Result Verdict Refusal) → v ≡ judge_in k s bs cells c.block → carried (taken s bs c sending) v ≡ take_in k s bs cells c sending
  take_in_at v e = ap (λ x. carried (taken s bs c sending) x) e
