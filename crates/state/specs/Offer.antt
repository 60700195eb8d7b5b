-- An offer of the seat's own entry.
use Rattle.std.specs.Prelude.{ℕ, ◌+◌, ◌-◌, ◌*◌, Bool, true, cond, not, ◌&&◌, ◌||◌, List, take, Some, None, Ok, Err, Option, Result, ◌==◌, nat_lt}
use Rattle.content.specs.Kinds.{Kind, read_content}
use Rattle.content.specs.declared.refusal.Refusal.{Refusal}
use Rattle.content.specs.declared.refusal.Refusal.TheVariants.{NotLeader, OfferLeaving, OfferSpoiled, OfferedAlready, NoPlaceLeft, OfferTooSoon, NoLawfulParent}
use Rattle.blocks.specs.Masks.{quorum}
use Rattle.blocks.specs.declared.block.Block.{Block}
use Rattle.blocks.specs.declared.block.Rank.{Rank}
use Rattle.wire.specs.Reading.{next}
use Rattle.wire.specs.declared.message.Certificate.{Certificate}
use Rattle.wire.specs.declared.message.Parts.TheVariants.{Proposal}
use Rattle.state.specs.Parts.{is_on, with_offered}
use Rattle.state.specs.Sends.{Outcome, write, zero_seal}
use Rattle.state.specs.declared.answer.Word.TheVariants.{Offered}
use Rattle.state.specs.declared.state.Best.{Best}
use Rattle.state.specs.declared.state.State.{State}
use Rattle.state.specs.declared.state.Terms.{Terms}

-- the last turn and the last height that a block can have
abbrev pub last_turn : ℕ
last_turn = 65535

abbrev pub last_height : ℕ
last_height = 4294967295

module _ {R : Type 0} where
  -- the height above best
  abbrev pub next_height : Option (Best R) → ℕ
  next_height None = 1
  next_height (Some best) = best.block.height + 1

  -- best can be the parent of a block at this view and turn: the root or an earlier view at turn 0, the turn before at a later one
  abbrev pub can_carry : ℕ → ℕ → Option (Best R) → Bool
  can_carry view turn None = turn == 0
  can_carry view turn (Some best) =
      cond (turn == 0)
      (nat_lt best.block.rank.view view)
      (best.block.rank.view == view && best.block.rank.turn + 1 == turn)

  abbrev pub rank_of_best : Option (Best R) → Rank
  rank_of_best None = record { view = 0; turn = 0 }
  rank_of_best (Some best) = best.block.rank

module _ {S : ℕ} {R : Type 0} where
  abbrev pub offered_block : State S R → R → Block R
  offered_block s content = record {
    rank = record { view = s.view; turn = s.turn };
    height = next_height s.best;
    parent = rank_of_best s.best;
    content = content;
  }

  -- no turn or no height is left
  abbrev pub no_place : State S R → Bool
  no_place s = nat_lt last_turn s.turn || nat_lt last_height (next_height s.best)

module _ {R : Type 0} (p : Terms) where
  -- best's certificate, as it is kept
  abbrev pub best_body : (S : ℕ) → Option (Best R) → Option (Certificate R (List ℕ))
  best_body S None = None
  best_body S (Some best) = Some (record {
    block = best.block;
    mask = best.mask;
    seals = take (quorum p.seats.n * S) best.seals;
  })

module _ {S : ℕ} {R : Type 0} (p : Terms) where
  -- soon after entering a view above 0 nothing is offered
  abbrev pub too_soon : State S R → Bool
  too_soon s = nat_lt 0 s.view && nat_lt (s.now - s.entered) (2 * p.delta + 1)

  abbrev pub offers : State S R → List (Block R) → R → Outcome S R
  offers s bs content = record {
    word = Offered;
    height = 0;
    sends = record {
      certificate = None;
      message = Some (write (Proposal (offered_block s content) (zero_seal S) (best_body p S s.best)));
      blame = None;
    };
    state = with_offered true s;
    blocks = bs;
  }

  -- who may offer, and when: then an answer is given
  abbrev pub may_offer : {X : Type 0} → (leader : ℕ → ℕ) → State S R → X → Result X Refusal
  may_offer leader s x =
      cond (not (leader s.view == p.own)) (Err NotLeader)
      (cond (not (is_on s.phase)) (Err OfferLeaving)
      (cond s.spoiled (Err OfferSpoiled)
      (cond s.round.offered (Err OfferedAlready)
      (cond (no_place s) (Err NoPlaceLeft)
      (cond (too_soon s) (Err OfferTooSoon)
      (cond (can_carry s.view s.turn s.best) (Ok x) (Err NoLawfulParent)))))))

module _ {L S : ℕ} {R : Type 0} (k : Kind L R) (p : Terms) (leader : ℕ → ℕ) where
  abbrev pub offer_step : State S R → List (Block R) → List ℕ → Result (Outcome S R) Refusal
  offer_step s bs bytes = next (read_content k bytes) (λ content. may_offer p leader s (offers p s bs content))
