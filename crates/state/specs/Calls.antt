-- The four calls: the whole outcome of each, for every state of seat, shelf and outbox.
use Rattle.std.specs.Prelude.{ℕ, Bool, true, false, cond, List, Ok, Err, Result, nat_le, nat_lt}
use Rattle.content.specs.Kinds.{Kind}
use Rattle.content.specs.declared.refusal.Refusal.{Refusal}
use Rattle.content.specs.declared.refusal.Refusal.TheVariants.{SlipOut, SmallOutbox, LastTick}
use Rattle.blocks.specs.declared.block.Block.{Block}
use Rattle.wire.specs.Asked.{opened}
use Rattle.wire.specs.Reading.{next}
use Rattle.state.specs.HandIn.{hand_parts}
use Rattle.state.specs.Offer.{offer_step}
use Rattle.state.specs.Parts.{with_slip}
use Rattle.state.specs.Sends.{Outcome, answer_of, outbox_after}
use Rattle.state.specs.Tick.{tick_step}
use Rattle.state.specs.declared.answer.Answer.{Answer}
use Rattle.state.specs.declared.state.State.{State}
use Rattle.state.specs.declared.state.Terms.{Terms}

-- the least room that a call wants to write into
abbrev pub least_outbox : ℕ
least_outbox = 1024

-- the clock stops here
abbrev pub last_tick_of : ℕ
last_tick_of = 1000000000

-- what every call but sent asks first: no slip out, an outbox of enough bytes
abbrev pub guarded : {S : ℕ} {R X : Type 0} → State S R → (room : ℕ) → Result X Refusal → Result X Refusal
guarded s room r = cond s.slip (Err SlipOut) (cond (nat_lt room least_outbox) (Err SmallOutbox) r)

module _ {L S : ℕ} {R : Type 0} (k : Kind L R) (p : Terms) where
  -- a message is opened, and then the seat steps
  abbrev pub hand_in : (leader : ℕ → ℕ) → (accepts : ℕ → List ℕ → List ℕ → Bool) → State S R → List (Block R) → (cells : ℕ) → (inbox : List ℕ) → (room : ℕ) → Result (Outcome S R) Refusal
  hand_in leader accepts s bs cells inbox room =
      guarded s room (next (opened k S p.seats.n leader accepts inbox) (hand_parts k p s bs cells))

  abbrev pub offer : (leader : ℕ → ℕ) → State S R → List (Block R) → (content : List ℕ) → (room : ℕ) → Result (Outcome S R) Refusal
  offer leader s bs content room = guarded s room (offer_step k p leader s bs content)

module _ {S : ℕ} {R : Type 0} where
  abbrev pub tick : Terms → State S R → List (Block R) → (room : ℕ) → Result (Outcome S R) Refusal
  tick p s bs room = guarded s room (cond (nat_le last_tick_of s.now) (Err LastTick) (Ok (tick_step p s bs)))

  -- sent takes the slip back
  abbrev pub sent_step : State S R → State S R
  sent_step s = with_slip false s

  -- the state after a step, before any slip is given: a refused one leaves it as it was
  abbrev pub step_state : State S R → Result (Outcome S R) Refusal → State S R
  step_state s (Ok o) = o.state
  step_state s (Err e) = s

  -- what is left after a call: a refused one leaves seat, shelf and outbox as they were; one that is carried out gives a slip
  abbrev pub state_after : State S R → Result (Outcome S R) Refusal → State S R
  state_after s (Ok o) = with_slip true o.state
  state_after s (Err e) = s

  abbrev pub blocks_after : List (Block R) → Result (Outcome S R) Refusal → List (Block R)
  blocks_after bs (Ok o) = o.blocks
  blocks_after bs (Err e) = bs

module _ {L S : ℕ} {R : Type 0} (k : Kind L R) where
  abbrev pub box_after : List ℕ → Result (Outcome S R) Refusal → List ℕ
  box_after outbox (Ok o) = outbox_after k o.sends outbox
  box_after outbox (Err e) = outbox

  abbrev pub answer_after : Result (Outcome S R) Refusal → Result Answer Refusal
  answer_after (Ok o) = Ok (answer_of k o)
  answer_after (Err e) = Err e
