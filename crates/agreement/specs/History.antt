-- Histories: the calls at the sound seats, the newest first. A tail of a history is an earlier moment of it.
use Rattle.std.specs.Prelude.{◌≡◌, ℕ, cond, ◌⊎◌, List, [], ◌∷◌, Some, None, Ok, Err, Option, Result, ◌==◌}
use Rattle.content.specs.Kinds.{Kind}
use Rattle.content.specs.declared.refusal.Refusal.{Refusal}
use Rattle.blocks.specs.declared.block.Block.{Block}
use Rattle.wire.specs.Layout.{blame_statement, proposal_statement, vote_statement}
use Rattle.wire.specs.declared.message.Parts.TheVariants.{Proposal, Vote, Blame, Certified, Notice}
use Rattle.state.specs.Calls.{blocks_after, hand_in, offer as offer_call, sent_step, state_after, tick as tick_call}
use Rattle.state.specs.HandIn.{idle}
use Rattle.state.specs.Parts.{new_state}
use Rattle.state.specs.Sends.{Outcome, Sending, relay, sending_bytes, write}
use Rattle.state.specs.declared.state.State.{State}
use Rattle.agreement.specs.Setting.{Setting}

-- one of the four calls, with the bytes that it is given and the room of its outbox
pub data Call : Type 0 where
  hand : (inbox : List ℕ) → (room : ℕ) → Call
  tick : (room : ℕ) → Call
  offer : (content : List ℕ) → (room : ℕ) → Call
  sent : Call

-- a call at a seat
pub record Event : Type 0 where
  pub who : ℕ
  pub what : Call

abbrev pub History : Type 0
History = List Event

-- something held of one of the calls and the history before it
abbrev pub Once : (Event → History → Type 0) → History → Type 0
Once P [] = ⊥
Once P (e ∷ h) = P e h ⊎ Once P h

-- something held of every call and the history before it
abbrev pub Always : (Event → History → Type 0) → History → Type 0
Always P [] = Unit {0}
Always P (e ∷ h) = P e h × Always P h

-- a seat with its shelf
pub record Desk (S : ℕ) (R : Type 0) : Type 0 where
  pub state : State S R
  pub blocks : List (Block R)

-- the message of a call, where it hands one in
abbrev pub inbox_of : Call → List ℕ
inbox_of (hand inbox room) = inbox
inbox_of (tick room) = []
inbox_of (offer content room) = []
inbox_of sent = []

module _ {L S : ℕ} {R : Type 0} (k : Kind L R) (w : Setting) where
  -- the outcome of a call at a seat
  abbrev pub outcome : ℕ → Call → Desk S R → Result (Outcome S R) Refusal
  outcome i (hand inbox room) d =
      hand_in k (w.terms i) w.leader w.accepts d.state d.blocks (w.cells i) inbox room
  outcome i (tick room) d = tick_call (w.terms i) d.state d.blocks room
  outcome i (offer content room) d = offer_call k (w.terms i) w.leader d.state d.blocks content room
  outcome i sent d = Ok (idle (sent_step d.state) d.blocks)

  -- the seat after it: a refused call leaves it as it was
  abbrev pub after : ℕ → Call → Desk S R → Desk S R
  after i (hand inbox room) d = record {
    state = state_after d.state (outcome i (hand inbox room) d);
    blocks = blocks_after d.blocks (outcome i (hand inbox room) d);
  }
  after i (tick room) d = record {
    state = state_after d.state (outcome i (tick room) d);
    blocks = blocks_after d.blocks (outcome i (tick room) d);
  }
  after i (offer content room) d = record {
    state = state_after d.state (outcome i (offer content room) d);
    blocks = blocks_after d.blocks (outcome i (offer content room) d);
  }
  after i sent d = record { state = sent_step d.state; blocks = d.blocks }

module _ {L : ℕ} {R : Type 0} (S : ℕ) (k : Kind L R) (w : Setting) where
  -- a seat and its shelf after a history: new seats, empty shelves, and then call by call
  unfoldable pub desk : ℕ → History → Desk S R
  desk i [] = record { state = new_state; blocks = [] }
  desk i (e ∷ h) = cond (i == e.who) (after k w i e.what (desk i h)) (desk i h)

  -- the clock of a seat
  abbrev pub clock : ℕ → History → ℕ
  clock i h = (desk i h).state.now

  -- what a call answered
  abbrev pub result : Event → History → Result (Outcome S R) Refusal
  result e h = outcome k w e.who e.what (desk e.who h)

  -- the call was carried out, with an outcome of which P holds
  abbrev pub Did : (Outcome S R → Type 0) → Event → History → Type 0
  Did P e h = (o : Outcome S R) × (result e h ≡ Ok o) × P o

  -- the call was refused
  abbrev pub Refused : Refusal → Event → History → Type 0
  Refused r e h = result e h ≡ Err r

  -- an item is these bytes
  abbrev pub Is : List ℕ → List ℕ → Option (Sending R) → Type 0
  Is inbox m None = ⊥
  Is inbox m (Some s) = sending_bytes k inbox s ≡ m

  -- the call sent these bytes: they are one of its items
  abbrev pub Sends : List ℕ → Event → History → Type 0
  Sends m e h = Did (λ o. Is (inbox_of e.what) m o.sends.certificate ⊎ (Is (inbox_of e.what) m o.sends.message ⊎
      Is (inbox_of e.what) m o.sends.blame)) e h

  -- the statement of a proposal, vote or blame that a seat itself made
  abbrev pub Own : List ℕ → Option (Sending R) → Type 0
  Own st None = ⊥
  Own st (Some relay) = ⊥
  Own st (Some (write (Proposal b seal parent))) = proposal_statement k b ≡ st
  Own st (Some (write (Vote i b seal))) = vote_statement k b ≡ st
  Own st (Some (write (Blame i view seal))) = blame_statement view ≡ st
  Own st (Some (write (Certified c))) = ⊥
  Own st (Some (write (Notice view mask seals))) = ⊥

  -- a seat sent a statement as its own
  abbrev pub Said : ℕ → List ℕ → History → Type 0
  Said i st h = Once (λ e p. (e.who ≡ i) × Did (λ o. Own st o.sends.message ⊎ Own st o.sends.blame) e p) h
