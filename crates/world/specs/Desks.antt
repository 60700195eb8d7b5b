-- What a desk holds, and that a call at it does what the model says.
use Rattle.std.specs.Prelude.{◌≡◌, ℕ, ◌≤◌, true, false, List, length, take, is_some, Ok, Err, vec_items, Result}
use Rattle.content.specs.Kinds.{Kind}
use Rattle.content.specs.declared.kind.Content.{Ghosts}
use Rattle.content.specs.declared.refusal.Refusal.{Refusal}
use Rattle.blocks.specs.declared.block.Block.{Block}
use Rattle.state.specs.Calls.{answer_after, blocks_after, box_after, sent_step, state_after}
use Rattle.state.specs.Sends.{Outcome}
use Rattle.state.specs.declared.answer.Answer.{Answer}
use Rattle.seat.specs.declared.slip.Slip.{Slip}
use Rattle.world.specs.declared.desk.Desk.{Desk}

module _ {L S : ℕ} {C R : Type 0} {bound : Ghosts C L R} where
  -- the blocks on a desk's shelf: the first cells
  abbrev pub blocks_of : Desk L S C R bound → List (Block R)
  blocks_of d = take d.filled (vec_items d.cells)

  -- how many cells its shelf has
  abbrev pub cells_of : Desk L S C R bound → ℕ
  cells_of d = length (vec_items d.cells)

  -- the blocks lie within the cells, and the desk holds a slip exactly while its seat has one out
  pub record Tidy (d : Desk L S C R bound) : Type 0 where
    pub within : d.filled ≤ length (vec_items d.cells)
    pub slip_held : is_some d.slip ≡ d.seat.state.slip

  -- a call at a desk answers what the model says, and leaves seat, shelf and outbox as it says
  pub record Worked (k : Kind L R) (r : Result (Outcome S R) Refusal) (d : Desk L S C R bound) (out : List ℕ) (answer : Result Answer Refusal) (d' : Desk L S C R bound) (out' : List ℕ) : Type 0 where
    pub answers : answer ≡ answer_after k r
    pub state : d'.seat.state ≡ state_after d.seat.state r
    pub blocks : blocks_of d' ≡ blocks_after (blocks_of d) r
    pub outbox : out' ≡ box_after k out r
    pub terms : d'.seat.terms ≡ d.seat.terms
    pub cells : cells_of d' ≡ cells_of d
    pub tidy : Tidy d'

module _ {L S : ℕ} {C R : Type 0} {bound : Ghosts C L R} where
  -- a slip is kept, and nothing else changes at a desk that had none
  pub record SlipKept (d d' : Desk L S C R bound) : Type 0 where
    pub cells : d'.cells ≡ d.cells
    pub filled : d'.filled ≡ d.filled
    pub held : is_some d'.slip ≡ true
    pub seat_stays : is_some d.slip ≡ false → d'.seat ≡ d.seat

  -- the outcome of a call is settled: one that was refused changes nothing, the slip of one that was carried out is kept
  abbrev pub Settled : Result (Answer × Slip) Refusal → Desk L S C R bound → Result Answer Refusal → Desk L S C R bound → Type 0
  Settled (Err e) d answer d' = (answer ≡ Err e) × (d' ≡ d)
  Settled (Ok p) d answer d' = (answer ≡ Ok p.0) × SlipKept d d'

  -- the slip was given back: the seat is free, and nothing else changes
  pub record Freed (d d' : Desk L S C R bound) : Type 0 where
    pub state : d'.seat.state ≡ sent_step d.seat.state
    pub blocks : blocks_of d' ≡ blocks_of d
    pub terms : d'.seat.terms ≡ d.seat.terms
    pub cells : cells_of d' ≡ cells_of d
    pub tidy : Tidy d'
