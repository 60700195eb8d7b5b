-- A world of desks as the model sees it: where each desk stands after a history of calls.
use Rattle.std.specs.Prelude.{◌≡◌, ℕ, ◌<◌, Bool, cond, List, [], ◌∷◌, length, replicate, Err, vec_items, Result, nat_lt, slice_index_or}
use Rattle.content.specs.Kinds.{Kind}
use Rattle.content.specs.declared.kind.Content.{Ghosts}
use Rattle.content.specs.declared.refusal.Refusal.{Refusal}
use Rattle.content.specs.declared.refusal.Refusal.TheVariants.{OutOfLimits}
use Rattle.state.specs.Calls.{answer_after, box_after}
use Rattle.state.specs.declared.answer.Answer.{Answer}
use Rattle.agreement.specs.History.{Call, Event, History, desk, hand, offer, result, sent, tick}
use Rattle.agreement.specs.Setting.{Setting}
use Rattle.world.specs.Desks.{Tidy, blocks_of, cells_of}
use Rattle.world.specs.declared.call.Call.{Call as Order}
use Rattle.world.specs.declared.call.Reply.{Reply}
use Rattle.world.specs.declared.call.What.{What}
use Rattle.world.specs.declared.call.What.TheVariants.{HandIn, Tick, Offer, Sent}
use Rattle.world.specs.declared.desk.Desk.{Desk}

-- who leads and which seals stand in a setting
pub record Rules (w : Setting) (leader : ℕ → ℕ) (accepts : ℕ → List ℕ → List ℕ → Bool) : Type 0 where
  pub led : w.leader ≡ leader
  pub checked : w.accepts ≡ accepts

-- the model's call, with an outbox of so many bytes
abbrev pub call_of : What → (room : ℕ) → Call
call_of (HandIn inbox) room = hand inbox.now room
call_of Tick room = tick room
call_of (Offer content) room = offer content.now room
call_of Sent room = sent

abbrev pub event_at : ℕ → Call → Event
event_at i c = record { who = i; what = c }

abbrev pub event_of : Order → Event
event_of c = event_at c.seat (call_of c.what c.room)

-- a history, the newest call first, after these calls in their order
abbrev pub played : List Order → History → History
played [] h = h
played (c ∷ cs) h = played cs (event_of c ∷ h)

module _ {L S : ℕ} {C R : Type 0} {bound : Ghosts C L R} (k : Kind L R) (w : Setting) where
  -- a desk is where the model has the seat of this number after a history
  pub record DeskAt (i : ℕ) (h : History) (d : Desk L S C R bound) : Type 0 where
    pub terms : d.seat.terms ≡ w.terms i
    pub cells : cells_of d ≡ w.cells i
    pub state : d.seat.state ≡ (desk S k w i h).state
    pub blocks : blocks_of d ≡ (desk S k w i h).blocks
    pub tidy : Tidy d

  -- every desk is: the desk at each place is the seat of that number
  abbrev pub Stands : History → List (Desk L S C R bound) → Type 0
  Stands h ds = (i : ℕ) (d : Desk L S C R bound) → i < length ds → slice_index_or ds i d ≡ d → DeskAt i h d

-- what a call answers and leaves in its outbox
pub record Told : Type 0 where
  pub answer : Result Answer Refusal
  pub outbox : List ℕ

abbrev pub told_by : Reply → Told
told_by r = record { answer = r.answer; outbox = vec_items r.outbox }

abbrev pub told_of : List Reply → List Told
told_of [] = []
told_of (r ∷ rs) = told_by r ∷ told_of rs

module _ {L : ℕ} {R : Type 0} (S : ℕ) (k : Kind L R) (w : Setting) (count : ℕ) where
  -- the model's answer to a call after a history, in a world of so many seats: a seat that is not there is refused
  abbrev pub answer_to : Event → History → Result Answer Refusal
  answer_to e h = cond (nat_lt e.who count) (answer_after k (result S k w e h)) (Err OutOfLimits)

  abbrev pub box_of : List ℕ → Event → History → List ℕ
  box_of out e h = cond (nat_lt e.who count) (box_after k out (result S k w e h)) out

  abbrev pub tells : Order → History → Told
  tells c h = record { answer = answer_to (event_of c) h; outbox = box_of (replicate c.room 0) (event_of c) h }

  -- the answers to these calls in their order
  abbrev pub told_all : List Order → History → List Told
  told_all [] h = []
  told_all (c ∷ cs) h = tells c h ∷ told_all cs (event_of c ∷ h)
