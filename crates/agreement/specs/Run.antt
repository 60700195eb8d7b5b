-- Runs: histories in which the sound seats and the network between them keep to their part.
use Rattle.std.specs.Prelude.{◌≡◌, ℕ, ◌+◌, ◌<◌, ◌≤◌, true, ◌⊎◌, List, [], ◌∷◌, ◌++◌, Ok}
use Rattle.std.specs.Option.{option_map}
use Rattle.content.specs.Kinds.{Bytes, Kind}
use Rattle.content.specs.declared.refusal.Refusal.TheVariants.{Full, LastTick, SmallOutbox, SlipOut}
use Rattle.wire.specs.Asked.{Question, asked, judge}
use Rattle.wire.specs.Reading.{read_parts}
use Rattle.wire.specs.declared.message.Certificate.{Certificate}
use Rattle.wire.specs.declared.message.Parts.{Parts}
use Rattle.wire.specs.declared.message.Parts.TheVariants.{Proposal, Vote, Blame, Certified, Notice}
use Rattle.agreement.specs.History.{Always, Call, Event, History, Once, Refused, Said, Sends, clock, hand, inbox_of, offer, sent, tick}
use Rattle.agreement.specs.Setting.{Setting, Sound}

-- a message without its seals
abbrev pub bare_body : {R : Type 0} → Certificate R (List ℕ) → Certificate R (List ℕ)
bare_body c = record { block = c.block; mask = c.mask; seals = [] }

abbrev pub bare : {R : Type 0} → Parts R (List ℕ) → Parts R (List ℕ)
bare (Proposal b seal parent) = Proposal b [] (option_map bare_body parent)
bare (Vote i b seal) = Vote i b []
bare (Blame i view seal) = Blame i view []
bare (Certified c) = Certified (bare_body c)
bare (Notice view mask seals) = Notice view mask []

-- one of a list
abbrev pub Among : {X : Type 0} → (X → Type 0) → List X → Type 0
Among P [] = ⊥
Among P (x ∷ xs) = P x ⊎ Among P xs

-- every one of a list
abbrev pub Each : {X : Type 0} → (X → Type 0) → List X → Type 0
Each P [] = Unit {0}
Each P (x ∷ xs) = P x × Each P xs

module _ {L : ℕ} {R : Type 0} (S : ℕ) (k : Kind L R) (w : Setting) where
  -- an item with its seals filled in: both are messages, the same apart from their seals, and the check says yes to every seal
  pub record Sealed (item inbox : List ℕ) : Type 0 where
    pub sent_as : Parts R (List ℕ)
    pub came_as : Parts R (List ℕ)
    pub item_reads : read_parts k S w.n item ≡ Ok sent_as
    pub inbox_reads : read_parts k S w.n inbox ≡ Ok came_as
    pub alike : bare sent_as ≡ bare came_as
    pub good_seals : judge w.accepts (asked k S w.n w.leader came_as) ≡ Ok tt

  -- a call hands in an item, sealed
  abbrev pub Hands : List ℕ → Call → Type 0
  Hands m (hand inbox room) = Sealed m inbox
  Hands m (tick room) = ⊥
  Hands m (offer content room) = ⊥
  Hands m sent = ⊥

  -- the call is at a sound seat, gives it bytes, and is not refused for want of a cell, past the last tick, for a small outbox or a slip that is out
  pub record Driven (e : Event) (h : History) : Type 0 where
    pub at_sound : Sound w e.who
    pub in_bytes : Bytes (inbox_of e.what)
    pub never_full : Refused S k w Full e h → ⊥
    pub never_past : Refused S k w LastTick e h → ⊥
    pub never_small : Refused S k w SmallOutbox e h → ⊥
    pub never_slip : Refused S k w SlipOut e h → ⊥

  -- in each tick every sound seat first gets its tick call: a tick finds no sound clock behind, any other call finds all sound clocks alike
  abbrev pub Alike : ℕ → History → Type 0
  Alike i h = (j : ℕ) → Sound w j → clock S k w j h ≡ clock S k w i h

  abbrev pub StepAt : ℕ → Call → History → Type 0
  StepAt i (tick room) h = (j : ℕ) → Sound w j → clock S k w i h ≤ clock S k w j h
  StepAt i (hand inbox room) h = Alike i h
  StepAt i (offer content room) h = Alike i h
  StepAt i sent h = Alike i h

  -- what a sound seat sent in tick t was afterwards handed, sealed, to every sound seat, once some sound clock is past t + delta
  abbrev pub Timely : History → Type 0
  Timely h = (q : History) (e : Event) (p : History) → h ≡ q ++ (e ∷ p) → (m : List ℕ) → Sends S k w m e p →
      (l : ℕ) → Sound w l → clock S k w e.who (e ∷ p) + w.delta < clock S k w l h →
      (j : ℕ) → Sound w j → Once (λ x _. (x.who ≡ j) × Hands m x.what) q

  -- a seal that the check accepts for a sound seat stands on a statement that this seat sent before as its own
  abbrev pub HonestSeal : History → Question → Type 0
  HonestSeal h q = Sound w q.seat → w.accepts q.seat q.statement q.seal ≡ true → Said S k w q.seat q.statement h

  abbrev pub Honest : Event → History → Type 0
  Honest e h = (m : Parts R (List ℕ)) → read_parts k S w.n (inbox_of e.what) ≡ Ok m →
      Each (HonestSeal h) (asked k S w.n w.leader m)

  -- a run, at each of its moments
  pub record Moment (e : Event) (h : History) : Type 0 where
    pub driven : Driven e h
    pub in_step : StepAt e.who e.what h
    pub timely : Timely (e ∷ h)
    pub honest : Honest e h

  abbrev pub Run : History → Type 0
  Run h = Always Moment h
