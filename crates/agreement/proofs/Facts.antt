-- The words of the proof, and the facts about one seat that the argument about all seats stands on.
use Rattle.std.proofs.Common.{◌≡◌, ℕ, suc, ◌+◌, ◌*◌, ◌<◌, ◌≤◌, true, ◌⊎◌, List, ◌∷◌, Some, None, Ok, Option}
use Rattle.content.specs.Kinds.{Kind}
use Rattle.content.specs.declared.refusal.Refusal.TheVariants.{Orphan, Rival, Fork}
use Rattle.blocks.specs.Ranks.{at_least, below, parent_of}
use Rattle.blocks.specs.declared.block.Block.{Block}
use Rattle.wire.specs.Asked.{asked, judge}
use Rattle.wire.specs.Lawful.{LawfulBlock}
use Rattle.wire.specs.Reading.{read_parts}
use Rattle.wire.specs.declared.message.Certificate.{Certificate}
use Rattle.wire.specs.declared.message.Parts.{Parts}
use Rattle.wire.specs.declared.message.Parts.TheVariants.{Proposal, Certified, Notice}
use Rattle.shelf.specs.Blocks.{read_below}
use Rattle.state.specs.declared.state.Note.{Note}
use Rattle.state.specs.declared.state.Phase.TheVariants.{On, Leaving}
use Rattle.state.specs.declared.state.State.{State}
use Rattle.agreement.specs.Committed.{Commits, Takes}
use Rattle.agreement.specs.History.{Call, Did, Event, History, Refused, clock, hand, inbox_of, offer, sent, tick}
use Rattle.agreement.specs.Laws.{AsCertificate as AsCertificateOf, Earlier, OnShelf, ParentOn as ParentOnOf, SendsSome as SendsSomeOf, Voted as VotedOf, VotesFor as VotesForOf, Was, shelf as shelf_of, stage, state as state_of}
use Rattle.agreement.specs.Run.{Run}
use Rattle.agreement.specs.Setting.{Setting, Sound}

-- the call is a tick
abbrev pub Ticks : Call → Type 0
Ticks (hand inbox room) = ⊥
Ticks (tick room) = Unit {0}
Ticks (offer content room) = ⊥
Ticks sent = ⊥

-- d is b, or an ancestor of b, by parents that are on the shelf
pub data Descends {R : Type 0} (bs : List (Block R)) : Block R → Block R → Type 0 where
  self : (b : Block R) → OnShelf b bs → Descends bs b b
  up : (b c d : Block R) → OnShelf b bs → 1 < b.height → c.rank ≡ b.parent → c.height + 1 ≡ b.height → Descends bs c d → Descends bs b d

-- the seat's note is this block
abbrev pub NoteIs : {R : Type 0} → Block R → Option (Note R) → Type 0
NoteIs b None = ⊥
NoteIs b (Some note) = note.block ≡ b

-- A seat is primed with b if it can vote for no other block of b's rank: it is past that rank, or spoiled at it, or has
-- b as its note.
abbrev pub Primed : {S : ℕ} {R : Type 0} → Block R → State S R → Type 0
Primed b s =
    (2 * b.rank.view < stage s) ⊎
    (((stage s ≡ 2 * b.rank.view) × (b.rank.turn < s.turn)) ⊎
    (((stage s ≡ 2 * b.rank.view) × ((s.turn ≡ b.rank.turn) × ((s.spoiled ≡ true) ⊎ NoteIs b s.round.note))) ⊎
    ((stage s + 1 ≡ 2 * b.rank.view) × ((b.rank.turn ≡ 0) × ((s.spoiled ≡ true) ⊎ NoteIs b s.round.note)))))

module _ {L : ℕ} {R : Type 0} (S : ℕ) (k : Kind L R) (w : Setting) where
  abbrev state : ℕ → History → State S R
  state = state_of S k w

  abbrev shelf : ℕ → History → List (Block R)
  shelf = shelf_of S k w

  abbrev AsCertificate : Block R → List ℕ → Type 0
  AsCertificate = AsCertificateOf S k w

  abbrev SendsSome : (List ℕ → Type 0) → Event → History → Type 0
  SendsSome = SendsSomeOf S k w

  abbrev VotesFor : Block R → Event → History → Type 0
  VotesFor = VotesForOf S k w

  abbrev Voted : Block R → History → Type 0
  Voted = VotedOf S k w

  abbrev ParentOn : Block R → List (Block R) → Type 0
  ParentOn = ParentOnOf S k w

  abbrev pub OnIn : ℕ → ℕ → History → Type 0
  OnIn i v h = ((state i h).phase ≡ On) × ((state i h).view ≡ v)

  -- whatever these bytes are read as, it is a notice of v, a proposal of b
  abbrev pub AsNotice : ℕ → List ℕ → Type 0
  AsNotice v m = (x : Parts R (List ℕ)) → read_parts k S w.n m ≡ Ok x →
      (mask : ℕ) × (seals : List ℕ) × (x ≡ Notice v mask seals)

  abbrev pub AsProposal : Block R → List ℕ → Type 0
  AsProposal b m = (x : Parts R (List ℕ)) → read_parts k S w.n m ≡ Ok x →
      (seal : List ℕ) × (parent : Option (Certificate R (List ℕ))) × (x ≡ Proposal b seal parent)

  -- the call was carried out
  abbrev pub Carried : Event → History → Type 0
  Carried e h = Did S k w (λ _. Unit {0}) e h

  -- a seat was handed a message that reads as x, with good seals
  abbrev pub GoodMessage : Parts R (List ℕ) → Event → Type 0
  GoodMessage x e = (read_parts k S w.n (inbox_of e.what) ≡ Ok x) × (judge w.accepts (asked k S w.n w.leader x) ≡ Ok tt)

  -- how a view above 0 was entered: its lock covers all that was on the shelf, and the notice that ended the view before was sent 2D + 1 ticks earlier
  pub record Entry (i u : ℕ) (h : History) (e : Event) (p : History) : Type 0 where
    pub mine : e.who ≡ i
    pub on_after : OnIn i (suc u) (e ∷ p)
    pub locks : (b : Block R) → OnShelf b (shelf i p) → at_least (state i h).lock (Some b.rank) ≡ true
    pub notice : Was (λ x r. (x.who ≡ i) × SendsSome (AsNotice u) x r × (clock S k w i (x ∷ r) + (2 * w.delta + 1) ≡ clock S k w i (e ∷ p))) p

  -- how a note came to be accepted at tick a: the call passed the proposal on, in the view of the block, with the block's parent on the shelf
  pub record Acceptance (i a : ℕ) (b : Block R) (e : Event) (p : History) : Type 0 where
    pub mine : e.who ≡ i
    pub at_tick : clock S k w i (e ∷ p) ≡ a
    pub on_after : OnIn i b.rank.view (e ∷ p)
    pub relays : SendsSome (AsProposal b) e p
    pub parent_there_lem : ParentOn b (shelf i (e ∷ p))

  -- what stands behind a vote
  pub record Ballot (b : Block R) (e : Event) (p : History) : Type 0 where
    pub on_there : OnIn e.who b.rank.view p
    pub lawful : LawfulBlock k b
    pub accepted : ℕ
    pub waited : accepted + (w.delta + 1) ≤ clock S k w e.who (e ∷ p)
    pub acceptance : Was (Acceptance e.who accepted b) p
    -- at turn 0 the parent is the lock or above it
    pub above-lock : b.rank.turn ≡ 0 → at_least (parent_of b) (state e.who p).lock ≡ true

  -- a certificate that a call would take in: sound seats voted for its block before
  pub record Candidate (b : Block R) (e : Event) (p : History) : Type 0 where
    pub lawful : LawfulBlock k b
    pub voted : Voted b p

  pub record SeatFacts : Type 0 where
    -- time
    pub stage_rises : (i : ℕ) (p h : History) → Sound w i → Run S k w h → Earlier p h → stage (state i p) ≤ stage (state i h)
    pub clock_rises : (i : ℕ) (p h : History) → Earlier p h → clock S k w i p ≤ clock S k w i h
    -- only a tick moves a clock, its own seat's, and by one
    pub clock_moves : (i : ℕ) (e : Event) (p : History) → (clock S k w i (e ∷ p) ≡ clock S k w i p) ⊎
        ((e.who ≡ i) × Ticks e.what × (clock S k w i (e ∷ p) ≡ clock S k w i p + 1))
    pub leaving-short : (i since : ℕ) (h : History) → Sound w i → Run S k w h → (state i h).phase ≡ Leaving since →
        (since ≤ clock S k w i h) × (clock S k w i h ≤ since + 2 * w.delta)
    pub leaving-began : (i since : ℕ) (p h : History) → Sound w i → Run S k w h → Earlier p h →
        stage (state i p) ≡ stage (state i h) → (state i h).phase ≡ Leaving since → since ≤ clock S k w i p
    pub entry : (i u : ℕ) (h : History) → Sound w i → Run S k w h → OnIn i (suc u) h → (suc u ≤ 65535) × Was (Entry i u h) h
    -- shelves
    pub shelf_grows : (i : ℕ) (p h : History) (b : Block R) → Earlier p h → OnShelf b (shelf i p) → OnShelf b (shelf i h)
    pub shelf-lawful : (i : ℕ) (h : History) (b : Block R) → Sound w i → Run S k w h → OnShelf b (shelf i h) → LawfulBlock k b
    pub shelf-closed : (i : ℕ) (h : History) (b : Block R) → Sound w i → Run S k w h → OnShelf b (shelf i h) → ParentOn b (shelf i h)
    pub one-a-rank : (i : ℕ) (h : History) (b c : Block R) → Sound w i → Run S k w h → OnShelf b (shelf i h) → OnShelf c (shelf i h) → b.rank ≡ c.rank → b ≡ c
    pub shelved-sent : (i : ℕ) (h : History) (b : Block R) → Sound w i → Run S k w h → OnShelf b (shelf i h) →
        Was (λ e p. (e.who ≡ i) × Takes S k w b e p × SendsSome (AsCertificate b) e p) h
    pub shelved-voted : (i : ℕ) (h : History) (b : Block R) → Sound w i → Run S k w h → OnShelf b (shelf i h) → Voted b h
    -- while on, the turns of the view on the shelf are those below the seat's turn
    pub turns-there : (i v t : ℕ) (h : History) → Sound w i → Run S k w h → OnIn i v h → t < (state i h).turn →
        (b : Block R) × OnShelf b (shelf i h) × (b.rank.view ≡ v) × (b.rank.turn ≡ t)
    pub turns-below : (i v : ℕ) (h : History) (b : Block R) → Sound w i → Run S k w h → OnIn i v h → OnShelf b (shelf i h) →
        b.rank.view ≡ v → b.rank.turn < (state i h).turn
    -- messages with good seals are carried out
    pub notice-carried : (e : Event) (p : History) (v mask : ℕ) (seals : List ℕ) → Run S k w (e ∷ p) → GoodMessage (Notice v mask seals) e →
        v < 65535 → 2 * v + 1 ≤ stage (state e.who (e ∷ p))
    pub certificate-carried : (e : Event) (p : History) (c : Certificate R (List ℕ)) → Run S k w (e ∷ p) → GoodMessage (Certified c) e →
        (Refused S k w Orphan e p → ⊥) → (Refused S k w Rival e p → ⊥) → (Refused S k w Fork e p → ⊥) → OnShelf c.block (shelf e.who (e ∷ p))
    pub proposal-carried : (e : Event) (p : History) (b : Block R) (seal : List ℕ) (parent : Option (Certificate R (List ℕ))) → Run S k w (e ∷ p) →
        GoodMessage (Proposal b seal parent) e → (Refused S k w Orphan e p → ⊥) → (Refused S k w Rival e p → ⊥) → (Refused S k w Fork e p → ⊥) →
        (2 * b.rank.view ≤ stage (state e.who p) + 1) → (0 < b.rank.turn → 2 * b.rank.view ≤ stage (state e.who p)) →
        Primed b (state e.who (e ∷ p))
    -- votes
    pub ballot : (e : Event) (p : History) (b : Block R) → Run S k w (e ∷ p) → VotesFor b e p → Ballot b e p
    pub primed-stays : (i : ℕ) (p h : History) (b : Block R) → Sound w i → Run S k w h → LawfulBlock k b → Earlier p h → Primed b (state i p) → Primed b (state i h)
    pub primed_votes : (e : Event) (p : History) (b c : Block R) → Run S k w (e ∷ p) → LawfulBlock k b → Primed b (state e.who p) → VotesFor c e p → c.rank ≡ b.rank → c ≡ b
    -- commits
    pub commit-on : (e : Event) (p : History) (b : Block R) → Run S k w (e ∷ p) → Did S k w (λ o. 0 < o.height) e p → Takes S k w b e p → OnIn e.who b.rank.view p
    pub committed-was : (i : ℕ) (h : History) (b : Block R) → Sound w i → Run S k w h → (state i h).committed ≡ Some b → Commits S k w i b h
    -- refusals
    pub orphan_because : (e : Event) (p : History) → Run S k w (e ∷ p) → Refused S k w Orphan e p →
        (b : Block R) × Candidate b e p × (ParentOn b (shelf e.who p) → ⊥)
    pub rival_because : (e : Event) (p : History) → Run S k w (e ∷ p) → Refused S k w Rival e p →
        (b : Block R) × (c : Block R) × Candidate b e p × OnShelf c (shelf e.who p) × (c.rank ≡ b.rank) × (b ≡ c → ⊥)
    pub fork_because : (e : Event) (p : History) → Run S k w (e ∷ p) → Refused S k w Fork e p →
        (b : Block R) × (c : Block R) × Candidate b e p × OnIn e.who b.rank.view p × ((state e.who p).committed ≡ Some c) ×
        ParentOn b (shelf e.who p) × (below c.rank b.rank ≡ true) × OnShelf c (shelf e.who p) ×
        (read_below (shelf e.who p) (parent_of b) c.height ≡ Ok (Some c) → ⊥)
    -- reading a height on a shelf finds the ancestor of that height
    pub reads-ancestor : (i : ℕ) (h : History) (b d : Block R) → Sound w i → Run S k w h → Descends (shelf i h) b d →
        read_below (shelf i h) (Some b.rank) d.height ≡ Ok (Some d)
