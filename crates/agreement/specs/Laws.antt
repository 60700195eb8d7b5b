-- The laws of sound seats over every run, beside agreement.
use Rattle.std.specs.Prelude.{◌≡◌, ℕ, ◌+◌, ◌*◌, ◌≤◌, cond, ◌⊎◌, List, ◌∷◌, ◌++◌, Some, Ok}
use Rattle.content.specs.Kinds.{Kind}
use Rattle.blocks.specs.declared.block.Block.{Block}
use Rattle.wire.specs.Reading.{read_parts}
use Rattle.wire.specs.declared.message.Certificate.{Certificate}
use Rattle.wire.specs.declared.message.Parts.{Parts}
use Rattle.wire.specs.declared.message.Parts.TheVariants.{Certified, Vote}
use Rattle.state.specs.Parts.{is_on}
use Rattle.state.specs.Sends.{write, zero_seal}
use Rattle.state.specs.declared.state.State.{State}
use Rattle.agreement.specs.Committed.{Takes}
use Rattle.agreement.specs.History.{Did, Event, History, Sends, desk}
use Rattle.agreement.specs.Run.{Among, Run}
use Rattle.agreement.specs.Setting.{Lawful, Setting, Sound}

-- p is an earlier moment of h, or h itself
abbrev pub Earlier : History → History → Type 0
Earlier p h = (q : History) × (h ≡ q ++ p)

-- one of the calls of h, with the history before it
abbrev pub Was : (Event → History → Type 0) → History → Type 0
Was P h = (q : History) × (e : Event) × (p : History) × (h ≡ q ++ (e ∷ p)) × P e p

-- stages in their order: on in a view, then leaving it
abbrev pub stage : {S : ℕ} {R : Type 0} → State S R → ℕ
stage s = cond (is_on s.phase) (2 * s.view) (2 * s.view + 1)

abbrev pub OnShelf : {R : Type 0} → Block R → List (Block R) → Type 0
OnShelf b bs = Among (λ x. x ≡ b) bs

module _ {L : ℕ} {R : Type 0} (S : ℕ) (k : Kind L R) (w : Setting) where
  abbrev pub state : ℕ → History → State S R
  state i h = (desk S k w i h).state

  abbrev pub shelf : ℕ → History → List (Block R)
  shelf i h = (desk S k w i h).blocks

  -- whatever these bytes are read as, it is a certificate of b
  abbrev pub AsCertificate : Block R → List ℕ → Type 0
  AsCertificate b m = (x : Parts R (List ℕ)) → read_parts k S w.n m ≡ Ok x →
      (c : Certificate R (List ℕ)) × (c.block ≡ b) × (x ≡ Certified c)

  -- the call sent something that is read so
  abbrev pub SendsSome : (List ℕ → Type 0) → Event → History → Type 0
  SendsSome As e h = (m : List ℕ) × Sends S k w m e h × As m

  -- the call sent the seat's own vote for b
  abbrev pub VotesFor : Block R → Event → History → Type 0
  VotesFor b e h = Did S k w (λ o. o.sends.message ≡ Some (write (Vote (w.terms e.who).own b (zero_seal S)))) e h

  -- some sound seat sent its vote for b
  abbrev pub Voted : Block R → History → Type 0
  Voted b h = Was (λ e p. Sound w e.who × VotesFor b e p) h

  -- the parent of b is the root, or on this shelf, one height lower
  abbrev pub ParentOn : Block R → List (Block R) → Type 0
  ParentOn b bs = (b.height ≡ 1) ⊎ ((c : Block R) × OnShelf c bs × (c.rank ≡ b.parent) × (c.height + 1 ≡ b.height))

  -- What holds of the sound seats at every moment of a run: no seat goes back to a view that it left, or to being on in a view that
  -- it is leaving; one block a rank is voted for, by whomever; a shelf has the parent of each of its blocks, and one block a rank; and
  -- every block on it was sent, certified, by the call that shelved it.
  pub record SeatLaws (h : History) : Type 0 where
    pub stage_never_falls : (i : ℕ) (p : History) → Sound w i → Earlier p h → stage (state i p) ≤ stage (state i h)
    pub one_vote_a_rank : (b c : Block R) → Voted b h → Voted c h → b.rank ≡ c.rank → b ≡ c
    pub shelf_has_parents : (i : ℕ) (b : Block R) → Sound w i → OnShelf b (shelf i h) → ParentOn b (shelf i h)
    pub shelf_has_one_a_rank : (i : ℕ) (b c : Block R) → Sound w i → OnShelf b (shelf i h) → OnShelf c (shelf i h) → b.rank ≡ c.rank → b ≡ c
    pub shelved_is_sent : (i : ℕ) (b : Block R) → Sound w i → OnShelf b (shelf i h) →
        Was (λ e p. (e.who ≡ i) × Takes S k w b e p × SendsSome (AsCertificate b) e p) h

-- The laws, for every setting and every run.
abbrev pub LawsOfSeats : {L : ℕ} {R : Type 0} → (S : ℕ) → Kind L R → Type 0
LawsOfSeats S k = (w : Setting) → Lawful w → (h : History) → Run S k w h → SeatLaws S k w h
