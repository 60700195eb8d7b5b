-- A seat's note: it is lawful, stands at the seat's own slot, and its leader, if sound, proposed it.
use Rattle.std.proofs.Common.{◌≡◌, ℕ, ◌+◌, ◌<◌, ◌≤◌, min, Bool, true, false, cond, not, eqb, ◌⊎◌, List, [], ◌∷◌, Some, None, Option, sym, refl, ap, ◌∙◌, subst, inl, inr, arith}
use Rattle.std.proofs.lemmas.Bool.{and_parts, cases_Bool, eqb-true, eqb-false}
use Rattle.content.specs.Kinds.{Kind}
use Rattle.blocks.specs.declared.block.Block.{Block}
use Rattle.wire.specs.Asked.{Question, parent_asked}
use Rattle.wire.specs.Lawful.{LawfulBlock}
use Rattle.wire.specs.Layout.{proposal_statement}
use Rattle.wire.specs.declared.message.Certificate.{Certificate}
use Rattle.wire.specs.declared.message.Parts.TheVariants.{Proposal, Notice}
use Rattle.shelf.specs.Blocks.{top_turn}
use Rattle.state.specs.HandIn.{at_slot, last_view, slot_open}
use Rattle.state.specs.Parts.{new_state}
use Rattle.state.specs.Tick.{round_at, turn_after}
use Rattle.state.specs.declared.state.Note.{Note}
use Rattle.state.specs.declared.state.Phase.{Phase}
use Rattle.state.specs.declared.state.Phase.TheVariants.{On, Leaving}
use Rattle.state.specs.declared.state.State.{State}
use Rattle.agreement.specs.History.{Event, History, Said}
use Rattle.agreement.specs.Run.{Moment, Run}
use Rattle.agreement.specs.Setting.{Lawful, Setting, Sound}
use Rattle.agreement.proofs.Along.{Handed, Kept, along}
use Rattle.agreement.proofs.Basics.{none-some, some_same}
use Rattle.agreement.specs.Laws.{shelf, state}
use Rattle.agreement.proofs.Keeps.{shelve_cases}
use Rattle.agreement.proofs.Quorum.{judged-first}

abbrev pub block_of : {R : Type 0} → Option (Note R) → Option (Block R)
block_of None = None
block_of (Some note) = Some note.block

-- the slot that a seat takes a proposal for
abbrev pub Placed : {R : Type 0} → Phase → ℕ → ℕ → Block R → Type 0
Placed On view turn b = (b.rank.view ≡ view) × (b.rank.turn ≡ turn)
Placed (Leaving since) view turn b = (b.rank.view ≡ view + 1) × (b.rank.turn ≡ 0)

leaving-on : (since : ℕ) → ◌≡◌ {A = Phase} On (Leaving since) → ⊥
leaving-on since e = let z : ◌≡◌ {A = ℕ} 0 1 = cc in omega arith

pub slot_placed : {S : ℕ} {R : Type 0} (f : Phase) (s : State S R) (b : Block R) → at_slot f s b ≡ true → Placed f s.view s.turn b
slot_placed On s b e =
    let q = and_parts (eqb s.view b.rank.view) _ e in
    (sym (eqb-true s.view b.rank.view q.0), sym (eqb-true s.turn b.rank.turn q.1))
slot_placed (Leaving since) s b e =
    let q = and_parts (eqb (s.view + 1) b.rank.view) _ e in
    (sym (eqb-true (s.view + 1) b.rank.view q.0), eqb-true b.rank.turn 0 q.1)

module _ {L : ℕ} {R : Type 0} (S : ℕ) (k : Kind L R) (w : Setting) where
  pub record NoteAt (h : History) (phase : Phase) (view turn : ℕ) (nb : Option (Block R)) : Type 0 where
    pub low : view ≤ 65535
    pub leaving_low : (since : ℕ) → phase ≡ Leaving since → view < 65535
    pub lawful : (b : Block R) → nb ≡ Some b → LawfulBlock k b
    pub placed : (b : Block R) → nb ≡ Some b → Placed phase view turn b
    pub proposed : (b : Block R) → nb ≡ Some b → Sound w (w.leader b.rank.view) → Said S k w (w.leader b.rank.view) (proposal_statement k b) h

  abbrev pub NoteInv : ℕ → History → State S R → List (Block R) → Type 0
  NoteInv i h s bs = NoteAt h s.phase s.view s.turn (block_of s.round.note)

  -- a seat without a note
  bare-note : (h : History) (f : Phase) (view turn : ℕ) → view ≤ 65535 → ((since : ℕ) → f ≡ Leaving since → view < 65535) → NoteAt h f view turn None
  bare-note h f view turn l m = record { low = l; leaving_low = m; lawful = λ b e. absurd (none-some e); placed = λ b e. absurd (none-some e); proposed = λ b e. absurd (none-some e) }

  pub note_base : (i : ℕ) → NoteInv i [] new_state []
  note_base i = bare-note [] On 0 0 (omega arith) (λ t x. absurd (leaving-on t x))

  pub lift_note : (e : Event) (p : History) (f : Phase) (view turn : ℕ) (nb : Option (Block R)) → NoteAt p f view turn nb → NoteAt (e ∷ p) f view turn nb
  lift_note e p f view turn nb q = record { low = q.low; leaving_low = q.leaving_low; lawful = q.lawful; placed = q.placed; proposed = λ b t s. inr (q.proposed b t s) }

  -- the leader of a proposal handed in, if sound, made it
  pub proposal-said : (e : Event) (p : History) (b : Block R) (seal : List ℕ) (parent : Option (Certificate R (List ℕ))) → Moment S k w e p → Handed S k w e (Proposal b seal parent) →
      Sound w (w.leader b.rank.view) → Said S k w (w.leader b.rank.view) (proposal_statement k b) p
  proposal-said e p b seal parent now got sound =
      let q : Question = record { seat = w.leader b.rank.view; statement = proposal_statement k b; seal = seal } in
      (now.honest (Proposal b seal parent) got.0.0).0 sound (judged-first w.accepts q (parent_asked k S w.n w.leader parent) got.0.1).0

  take-note : (e : Event) (p g : History) (up : (i : ℕ) (st : List ℕ) → Said S k w i st p → Said S k w i st g) (s : State S R) (b : Block R) (seal : List ℕ) (parent : Option (Certificate R (List ℕ))) → Moment S k w e p → Handed S k w e (Proposal b seal parent) →
      slot_open s b ≡ true → NoteAt g s.phase s.view s.turn (block_of s.round.note) → NoteAt g s.phase s.view s.turn (Some b)
  take-note e p g up s b seal parent now got slot q =
      let at : Placed s.phase s.view s.turn b = slot_placed s.phase s b (and_parts (not s.spoiled) _ slot).1 in
      record {
        low = q.low;
        leaving_low = q.leaving_low;
        lawful = λ c t. subst (λ (x : Block R). LawfulBlock k x) (some_same t) got.1.0;
        placed = λ c t. subst (λ (x : Block R). Placed s.phase s.view s.turn x) (some_same t) at;
        proposed = λ c t. subst (λ (x : Block R). Sound w (w.leader x.rank.view) → Said S k w (w.leader x.rank.view) (proposal_statement k x) g) (some_same t)
            (λ sound. up (w.leader b.rank.view) (proposal_statement k b) (proposal-said e p b seal parent now got sound));
      }

  enter-note : (h : History) (since view turn before : ℕ) (nb : Option (Block R)) → (view ≡ before + 1) → NoteAt h (Leaving since) before 0 nb → turn ≡ 0 → NoteAt h On view turn nb
  enter-note h since view turn before nb up q z =
      let low' : before < 65535 = q.leaving_low since refl in
      record {
        low = omega arith;
        leaving_low = λ t e. absurd (leaving-on t e);
        lawful = q.lawful;
        placed = λ b t. let at = q.placed b t in (at.0 ∙ sym up, at.1 ∙ sym z);
        proposed = q.proposed;
      }

  -- the turn of a seat that leaves does not matter to its note
  leaving-turn : (h : History) (f : Phase) (since view turn t : ℕ) (nb : Option (Block R)) → f ≡ Leaving since → NoteAt h f view turn nb → NoteAt h (Leaving since) view t nb
  leaving-turn h f since view turn t nb e q =
      let r : NoteAt h (Leaving since) view turn nb = subst (λ (x : Phase). NoteAt h x view turn nb) e q in
      record { low = r.low; leaving_low = r.leaving_low; lawful = r.lawful; placed = r.placed; proposed = r.proposed }

module _ {L : ℕ} {R : Type 0} (S : ℕ) (k : Kind L R) (w : Setting) (law : Lawful w) where
  -- g: the moment of which the facts are said, before the call or after it
  pub note-kept : (e : Event) (p g : History) (up : (i : ℕ) (st : List ℕ) → Said S k w i st p → Said S k w i st g) → Moment S k w e p → Kept S k w e p (NoteInv S k w e.who g)
  note-kept e p g up now = record {
    slips = λ s bs out q. q;
    noted = λ s bs b seal parent got there slot none q. take-note S k w e p g up s b seal parent now got slot q;
    accepts = λ s bs note b seal parent got there slot n same able o ends st bl se q. subst (λ (x : Option (Block R)). NoteAt S k w g s.phase s.view s.turn x) (ap block_of n) q;
    spoils = λ s bs note b slot n differs q. q;
    blames_own = λ s bs q. q;
    keeps_vote = λ s bs i b seal got c q. q;
    keeps_blame = λ s bs row q. q;
    shelves = λ s c source new o ends high more q.
        shelve_cases (λ (x : State S R). NoteInv S k w e.who g x (shelf S k w e.who p)) c s (λ _. q)
        (λ here. bare-note S k w g s.phase s.view _ q.low q.leaving_low) (λ here _. bare-note S k w g s.phase s.view _ q.low q.leaving_low);
    leaves_view = λ s bs v why low t q. bare-note S k w g (Leaving s.now) v s.turn (at_most s v why low q) (λ _ _. under s v why low q);
    clock_ticks = λ s bs q. q;
    enters = λ s bs since leaving q. entering s bs since leaving q;
    votes_own = λ s bs note on n q. subst (λ (x : Option (Block R)). NoteAt S k w g s.phase s.view s.turn x) (ap block_of n) q;
    offers_own = λ s bs on fresh room q. q;
  }
    where
      at_most : (s : State S R) (v : ℕ) → ((mask : ℕ) × (seals : List ℕ) × Handed S k w e (Notice v mask seals)) ⊎ (s.view ≡ v) → eqb v last_view ≡ false → NoteInv S k w e.who g s [] → v ≤ 65535
      at_most s v (inl got) low q = let two = got.2.1.0 in omega arith
      at_most s v (inr same) low q = let l = q.low in omega arith

      under : (s : State S R) (v : ℕ) → ((mask : ℕ) × (seals : List ℕ) × Handed S k w e (Notice v mask seals)) ⊎ (s.view ≡ v) → eqb v last_view ≡ false → NoteInv S k w e.who g s [] → v < 65535
      under s v why low q =
          let m : v ≤ 65535 = at_most s v why low q in
          let d : v ≡ 65535 → ⊥ = eqb-false v last_view low in
          omega arith

      entering : (s : State S R) (bs : List (Block R)) (since : ℕ) → s.phase ≡ Leaving since → NoteInv S k w e.who g s bs →
          NoteAt S k w g On (min (s.view + 1) last_view) (turn_after (top_turn (min (s.view + 1) last_view) bs)) (block_of (round_at (turn_after (top_turn (min (s.view + 1) last_view) bs)) s.round).note)
      entering s bs since leaving q =
          let l : s.view < 65535 = q.leaving_low since leaving in
          let up : min (s.view + 1) last_view ≡ s.view + 1 = omega arith in
          by (min (s.view + 1) last_view) (turn_after (top_turn (min (s.view + 1) last_view) bs)) up
        where
          by : (v t : ℕ) → v ≡ s.view + 1 → NoteAt S k w g On v t (block_of (round_at t s.round).note)
          by v t up = elim (cases_Bool (eqb t 0)) [
            | inl z ↦ subst (λ (x : Bool). NoteAt S k w g On v t (block_of (cond x s.round (record { note = None; votes = s.round.votes; offered = s.round.offered })).note)) (sym z)
                (enter-note S k w g since v t s.view (block_of s.round.note) up (leaving-turn S k w g s.phase since s.view s.turn 0 (block_of s.round.note) leaving q) (eqb-true t 0 z))
            | inr z ↦ subst (λ (x : Bool). NoteAt S k w g On v t (block_of (cond x s.round (record { note = None; votes = s.round.votes; offered = s.round.offered })).note)) (sym z)
                (bare-note S k w g On v t (let l : s.view < 65535 = q.leaving_low since leaving in omega arith) (λ u x. absurd (leaving-on u x)))
          ]

  -- along every run a seat's note is such
  pub note-fine : (i : ℕ) (h : History) → Sound w i → Run S k w h → NoteInv S k w i h (state S k w i h) (shelf S k w i h)
  note-fine =
      along S k w law (NoteInv S k w)
      (note_base S k w)
      (λ i e p s bs q. lift_note S k w e p s.phase s.view s.turn (block_of s.round.note) q)
      (λ e p now run. note-kept e p (e ∷ p) (λ i st q. inr q) now)
