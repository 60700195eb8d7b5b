-- The votes that a seat keeps are for its note, each seal of a sound seat stands on a vote that seat cast; so every certificate that
-- a seat takes in is of a block that a sound seat voted for.
use Rattle.std.proofs.Common.{◌≡◌, ℕ, zero, suc, ◌+◌, ◌<◌, ◌≤◌, min, Bool, true, false, cond, eqb, List, [], ◌∷◌, get_or, set, replicate, Some, None, Option, sym, refl, ap, ◌∙◌, subst, inl, inr, arith, get_or-set_other}
use Rattle.std.proofs.lemmas.Bool.{and_parts, cases_Bool, eqb-true, eqb-false}
use Rattle.content.specs.Kinds.{Kind}
use Rattle.blocks.specs.Ranks.{same_block}
use Rattle.blocks.specs.Masks.{Kept as KeptRow, count_kept, quorum}
use Rattle.blocks.specs.declared.block.Block.{Block}
use Rattle.wire.specs.Asked.{Question}
use Rattle.wire.specs.Lawful.{LawfulBlock}
use Rattle.wire.specs.Layout.{vote_statement}
use Rattle.wire.specs.declared.message.Certificate.{Certificate}
use Rattle.wire.specs.declared.message.Parts.TheVariants.{Vote}
use Rattle.shelf.specs.Blocks.{top_turn}
use Rattle.state.specs.HandIn.{countable, is_note, last_view}
use Rattle.state.specs.Parts.{is_on}
use Rattle.state.specs.Tick.{round_at, turn_after}
use Rattle.state.specs.declared.state.Note.{Note}
use Rattle.state.specs.declared.state.Phase.{Phase}
use Rattle.state.specs.declared.state.Phase.TheVariants.{On, Leaving}
use Rattle.state.specs.declared.state.State.{State}
use Rattle.agreement.specs.History.{Event, History, Said}
use Rattle.agreement.specs.Run.{Moment, Run}
use Rattle.agreement.specs.Setting.{Lawful, Setting, Sound}
use Rattle.agreement.proofs.Along.{Ends, Handed, Kept, along-before}
use Rattle.agreement.proofs.Basics.{none-some, some_same, true-false}
use Rattle.agreement.proofs.Carried.{same_blocks_lem}
use Rattle.agreement.specs.Laws.{OnShelf, Voted, VotesFor, shelf, state}
use Rattle.agreement.proofs.Keeps.{Source, shelve_cases}
use Rattle.agreement.proofs.Moments.{was-more}
use Rattle.agreement.proofs.Notes.{NoteInv, block_of, lift_note, note_base, note-kept}
use Rattle.agreement.proofs.Quorum.{judged-first, kept-sound, unsound_from}
use Rattle.agreement.proofs.Shelves.{on_pushed}
use Rattle.agreement.proofs.Votes.{certified_voted, parent-voted, quorum-above, said-voted}

abbrev pub NoSeal : KeptRow → Type 0
NoSeal row = (j : ℕ) → get_or row j None ≡ None

no_seals_lem : (n : ℕ) → NoSeal (replicate n None)
no_seals_lem zero j = refl
no_seals_lem (suc n) zero = refl
no_seals_lem (suc n) (suc j) = no_seals_lem n j

pub note-block : {L : ℕ} {R : Type 0} (k : Kind L R) (old : Option (Note R)) (b : Block R) → is_note k old b ≡ true → (note : Note R) × (old ≡ Some note) × (same_block k note.block b ≡ true)
note-block k None b e = absurd (true-false (sym e))
note-block k (Some note) b e = (note, refl, e)

off-leaving : (f : Phase) (since : ℕ) → is_on f ≡ true → f ≡ Leaving since → ⊥
off-leaving On since t e = let z : ◌≡◌ {A = ℕ} 0 1 = cc in omega arith
off-leaving (Leaving x) since t e = true-false (sym t)

module _ {L : ℕ} {R : Type 0} (S : ℕ) (k : Kind L R) (w : Setting) where
  pub record VotesAt (h : History) (phase : Phase) (nb : Option (Block R)) (row : KeptRow) : Type 0 where
    pub within : (j : ℕ) → w.n ≤ j → get_or row j None ≡ None
    pub said : (j : ℕ) (seal : List ℕ) → get_or row j None ≡ Some seal → Sound w j → (b : Block R) × (nb ≡ Some b) × Said S k w j (vote_statement k b) h
    pub leaving_none : (since : ℕ) → phase ≡ Leaving since → NoSeal row
    pub noteless_none : nb ≡ None → NoSeal row

  empty_votes : (h : History) (phase : Phase) (nb : Option (Block R)) (row : KeptRow) → NoSeal row → VotesAt h phase nb row
  empty_votes h phase nb row none = record {
    within = λ j l. none j;
    said = λ j seal e. absurd (none-some (sym (none j) ∙ e));
    leaving_none = λ since e. none;
    noteless_none = λ e. none;
  }

  lift_votes : (e : Event) (p : History) (phase : Phase) (nb : Option (Block R)) (row : KeptRow) → VotesAt p phase nb row → VotesAt (e ∷ p) phase nb row
  lift_votes e p phase nb row q = record {
    within = q.within;
    said = λ j seal t sound. let f = q.said j seal t sound in (f.0, f.1, inr f.2);
    leaving_none = q.leaving_none;
    noteless_none = q.noteless_none;
  }

  -- one more vote for the note
  more_votes : (h : History) (phase : Phase) (nb : Option (Block R)) (row : KeptRow) (i : ℕ) (b : Block R) (seal : List ℕ) → VotesAt h phase nb row → i < w.n → is_on phase ≡ true → nb ≡ Some b →
      (Sound w i → Said S k w i (vote_statement k b) h) → VotesAt h phase nb (set row i (Some seal))
  more_votes h phase nb row i b seal q low on noted says = record {
    within = λ j l. get_or-set_other row i j (Some seal) None (omega arith) ∙ q.within j l;
    said = λ j t e sound. elim (cases_Bool (eqb j i)) [
      | inl same ↦ let z : j ≡ i = eqb-true j i same in
          (b, noted, subst (λ (x : ℕ). Said S k w x (vote_statement k b) h) (sym z) (says (subst (λ (x : ℕ). Sound w x) z sound)))
      | inr other ↦ q.said j t (sym (get_or-set_other row i j (Some seal) None (eqb-false j i other)) ∙ e) sound
    ];
    leaving_none = λ since e. absurd (off-leaving phase since on e);
    noteless_none = λ e. absurd (none-some (sym e ∙ noted));
  }

  -- all that is said of a seat's note, its votes and its shelf
  abbrev pub VoteInv : ℕ → History → State S R → List (Block R) → Type 0
  VoteInv i h s bs =
      NoteInv S k w i h s bs × VotesAt h s.phase (block_of s.round.note) s.round.votes.by_seat × ((b : Block R) → OnShelf b bs → LawfulBlock k b × Voted S k w b h)

module _ {L : ℕ} {R : Type 0} (S : ℕ) (k : Kind L R) (w : Setting) (law : Lawful w) where
  -- whatever a seat takes in is lawful, and a sound seat voted for it before
  pub source-voted : (e : Event) (p : History) (s : State S R) (bs : List (Block R)) (c : Certificate R (List ℕ)) → Moment S k w e p → Run S k w p → VoteInv S k w e.who p s bs →
      Source k (w.terms e.who) (w.cells e.who) (Handed S k w e) (Ends S k w e p) (shelf S k w e.who p) s c → LawfulBlock k c.block × Voted S k w c.block p
  source-voted e p s bs c now run q (inl got) = certified_voted S k w law e p c now run got
  source-voted e p s bs c now run q (inr (inl x)) = parent-voted S k w law e p x.0 x.1 c now run x.2
  source-voted e p s bs c now run q (inr (inr x)) =
      let fine : LawfulBlock k c.block = x.2.1.1 in
      let note = note-block k s.round.note c.block x.4 in
      let same : note.0.block ≡ c.block = same_blocks_lem k note.0.block c.block (q.0.lawful note.0.block (ap block_of note.1)) fine note.2 in
      let n : (w.terms e.who).seats.n ≡ w.n = law.shares_n e.who now.driven.at_sound in
      let full : count_kept s.round.votes.by_seat ≡ quorum w.n =
      eqb-true (count_kept s.round.votes.by_seat) (quorum (w.terms e.who).seats.n) x.5 ∙ ap quorum n in
      let above : unsound_from w.sound 0 w.n < quorum w.n = quorum-above S k w law in
      let found = kept-sound w.sound s.round.votes.by_seat 0 w.n (subst (λ (m : ℕ). unsound_from w.sound 0 w.n < m) (sym full) above) q.1.within in
      let z : 0 + found.0 ≡ found.0 = omega arith in
      let sound : Sound w found.0 = subst (λ (j : ℕ). Sound w j) z found.3 in
      let said = q.1.said found.0 found.1 found.2 sound in
      let it : said.0 ≡ c.block = some_same (sym said.1 ∙ ap block_of note.1) ∙ same in
      (fine, said-voted S k w law p found.0 c.block run fine (subst (λ (b : Block R). Said S k w found.0 (vote_statement k b) p) it said.2))

  pub vote-kept : (e : Event) (p : History) → Moment S k w e p → Run S k w p → Kept S k w e p (VoteInv S k w e.who p)
  vote-kept e p now run = record {
    slips = λ s bs out q. q;
    noted = λ s bs b seal parent got there slot none q.
        (notes.noted s bs b seal parent got there slot none q.0, empty_votes S k w p s.phase (Some b) s.round.votes.by_seat (q.1.noteless_none (ap block_of none)), q.2);
    accepts = λ s bs note b seal parent got there slot n same able o ends st bl se q. (
      notes.accepts s bs note b seal parent got there slot n same able o ends st bl se q.0,
      subst (λ (x : Option (Block R)). VotesAt S k w p s.phase x s.round.votes.by_seat) (ap block_of n) q.1,
      q.2,
    );
    spoils = λ s bs note b slot n differs q. q;
    blames_own = λ s bs q. q;
    keeps_vote = λ s bs i b seal got c q. (q.0, counting s i b seal bs got c q, q.2);
    keeps_blame = λ s bs row q. q;
    shelves = λ s c source new o ends high more q. (
      notes.shelves s c source new o ends high more q.0,
      shelve_cases (λ (x : State S R). VotesAt S k w p x.phase (block_of x.round.note) x.round.votes.by_seat) c s (λ _. q.1)
          (λ _. empty_votes S k w p s.phase None _ (no_seals_lem 15)) (λ _ _. empty_votes S k w p s.phase None _ (no_seals_lem 15)),
      λ b on. elim (on_pushed b c.block (shelf S k w e.who p) on) [
        | inl old ↦ q.2 b old
        | inr same ↦ subst (λ (x : Block R). LawfulBlock k x × Voted S k w x p) same (source-voted e p s (shelf S k w e.who p) c now run q source)
      ],
    );
    leaves_view = λ s bs v why low t q. (notes.leaves_view s bs v why low t q.0, empty_votes S k w p (Leaving s.now) None _ (no_seals_lem 15), q.2);
    clock_ticks = λ s bs q. q;
    enters = λ s bs since leaving q. (notes.enters s bs since leaving q.0, entering s (turn_after (top_turn (min (s.view + 1) last_view) bs)) since leaving q.1, q.2);
    votes_own = λ s bs note on n q.
        (notes.votes_own s bs note on n q.0, subst (λ (x : Option (Block R)). VotesAt S k w p s.phase x s.round.votes.by_seat) (ap block_of n) q.1, q.2);
    offers_own = λ s bs on fresh room q. q;
  }
    where
      notes : Kept S k w e p (NoteInv S k w e.who p)
      notes = note-kept S k w law e p p (λ i st q. q) now

      counting : (s : State S R) (i : ℕ) (b : Block R) (seal : List ℕ) (bs : List (Block R)) → Handed S k w e (Vote i b seal) → countable k s i b ≡ true → VoteInv S k w e.who p s bs →
          VotesAt S k w p s.phase (block_of s.round.note) (set s.round.votes.by_seat i (Some seal))
      counting s i b seal bs got c q =
          let on = and_parts (is_on s.phase) _ c in
          let note = note-block k s.round.note b (and_parts (is_note k s.round.note b) _ on.1).0 in
          let same : note.0.block ≡ b = same_blocks_lem k note.0.block b (q.0.lawful note.0.block (ap block_of note.1)) got.1.1 note.2 in
          let first : Question = record { seat = i; statement = vote_statement k b; seal = seal } in
          more_votes S k w p s.phase (block_of s.round.note) s.round.votes.by_seat i b seal q.1 got.1.0 on.0 (ap block_of note.1 ∙ ap (λ (x : Block R). Some x) same)
          (λ sound. (now.honest (Vote i b seal) got.0.0).0 sound (judged-first w.accepts first [] got.0.1).0)

      entering : (s : State S R) (t since : ℕ) → s.phase ≡ Leaving since → VotesAt S k w p s.phase (block_of s.round.note) s.round.votes.by_seat →
          VotesAt S k w p On (block_of (round_at t s.round).note) (round_at t s.round).votes.by_seat
      entering s t since leaving q = by (eqb t 0)
        where
          by : (z : Bool) → VotesAt S k w p On (block_of (cond z s.round (record { note = None; votes = s.round.votes; offered = s.round.offered })).note)
              (cond z s.round (record { note = None; votes = s.round.votes; offered = s.round.offered })).votes.by_seat
          by true = empty_votes S k w p On (block_of s.round.note) s.round.votes.by_seat (q.leaving_none since leaving)
          by false = empty_votes S k w p On None s.round.votes.by_seat (q.leaving_none since leaving)

  -- along every run
  pub votes_fine : (i : ℕ) (h : History) → Sound w i → Run S k w h → VoteInv S k w i h (state S k w i h) (shelf S k w i h)
  votes_fine =
      along-before S k w law (VoteInv S k w)
      (λ i. (note_base S k w i, empty_votes S k w [] On None _ (no_seals_lem 15), λ b on. elim on [ ]))
      (λ i e p s bs q. (
        lift_note S k w e p s.phase s.view s.turn (block_of s.round.note) q.0,
        lift_votes S k w e p s.phase (block_of s.round.note) s.round.votes.by_seat q.1,
        λ b on. let f = q.2 b on in (f.0, was-more (λ e p. Sound w e.who × VotesFor S k w b e p) e p f.1),
      ))
      vote-kept

  -- a block on a sound seat's shelf was voted for by a sound seat
  pub shelved-voted : (i : ℕ) (h : History) (b : Block R) → Sound w i → Run S k w h → OnShelf b (shelf S k w i h) → Voted S k w b h
  shelved-voted i h b sound run on = ((votes_fine i h sound run).2 b on).1
