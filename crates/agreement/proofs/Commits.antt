-- Commits: where a seat is when it commits, what it committed last, and where that stands.
use Rattle.std.proofs.Common.{◌≡◌, ℕ, ◌+◌, ◌*◌, ◌<◌, ◌≤◌, min, Bool, true, cond, eqb, ltb, List, [], ◌∷◌, ◌++◌, Some, None, Ok, Option, sym, refl, ap, ◌∙◌, subst, inl, inr, arith}
use Rattle.std.proofs.lemmas.Bool.{and_from, and_parts, cases_lt, cond_both, eqb-true, eq-eqb, lt-ltb, or_left, or_right}
use Rattle.content.specs.Kinds.{Kind}
use Rattle.blocks.specs.Ranks.{below}
use Rattle.blocks.specs.declared.block.Block.{Block}
use Rattle.wire.specs.Lawful.{LawfulBlock}
use Rattle.wire.specs.declared.message.Certificate.{Certificate}
use Rattle.wire.specs.declared.message.Parts.{Parts}
use Rattle.wire.specs.declared.message.Parts.TheVariants.{Proposal, Vote, Blame, Certified, Notice}
use Rattle.shelf.specs.Blocks.{find}
use Rattle.state.specs.HandIn.{add_seal, certificate_of, hand_parts, idle, last_view, taken}
use Rattle.state.specs.Parts.{is_on, with_votes}
use Rattle.state.specs.Sends.{Outcome, Sending, relay, write}
use Rattle.state.specs.TakeIn.{commits, height_of, here, shelve}
use Rattle.state.specs.Tick.{blames, entered, tick_step}
use Rattle.state.specs.declared.answer.Word.{Word}
use Rattle.state.specs.declared.answer.Word.TheVariants.{Idle, Voted}
use Rattle.state.specs.declared.state.Phase.{Phase}
use Rattle.state.specs.declared.state.State.{State}
use Rattle.state.specs.declared.state.Terms.{Terms}
use Rattle.state.specs.declared.taking.Verdict.TheVariants.{New}
use Rattle.agreement.specs.Committed.{Commits, Takes}
use Rattle.agreement.specs.History.{Call, Desk, Did, Event, History, desk, hand, offer, outcome, result, sent, tick}
use Rattle.agreement.specs.Run.{Moment, Run}
use Rattle.agreement.specs.Setting.{Lawful, Setting, Sound}
use Rattle.agreement.proofs.Acceptances.{phase-on}
use Rattle.agreement.proofs.Along.{Ends, Handed, Kept, along, handed-good}
use Rattle.agreement.proofs.Basics.{none-some, ok_same, some_same}
use Rattle.agreement.proofs.Cases.{blame_cases, by_test, notice_cases, offered_so, proposal_cases, taken_cases, tick_cases, tick_so, vote_cases}
use Rattle.agreement.specs.Laws.{OnShelf, shelf, stage, state}
use Rattle.agreement.proofs.Facts.{OnIn}
use Rattle.agreement.proofs.Keeps.{Source, proposed-leaves, shelve_cases}
use Rattle.agreement.proofs.Notes.{NoteInv, block_of, lift_note, note_base, note-kept}
use Rattle.agreement.proofs.Primed.{leave-above}
use Rattle.agreement.proofs.Shelved.{turns-below, turns-there}
use Rattle.agreement.proofs.Shelves.{lawful-high, on_append, on-last}
use Rattle.agreement.proofs.Verdicts.{rank-found}

-- what is added to a list tells itself
last-same : {X : Type 0} (xs : List X) (x y : X) → xs ++ (x ∷ []) ≡ xs ++ (y ∷ []) → x ≡ y
last-same [] x y e = cc
last-same (z ∷ xs) x y e = last-same xs x y (cut e)
  where
    cut : z ∷ (xs ++ (x ∷ [])) ≡ z ∷ (xs ++ (y ∷ [])) → xs ++ (x ∷ []) ≡ xs ++ (y ∷ [])
    cut e = cc

-- a tick commits nothing
tick-flat : {S : ℕ} {R : Type 0} (t : Terms) (s : State S R) (bs : List (Block R)) → (tick_step t s bs).height ≡ 0
tick-flat {S} {R} t s bs =
    tick_cases t (λ (x : Outcome S R). x.height ≡ 0) s bs refl
    (λ since leaving ripe. entering _) (λ on. blaming Idle None _) (λ note on n due. blaming Voted _ _)
  where
    entering : (n : State S R) → (entered t n bs).height ≡ 0
    entering n = cond_both n.spoiled _ _ (λ (x : Outcome S R). x.height ≡ 0) (λ _. refl) (λ _. refl)

    blaming : (word : Word) (message : Option (Sending R)) (n : State S R) → (blames t word message n bs).height ≡ 0
    blaming word message n = cond_both _ _ _ (λ (x : Outcome S R). x.height ≡ 0) (λ _. refl) (λ _. refl)

module _ {L : ℕ} {R : Type 0} (S : ℕ) (k : Kind L R) (w : Setting) where
  -- whatever a seat takes in is lawful
  pub source-lawful : (e : Event) (p : History) (s : State S R) (c : Certificate R (List ℕ)) →
      Source k (w.terms e.who) (w.cells e.who) (Handed S k w e) (Ends S k w e p) (shelf S k w e.who p) s c → LawfulBlock k c.block
  source-lawful e p s c (inl got) = got.1.0
  source-lawful e p s c (inr (inl x)) = x.2.1.2.1.0
  source-lawful e p s c (inr (inr x)) = x.2.1.1

  -- the block committed last: the seat committed it, it is on the shelf, in no later view
  abbrev CommitAt : ℕ → History → Option (Block R) → ℕ → List (Block R) → Type 0
  CommitAt i h committed level bs = (b : Block R) → committed ≡ Some b → Commits S k w i b h × OnShelf b bs × (2 * b.rank.view ≤ level)

  abbrev pub CommitInv : ℕ → History → State S R → List (Block R) → Type 0
  CommitInv i h s bs = NoteInv S k w i h s bs × ((b : Block R) → s.committed ≡ Some b → Commits S k w i b h × OnShelf b bs × (2 * b.rank.view ≤ stage s))

  raise : (i : ℕ) (h : History) (committed : Option (Block R)) (level level' : ℕ) (bs cs : List (Block R)) → level ≤ level' → CommitAt i h committed level bs → CommitAt i h committed level' (bs ++ cs)
  raise i h committed level level' bs cs up q b e = let f = q b e in (f.0, on_append b bs cs f.1, let l = f.2 in omega arith)

  raise-only : (i : ℕ) (h : History) (committed : Option (Block R)) (level level' : ℕ) (bs : List (Block R)) → level ≤ level' → CommitAt i h committed level bs → CommitAt i h committed level' bs
  raise-only i h committed level level' bs up q b e = let f = q b e in (f.0, f.1, let l = f.2 in omega arith)

module _ {L : ℕ} {R : Type 0} (S : ℕ) (k : Kind L R) (w : Setting) (law : Lawful w) where
  commit-kept : (e : Event) (p : History) → Moment S k w e p → Run S k w p → Kept S k w e p (CommitInv S k w e.who (e ∷ p))
  commit-kept e p now run = record {
    slips = λ s bs out q. q;
    noted = λ s bs b seal parent got there slot none q. (notes.noted s bs b seal parent got there slot none q.0, q.1);
    accepts = λ s bs note b seal parent got there slot n same able o ends st bl se q. (notes.accepts s bs note b seal parent got there slot n same able o ends st bl se q.0, q.1);
    spoils = λ s bs note b slot n differs q. q;
    blames_own = λ s bs q. q;
    keeps_vote = λ s bs i b seal got c q. q;
    keeps_blame = λ s bs row q. q;
    shelves = λ s c source new o ends high more q.
        (notes.shelves s c source new o ends high more q.0, shelving s c source o ends high more q.1);
    leaves_view = λ s bs v why low t q. (
      notes.leaves_view s bs v why low t q.0,
      raise-only S k w e.who (e ∷ p) s.committed (stage s) (2 * v + 1) bs (let l : stage s < 2 * v + 1 = leave-above s.phase s.view v t in omega arith) q.1,
    );
    clock_ticks = λ s bs q. q;
    enters = λ s bs since leaving q. (
      notes.enters s bs since leaving q.0,
      raise-only S k w e.who (e ∷ p) s.committed (stage s) (2 * min (s.view + 1) last_view) bs
          (let l : s.view < 65535 = q.0.leaving_low since leaving in
          let z : stage s ≡ 2 * s.view + 1 = ap (λ (f : Phase). cond (is_on f) (2 * s.view) (2 * s.view + 1)) leaving in
          omega arith) q.1,
    );
    votes_own = λ s bs note on n q. (notes.votes_own s bs note on n q.0, q.1);
    offers_own = λ s bs on fresh room q. q;
  }
    where
      notes : Kept S k w e p (NoteInv S k w e.who (e ∷ p))
      notes = note-kept S k w law e p (e ∷ p) (λ i st q. inr q) now

      bs : List (Block R)
      bs = shelf S k w e.who p

      shelving : (s : State S R) (c : Certificate R (List ℕ)) → Source k (w.terms e.who) (w.cells e.who) (Handed S k w e) (Ends S k w e p) bs s c →
          (o : Outcome S R) → Ends S k w e p o → o.height ≡ height_of s c.block → o.blocks ≡ bs ++ (c.block ∷ []) → CommitAt S k w e.who (e ∷ p) s.committed (stage s) bs →
          CommitAt S k w e.who (e ∷ p) (shelve c s).committed (stage (shelve c s)) (bs ++ (c.block ∷ []))
      shelving s c source o ends high more q =
          shelve_cases (λ (x : State S R). CommitAt S k w e.who (e ∷ p) x.committed (stage x) (bs ++ (c.block ∷ []))) c s
          (λ _. raise S k w e.who (e ∷ p) s.committed (stage s) (stage s) bs (c.block ∷ []) (omega arith) q)
          (λ _. raise S k w e.who (e ∷ p) s.committed (stage s) (stage s) bs (c.block ∷ []) (omega arith) q)
          (λ at does b it.
          let same : c.block ≡ b = some_same it in
          let fine : LawfulBlock k c.block = source-lawful S k w e p s c source in
          let top : 1 ≤ c.block.height = lawful-high c.block.rank.view c.block.rank.turn c.block.height c.block.parent.view c.block.parent.turn fine.numbers in
          let tall : height_of s c.block ≡ c.block.height = ap (λ (x : Bool). cond x c.block.height 0) does in
          let pos : 0 < o.height = omega arith in
          let on = and_parts (is_on s.phase) _ at in
          let view : s.view ≡ c.block.rank.view = eqb-true s.view c.block.rank.view on.1 in
          let level : stage s ≡ 2 * s.view = ap (λ (x : Bool). cond x (2 * s.view) (2 * s.view + 1)) on.0 in
          subst (λ (x : Block R). Commits S k w e.who x (e ∷ p) × OnShelf x (bs ++ (c.block ∷ [])) × (2 * x.rank.view ≤ stage s)) same
          (inl (refl, ((o, ends, pos), (o, ends, more))), on-last c.block bs, omega arith))

  pub commits-fine : (i : ℕ) (h : History) → Sound w i → Run S k w h → CommitInv S k w i h (state S k w i h) (shelf S k w i h)
  commits-fine =
      along S k w law (CommitInv S k w)
      (λ i. (note_base S k w i, λ b e. absurd (none-some e)))
      (λ i e p s bs q. (lift_note S k w e p s.phase s.view s.turn (block_of s.round.note) q.0, λ b t. let f = q.1 b t in (inr f.0, f.1, f.2)))
      commit-kept

  pub committed-was : (i : ℕ) (h : History) (b : Block R) → Sound w i → Run S k w h → (state S k w i h).committed ≡ Some b → Commits S k w i b h
  committed-was i h b sound run e = ((commits-fine i h sound run).1 b e).0

  -- the last commit of a seat that is on lies below every rank of its view that is free
  pub committed-below : (i : ℕ) (h : History) (b c : Block R) → Sound w i → Run S k w h → OnIn S k w i b.rank.view h → find b.rank (shelf S k w i h) ≡ None → (state S k w i h).committed ≡ Some c →
      OnShelf c (shelf S k w i h) × (below c.rank b.rank ≡ true)
  committed-below i h b c sound run on free e =
      let f = (commits-fine i h sound run).1 c e in
      let s : State S R = state S k w i h in
      let level : stage s ≡ 2 * s.view = ap (λ (x : Phase). cond (is_on x) (2 * s.view) (2 * s.view + 1)) on.0 in
      let low : 2 * c.rank.view ≤ stage s = f.2 in
      let view : s.view ≡ b.rank.view = on.1 in (
        f.1,
        elim (cases_lt c.rank.view b.rank.view) [
          | inl less ↦ or_left (ltb c.rank.view b.rank.view) _ (lt-ltb c.rank.view b.rank.view less)
          | inr more ↦
              let same : c.rank.view ≡ b.rank.view = omega arith in
              let under : c.rank.turn < s.turn = turns-below S k w law i b.rank.view h c sound run on f.1 same in
              or_right (ltb c.rank.view b.rank.view) _
              (and_from (eqb c.rank.view b.rank.view) _ (eq-eqb c.rank.view b.rank.view same) (lt-ltb c.rank.turn b.rank.turn
              (elim (cases_lt b.rank.turn s.turn) [
                | inl early ↦
                    let x = turns-there S k w law i b.rank.view b.rank.turn h sound run on early in
                    let rank : x.0.rank ≡ b.rank = λ j. record { view = x.2 j; turn = x.3 j } in
                    let y = rank-found b.rank (shelf S k w i h) x.0 x.1 rank in
                    absurd (none-some (sym free ∙ y.1))
                | inr late ↦ omega arith
              ])))
        ],
      )

  -- a call whose answer has a height took in a certificate that commits
  pub record CommittedBy (e : Event) (p : History) (o : Outcome S R) : Type 0 where
    pub block : Block R
    pub on : is_on (state S k w e.who p).phase ≡ true
    pub view : eqb (state S k w e.who p).view block.rank.view ≡ true
    pub blocks : o.blocks ≡ shelf S k w e.who p ++ (block ∷ [])

  committed-by : (e : Event) (p : History) (o : Outcome S R) → Moment S k w e p → result S k w e p ≡ Ok o → 0 < o.height → CommittedBy e p o
  committed-by e p o now r = call e.what refl
    where
      d : Desk S R
      d = desk S k w e.who p

      t : Terms
      t = w.terms e.who

      Tall : Outcome S R → Type 0
      Tall x = 0 < x.height → CommittedBy e p x

      takes : (s : State S R) (c : Certificate R (List ℕ)) (x : Outcome S R) → s.phase ≡ d.state.phase → s.view ≡ d.state.view → x.height ≡ height_of s c.block → x.blocks ≡ d.blocks ++ (c.block ∷ []) → Tall x
      takes s c x phase view high more pos =
          by_test (commits s c.block)
          (λ does.
          let on = and_parts (is_on s.phase) _ (and_parts (here s c.block) _ does).0 in
          record { block = c.block; on = ap is_on (sym phase) ∙ on.0; view = ap (λ (v : ℕ). eqb v c.block.rank.view) (sym view) ∙ on.1; blocks = more })
          (λ none. let z : height_of s c.block ≡ 0 = ap (λ (b : Bool). cond b c.block.height 0) none in absurd (omega arith))

      flat : (x : Outcome S R) → x.height ≡ 0 → Tall x
      flat x z pos = absurd (omega arith)

      parts : (m : Parts R (List ℕ)) → hand_parts k t d.state d.blocks (w.cells e.who) m ≡ Ok o → Tall o
      parts (Proposal b seal parent) q =
          proposal_cases k t Tall d.state d.blocks (w.cells e.who) o b parent q
          (λ _. flat _ (proposed-leaves k t b (idle d.state d.blocks)).0) (λ _ _ _. flat _ (proposed-leaves k t b (idle d.state d.blocks)).0)
          (λ c _ _. let l = proposed-leaves k t b (taken d.state d.blocks c (write (Certified c)) New) in takes d.state c _ refl refl l.0 l.1)
      parts (Vote i b seal) q =
          vote_cases k t Tall d.state d.blocks (w.cells e.who) o i b seal q (flat _ refl) (λ _. flat _ refl)
          (λ _ _ _. takes (with_votes (add_seal d.state.round.votes i seal) d.state) (certificate_of b (add_seal d.state.round.votes i seal)) _ refl refl refl refl)
      parts (Blame i view seal) q = blame_cases k t Tall d.state d.blocks (w.cells e.who) o i view seal q (flat _ refl) (λ _ _ _. flat _ refl) (λ _ _ _. flat _ refl)
      parts (Certified c) q = taken_cases k t Tall d.state d.blocks (w.cells e.who) o c relay q (λ _. flat _ refl) (λ _. takes d.state c _ refl refl refl refl)
      parts (Notice view mask seals) q = notice_cases k t Tall d.state d.blocks (w.cells e.who) o view q (flat _ refl) (λ _ _. flat _ refl)

      call : (c : Call) → e.what ≡ c → Tall o
      call (hand inbox room) c = let h = handed-good S k w law e p inbox room o now c r in parts h.0 h.2
      call (tick room) c =
          let r' : outcome k w e.who (tick room) d ≡ Ok o = ap (λ c. outcome k w e.who c d) (sym c) ∙ r in
          flat o (ap (λ (x : Outcome S R). x.height) (tick_so t d.state d.blocks room o r') ∙ tick-flat t d.state d.blocks)
      call (offer content room) c =
          let r' : outcome k w e.who (offer content room) d ≡ Ok o = ap (λ c. outcome k w e.who c d) (sym c) ∙ r in
          flat o (ap (λ (x : Outcome S R). x.height) (offered_so k t w.leader d.state d.blocks content room o r').1)
      call sent c =
          let r' : outcome k w e.who sent d ≡ Ok o = ap (λ c. outcome k w e.who c d) (sym c) ∙ r in
          flat o (ap (λ (x : Outcome S R). x.height) (sym (ok_same r')))

  pub commit-on : (e : Event) (p : History) (b : Block R) → Run S k w (e ∷ p) → Did S k w (λ o. 0 < o.height) e p → Takes S k w b e p → OnIn S k w e.who b.rank.view p
  commit-on e p b run (o, r, pos) (o', r', more) =
      let c = committed-by e p o run.0 r pos in
      let one : o ≡ o' = ok_same (sym r ∙ r') in
      let same : c.block ≡ b = last-same (shelf S k w e.who p) c.block b (sym c.blocks ∙ ap (λ (x : Outcome S R). x.blocks) one ∙ more) in
      (phase-on (state S k w e.who p).phase c.on, eqb-true (state S k w e.who p).view c.block.rank.view c.view ∙ ap (λ (x : Block R). x.rank.view) same)
