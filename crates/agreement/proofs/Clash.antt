-- A sound leader proposes one block a rank, so no seat answers clash to it.
use Rattle.std.proofs.Common.{◌≡◌, ℕ, ◌+◌, ◌*◌, ◌<◌, ◌≤◌, min, Bool, true, false, cond, not, ltb, ◌⊎◌, List, [], ◌∷◌, Some, None, Ok, Option, sym, refl, ap, ◌∙◌, subst, inl, inr, arith}
use Rattle.std.proofs.lemmas.Bool.{and_parts, ltb-false, or_parts}
use Rattle.content.specs.Kinds.{Kind}
use Rattle.blocks.specs.Ranks.{same_block}
use Rattle.blocks.specs.declared.block.Block.{Block}
use Rattle.blocks.specs.declared.block.Rank.{Rank}
use Rattle.wire.specs.Lawful.{LawfulBlock}
use Rattle.wire.specs.Layout.{block_bytes, proposal_statement}
use Rattle.wire.specs.Reading.{read_parts}
use Rattle.wire.specs.declared.message.Certificate.{Certificate}
use Rattle.wire.specs.declared.message.Parts.{Parts}
use Rattle.wire.specs.declared.message.Parts.TheVariants.{Proposal, Vote, Blame, Certified, Notice}
use Rattle.shelf.specs.Blocks.{top_turn}
use Rattle.state.specs.HandIn.{hand_parts, idle, last_view, proposed, slot_open, taken}
use Rattle.state.specs.Offer.{last_turn, offered_block}
use Rattle.state.specs.Parts.{is_on, leave, turn_rises, with_best, with_offered}
use Rattle.state.specs.Sends.{Outcome, Sending, relay, write}
use Rattle.state.specs.TakeIn.{better, shelve}
use Rattle.state.specs.Tick.{enter, turn_after}
use Rattle.state.specs.declared.answer.Word.{Word}
use Rattle.state.specs.declared.answer.Word.TheVariants.{Accepted, Certified as SaysCertified, Clash, Idle, Noted}
use Rattle.state.specs.declared.state.Note.{Note}
use Rattle.state.specs.declared.state.Phase.{Phase}
use Rattle.state.specs.declared.state.Phase.TheVariants.{On, Leaving}
use Rattle.state.specs.declared.state.State.{State}
use Rattle.state.specs.declared.state.Terms.{Terms}
use Rattle.state.specs.declared.taking.Verdict.TheVariants.{New}
use Rattle.agreement.specs.History.{Call, Desk, Event, History, Once, Own, Said, desk, hand, inbox_of, offer, result, sent, tick}
use Rattle.agreement.specs.Run.{Moment, Run}
use Rattle.agreement.specs.Setting.{Lawful, Setting, Sound}
use Rattle.agreement.specs.Theorem.{ClashUnderSoundLeader}
use Rattle.agreement.proofs.Acceptances.{after_call}
use Rattle.agreement.proofs.Along.{Handed, Kept, handed-good, keep_call}
use Rattle.agreement.proofs.Basics.{ok_same, true-false}
use Rattle.agreement.proofs.Carried.{empty-reads}
use Rattle.agreement.proofs.Cases.{proposal_cases, proposed_cases}
use Rattle.agreement.specs.Laws.{stage, state}
use Rattle.agreement.proofs.Invariant.{whose}
use Rattle.agreement.proofs.Keeps.{proposed-leaves, shelve_cases}
use Rattle.agreement.proofs.Notes.{NoteInv, Placed, block_of, note-fine, note-kept, proposal-said, slot_placed}
use Rattle.agreement.proofs.Primed.{leave-above}
use Rattle.agreement.proofs.Sent.{OfferMade, Passing, VoteCast, sent_so}
use Rattle.agreement.proofs.Statements.{blame-no-proposal, bytes_tell, bytes_tell_rank, proposal-tells, same_self, vote-no-proposal}
use Rattle.agreement.proofs.Steps.{desk-other}
use Rattle.agreement.proofs.Votes.{blame-owns, passing-owns}

module _ {S : ℕ} {R : Type 0} where
  -- a seat has offered at this rank, or is past it
  abbrev pub OfferPast : Rank → State S R → Type 0
  OfferPast r s =
      (2 * r.view < stage s) ⊎ (((stage s ≡ 2 * r.view) × (r.turn < s.turn)) ⊎ ((stage s ≡ 2 * r.view) × ((s.turn ≡ r.turn) × (s.round.offered ≡ true))))

  past-turn : (r : Rank) (s : State S R) (t : ℕ) → r.turn < 65536 → t ≡ min (s.turn + 1) 4294967295 → OfferPast r s → OfferPast r (turn_rises t s)
  past-turn r s t low e (inl q) = inl q
  past-turn r s t low e (inr (inl q)) = let l = q.1 in inr (inl (q.0, omega arith))
  past-turn r s t low e (inr (inr q)) = let l : s.turn ≡ r.turn = q.1.0 in inr (inl (q.0, omega arith))

  past-leave : (r : Rank) (s : State S R) (v : ℕ) → stage s < 2 * v + 1 → OfferPast r s → OfferPast r (leave v s)
  past-leave r s v up (inl q) = inl (omega arith)
  past-leave r s v up (inr (inl q)) = let z : stage s ≡ 2 * r.view = q.0 in inl (omega arith)
  past-leave r s v up (inr (inr q)) = let z : stage s ≡ 2 * r.view = q.0 in inl (omega arith)

  past-enter : (r : Rank) (s : State S R) (v t : ℕ) → v ≡ s.view + 1 → stage s ≡ 2 * s.view + 1 → OfferPast r s → OfferPast r (enter v t s)
  past-enter r s v t up odd (inl q) = inl (omega arith)
  past-enter r s v t up odd (inr (inl q)) = let z : stage s ≡ 2 * r.view = q.0 in absurd (omega arith)
  past-enter r s v t up odd (inr (inr q)) = let z : stage s ≡ 2 * r.view = q.0 in absurd (omega arith)

  past-shelve : (r : Rank) (c : Certificate R (List ℕ)) (s : State S R) → r.turn < 65536 → OfferPast r s → OfferPast r (shelve c s)
  past-shelve r c s low q =
      shelve_cases (OfferPast r) c s (λ _. q) (λ _. past-turn r (with_best (better s.best c) s) _ low refl q) (λ _ _. past-turn r (with_best (better s.best c) s) _ low refl q)

  past-offer : (r : Rank) (s : State S R) → OfferPast r s → OfferPast r (with_offered true s)
  past-offer r s (inl q) = inl q
  past-offer r s (inr (inl q)) = inr (inl q)
  past-offer r s (inr (inr q)) = inr (inr (q.0, (q.1.0, refl)))

module _ {L : ℕ} {R : Type 0} (S : ℕ) (k : Kind L R) (w : Setting) (law : Lawful w) where
  past-kept : (r : Rank) (e : Event) (p : History) → r.turn < 65536 → Moment S k w e p → Kept S k w e p (λ s bs. NoteInv S k w e.who p s bs × OfferPast r s)
  past-kept r e p low now = record {
    slips = λ s bs out q. q;
    noted = λ s bs b seal parent got there slot none q. (notes.noted s bs b seal parent got there slot none q.0, q.1);
    accepts = λ s bs note b seal parent got there slot n same able o ends st bl se q. (notes.accepts s bs note b seal parent got there slot n same able o ends st bl se q.0, q.1);
    spoils = λ s bs note b slot n differs q. q;
    blames_own = λ s bs q. q;
    keeps_vote = λ s bs i b seal got t q. q;
    keeps_blame = λ s bs row q. q;
    shelves = λ s c source new o ends high more q. (notes.shelves s c source new o ends high more q.0, past-shelve r c s low q.1);
    leaves_view = λ s bs v why small t q. (notes.leaves_view s bs v why small t q.0, past-leave r s v (leave-above s.phase s.view v t) q.1);
    clock_ticks = λ s bs q. q;
    enters = λ s bs since leaving q. (
      notes.enters s bs since leaving q.0,
      past-enter r s (min (s.view + 1) last_view) (turn_after (top_turn (min (s.view + 1) last_view) bs)) (let l : s.view < 65535 = q.0.leaving_low since leaving in omega arith)
          (ap (λ (f : Phase). cond (is_on f) (2 * s.view) (2 * s.view + 1)) leaving) q.1,
    );
    votes_own = λ s bs note on n q. (notes.votes_own s bs note on n q.0, q.1);
    offers_own = λ s bs on fresh room q. (q.0, past-offer r s q.1);
  }
    where
      notes : Kept S k w e p (NoteInv S k w e.who p)
      notes = note-kept S k w law e p p (λ i st q. q) now

  past-step : (i : ℕ) (e : Event) (p : History) (r : Rank) → Run S k w (e ∷ p) → r.turn < 65536 → OfferPast r (state S k w i p) → OfferPast r (state S k w i (e ∷ p))
  past-step i e p r run low q =
      elim (whose e.who i) [
        | inl mine ↦
            let same : i ≡ e.who = sym mine in
            subst (λ (j : ℕ). OfferPast r (state S k w j (e ∷ p))) (sym same)
            (keep_call S k w law (λ s bs. NoteInv S k w e.who p s bs × OfferPast r s) e p run.0 (past-kept r e p low run.0)
            (note-fine S k w law e.who p run.0.driven.at_sound run.1, subst (λ (j : ℕ). OfferPast r (state S k w j p)) same q)).1
        | inr other ↦ subst (λ (d : Desk S R). OfferPast r d.state) (sym (desk-other S k w i e p other)) q
      ]

  -- a proposal that a seat said as its own was offered by it, at its own view and turn
  pub record OfferOf (e : Event) (p : History) (b : Block R) : Type 0 where
    pub offered : Block R
    pub bytes : block_bytes k offered ≡ block_bytes k b
    pub rank : offered.rank ≡ b.rank
    pub view : offered.rank.view ≡ (state S k w e.who p).view
    pub turn : offered.rank.turn ≡ (state S k w e.who p).turn
    pub on : is_on (state S k w e.who p).phase ≡ true
    pub fresh : (state S k w e.who p).round.offered ≡ false
    pub after : (state S k w e.who (e ∷ p)).round.offered ≡ true
    pub same_phase : (state S k w e.who (e ∷ p)).phase ≡ (state S k w e.who p).phase
    pub same_view : (state S k w e.who (e ∷ p)).view ≡ (state S k w e.who p).view
    pub same_turn : (state S k w e.who (e ∷ p)).turn ≡ (state S k w e.who p).turn

  -- two statements of one call are one
  own-proposal : (e : Event) (p : History) (b : Block R) (o : Outcome S R) → Moment S k w e p → Run S k w p → LawfulBlock k b → result S k w e p ≡ Ok o →
      Own S k w (proposal_statement k b) o.sends.message ⊎ Own S k w (proposal_statement k b) o.sends.blame →
      Own S k w (proposal_statement k b) o.sends.message × OfferOf e p b
  own-proposal e p b o now run lawful r (inr own) = absurd (blame-owns S k w (proposal_statement k b) (λ v. blame-no-proposal k v b) o.sends.blame (sent_so S k w law e p o now r).1 own)
  own-proposal e p b o now run lawful r (inl own) = (own, by (sent_so S k w law e p o now r).0)
    where
      s : State S R
      s = state S k w e.who p

      by : Passing o.sends.message ⊎ (VoteCast S k w e p o ⊎ OfferMade S k w e p o) → OfferOf e p b
      by (inl q) = absurd (passing-owns S k w (proposal_statement k b) o.sends.message q own)
      by (inr (inl v)) = absurd (vote-no-proposal k v.note.block b (subst (λ (x : Option (Sending R)). Own S k w (proposal_statement k b) x) v.message own))
      by (inr (inr f)) =
          let c : Block R = offered_block s f.content in
          let says : proposal_statement k c ≡ proposal_statement k b = subst (λ (x : Outcome S R). Own S k w (proposal_statement k b) x.sends.message) f.made own in
          let bytes : block_bytes k c ≡ block_bytes k b = proposal-tells k c b says in
          let low : s.view ≤ 65535 = (note-fine S k w law e.who p now.driven.at_sound run).low in
          let room : s.turn ≤ 65535 = ltb-false last_turn s.turn (or_parts (ltb last_turn s.turn) _ f.room).0 in
          let done = after_call S k w e p o (with_offered true s) r (ap (λ (x : Outcome S R). x.state) f.made) in
          record {
            offered = c;
            bytes = bytes;
            rank = bytes_tell_rank k c b (omega arith) (omega arith) lawful.view lawful.turn bytes;
            view = refl;
            turn = refl;
            on = f.on;
            fresh = f.fresh;
            after = ap (λ (x : State S R). x.round.offered) done.1;
            same_phase = ap (λ (x : State S R). x.phase) done.1;
            same_view = ap (λ (x : State S R). x.view) done.1;
            same_turn = ap (λ (x : State S R). x.turn) done.1;
          }

  -- after an offer the seat has offered at that rank
  just_past : (e : Event) (p : History) (b : Block R) → OfferOf e p b → OfferPast b.rank (state S k w e.who (e ∷ p))
  just_past e p b f =
      let s : State S R = state S k w e.who (e ∷ p) in
      let on : is_on s.phase ≡ true = ap is_on f.same_phase ∙ f.on in
      let level : stage s ≡ 2 * s.view = ap (λ (x : Bool). cond x (2 * s.view) (2 * s.view + 1)) on in
      let view : s.view ≡ b.rank.view = f.same_view ∙ sym f.view ∙ ap (λ (r : Rank). r.view) f.rank in
      let turn : s.turn ≡ b.rank.turn = f.same_turn ∙ sym f.turn ∙ ap (λ (r : Rank). r.turn) f.rank in
      inr (inr (omega arith, (turn, f.after)))

  -- a fresh offer is not at a rank that is past
  not-past : (e : Event) (p : History) (b : Block R) → OfferOf e p b → OfferPast b.rank (state S k w e.who p) → ⊥
  not-past e p b f q =
      let s : State S R = state S k w e.who p in
      let level : stage s ≡ 2 * s.view = ap (λ (x : Bool). cond x (2 * s.view) (2 * s.view + 1)) f.on in
      let view : s.view ≡ b.rank.view = sym f.view ∙ ap (λ (r : Rank). r.view) f.rank in
      let turn : s.turn ≡ b.rank.turn = sym f.turn ∙ ap (λ (r : Rank). r.turn) f.rank in
      by s level view turn f.fresh q
    where
      by : (s : State S R) → stage s ≡ 2 * s.view → s.view ≡ b.rank.view → s.turn ≡ b.rank.turn → s.round.offered ≡ false → OfferPast b.rank s → ⊥
      by s level view turn fresh (inl q) = omega arith
      by s level view turn fresh (inr (inl q)) = let l : b.rank.turn < s.turn = q.1 in omega arith
      by s level view turn fresh (inr (inr q)) = true-false (sym q.1.1 ∙ fresh)

  said-past : (h : History) (j : ℕ) (b : Block R) → Run S k w h → LawfulBlock k b → Said S k w j (proposal_statement k b) h → OfferPast b.rank (state S k w j h)
  said-past [] j b run lawful said = elim said [ ]
  said-past (e ∷ p) j b run lawful (inl x) =
      subst (λ (i : ℕ). OfferPast b.rank (state S k w i (e ∷ p))) x.0
      (just_past e p b (own-proposal e p b x.1.0 run.0 run.1 lawful x.1.1 x.1.2).1)
  said-past (e ∷ p) j b run lawful (inr x) = past-step j e p b.rank run lawful.turn (said-past p j b run.1 lawful x)

  -- a sound seat proposes one block a rank
  pub one-proposal : (h : History) (j : ℕ) (a b : Block R) → Run S k w h → LawfulBlock k a → LawfulBlock k b → a.rank ≡ b.rank →
      Said S k w j (proposal_statement k a) h → Said S k w j (proposal_statement k b) h → a ≡ b
  one-proposal [] j a b run la lb rank x y = elim x [ ]
  one-proposal (e ∷ p) j a b run la lb rank (inr x) (inr y) = one-proposal p j a b run.1 la lb rank x y
  one-proposal (e ∷ p) j a b run la lb rank (inl x) (inr y) =
      let f = (own-proposal e p a x.1.0 run.0 run.1 la x.1.1 x.1.2).1 in
      absurd (not-past e p a f (subst (λ (r : Rank). OfferPast r (state S k w e.who p)) (sym rank) (subst (λ (i : ℕ). OfferPast b.rank (state S k w i p)) (sym x.0) (said-past p j b run.1 lb y))))
  one-proposal (e ∷ p) j a b run la lb rank (inr x) (inl y) =
      let f = (own-proposal e p b y.1.0 run.0 run.1 lb y.1.1 y.1.2).1 in
      absurd (not-past e p b f (subst (λ (r : Rank). OfferPast r (state S k w e.who p)) rank (subst (λ (i : ℕ). OfferPast a.rank (state S k w i p)) (sym y.0) (said-past p j a run.1 la x))))
  one-proposal (e ∷ p) j a b run la lb rank (inl x) (inl y) =
      let m = (own-proposal e p a x.1.0 run.0 run.1 la x.1.1 x.1.2).0 in
      let n = (own-proposal e p b y.1.0 run.0 run.1 lb y.1.1 y.1.2).0 in
      let one : x.1.0 ≡ y.1.0 = ok_same (sym x.1.1 ∙ y.1.1) in
      bytes_tell k a b la lb (same-own y.1.0.sends.message (subst (λ (o : Outcome S R). Own S k w (proposal_statement k a) o.sends.message) one m) n)
    where
      same-own : (x : Option (Sending R)) → Own S k w (proposal_statement k a) x → Own S k w (proposal_statement k b) x → block_bytes k a ≡ block_bytes k b
      same-own None m n = absurd m
      same-own (Some relay) m n = absurd m
      same-own (Some (write (Proposal c seal parent))) m n = proposal-tells k a b (sym m ∙ n)
      same-own (Some (write (Vote i c seal))) m n = proposal-tells k a b (sym m ∙ n)
      same-own (Some (write (Blame i view seal))) m n = proposal-tells k a b (sym m ∙ n)
      same-own (Some (write (Certified c))) m n = absurd m
      same-own (Some (write (Notice view mask seals))) m n = absurd m

  -- what a seat that answers clash has as its note: another block of the same rank
  pub record Clashing (e : Event) (p : History) (b : Block R) : Type 0 where
    pub note : Block R
    pub lawful : LawfulBlock k note
    pub rank : note.rank ≡ b.rank
    pub said : Sound w (w.leader note.rank.view) → Said S k w (w.leader note.rank.view) (proposal_statement k note) p
    pub other : same_block k note b ≡ false

  one_slot : (f : Phase) (view turn : ℕ) (a b : Block R) → Placed f view turn a → Placed f view turn b → a.rank ≡ b.rank
  one_slot On view turn a b (u, v) (x, y) = λ i. record { view = (u ∙ sym x) i; turn = (v ∙ sym y) i }
  one_slot (Leaving since) view turn a b (u, v) (x, y) = λ i. record { view = (u ∙ sym x) i; turn = (v ∙ sym y) i }

  clashing : (e : Event) (p : History) (s : State S R) (bs : List (Block R)) (b : Block R) (note : Note R) → NoteInv S k w e.who p s bs → slot_open s b ≡ true → s.round.note ≡ Some note → same_block k note.block b ≡ false → Clashing e p b
  clashing e p s bs b note q slot n differs = record {
    note = note.block;
    lawful = q.lawful note.block (ap block_of n);
    rank = one_slot s.phase s.view s.turn note.block b (q.placed note.block (ap block_of n)) (slot_placed s.phase s b (and_parts (not s.spoiled) _ slot).1);
    said = q.proposed note.block (ap block_of n);
    other = differs;
  }

  proposed-clash : (e : Event) (p : History) (b : Block R) (o : Outcome S R) → NoteInv S k w e.who p o.state o.blocks → (o.word ≡ Clash → ⊥) → (proposed k (w.terms e.who) b o).word ≡ Clash → Clashing e p b
  proposed-clash e p b o q calm =
      proposed_cases k (w.terms e.who) (λ (x : Outcome S R). x.word ≡ Clash → Clashing e p b) b o
      (λ _ z. absurd (calm z))
      (λ note rest slot fit word z. elim word [
        | inl t ↦ absurd (noted-clash (sym t ∙ z))
        | inr t ↦ absurd (calm (sym t ∙ z))
      ])
      (λ note slot fit able fresh z. absurd (accepted-clash z))
      (λ note slot n differs z. clashing e p o.state o.blocks b note q slot n differs)
    where
      noted-clash : ◌≡◌ {A = Word} Noted Clash → ⊥
      noted-clash z = let y : ◌≡◌ {A = ℕ} 0 1 = cc in omega arith

      accepted-clash : ◌≡◌ {A = Word} Accepted Clash → ⊥
      accepted-clash z = let y : ◌≡◌ {A = ℕ} 0 1 = cc in omega arith

  clash_so : (e : Event) (p : History) (b : Block R) (seal : List ℕ) (parent : Option (Certificate R (List ℕ))) (o : Outcome S R) → Run S k w (e ∷ p) →
      read_parts k S w.n (inbox_of e.what) ≡ Ok (Proposal b seal parent) → result S k w e p ≡ Ok o → o.word ≡ Clash → Handed S k w e (Proposal b seal parent) × Clashing e p b
  clash_so e p b seal parent o run reads r word = call e.what refl
    where
      d : Desk S R
      d = desk S k w e.who p

      t : Terms
      t = w.terms e.who

      fine : NoteInv S k w e.who p d.state d.blocks
      fine = note-fine S k w law e.who p run.0.driven.at_sound run.1

      notes : Kept S k w e p (NoteInv S k w e.who p)
      notes = note-kept S k w law e p p (λ i st q. q) run.0

      idle-clash : ◌≡◌ {A = Word} Idle Clash → ⊥
      idle-clash z = let y : ◌≡◌ {A = ℕ} 0 1 = cc in omega arith

      certified_clash : ◌≡◌ {A = Word} SaysCertified Clash → ⊥
      certified_clash z = let y : ◌≡◌ {A = ℕ} 0 1 = cc in omega arith

      handed : Handed S k w e (Proposal b seal parent) → hand_parts k t d.state d.blocks (w.cells e.who) (Proposal b seal parent) ≡ Ok o → Clashing e p b
      handed got q =
          proposal_cases k t (λ (x : Outcome S R). result S k w e p ≡ Ok x → x.word ≡ Clash → Clashing e p b) d.state d.blocks (w.cells e.who) o b parent q
          (λ none ends z. proposed-clash e p b (idle d.state d.blocks) fine idle-clash z)
          (λ c some j ends z. proposed-clash e p b (idle d.state d.blocks) fine idle-clash z)
          (λ c some j ends z.
          let x : Outcome S R = taken d.state d.blocks c (write (Certified c)) New in
          let l = proposed-leaves k t b x in
          proposed-clash e p b x
          (notes.shelves d.state c (inr (inl (b, seal, subst (λ y. Handed S k w e (Proposal b seal y)) some got))) j (proposed k t b x) ends l.0 l.1 fine) certified_clash z)
          r word

      silent : inbox_of e.what ≡ [] → Handed S k w e (Proposal b seal parent) × Clashing e p b
      silent empty = absurd (empty-reads S k w (Proposal b seal parent) (ap (λ (xs : List ℕ). read_parts k S w.n xs) (sym empty) ∙ reads))

      call : (c : Call) → e.what ≡ c → Handed S k w e (Proposal b seal parent) × Clashing e p b
      call (hand inbox room) c =
          let h = handed-good S k w law e p inbox room o run.0 c r in
          let same : h.0 ≡ Proposal b seal parent = ok_same (sym h.1.0.0 ∙ reads) in
          let got : Handed S k w e (Proposal b seal parent) = subst (λ (m : Parts R (List ℕ)). Handed S k w e m) same h.1 in
          (got, handed got (subst (λ (m : Parts R (List ℕ)). hand_parts k t d.state d.blocks (w.cells e.who) m ≡ Ok o) same h.2))
      call (tick room) c = silent (ap inbox_of c)
      call (offer content room) c = silent (ap inbox_of c)
      call sent c = silent (ap inbox_of c)

  no-clash : (e : Event) (p : History) → Run S k w (e ∷ p) → ClashUnderSoundLeader S k w e p → ⊥
  no-clash e p run (b, x) =
      let o = x.1.1.1.1 in
      let f = clash_so e p b x.0 x.1.0 o.0 run x.1.1.0 o.1 o.2 in
      let sound : Sound w (w.leader b.rank.view) = x.1.1.1.0 in
      let c = f.1 in
      let view : c.note.rank.view ≡ b.rank.view = ap (λ (r : Rank). r.view) c.rank in
      let lead : w.leader c.note.rank.view ≡ w.leader b.rank.view = ap w.leader view in
      let said-note : Said S k w (w.leader b.rank.view) (proposal_statement k c.note) p =
      subst (λ (j : ℕ). Said S k w j (proposal_statement k c.note) p) lead (c.said (subst (λ (j : ℕ). Sound w j) (sym lead) sound)) in
      let said_new : Said S k w (w.leader b.rank.view) (proposal_statement k b) p = proposal-said S k w e p b x.0 x.1.0 run.0 f.0 sound in
      let same : c.note ≡ b = one-proposal p (w.leader b.rank.view) c.note b run.1 c.lawful f.0.1.0 c.rank said-note said_new in
      true-false (sym (subst (λ (y : Block R). same_block k c.note y ≡ true) same (same_self k c.note)) ∙ c.other)

  pub no_clash_under_a_sound_leader : (h : History) → Run S k w h → Once (ClashUnderSoundLeader S k w) h → ⊥
  no_clash_under_a_sound_leader [] run x = x
  no_clash_under_a_sound_leader (e ∷ p) run (inl x) = no-clash e p run x
  no_clash_under_a_sound_leader (e ∷ p) run (inr x) = no_clash_under_a_sound_leader p run.1 x
