-- What stands behind a vote: the note was accepted delta + 1 ticks before, by a call that passed the proposal on.
use Rattle.std.proofs.Common.{◌≡◌, ℕ, ◌+◌, ◌-◌, ◌*◌, ◌<◌, ◌≤◌, Bool, true, false, cond, not, eqb, ltb, ◌⊎◌, List, [], ◌∷◌, Some, None, Ok, Option, sym, refl, ap, ◌∙◌, subst, inl, inr, arith}
use Rattle.std.proofs.lemmas.Bool.{and_parts, eqb-true, leb-true, ltb-true, or_cases}
use Rattle.content.specs.Kinds.{Kind}
use Rattle.blocks.specs.Ranks.{Place, at_least, parent_of, same_block, same_rank}
use Rattle.blocks.specs.declared.block.Block.{Block}
use Rattle.blocks.specs.declared.block.Rank.{Rank}
use Rattle.wire.specs.Lawful.{LawfulBlock, LawfulParent}
use Rattle.wire.specs.declared.message.Certificate.{Certificate}
use Rattle.wire.specs.declared.message.Parts.TheVariants.{Proposal, Vote}
use Rattle.shelf.proofs.Ancestry.{same-ranks}
use Rattle.state.specs.HandIn.{acceptable, accepted_at}
use Rattle.state.specs.Parts.{is_on, with_note, with_slip}
use Rattle.state.specs.Sends.{Outcome, Sending, relay, write, zero_seal}
use Rattle.state.specs.Tick.{ripe, round_at, voted_for}
use Rattle.state.specs.declared.state.Note.{Note}
use Rattle.state.specs.declared.state.Phase.{Phase}
use Rattle.state.specs.declared.state.Phase.TheVariants.{On, Leaving}
use Rattle.state.specs.declared.state.State.{State}
use Rattle.state.specs.declared.state.Terms.{Terms}
use Rattle.agreement.specs.History.{Desk, Event, History, Is, clock, inbox_of, result}
use Rattle.agreement.specs.Run.{Moment, Run}
use Rattle.agreement.specs.Setting.{Lawful, Setting, Sound}
use Rattle.agreement.proofs.Along.{Ends, Handed, Kept, along, desk-done}
use Rattle.agreement.proofs.Basics.{none-some, ok_same, some_same, true-false}
use Rattle.agreement.proofs.Carried.{same_blocks_lem}
use Rattle.agreement.specs.Laws.{ParentOn, VotesFor, Was, shelf, stage, state}
use Rattle.agreement.proofs.Facts.{Acceptance, Ballot, NoteIs, Primed}
use Rattle.agreement.proofs.Keeps.{ParentIn, shelve_cases}
use Rattle.agreement.proofs.Moments.{was-here, was-more}
use Rattle.agreement.proofs.Notes.{NoteInv, Placed, block_of, lift_note, note_base, note-kept}
use Rattle.agreement.proofs.Sent.{OfferMade, Passing, VoteCast, sent_so}

pub phase-on : (f : Phase) → is_on f ≡ true → f ≡ On
phase-on On e = refl
phase-on (Leaving since) e = absurd (true-false (sym e))

on-not-leaving : (f : Phase) (since : ℕ) → f ≡ On → f ≡ Leaving since → ⊥
on-not-leaving f since a b = let z : ◌≡◌ {A = Phase} On (Leaving since) = sym a ∙ b in let y : ◌≡◌ {A = ℕ} 0 1 = cc in omega arith

module _ {L : ℕ} {R : Type 0} (S : ℕ) (k : Kind L R) (w : Setting) where
  -- the seat after a call that was carried out
  pub after_call : (e : Event) (p : History) (o : Outcome S R) (s : State S R) → result S k w e p ≡ Ok o → o.state ≡ s → (out : Bool) × (state S k w e.who (e ∷ p) ≡ with_slip out s)
  after_call e p o s r q = let f = desk-done S k w e p o r in (f.0, ap (λ (d : Desk S R). d.state) f.1 ∙ ap (λ (x : State S R). with_slip f.0 x) q)

  pub shelf-after : (e : Event) (p : History) (o : Outcome S R) (bs : List (Block R)) → result S k w e p ≡ Ok o → o.blocks ≡ bs → shelf S k w e.who (e ∷ p) ≡ bs
  shelf-after e p o bs r q = let f = desk-done S k w e p o r in ap (λ (d : Desk S R). d.blocks) f.1 ∙ q

  -- the parent of a proposal that was taken is on the shelf
  pub parent_in_on : (b : Block R) (parent : Option (Certificate R (List ℕ))) (bs : List (Block R)) → LawfulParent k S w.n b parent → ParentIn parent bs → ParentOn S k w b bs
  parent_in_on b None bs one there = inl one
  parent_in_on b (Some c) bs lawful there =
      let q = and_parts (same_rank c.block.rank b.parent) _ lawful.2 in
      let rank : c.block.rank ≡ b.parent = same-ranks c.block.rank b.parent q.0 in
      let high : c.block.height + 1 ≡ b.height = eqb-true (c.block.height + 1) b.height q.1 in
      inr (there.0, there.1, there.2 ∙ rank, ap (λ (x : ℕ). x + 1) there.3 ∙ high)

  -- what stands behind an accepted note
  abbrev pub AcceptedAt : ℕ → History → Phase → ℕ → Place → Option (Note R) → Type 0
  AcceptedAt i h phase turn lock old = (note : Note R) (a : ℕ) → old ≡ Some note → note.accepted ≡ Some a →
      (phase ≡ On) × Was (Acceptance S k w i a note.block) h × (turn ≡ 0 → at_least (parent_of note.block) lock ≡ true)

  abbrev pub AcceptInv : ℕ → History → State S R → List (Block R) → Type 0
  AcceptInv i h s bs = NoteInv S k w i h s bs × AcceptedAt i h s.phase s.turn s.lock s.round.note

  unaccepted : (i : ℕ) (h : History) (phase : Phase) (turn : ℕ) (lock : Place) → AcceptedAt i h phase turn lock None
  unaccepted i h phase turn lock note a e t = absurd (none-some e)

  -- the call that accepts
  accepting : (e : Event) (p : History) (s : State S R) (bs : List (Block R)) (note : Note R) (b : Block R) (seal : List ℕ) (parent : Option (Certificate R (List ℕ))) →
      Handed S k w e (Proposal b seal parent) → ParentIn parent bs → s.round.note ≡ Some note → same_block k note.block b ≡ true → acceptable s note.block ≡ true →
      (o : Outcome S R) → Ends S k w e p o → o.state ≡ with_note (Some (accepted_at s.now note)) s → o.blocks ≡ bs → o.sends.message ≡ Some relay →
      NoteInv S k w e.who (e ∷ p) s bs → Acceptance S k w e.who s.now note.block e p
  accepting e p s bs note b seal parent got there n same able o ends st bl se q =
      let done = after_call e p o (with_note (Some (accepted_at s.now note)) s) ends st in
      let here : s.phase ≡ On = phase-on s.phase (and_parts (is_on s.phase) _ able).0 in
      let at : Placed On s.view s.turn note.block = subst (λ (f : Phase). Placed f s.view s.turn note.block) here (q.placed note.block (ap block_of n)) in
      let it : note.block ≡ b = same_blocks_lem k note.block b (q.lawful note.block (ap block_of n)) got.1.0 same in
      record {
        mine = refl;
        at_tick = ap (λ (x : State S R). x.now) done.1;
        on_after = (ap (λ (x : State S R). x.phase) done.1 ∙ here, ap (λ (x : State S R). x.view) done.1 ∙ sym at.0);
        relays = (
          inbox_of e.what,
          (o, ends, inr (inl (subst (λ (x : Option (Sending R)). Is S k w (inbox_of e.what) (inbox_of e.what) x) (sym se) refl))),
          λ x reads. (seal, parent, ok_same (sym reads ∙ got.0.0) ∙ ap (λ (y : Block R). Proposal y seal parent) (sym it)),
        );
        parent_there_lem = subst (λ (xs : List (Block R)). ParentOn S k w note.block xs) (sym (shelf-after e p o bs ends bl))
            (subst (λ (y : Block R). ParentOn S k w y bs) (sym it) (parent_in_on b parent bs got.1.2 there));
      }

  above-lock : (s : State S R) (b : Block R) → acceptable s b ≡ true → s.turn ≡ 0 → at_least (parent_of b) s.lock ≡ true
  above-lock s b able first =
      elim (or_cases (ltb 0 s.turn) (at_least (parent_of b) s.lock) (and_parts (is_on s.phase) _ able).1) [
        | inl q ↦ let l : 0 < s.turn = ltb-true 0 s.turn q in absurd (omega arith)
        | inr q ↦ q
      ]

module _ {L : ℕ} {R : Type 0} (S : ℕ) (k : Kind L R) (w : Setting) (law : Lawful w) where
  accept_kept : (e : Event) (p : History) → Moment S k w e p → Run S k w p → Kept S k w e p (AcceptInv S k w e.who (e ∷ p))
  accept_kept e p now run = record {
    slips = λ s bs out q. q;
    noted = λ s bs b seal parent got there slot none q.
        (notes.noted s bs b seal parent got there slot none q.0, λ note a n t. absurd (none-some (ap (λ (x : Note R). x.accepted) (some_same n) ∙ t)));
    accepts = λ s bs note b seal parent got there slot n same able o ends st bl se q. (
      notes.accepts s bs note b seal parent got there slot n same able o ends st bl se q.0,
      λ note' a n' t.
          let it : accepted_at s.now note ≡ note' = some_same n' in
          let tick : s.now ≡ a = some_same (ap (λ (x : Note R). x.accepted) it ∙ t) in
          let block : note.block ≡ note'.block = ap (λ (x : Note R). x.block) it in (
            phase-on s.phase (and_parts (is_on s.phase) _ able).0,
            was-here (Acceptance S k w e.who a note'.block) e p
                (subst (λ (x : ℕ). Acceptance S k w e.who x note'.block e p) tick (subst (λ (x : Block R). Acceptance S k w e.who s.now x e p) block
                (accepting S k w e p s bs note b seal parent got there n same able o ends st bl se q.0))),
            λ first. subst (λ (x : Block R). at_least (parent_of x) s.lock ≡ true) block (above-lock S k w s note.block able first),
          ),
    );
    spoils = λ s bs note b slot n differs q. q;
    blames_own = λ s bs q. q;
    keeps_vote = λ s bs i b seal got c q. q;
    keeps_blame = λ s bs row q. q;
    shelves = λ s c source new o ends high more q. (
      notes.shelves s c source new o ends high more q.0,
      shelve_cases (λ (x : State S R). AcceptedAt S k w e.who (e ∷ p) x.phase x.turn x.lock x.round.note) c s (λ _. q.1)
          (λ _. unaccepted S k w e.who (e ∷ p) s.phase _ s.lock) (λ _ _. unaccepted S k w e.who (e ∷ p) s.phase _ s.lock),
    );
    leaves_view = λ s bs v why low t q. (notes.leaves_view s bs v why low t q.0, unaccepted S k w e.who (e ∷ p) _ _ s.lock);
    clock_ticks = λ s bs q. q;
    enters = λ s bs since leaving q. (notes.enters s bs since leaving q.0, entering s _ _ since leaving q.1);
    votes_own = λ s bs note on n q. (
      notes.votes_own s bs note on n q.0,
      λ note' a n' t.
          let it : voted_for note ≡ note' = some_same n' in
          let block : note.block ≡ note'.block = ap (λ (x : Note R). x.block) it in
          let f = q.1 note a n (ap (λ (x : Note R). x.accepted) it ∙ t) in
          (f.0, subst (λ (x : Block R). Was (Acceptance S k w e.who a x) (e ∷ p)) block f.1, λ first. subst (λ (x : Block R). at_least (parent_of x) s.lock ≡ true) block (f.2 first)),
    );
    offers_own = λ s bs on fresh room q. q;
  }
    where
      notes : Kept S k w e p (NoteInv S k w e.who (e ∷ p))
      notes = note-kept S k w law e p (e ∷ p) (λ i st q. inr q) now

      entering : (s : State S R) (t : ℕ) (lock : Place) (since : ℕ) → s.phase ≡ Leaving since → AcceptedAt S k w e.who (e ∷ p) s.phase s.turn s.lock s.round.note →
          AcceptedAt S k w e.who (e ∷ p) On t lock (round_at t s.round).note
      entering s t lock since leaving q = by (eqb t 0)
        where
          by : (z : Bool) → AcceptedAt S k w e.who (e ∷ p) On t lock (cond z s.round (record { note = None; votes = s.round.votes; offered = s.round.offered })).note
          by true note a n u = absurd (on-not-leaving s.phase since (q note a n u).0 leaving)
          by false note a n u = absurd (none-some n)

  pub accepted-fine : (i : ℕ) (h : History) → Sound w i → Run S k w h → AcceptInv S k w i h (state S k w i h) (shelf S k w i h)
  accepted-fine =
      along S k w law (AcceptInv S k w)
      (λ i. (note_base S k w i, unaccepted S k w i [] On 0 None))
      (λ i e p s bs q. (
        lift_note S k w e p s.phase s.view s.turn (block_of s.round.note) q.0,
        λ note a n t. let f = q.1 note a n t in (f.0, was-more (Acceptance S k w i a note.block) e p f.1, f.2),
      ))
      accept_kept

  vote-same : (i : ℕ) (a b : Block R) (seal : List ℕ) → Some (write (Vote i a seal)) ≡ Some (write (Vote i b seal)) → a ≡ b
  vote-same i a b seal e = cc

  no-offer-vote : (i : ℕ) (a b : Block R) (seal seal' : List ℕ) (parent : Option (Certificate R (List ℕ))) → Some (write (Proposal a seal parent)) ≡ Some (write (Vote i b seal')) → ⊥
  no-offer-vote i a b seal seal' parent e = let z : ◌≡◌ {A = ℕ} 0 1 = cc in omega arith

  -- a vote is cast in a tick, for the note
  pub voted_so : (e : Event) (p : History) (b : Block R) → Moment S k w e p → VotesFor S k w b e p → (o : Outcome S R) × (result S k w e p ≡ Ok o) × (v : VoteCast S k w e p o) × (v.note.block ≡ b)
  voted_so e p b now (o, r, m) = by (sent_so S k w law e p o now r).0
    where
      by : Passing o.sends.message ⊎ (VoteCast S k w e p o ⊎ OfferMade S k w e p o) → (o : Outcome S R) × (result S k w e p ≡ Ok o) × (v : VoteCast S k w e p o) × (v.note.block ≡ b)
      by (inl q) = absurd (subst Passing m q)
      by (inr (inl v)) = (o, r, v, vote-same (w.terms e.who).own v.note.block b (zero_seal S) (sym v.message ∙ m))
      by (inr (inr f)) = absurd (no-offer-vote _ _ _ _ _ _ (sym (ap (λ (x : Outcome S R). x.sends.message) f.made) ∙ m))

  -- a vote due is of a seat that is not spoiled, for a note accepted long enough ago
  due-ripe : (t : Terms) (now : ℕ) (o : Option ℕ) → ripe t now o ≡ true → (a : ℕ) × (o ≡ Some a) × (a + (t.delta + 1) ≤ now)
  due-ripe t now None e = absurd (true-false (sym e))
  due-ripe t now (Some a) e = let l : t.delta + 1 ≤ now - a = leb-true (t.delta + 1) (now - a) e in (a, refl, omega arith)

  not_on : (b : Bool) → not b ≡ true → b ≡ false
  not_on true e = sym e
  not_on false e = refl

  pub ballot : (e : Event) (p : History) (b : Block R) → Run S k w (e ∷ p) → VotesFor S k w b e p → Ballot S k w b e p
  ballot e p b run votes =
      let s : State S R = state S k w e.who p in
      let f = voted_so e p b run.0 votes in
      let v = f.2 in
      let sound : Sound w e.who = run.0.driven.at_sound in
      let fine = accepted-fine e.who p sound run.1 in
      let at : Placed On s.view s.turn v.note.block = subst (λ (x : Phase). Placed x s.view s.turn v.note.block) v.on (fine.0.placed v.note.block (ap block_of v.noted)) in
      let ripened = due-ripe (w.terms e.who) (s.now + 1) v.note.accepted (and_parts (ripe (w.terms e.who) (s.now + 1) v.note.accepted) _ v.due).0 in
      let accepted = fine.1 v.note ripened.0 v.noted ripened.1 in
      let done = after_call S k w e p f.0 f.0.state f.1 refl in
      let clock-now : clock S k w e.who (e ∷ p) ≡ s.now + 1 = ap (λ (x : State S R). x.now) done.1 ∙ v.later in
      let d : (w.terms e.who).delta ≡ w.delta = law.shares_delta e.who sound in
      subst (λ (x : Block R). Ballot S k w x e p) f.3
      (record {
        on_there = (v.on, sym at.0);
        lawful = fine.0.lawful v.note.block (ap block_of v.noted);
        accepted = ripened.0;
        waited = let l = ripened.2 in omega arith;
        acceptance = accepted.1;
        above-lock = λ first. accepted.2 (sym at.1 ∙ first);
      })

  -- a primed seat votes at that rank for no other block
  pub primed_votes : (e : Event) (p : History) (b c : Block R) → Run S k w (e ∷ p) → LawfulBlock k b → Primed b (state S k w e.who p) → VotesFor S k w c e p → c.rank ≡ b.rank → c ≡ b
  primed_votes e p b c run lawful primed votes rank =
      let s : State S R = state S k w e.who p in
      let f = voted_so e p c run.0 votes in
      let v = f.2 in
      let fine = (accepted-fine e.who p run.0.driven.at_sound run.1).0 in
      let at : Placed On s.view s.turn v.note.block = subst (λ (x : Phase). Placed x s.view s.turn v.note.block) v.on (fine.placed v.note.block (ap block_of v.noted)) in
      let ranks : v.note.block.rank ≡ b.rank = ap (λ (x : Block R). x.rank) f.3 ∙ rank in
      let view : s.view ≡ b.rank.view = sym at.0 ∙ ap (λ (r : Rank). r.view) ranks in
      let turn : s.turn ≡ b.rank.turn = sym at.1 ∙ ap (λ (r : Rank). r.turn) ranks in
      let clean : s.spoiled ≡ false = not_on s.spoiled (and_parts (not v.note.voted) _ (and_parts (ripe (w.terms e.who) (s.now + 1) v.note.accepted) _ v.due).1).1 in
      let level : stage s ≡ 2 * s.view = ap (λ (x : Phase). cond (is_on x) (2 * s.view) (2 * s.view + 1)) v.on in
      by s v.note view turn clean level v.noted f.3 primed
    where
      by : (s : State S R) (note : Note R) → s.view ≡ b.rank.view → s.turn ≡ b.rank.turn → s.spoiled ≡ false → stage s ≡ 2 * s.view → s.round.note ≡ Some note → note.block ≡ c → Primed b s → c ≡ b
      by s note view turn clean level n it (inl q) = absurd (omega arith)
      by s note view turn clean level n it (inr (inl q)) = let l : b.rank.turn < s.turn = q.1 in absurd (omega arith)
      by s note view turn clean level n it (inr (inr (inl (a, (t, inl q))))) = absurd (true-false (sym q ∙ clean))
      by s note view turn clean level n it (inr (inr (inl (a, (t, inr q))))) = sym it ∙ subst (λ (x : Option (Note R)). NoteIs b x) n q
      by s note view turn clean level n it (inr (inr (inr q))) = let l : stage s + 1 ≡ 2 * b.rank.view = q.0 in absurd (omega arith)
