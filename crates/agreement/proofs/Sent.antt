-- What a call sends as the seat's own: a vote only in a tick, a proposal only in an offer.
use Rattle.std.proofs.Common.{◌≡◌, ℕ, ◌+◌, min, true, false, not, ◌&&◌, ◌||◌, ltb, ◌⊎◌, List, Some, None, Ok, Option, sym, refl, ap, ◌∙◌, subst, inl, inr}
use Rattle.std.proofs.lemmas.Bool.{cond_both}
use Rattle.content.specs.Kinds.{Kind}
use Rattle.blocks.specs.declared.block.Block.{Block}
use Rattle.wire.specs.declared.message.Parts.{Parts}
use Rattle.wire.specs.declared.message.Parts.TheVariants.{Proposal, Vote, Blame, Certified, Notice}
use Rattle.shelf.specs.Blocks.{top_turn}
use Rattle.state.specs.HandIn.{hand_parts, idle, last_view, proposed, taken}
use Rattle.state.specs.Offer.{last_height, last_turn, next_height, offers}
use Rattle.state.specs.Parts.{is_on, with_note, with_now}
use Rattle.state.specs.Sends.{Outcome, Sending, relay, write, zero_seal}
use Rattle.state.specs.Tick.{blames, enter, entered, turn_after, vote_due, voted_for}
use Rattle.state.specs.declared.answer.Word.{Word}
use Rattle.state.specs.declared.answer.Word.TheVariants.{Idle, Voted}
use Rattle.state.specs.declared.state.Note.{Note}
use Rattle.state.specs.declared.state.Phase.TheVariants.{On}
use Rattle.state.specs.declared.state.State.{State}
use Rattle.state.specs.declared.state.Terms.{Terms}
use Rattle.state.specs.declared.taking.Verdict.TheVariants.{New}
use Rattle.agreement.specs.History.{Call, Desk, Event, History, desk, hand, offer, outcome, result, sent, tick}
use Rattle.agreement.specs.Run.{Moment}
use Rattle.agreement.specs.Setting.{Lawful, Setting}
use Rattle.agreement.proofs.Along.{handed-good}
use Rattle.agreement.proofs.Basics.{ok_same}
use Rattle.agreement.proofs.Cases.{blame_cases, notice_cases, offered_so, proposal_cases, proposed_cases, taken_cases, tick_cases, tick_so, vote_cases}
use Rattle.agreement.specs.Laws.{shelf, state}

module _ {R : Type 0} where
  -- what a message handed in makes a seat send is none of its own statements but a blame
  abbrev pub Passing : Option (Sending R) → Type 0
  Passing None = Unit {0}
  Passing (Some relay) = Unit {0}
  Passing (Some (write (Proposal b seal parent))) = ⊥
  Passing (Some (write (Vote i b seal))) = ⊥
  Passing (Some (write (Blame i view seal))) = ⊥
  Passing (Some (write (Certified c))) = Unit {0}
  Passing (Some (write (Notice view mask seals))) = Unit {0}

  abbrev pub BlameOnly : Option (Sending R) → Type 0
  BlameOnly None = Unit {0}
  BlameOnly (Some relay) = Unit {0}
  BlameOnly (Some (write (Proposal b seal parent))) = ⊥
  BlameOnly (Some (write (Vote i b seal))) = ⊥
  BlameOnly (Some (write (Blame i view seal))) = Unit {0}
  BlameOnly (Some (write (Certified c))) = Unit {0}
  BlameOnly (Some (write (Notice view mask seals))) = Unit {0}

module _ {L S : ℕ} {R : Type 0} (k : Kind L R) (p : Terms) where
  abbrev Modest : Outcome S R → Type 0
  Modest o = Passing o.sends.message × BlameOnly o.sends.blame

  proposed_modest : (b : Block R) (o : Outcome S R) → Modest o → Modest (proposed k p b o)
  proposed_modest b o q =
      proposed_cases k p Modest b o (λ _. q) (λ _ _ _ _ _. (tt, tt)) (λ _ _ _ _ _. (tt, tt))
      (λ note _ _ _. cond_both (is_on o.state.phase && not o.state.blamed) _ _ Modest (λ _. (tt, tt)) (λ _. (tt, tt)))

  pub hand_modest : (s : State S R) (bs : List (Block R)) (cells : ℕ) (m : Parts R (List ℕ)) (o : Outcome S R) → hand_parts k p s bs cells m ≡ Ok o →
      Passing o.sends.message × BlameOnly o.sends.blame
  hand_modest s bs cells (Proposal b seal parent) o e =
      proposal_cases k p Modest s bs cells o b parent e (λ _. proposed_modest b (idle s bs) (tt, tt)) (λ _ _ _. proposed_modest b (idle s bs) (tt, tt))
      (λ c _ _. proposed_modest b (taken s bs c (write (Certified c)) New) (tt, tt))
  hand_modest s bs cells (Vote i b seal) o e = vote_cases k p Modest s bs cells o i b seal e (tt, tt) (λ _. (tt, tt)) (λ _ _ _. (tt, tt))
  hand_modest s bs cells (Blame i view seal) o e = blame_cases k p Modest s bs cells o i view seal e (tt, tt) (λ _ _ _. (tt, tt)) (λ _ _ _. (tt, tt))
  hand_modest s bs cells (Certified c) o e = taken_cases k p Modest s bs cells o c relay e (λ _. (tt, tt)) (λ _. (tt, tt))
  hand_modest s bs cells (Notice view mask seals) o e = notice_cases k p Modest s bs cells o view e (tt, tt) (λ _ _. (tt, tt))

-- the ways in which a call can come to send a statement of its own
module _ {L : ℕ} {R : Type 0} (S : ℕ) (k : Kind L R) (w : Setting) where
  -- a vote, in a tick, for the note
  pub record VoteCast (e : Event) (p : History) (o : Outcome S R) : Type 0 where
    pub note : Note R
    pub on : (state S k w e.who p).phase ≡ On
    pub noted : (state S k w e.who p).round.note ≡ Some note
    pub due : vote_due (w.terms e.who) (with_now ((state S k w e.who p).now + 1) (state S k w e.who p)) note ≡ true
    pub later : o.state.now ≡ (state S k w e.who p).now + 1
    pub message : o.sends.message ≡ Some (write (Vote (w.terms e.who).own note.block (zero_seal S)))

  -- a proposal, in an offer
  pub record OfferMade (e : Event) (p : History) (o : Outcome S R) : Type 0 where
    pub content : R
    pub on : is_on (state S k w e.who p).phase ≡ true
    pub fresh : (state S k w e.who p).round.offered ≡ false
    pub room : (ltb last_turn (state S k w e.who p).turn || ltb last_height (next_height (state S k w e.who p).best)) ≡ false
    pub made : o ≡ offers (w.terms e.who) (state S k w e.who p) (shelf S k w e.who p) content

  abbrev pub SentSo : Event → History → Outcome S R → Type 0
  SentSo e p o = ((Passing o.sends.message ⊎ (VoteCast e p o ⊎ OfferMade e p o))) × BlameOnly o.sends.blame

module _ {L : ℕ} {R : Type 0} (S : ℕ) (k : Kind L R) (w : Setting) (law : Lawful w) where
  pub sent_so : (e : Event) (p : History) (o : Outcome S R) → Moment S k w e p → result S k w e p ≡ Ok o → SentSo S k w e p o
  sent_so e p o now r = call e.what refl
    where
      d : Desk S R
      d = desk S k w e.who p

      t : Terms
      t = w.terms e.who

      blaming : (word : Word) (message : Option (Sending R)) (s : State S R) → ((x : Outcome S R) → x.sends.message ≡ message → x.state.now ≡ s.now → Passing x.sends.message ⊎ (VoteCast S k w e p x ⊎ OfferMade S k w e p x)) →
          SentSo S k w e p (blames t word message s d.blocks)
      blaming word message s f = cond_both _ _ _ (SentSo S k w e p) (λ _. (f _ refl refl, tt)) (λ _. (f _ refl refl, tt))

      entering : (n : State S R) → SentSo S k w e p (entered t n d.blocks)
      entering n = cond_both n.spoiled _ _ (SentSo S k w e p) (λ _. (inl tt, tt)) (λ _. (inl tt, tt))

      call : (c : Call) → e.what ≡ c → SentSo S k w e p o
      call (hand inbox room) c =
          let h = handed-good S k w law e p inbox room o now c r in
          let q = hand_modest k t d.state d.blocks (w.cells e.who) h.0 o h.2 in
          (inl q.0, q.1)
      call (tick room) c =
          let r' : outcome k w e.who (tick room) d ≡ Ok o = ap (λ c. outcome k w e.who c d) (sym c) ∙ r in
          subst (SentSo S k w e p) (sym (tick_so t d.state d.blocks room o r'))
          (tick_cases t (SentSo S k w e p) d.state d.blocks (inl tt, tt)
          (λ since leaving ripe. entering (enter (min (d.state.view + 1) last_view) (turn_after (top_turn (min (d.state.view + 1) last_view) d.blocks)) (with_now (d.state.now + 1) d.state)))
          (λ on. blaming Idle None (with_now (d.state.now + 1) d.state) (λ x m n. inl (subst Passing (sym m) tt)))
          (λ note on noted due. blaming Voted (Some (write (Vote t.own note.block (zero_seal S)))) (with_note (Some (voted_for note)) (with_now (d.state.now + 1) d.state)) (λ x m n. inr (inl (record { note = note; on = on; noted = noted; due = due; later = n; message = m })))))
      call (offer content room) c =
          let r' : outcome k w e.who (offer content room) d ≡ Ok o = ap (λ c. outcome k w e.who c d) (sym c) ∙ r in
          let h = offered_so k t w.leader d.state d.blocks content room o r' in
          (inr (inr (record { content = h.0; on = h.2; fresh = h.3; room = h.4; made = h.1 })), subst (λ (x : Outcome S R). BlameOnly x.sends.blame) (sym h.1) tt)
      call sent c =
          let r' : outcome k w e.who sent d ≡ Ok o = ap (λ c. outcome k w e.who c d) (sym c) ∙ r in
          subst (SentSo S k w e p) (ok_same r') (inl tt, tt)
