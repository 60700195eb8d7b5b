-- A seat's note, votes and blames: the note is lawful and of the seat's own rank; while leaving it is not accepted, and no seals are kept.
use Rattle.std.proofs.Common.{◌≡◌, ℕ, ◌+◌, ◌-◌, ◌*◌, ◌<◌, min, true, false, cond, not, ◌&&◌, ◌||◌, eqb, ltb, leb, List, is_some, Some, None, Option, sym, refl, ◌∙◌, subst, arith}
use Rattle.std.proofs.lemmas.Bool.{and_parts, cond_both, eqb-true, false≢true}
use Rattle.content.specs.Kinds.{Kind, read_content}
use Rattle.content.specs.declared.refusal.Refusal.TheVariants.{LastView, NotLeader, OfferLeaving, OfferSpoiled, OfferedAlready, NoPlaceLeft, OfferTooSoon, NoLawfulParent}
use Rattle.blocks.specs.Ranks.{same_block}
use Rattle.blocks.specs.declared.block.Block.{Block}
use Rattle.blocks.specs.declared.rows.SealRow.{SealRow}
use Rattle.wire.specs.Lawful.{LawfulBlock, LawfulParts}
use Rattle.wire.specs.declared.message.Certificate.{Certificate}
use Rattle.wire.specs.declared.message.Parts.{Parts}
use Rattle.wire.specs.declared.message.Parts.TheVariants.{Proposal, Vote, Blame, Certified, Notice}
use Rattle.wire.proofs.Steps.{Gives, gives_ok, gives_if, gives_next, gives_unless, gives_either}
use Rattle.shelf.specs.Blocks.{top_turn}
use Rattle.state.specs.HandIn.{acceptable, accepts, accepted_at, adds, add_seal, at_note, at_slot, certificate_of, clashes, completed, countable, counted, hand_parts, has_seal, idle, last_view, leaves as leaves_by, notice_of, proposed, quorate, slot_open, taken}
use Rattle.state.specs.Offer.{can_carry, last_height, last_turn, next_height, offer_step, offers, too_soon}
use Rattle.state.specs.Parts.{is_on, no_seals, turn_rises, with_best, with_blames, with_committed, with_note, with_now, with_votes}
use Rattle.state.specs.Sends.{Outcome, Sending, relay, write, zero_seal}
use Rattle.state.specs.TakeIn.{better, commits, here, judge_in, shelve}
use Rattle.state.specs.Tick.{blames, enter, entered, on_tick, round_at, tick_step, ticked, turn_after, voted_for, vote_due}
use Rattle.state.specs.declared.answer.Word.{Word}
use Rattle.state.specs.declared.answer.Word.TheVariants.{Accepted, Idle, Noted, Voted}
use Rattle.state.specs.declared.state.Note.{Note}
use Rattle.state.specs.declared.state.Phase.{Phase}
use Rattle.state.specs.declared.state.Phase.TheVariants.{On, Leaving}
use Rattle.state.specs.declared.state.Round.{Round}
use Rattle.state.specs.declared.state.State.{State}
use Rattle.state.specs.declared.state.Terms.{Terms}
use Rattle.state.specs.declared.taking.Verdict.{Verdict}
use Rattle.state.specs.declared.taking.Verdict.TheVariants.{Known, New}
use Rattle.agreement.proofs.OneStep.{gives_carried, gives_twice}

module _ {L : ℕ} {R : Type 0} (k : Kind L R) where
  -- the note has the seat's rank, or while leaving that of the next view's first turn, where it isn't accepted yet
  abbrev pub NoteFits : Phase → (view turn : ℕ) → Option (Note R) → Type 0
  NoteFits ph v t None = Unit {0}
  NoteFits On v t (Some note) = LawfulBlock k note.block × (note.block.rank.view ≡ v) × (note.block.rank.turn ≡ t)
  NoteFits (Leaving since) v t (Some note) =
      LawfulBlock k note.block × (note.block.rank.view ≡ v + 1) × (note.block.rank.turn ≡ 0) × (note.accepted ≡ None)

  fits-accepted : (ph : Phase) (v t now : ℕ) (note : Note R) → is_on ph ≡ true → NoteFits ph v t (Some note) → NoteFits ph v t (Some (accepted_at now note))
  fits-accepted On v t now note e h = h
  fits-accepted (Leaving since) v t now note e h = absurd (false≢true e)

-- while leaving no seals are kept
abbrev pub RowsFit : {S : ℕ} → Phase → (votes blames : SealRow S) → Type 0
RowsFit On votes blames = Unit {0}
RowsFit (Leaving since) votes blames = (votes ≡ no_seals) × (blames ≡ no_seals)

rows_on : {S : ℕ} (ph : Phase) (votes blames : SealRow S) → is_on ph ≡ true → RowsFit ph votes blames
rows_on On votes blames e = tt
rows_on (Leaving since) votes blames e = absurd (false≢true e)

module _ {L S : ℕ} {R : Type 0} (k : Kind L R) where
  abbrev pub RoundSane : State S R → Type 0
  RoundSane s = NoteFits k s.phase s.view s.turn s.round.note × RowsFit s.phase s.round.votes s.blames

  abbrev Sane : Outcome S R → Type 0
  Sane o = RoundSane o.state

  shelve_sane : (c : Certificate R (List ℕ)) (s : State S R) → RoundSane s → RoundSane (shelve c s)
  shelve_sane c s h =
      let t : State S R = with_best (better s.best c) s in
      let v : State S R = turn_rises (min (s.turn + 1) 4294967295) t in
      let u : State S R = cond (here s c.block) v t in
      let g : RoundSane u =
      cond_both (here s c.block) v t RoundSane
      (λ e. (tt, rows_on s.phase no_seals s.blames (and_parts (is_on s.phase) _ e).0)) (λ _. h) in
      cond_both (commits s c.block) (with_committed c.block u) u RoundSane (λ _. g) (λ _. g)

  taken_sane : (s : State S R) (bs : List (Block R)) (c : Certificate R (List ℕ)) (sending : Sending R) (v : Verdict) → RoundSane s → Sane (taken s bs c sending v)
  taken_sane s bs c sending Known h = h
  taken_sane s bs c sending New h = shelve_sane c s h

  fits_new : (ph : Phase) (s : State S R) (b : Block R) → LawfulBlock k b → at_slot ph s b ≡ true →
      NoteFits k ph s.view s.turn (Some (record { block = b; accepted = None; voted = false }))
  fits_new On s b l e =
      let p = and_parts (eqb s.view b.rank.view) (eqb s.turn b.rank.turn) e in
      (l, sym (eqb-true s.view b.rank.view p.0), sym (eqb-true s.turn b.rank.turn p.1))
  fits_new (Leaving since) s b l e =
      let p = and_parts (eqb (s.view + 1) b.rank.view) (eqb b.rank.turn 0) e in
      (l, sym (eqb-true (s.view + 1) b.rank.view p.0), eqb-true b.rank.turn 0 p.1, refl)

  accepts_sane : (o : Outcome S R) (rest : Word) (note : Note R) → NoteFits k o.state.phase o.state.view o.state.turn (Some note) → Sane o →
      Sane (accepts o rest note)
  accepts_sane o rest note f h =
      let s : State S R = o.state in
      cond_both (acceptable s note.block && not (is_some note.accepted))
      (adds o Accepted (Some relay) None (with_note (Some (accepted_at s.now note)) s))
      (adds o rest None None (with_note (Some note) s)) Sane
      (λ e.
      let on : is_on s.phase ≡ true = (and_parts (is_on s.phase) _ (and_parts (acceptable s note.block) _ e).0).0 in
      (fits-accepted k s.phase s.view s.turn s.now note on f, h.1))
      (λ _. (f, h.1))

  clashes_sane : (p : Terms) (o : Outcome S R) → Sane o → Sane (clashes p o)
  clashes_sane p o h = cond_both _ _ _ Sane (λ _. h) (λ _. h)

  note_sane : (p : Terms) (o : Outcome S R) (b : Block R) (note : Option (Note R)) → o.state.round.note ≡ note → LawfulBlock k b →
      at_slot o.state.phase o.state b ≡ true → Sane o → Sane (at_note k p o b note)
  note_sane p o b None e l at h =
      accepts_sane o Noted (record { block = b; accepted = None; voted = false }) (fits_new o.state.phase o.state b l at) h
  note_sane p o b (Some note) e l at h =
      cond_both (same_block k note.block b) (accepts o o.word note) (clashes p o) Sane
      (λ _. accepts_sane o o.word note (subst (NoteFits k o.state.phase o.state.view o.state.turn) e h.0) h) (λ _. clashes_sane p o h)

  proposed_sane : (p : Terms) (b : Block R) (o : Outcome S R) → LawfulBlock k b → Sane o → Sane (proposed k p b o)
  proposed_sane p b o l h =
      cond_both (slot_open o.state b) (at_note k p o b o.state.round.note) o Sane
      (λ e. note_sane p o b o.state.round.note refl l (and_parts (not o.state.spoiled) _ e).1 h) (λ _. h)

  completed_sane : (s : State S R) (row : SealRow S) (bs : List (Block R)) (c : Certificate R (List ℕ)) (v : Verdict) → RoundSane (with_votes row s) →
      Sane (completed (with_votes row s) bs c v)
  completed_sane s row bs c Known h = h
  completed_sane s row bs c New h = shelve_sane c (with_votes row s) h

  -- a message keeps it
  pub message_sane : (p : Terms) (n : ℕ) (s : State S R) (bs : List (Block R)) (cells : ℕ) (m : Parts R (List ℕ)) → LawfulParts k S n m → RoundSane s →
      Gives (hand_parts k p s bs cells m) Sane
  message_sane p n s bs cells (Proposal b seal None) l h = gives_ok Sane _ (proposed_sane p b (idle s bs) l.0 h)
  message_sane p n s bs cells (Proposal b seal (Some c)) l h =
      gives_twice Sane (taken s bs c (write (Certified c))) (proposed k p b) (judge_in k s bs cells c.block) (λ v e.
      proposed_sane p b (taken s bs c (write (Certified c)) v) l.0 (taken_sane s bs c (write (Certified c)) v h))
  message_sane p n s bs cells (Vote i b seal) l h =
      let row : SealRow S = add_seal s.round.votes i seal in
      let t : State S R = with_votes row s in
      gives_either {Q = Sane} (countable k s i b) _ _
      (λ e.
      let g : RoundSane t = (h.0, rows_on s.phase row s.blames (and_parts (is_on s.phase) _ e).0) in
      gives_either {Q = Sane} (quorate p row) _ _
      (λ _. gives_carried Sane (completed t bs (certificate_of b row)) (judge_in k t bs cells b) (λ v _. completed_sane s row bs (certificate_of b row) v g))
      (λ _. gives_ok Sane _ g))
      (λ _. gives_ok Sane _ h)
  message_sane p n s bs cells (Blame i v seal) l h =
      let row : SealRow S = add_seal s.blames i seal in
      let t : State S R = with_blames row s in
      gives_unless {Q = Sane} (eqb v last_view) _ LastView (λ _.
      gives_either {Q = Sane} (is_on s.phase && (eqb s.view v && not (has_seal s.blames i))) _ _
      (λ e. gives_ok Sane _
      (cond_both (quorate p row) (leaves_by t bs v (write (notice_of v row))) (counted t bs) Sane
      (λ _. (tt, (refl, refl)))
      (λ _. (h.0, rows_on s.phase s.round.votes row (and_parts (is_on s.phase) _ e).0))))
      (λ _. gives_ok Sane _ h))
  message_sane p n s bs cells (Certified c) l h =
      gives_carried Sane (taken s bs c relay) (judge_in k s bs cells c.block) (λ v _. taken_sane s bs c relay v h)
  message_sane p n s bs cells (Notice v mask seals) l h =
      gives_unless {Q = Sane} (eqb v last_view) _ LastView (λ _.
      gives_either {Q = Sane} (ltb s.view v || (is_on s.phase && eqb s.view v)) _ _
      (λ _. gives_ok Sane _ (tt, (refl, refl))) (λ _. gives_ok Sane _ h))

  -- so does a tick
  blames_sane : (p : Terms) (word : Word) (message : Option (Sending R)) (s : State S R) (bs : List (Block R)) → RoundSane s → Sane (blames p word message s bs)
  blames_sane p word message s bs h = cond_both _ _ _ Sane (λ _. h) (λ _. h)

  entered_sane : (p : Terms) (s : State S R) (bs : List (Block R)) → RoundSane s → Sane (entered p s bs)
  entered_sane p s bs h = cond_both _ _ _ Sane (λ _. h) (λ _. h)

  fits-entered : (view turn since v : ℕ) (r : Round S R) → view + 1 ≡ v → NoteFits k (Leaving since) view turn r.note → (t : ℕ) → NoteFits k On v t (round_at t r).note
  fits-entered view turn since v r e h t =
      cond_both (eqb t 0) r (record { note = None; votes = r.votes; offered = r.offered }) (λ (x : Round S R). NoteFits k On v t x.note)
      (λ z. kept r.note (eqb-true t 0 z) h) (λ _. tt)
    where
      kept : (note : Option (Note R)) → t ≡ 0 → NoteFits k (Leaving since) view turn note → NoteFits k On v t note
      kept None z f = tt
      kept (Some note) z f = (f.0, f.1 ∙ e, f.2 ∙ sym z)

  enter_sane : (s : State S R) (ph : Phase) (since v t : ℕ) → ph ≡ Leaving since → s.view + 1 ≡ v → NoteFits k ph s.view s.turn s.round.note → RoundSane (enter v t s)
  enter_sane s ph since v t e q h = (fits-entered s.view s.turn since v s.round q (subst (λ x. NoteFits k x s.view s.turn s.round.note) e h) t, tt)

  phase_sane : (p : Terms) (ph : Phase) (s : State S R) (bs : List (Block R)) → s.phase ≡ ph → (is_on ph ≡ false → s.view < 65535) → RoundSane s →
      Sane (ticked p ph s bs)
  phase_sane p On s bs e small h = on s.round.note refl
    where
      on : (note : Option (Note R)) → s.round.note ≡ note → Sane (on_tick p note s bs)
      on None q = blames_sane p Idle None s bs h
      on (Some note) q =
          cond_both (vote_due p s note) (blames p Voted (Some (write (Vote p.own note.block (zero_seal S)))) (with_note (Some (voted_for note)) s) bs)
          (blames p Idle None s bs) Sane
          (λ _. blames_sane p Voted _ (with_note (Some (voted_for note)) s) bs
          (subst (λ x. NoteFits k x s.view s.turn (Some (voted_for note))) (sym e) (subst (NoteFits k On s.view s.turn) q (subst (λ x. NoteFits k x s.view s.turn s.round.note) e h.0)), h.1))
          (λ _. blames_sane p Idle None s bs h)
  phase_sane p (Leaving since) s bs e small h =
      let v : ℕ = min (s.view + 1) last_view in
      let u : State S R = enter v (turn_after (top_turn v bs)) s in
      let l : s.view < 65535 = small refl in
      let q : s.view + 1 ≡ v = omega arith in
      cond_both (leb (2 * p.delta + 1) (s.now - since)) (entered p u bs) (idle s bs) Sane
      (λ _. entered_sane p u bs (enter_sane s s.phase since v (turn_after (top_turn v bs)) e q h.0)) (λ _. h)

  pub tick_sane : (p : Terms) (s : State S R) (bs : List (Block R)) → (is_on s.phase ≡ false → s.view < 65535) → RoundSane s → Sane (tick_step p s bs)
  tick_sane p s bs small h = phase_sane p s.phase (with_now (s.now + 1) s) bs refl small h

  -- and an offer
  pub offer_sane : (p : Terms) (leader : ℕ → ℕ) (s : State S R) (bs : List (Block R)) (content : List ℕ) → RoundSane s → Gives (offer_step k p leader s bs content) Sane
  offer_sane p leader s bs content h =
      gives_next {P = λ _. Unit {0}} {Q = Sane} (read_content k content) _ (λ _ _. tt) (λ r _.
      gives_unless {Q = Sane} (not (eqb (leader s.view) p.own)) _ NotLeader (λ _.
      gives_unless {Q = Sane} (not (is_on s.phase)) _ OfferLeaving (λ _.
      gives_unless {Q = Sane} s.spoiled _ OfferSpoiled (λ _.
      gives_unless {Q = Sane} s.round.offered _ OfferedAlready (λ _.
      gives_unless {Q = Sane} (ltb last_turn s.turn || ltb last_height (next_height s.best)) _ NoPlaceLeft (λ _.
      gives_unless {Q = Sane} (too_soon p s) _ OfferTooSoon (λ _.
      gives_if {Q = Sane} (can_carry s.view s.turn s.best) _ NoLawfulParent (λ _.
      gives_ok Sane (offers p s bs r) h))))))))
