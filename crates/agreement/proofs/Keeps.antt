-- A call changes a seat by a few small changes, one after the other. What each of them keeps, every call keeps.
use Rattle.std.proofs.Common.{◌≡◌, ℕ, ◌+◌, min, Bool, true, false, cond, not, ◌&&◌, ◌||◌, eqb, ltb, ◌⊎◌, List, [], ◌∷◌, ◌++◌, Some, None, Ok, Option, sym, refl, ap, ◌∙◌, subst, inl, inr}
use Rattle.std.proofs.lemmas.Bool.{and_parts, and_from, eqb-true, or_right, cond_both}
use Rattle.content.specs.Kinds.{Kind}
use Rattle.blocks.specs.Ranks.{same_block}
use Rattle.blocks.specs.declared.block.Block.{Block}
use Rattle.blocks.specs.declared.rows.SealRow.{SealRow}
use Rattle.wire.specs.declared.message.Certificate.{Certificate}
use Rattle.wire.specs.declared.message.Parts.{Parts}
use Rattle.wire.specs.declared.message.Parts.TheVariants.{Proposal, Vote, Blame, Certified, Notice}
use Rattle.shelf.specs.Blocks.{top_turn}
use Rattle.shelf.proofs.Ancestry.{find-rank}
use Rattle.state.specs.HandIn.{acceptable, accepted_at, add_seal, adds, at_slot, certificate_of, countable, hand_parts, idle, is_note, last_view, own_blame, proposed, quorate, slot_open, taken}
use Rattle.state.specs.Offer.{last_height, last_turn, next_height}
use Rattle.state.specs.Parts.{is_on, leave, with_blamed, with_blames, with_note, turn_rises, with_best, with_committed, with_now, with_offered, with_slip, with_spoiled, with_votes}
use Rattle.state.specs.Sends.{Outcome, relay, write}
use Rattle.state.specs.TakeIn.{better, commits, height_of, here, judge_in, shelve}
use Rattle.state.specs.Tick.{enter, tick_step, turn_after, voted_for}
use Rattle.state.specs.declared.answer.Word.TheVariants.{Clash}
use Rattle.state.specs.declared.state.Note.{Note}
use Rattle.state.specs.declared.state.Phase.{Phase}
use Rattle.state.specs.declared.state.Phase.TheVariants.{On, Leaving}
use Rattle.state.specs.declared.state.State.{State}
use Rattle.state.specs.declared.state.Terms.{Terms}
use Rattle.state.specs.declared.taking.Verdict.TheVariants.{Known, New}
use Rattle.agreement.proofs.Cases.{NoteFor, blame_cases, notice_cases, proposal_cases, proposed_cases, taken_cases, tick_cases, vote_cases}
use Rattle.agreement.specs.Laws.{OnShelf}
use Rattle.agreement.proofs.OneStep.{judged}
use Rattle.agreement.proofs.Shelves.{on-from-find, on-last}
use Rattle.agreement.proofs.Statements.{same_alike, same_self}

-- the note that a proposal makes
abbrev pub fresh_note : {R : Type 0} → Block R → Note R
fresh_note b = record { block = b; accepted = None; voted = false }

-- the certificate that came with a proposal is of a block on the shelf
abbrev pub ParentIn : {R : Type 0} → Option (Certificate R (List ℕ)) → List (Block R) → Type 0
ParentIn None bs = Unit {0}
ParentIn {R} (Some c) bs = (x : Block R) × OnShelf x bs × (x.rank ≡ c.block.rank) × (x.height ≡ c.block.height)

-- so it is once the certificate was taken in, known or new
pub parent_known : {L S : ℕ} {R : Type 0} (k : Kind L R) (s : State S R) (bs : List (Block R)) (cells : ℕ) (c : Certificate R (List ℕ)) → judge_in k s bs cells c.block ≡ Ok Known → ParentIn (Some c) bs
parent_known k s bs cells c e =
    let f = judged k s bs cells c.block Known e in
    (f.0, on-from-find c.block.rank bs f.0 f.1, find-rank c.block.rank bs f.0 f.1, (same_alike k f.0 c.block f.2).height)

pub parent_new : {R : Type 0} (bs : List (Block R)) (c : Certificate R (List ℕ)) → ParentIn (Some c) (bs ++ (c.block ∷ []))
parent_new bs c = (c.block, on-last c.block bs, refl, refl)

-- taking a note leaves the slot as it is
pub at_note_lem : {S : ℕ} {R : Type 0} (f : Phase) (s : State S R) (n : Option (Note R)) (b : Block R) → at_slot f (with_note n s) b ≡ at_slot f s b
at_note_lem On s n b = refl
at_note_lem (Leaving since) s n b = refl

pub slot_noted : {S : ℕ} {R : Type 0} (s : State S R) (n : Option (Note R)) (b : Block R) → slot_open s b ≡ true → slot_open (with_note n s) b ≡ true
slot_noted s n b e = ap (λ (x : Bool). not s.spoiled && x) (at_note_lem s.phase s n b) ∙ e

-- taking a certificate in: a new best; where the seat is on in its view, a new turn; and perhaps a commit
pub shelve_cases : {S : ℕ} {R : Type 0} (P : State S R → Type 0) (c : Certificate R (List ℕ)) (s : State S R) →
    (here s c.block ≡ false → P (with_best (better s.best c) s)) →
    (here s c.block ≡ true → P (turn_rises (min (s.turn + 1) 4294967295) (with_best (better s.best c) s))) →
    (here s c.block ≡ true → commits s c.block ≡ true → P (with_committed c.block (turn_rises (min (s.turn + 1) 4294967295) (with_best (better s.best c) s)))) →
    P (shelve c s)
shelve_cases P c s away stays commit = by (here s c.block) (not s.spoiled) refl refl
  where
    by : (h n : Bool) → here s c.block ≡ h → not s.spoiled ≡ n →
        P (cond (h && n) (with_committed c.block (cond h (turn_rises (min (s.turn + 1) 4294967295) (with_best (better s.best c) s)) (with_best (better s.best c) s)))
        (cond h (turn_rises (min (s.turn + 1) 4294967295) (with_best (better s.best c) s)) (with_best (better s.best c) s)))
    by true true e f = commit e (and_from (here s c.block) (not s.spoiled) e f)
    by true false e f = stays e
    by false n e f = away e

-- a proposal changes neither the shelf nor the height committed
pub proposed-leaves : {L S : ℕ} {R : Type 0} (k : Kind L R) (p : Terms) (b : Block R) (o : Outcome S R) → ((proposed k p b o).height ≡ o.height) × ((proposed k p b o).blocks ≡ o.blocks)
proposed-leaves {S} {R} k p b o =
    proposed_cases k p (λ (x : Outcome S R). (x.height ≡ o.height) × (x.blocks ≡ o.blocks)) b o (λ _. (refl, refl)) (λ _ _ _ _ _. (refl, refl)) (λ _ _ _ _ _. (refl, refl))
    (λ note _ _ _. cond_both (is_on o.state.phase && not o.state.blamed) _ _ (λ (x : Outcome S R). (x.height ≡ o.height) × (x.blocks ≡ o.blocks)) (λ _. (refl, refl)) (λ _. (refl, refl)))

-- Got: which messages the call handed in. Ends: how the call ended. before: the shelf at its start.
module _ {L S : ℕ} {R : Type 0} (k : Kind L R) (p : Terms) (cells : ℕ) (Got : Parts R (List ℕ) → Type 0) (Ends : Outcome S R → Type 0) (before : List (Block R)) where
  -- where a certificate that is taken in comes from: a message, or the quorum of votes that a vote completed
  abbrev pub Source : State S R → Certificate R (List ℕ) → Type 0
  Source s c =
      Got (Certified c) ⊎ (((b : Block R) × (seal : List ℕ) × Got (Proposal b seal (Some c))) ⊎
      ((i : ℕ) × (seal : List ℕ) × Got (Vote i c.block seal) × (is_on s.phase ≡ true) × (is_note k s.round.note c.block ≡ true) × (quorate p s.round.votes ≡ true)))

  pub record Keeps (Q : State S R → List (Block R) → Type 0) : Type 0 where
    pub slips : (s : State S R) (bs : List (Block R)) (out : Bool) → Q s bs → Q (with_slip out s) bs
    pub noted : (s : State S R) (bs : List (Block R)) (b : Block R) (seal : List ℕ) (parent : Option (Certificate R (List ℕ))) → Got (Proposal b seal parent) → ParentIn parent bs →
        slot_open s b ≡ true → s.round.note ≡ None → Q s bs → Q (with_note (Some (fresh_note b)) s) bs
    pub accepts : (s : State S R) (bs : List (Block R)) (note : Note R) (b : Block R) (seal : List ℕ) (parent : Option (Certificate R (List ℕ))) → Got (Proposal b seal parent) → ParentIn parent bs →
        slot_open s b ≡ true → s.round.note ≡ Some note → same_block k note.block b ≡ true → acceptable s note.block ≡ true →
        (o : Outcome S R) → Ends o → o.state ≡ with_note (Some (accepted_at s.now note)) s → o.blocks ≡ bs → o.sends.message ≡ Some relay →
        Q s bs → Q (with_note (Some (accepted_at s.now note)) s) bs
    pub spoils : (s : State S R) (bs : List (Block R)) (note : Note R) (b : Block R) → slot_open s b ≡ true → s.round.note ≡ Some note → same_block k note.block b ≡ false →
        Q s bs → Q (with_spoiled true s) bs
    pub blames_own : (s : State S R) (bs : List (Block R)) → Q s bs → Q (with_blamed true s) bs
    pub keeps_vote : (s : State S R) (bs : List (Block R)) (i : ℕ) (b : Block R) (seal : List ℕ) → Got (Vote i b seal) → countable k s i b ≡ true →
        Q s bs → Q (with_votes (add_seal s.round.votes i seal) s) bs
    pub keeps_blame : (s : State S R) (bs : List (Block R)) (row : SealRow S) → Q s bs → Q (with_blames row s) bs
    pub shelves : (s : State S R) (c : Certificate R (List ℕ)) → Source s c → judge_in k s before cells c.block ≡ Ok New →
        (o : Outcome S R) → Ends o → o.height ≡ height_of s c.block → o.blocks ≡ before ++ (c.block ∷ []) →
        Q s before → Q (shelve c s) (before ++ (c.block ∷ []))
    pub leaves_view : (s : State S R) (bs : List (Block R)) (v : ℕ) → ((mask : ℕ) × (seals : List ℕ) × Got (Notice v mask seals)) ⊎ (s.view ≡ v) → eqb v last_view ≡ false → (ltb s.view v || (is_on s.phase && eqb s.view v)) ≡ true →
        Q s bs → Q (leave v s) bs
    pub clock_ticks : (s : State S R) (bs : List (Block R)) → Q s bs → Q (with_now (s.now + 1) s) bs
    pub enters : (s : State S R) (bs : List (Block R)) (since : ℕ) → s.phase ≡ Leaving since →
        Q s bs → Q (enter (min (s.view + 1) last_view) (turn_after (top_turn (min (s.view + 1) last_view) bs)) s) bs
    pub votes_own : (s : State S R) (bs : List (Block R)) (note : Note R) → s.phase ≡ On → s.round.note ≡ Some note → Q s bs → Q (with_note (Some (voted_for note)) s) bs
    pub offers_own : (s : State S R) (bs : List (Block R)) → is_on s.phase ≡ true → s.round.offered ≡ false → (ltb last_turn s.turn || ltb last_height (next_height s.best)) ≡ false →
        Q s bs → Q (with_offered true s) bs

  module _ (Q : State S R → List (Block R) → Type 0) (keep : Keeps Q) where
    -- an outcome that is the call's keeps Q
    abbrev Held : Outcome S R → Type 0
    Held o = Ends o → Q o.state o.blocks

    note_again : (s : State S R) (bs : List (Block R)) (old : Option (Note R)) → s.round.note ≡ old → Q s bs → Q (with_note old s) bs
    note_again s bs old e q = subst (λ n. Q (with_note n s) bs) e q

    taking : (o : Outcome S R) (b : Block R) (seal : List ℕ) (parent : Option (Certificate R (List ℕ))) (note : Note R) → Got (Proposal b seal parent) → ParentIn parent o.blocks →
        slot_open o.state b ≡ true → NoteFor k b o.state.round.note note → Q o.state o.blocks → Q (with_note (Some note) o.state) o.blocks
    taking o b seal parent note got there slot (inl f) q = subst (λ n. Q (with_note (Some n) o.state) o.blocks) (sym f.1) (keep.noted o.state o.blocks b seal parent got there slot f.0 q)
    taking o b seal parent note got there slot (inr f) q = note_again o.state o.blocks (Some note) f.0 q

    fits-block : (b : Block R) (old : Option (Note R)) (note : Note R) → NoteFor k b old note → same_block k note.block b ≡ true
    fits-block b old note (inl f) = subst (λ (n : Note R). same_block k n.block b ≡ true) (sym f.1) (same_self k b)
    fits-block b old note (inr f) = f.1

    keep_proposed : (o : Outcome S R) (b : Block R) (seal : List ℕ) (parent : Option (Certificate R (List ℕ))) → Got (Proposal b seal parent) → ParentIn parent o.blocks →
        (Ends (proposed k p b o) → Q o.state o.blocks) → Held (proposed k p b o)
    keep_proposed o b seal parent got there held ends =
        let q = held ends in
        proposed_cases k p (λ x. x ≡ proposed k p b o → Q x.state x.blocks) b o (λ _ _. q)
        (λ note rest slot fit _ _. taking o b seal parent note got there slot fit q)
        (λ note slot fit able fresh e.
        keep.accepts (with_note (Some note) o.state) o.blocks note b seal parent got there (slot_noted o.state (Some note) b slot) refl (fits-block b o.state.round.note note fit) able
        (adds o _ (Some relay) None (with_note (Some (accepted_at o.state.now note)) o.state)) (subst Ends (sym e) ends) refl refl refl
        (taking o b seal parent note got there slot fit q))
        (λ note slot e differs _.
        cond_both (is_on o.state.phase && not o.state.blamed) (adds o Clash (Some relay) (Some (own_blame p o.state)) (with_blamed true (with_spoiled true o.state))) (adds o Clash (Some relay) None (with_spoiled true o.state))
        (λ (x : Outcome S R). Q x.state x.blocks)
        (λ _. keep.blames_own (with_spoiled true o.state) o.blocks (keep.spoils o.state o.blocks note b slot e differs q))
        (λ _. keep.spoils o.state o.blocks note b slot e differs q))
        refl

    -- what holds before a call that hands a message in holds after it
    pub keep_hand : (s : State S R) (m : Parts R (List ℕ)) (o : Outcome S R) → Got m → hand_parts k p s before cells m ≡ Ok o → Ends o → Q s before → Q o.state o.blocks
    keep_hand s (Proposal b seal parent) o got e ends q =
        proposal_cases k p Held s before cells o b parent e
        (λ none. keep_proposed (idle s before) b seal parent got (subst (λ x. ParentIn x before) (sym none) tt) (λ _. q))
        (λ c some j. keep_proposed (idle s before) b seal parent got (subst (λ x. ParentIn x before) (sym some) (parent_known k s before cells c j)) (λ _. q))
        (λ c some j. keep_proposed (taken s before c (write (Certified c)) New) b seal parent got (subst (λ x. ParentIn x (before ++ (c.block ∷ []))) (sym some) (parent_new before c))
        (λ end. let l = proposed-leaves k p b (taken s before c (write (Certified c)) New) in
        keep.shelves s c (inr (inl (b, seal, subst (λ x. Got (Proposal b seal x)) some got))) j (proposed k p b (taken s before c (write (Certified c)) New)) end l.0 l.1 q))
        ends
    keep_hand s (Vote i b seal) o got e ends q =
        vote_cases k p Held s before cells o i b seal e (λ _. q)
        (λ c _. keep.keeps_vote s before i b seal got c q)
        (λ c full j end.
        let on = and_parts (is_on s.phase) _ c in
        let note = and_parts (is_note k s.round.note b) _ on.1 in
        let t : State S R = with_votes (add_seal s.round.votes i seal) s in
        let cert : Certificate R (List ℕ) = certificate_of b (add_seal s.round.votes i seal) in
        keep.shelves t cert (inr (inr (i, seal, got, on.0, note.0, full))) j
        (taken t before cert (write (Certified cert)) New) end refl refl (keep.keeps_vote s before i b seal got c q))
        ends
    keep_hand s (Blame i view seal) o got e ends q =
        blame_cases k p Held s before cells o i view seal e (λ _. q)
        (λ _ _ _ _. keep.keeps_blame s before (add_seal s.blames i seal) q)
        (λ low on at _.
        keep.leaves_view (with_blames (add_seal s.blames i seal) s) before view (inr (eqb-true s.view view at)) low
        (or_right (ltb s.view view) _ (and_from (is_on s.phase) (eqb s.view view) on at)) (keep.keeps_blame s before (add_seal s.blames i seal) q))
        ends
    keep_hand s (Certified c) o got e ends q =
        taken_cases k p Held s before cells o c relay e (λ _ _. q)
        (λ j end. keep.shelves s c (inl got) j (taken s before c relay New) end refl refl q)
        ends
    keep_hand s (Notice view mask seals) o got e ends q =
        notice_cases k p Held s before cells o view e (λ _. q) (λ low t _. keep.leaves_view s before view (inl (mask, seals, got)) low t q) ends

    pub keep_tick : (s : State S R) (bs : List (Block R)) → Q s bs → Q (tick_step p s bs).state (tick_step p s bs).blocks
    keep_tick s bs q =
        let t : State S R = with_now (s.now + 1) s in
        let qt : Q t bs = keep.clock_ticks s bs q in
        tick_cases p (λ (x : Outcome S R). Q x.state x.blocks) s bs qt
        (λ since leaving _.
        let n : State S R = enter (min (s.view + 1) last_view) (turn_after (top_turn (min (s.view + 1) last_view) bs)) t in
        let qn : Q n bs = keep.enters t bs since leaving qt in
        cond_both n.spoiled _ _ (λ (x : Outcome S R). Q x.state x.blocks) (λ _. keep.blames_own n bs qn) (λ _. qn))
        (λ _. cond_both _ _ _ (λ (x : Outcome S R). Q x.state x.blocks) (λ _. keep.blames_own t bs qt) (λ _. qt))
        (λ note on e _.
        let v : State S R = with_note (Some (voted_for note)) t in
        let qv : Q v bs = keep.votes_own t bs note on e qt in
        cond_both _ _ _ (λ (x : Outcome S R). Q x.state x.blocks) (λ _. keep.blames_own v bs qv) (λ _. qv))
