-- A proposal with good seals primes the seat that it is handed to.
use Rattle.std.proofs.Common.{◌≡◌, ℕ, ◌+◌, ◌*◌, ◌<◌, ◌≤◌, Bool, true, false, cond, not, ◌&&◌, eqb, ◌⊎◌, List, [], ◌∷◌, ◌++◌, is_some, Some, None, Ok, Err, Option, Result, sym, refl, ap, ◌∙◌, subst, inl, inr, arith}
use Rattle.std.proofs.lemmas.Bool.{and_cases, and_from, and_parts, cases_lt, cond_both, eqb-true, eq-eqb}
use Rattle.content.specs.Kinds.{Kind}
use Rattle.content.specs.declared.refusal.Refusal.{Refusal}
use Rattle.content.specs.declared.refusal.Refusal.TheVariants.{Orphan, Rival, Fork}
use Rattle.blocks.specs.Ranks.{same_block}
use Rattle.blocks.specs.declared.block.Block.{Block}
use Rattle.blocks.specs.declared.block.Rank.{Rank}
use Rattle.wire.specs.Lawful.{LawfulBlock, LawfulParts}
use Rattle.wire.specs.Layout.{lawful_numbers}
use Rattle.wire.specs.declared.message.Certificate.{Certificate}
use Rattle.wire.specs.declared.message.Parts.TheVariants.{Proposal, Certified}
use Rattle.wire.proofs.OneForm.{lawful-from_read}
use Rattle.state.specs.HandIn.{acceptable, accepted_at, adds, at_slot, carried, clashes, idle, own_blame, proposal, proposed, slot_open, taken}
use Rattle.state.specs.Parts.{is_on, with_blamed, with_note, with_spoiled}
use Rattle.state.specs.Sends.{Outcome, relay, write}
use Rattle.state.specs.TakeIn.{judge_in}
use Rattle.state.specs.declared.answer.Word.{Word}
use Rattle.state.specs.declared.answer.Word.TheVariants.{Accepted, Clash, Noted}
use Rattle.state.specs.declared.state.Note.{Note}
use Rattle.state.specs.declared.state.Phase.{Phase}
use Rattle.state.specs.declared.state.Phase.TheVariants.{On, Leaving}
use Rattle.state.specs.declared.state.State.{State}
use Rattle.state.specs.declared.state.Terms.{Terms}
use Rattle.state.specs.declared.taking.Verdict.{Verdict}
use Rattle.state.specs.declared.taking.Verdict.TheVariants.{Known, New}
use Rattle.agreement.specs.History.{Desk, Event, History, Refused, inbox_of, result}
use Rattle.agreement.specs.Run.{Run}
use Rattle.agreement.specs.Setting.{Lawful, Setting}
use Rattle.agreement.proofs.Acceptances.{parent_in_on}
use Rattle.agreement.proofs.Along.{desk-done}
use Rattle.agreement.proofs.Basics.{true-false}
use Rattle.agreement.proofs.Carried.{good-step, judge_denies, same_blocks_lem}
use Rattle.agreement.proofs.Cases.{NoteFor, proposed_cases}
use Rattle.agreement.specs.Laws.{OnShelf, shelf, stage, state}
use Rattle.agreement.proofs.Facts.{GoodMessage, NoteIs, OnIn, Primed}
use Rattle.agreement.proofs.Invariant.{ordered}
use Rattle.agreement.proofs.Keeps.{ParentIn, at_note_lem, parent_known, parent_new, proposed-leaves, shelve_cases}
use Rattle.agreement.proofs.Notes.{block_of, note-fine}
use Rattle.agreement.proofs.Shelved.{turns-below}

-- a later turn stands on the turn before
later-turn : (view turn height pview pturn : ℕ) → lawful_numbers view turn height pview pturn ≡ true → 0 < turn → (pview ≡ view) × (pturn + 1 ≡ turn) × (height ≡ 1 → ⊥)
later-turn view turn height pview pturn e l = grind arith

on_or_leaving : (f : Phase) (v : ℕ) → ((f ≡ On) × (cond (is_on f) (2 * v) (2 * v + 1) ≡ 2 * v)) ⊎ ((since : ℕ) × (f ≡ Leaving since) × (cond (is_on f) (2 * v) (2 * v + 1) ≡ 2 * v + 1))
on_or_leaving On v = inl (refl, refl)
on_or_leaving (Leaving since) v = inr (since, refl, refl)

module _ {S : ℕ} {R : Type 0} (b : Block R) where
  -- a seat at the slot of b, with b as its note or spoiled, is primed
  primed-at : (s : State S R) → at_slot s.phase s b ≡ true → (s.spoiled ≡ true) ⊎ NoteIs b s.round.note → Primed b s
  primed-at s slot how = elim (on_or_leaving s.phase s.view) [
    | inl o ↦
        let at : (eqb s.view b.rank.view && eqb s.turn b.rank.turn) ≡ true = subst (λ (f : Phase). at_slot f s b ≡ true) o.0 slot in
        let q = and_parts (eqb s.view b.rank.view) _ at in
        let v : s.view ≡ b.rank.view = eqb-true s.view b.rank.view q.0 in
        let l : stage s ≡ 2 * s.view = o.1 in
        inr (inr (inl (omega arith, (eqb-true s.turn b.rank.turn q.1, how))))
    | inr o ↦
        let at : (eqb (s.view + 1) b.rank.view && eqb b.rank.turn 0) ≡ true = subst (λ (f : Phase). at_slot f s b ≡ true) o.1 slot in
        let q = and_parts (eqb (s.view + 1) b.rank.view) _ at in
        let v : s.view + 1 ≡ b.rank.view = eqb-true (s.view + 1) b.rank.view q.0 in
        let l : stage s ≡ 2 * s.view + 1 = o.2 in
        inr (inr (inr (omega arith, (eqb-true b.rank.turn 0 q.1, how))))
  ]

  -- a seat that is not before the slot of b is primed or at it
  primed_or_slot : (s : State S R) → 2 * b.rank.view ≤ stage s + 1 → (0 < b.rank.turn → 2 * b.rank.view ≤ stage s) → (s.phase ≡ On → s.view ≡ b.rank.view → b.rank.turn ≤ s.turn) →
      Primed b s ⊎ (at_slot s.phase s b ≡ true)
  primed_or_slot s near far turns = elim (on_or_leaving s.phase s.view) [
    | inl o ↦
        let l : stage s ≡ 2 * s.view = o.1 in
        elim (cases_lt b.rank.view s.view) [
          | inl past ↦ inl (inl (omega arith))
          | inr not-past ↦
              let v : s.view ≡ b.rank.view = omega arith in
              let t : b.rank.turn ≤ s.turn = turns o.0 v in
              elim (cases_lt b.rank.turn s.turn) [
                | inl past ↦ inl (inr (inl (omega arith, past)))
                | inr same ↦ inr (subst (λ (f : Phase). at_slot f s b ≡ true) (sym o.0)
                    (and_from (eqb s.view b.rank.view) _ (eq-eqb s.view b.rank.view v) (eq-eqb s.turn b.rank.turn (omega arith))))
              ]
        ]
    | inr o ↦
        let l : stage s ≡ 2 * s.view + 1 = o.2 in
        elim (cases_lt s.view b.rank.view) [
          | inl before ↦
              let v : s.view + 1 ≡ b.rank.view = omega arith in
              elim (cases_lt 0 b.rank.turn) [
                | inl late ↦ let f : 2 * b.rank.view ≤ stage s = far late in absurd (omega arith)
                | inr first ↦ inr (subst (λ (f : Phase). at_slot f s b ≡ true) (sym o.1)
                    (and_from (eqb (s.view + 1) b.rank.view) _ (eq-eqb (s.view + 1) b.rank.view v) (eq-eqb b.rank.turn 0 (omega arith))))
              ]
          | inr past ↦ inl (inl (omega arith))
        ]
  ]

-- a proposal leaves view, phase and turn as they are once its parent was taken in
pub record SameSlot {S : ℕ} {R : Type 0} (s t : State S R) : Type 0 where
  pub phase : s.phase ≡ t.phase
  pub view : s.view ≡ t.view
  pub turn : s.turn ≡ t.turn

proposed_slot : {L S : ℕ} {R : Type 0} (k : Kind L R) (p : Terms) (b : Block R) (o : Outcome S R) → SameSlot (proposed k p b o).state o.state
proposed_slot {S} {R} k p b o =
    proposed_cases k p (λ (x : Outcome S R). SameSlot x.state o.state) b o (λ _. record { phase = refl; view = refl; turn = refl }) (λ _ _ _ _ _. record { phase = refl; view = refl; turn = refl }) (λ _ _ _ _ _. record { phase = refl; view = refl; turn = refl })
    (λ note _ _ _. cond_both (is_on o.state.phase && not o.state.blamed) _ _ (λ (x : Outcome S R). SameSlot x.state o.state) (λ _. record { phase = refl; view = refl; turn = refl }) (λ _. record { phase = refl; view = refl; turn = refl }))

module _ {L : ℕ} {R : Type 0} (S : ℕ) (k : Kind L R) (w : Setting) (law : Lawful w) where
  -- a note that a call leaves is lawful
  final-lawful : (e : Event) (p : History) (o : Outcome S R) (nb : Block R) → Run S k w (e ∷ p) → result S k w e p ≡ Ok o → block_of o.state.round.note ≡ Some nb → LawfulBlock k nb
  final-lawful e p o nb run r n =
      let f = desk-done S k w e p o r in
      (note-fine S k w law e.who (e ∷ p) run.0.driven.at_sound run).lawful nb (ap (λ (d : Desk S R). block_of d.state.round.note) f.1 ∙ n)

  -- the outcome of a proposal whose parent was taken in
  primes : (e : Event) (p : History) (b : Block R) (seal : List ℕ) (parent : Option (Certificate R (List ℕ))) (o : Outcome S R) → Run S k w (e ∷ p) → LawfulParts k S w.n (Proposal b seal parent) →
      result S k w e p ≡ Ok (proposed k (w.terms e.who) b o) → stage o.state ≡ stage (state S k w e.who p) → ParentIn parent o.blocks → (proposed k (w.terms e.who) b o).blocks ≡ o.blocks →
      2 * b.rank.view ≤ stage (state S k w e.who p) + 1 → (0 < b.rank.turn → 2 * b.rank.view ≤ stage (state S k w e.who p)) →
      Primed b (proposed k (w.terms e.who) b o).state
  primes e p b seal parent o run lawful r level there same near far =
      proposed_cases k t (λ (x : Outcome S R). x ≡ final → Primed b x.state) b o closed taking passing clashing refl
    where
      t : Terms
      t = w.terms e.who

      final : Outcome S R
      final = proposed k t b o

      slots : SameSlot final.state o.state
      slots = proposed_slot k t b o

      -- the turn before is on the shelf, so the seat's turn is past it
      turns : o.state.phase ≡ On → o.state.view ≡ b.rank.view → b.rank.turn ≤ o.state.turn
      turns on view = elim (cases_lt 0 b.rank.turn) [
        | inr none ↦ omega arith
        | inl late ↦
            let done = desk-done S k w e p final r in
            let numbers = later-turn b.rank.view b.rank.turn b.height b.parent.view b.parent.turn lawful.0.numbers late in
            let on_after : OnIn S k w e.who b.rank.view (e ∷ p) =
            (ap (λ (d : Desk S R). d.state.phase) done.1 ∙ slots.phase ∙ on, ap (λ (d : Desk S R). d.state.view) done.1 ∙ slots.view ∙ view) in
            let turn-after : (state S k w e.who (e ∷ p)).turn ≡ o.state.turn = ap (λ (d : Desk S R). d.state.turn) done.1 ∙ slots.turn in
            let shelf-after : shelf S k w e.who (e ∷ p) ≡ o.blocks = ap (λ (d : Desk S R). d.blocks) done.1 ∙ same in
            elim (parent_in_on S k w b parent o.blocks lawful.2 there) [
              | inl one ↦ absurd (numbers.2 one)
              | inr x ↦
                  let below : x.0.rank.turn < (state S k w e.who (e ∷ p)).turn =
                  turns-below S k w law e.who b.rank.view (e ∷ p) x.0 run.0.driven.at_sound run on_after
                  (subst (λ (xs : List (Block R)). OnShelf x.0 xs) (sym shelf-after) x.1) (ap (λ (q : Rank). q.view) x.2 ∙ numbers.0) in
                  let pt : x.0.rank.turn ≡ b.parent.turn = ap (λ (q : Rank). q.turn) x.2 in
                  let up : b.parent.turn + 1 ≡ b.rank.turn = numbers.1 in
                  omega arith
            ]
      ]

      which : Primed b o.state ⊎ (at_slot o.state.phase o.state b ≡ true)
      which = primed_or_slot b o.state (subst (λ (x : ℕ). 2 * b.rank.view ≤ x + 1) (sym level) near) (λ late. subst (λ (x : ℕ). 2 * b.rank.view ≤ x) (sym level) (far late)) turns

      off : (x : Bool) → not x ≡ false → x ≡ true
      off true q = refl
      off false q = absurd (true-false q)

      closed : slot_open o.state b ≡ false → o ≡ final → Primed b o.state
      closed shut _ = elim which [
        | inl q ↦ q
        | inr slot ↦ elim (and_cases (not o.state.spoiled) (at_slot o.state.phase o.state b) shut) [
          | inl q ↦ primed-at b o.state slot (inl (off o.state.spoiled q))
          | inr q ↦ absurd (true-false (sym slot ∙ q))
        ]
      ]

      -- the slot of a seat that is spoiled is the same
      at_spoilt : (f : Phase) (s : State S R) → at_slot f s b ≡ true → at_slot f (with_spoiled true s) b ≡ true
      at_spoilt On s q = q
      at_spoilt (Leaving since) s q = q

      at-blamed : (f : Phase) (s : State S R) → at_slot f s b ≡ true → at_slot f (with_blamed true s) b ≡ true
      at-blamed On s q = q
      at-blamed (Leaving since) s q = q

      is_b : (x : Outcome S R) (note : Note R) → x ≡ final → block_of x.state.round.note ≡ Some note.block → NoteFor k b o.state.round.note note → note.block ≡ b
      is_b x note it n (inl f) = ap (λ (y : Note R). y.block) f.1
      is_b x note it n (inr f) =
          same_blocks_lem k note.block b (final-lawful e p x note.block run (r ∙ ap (λ (y : Outcome S R). Ok y) (sym it)) n) lawful.0 f.1

      taking : (note : Note R) (rest : Word) → slot_open o.state b ≡ true → NoteFor k b o.state.round.note note → (rest ≡ Noted) ⊎ (rest ≡ o.word) → adds o rest None None (with_note (Some note) o.state) ≡ final → Primed b (with_note (Some note) o.state)
      taking note rest slot fit _ it =
          primed-at b (with_note (Some note) o.state) (at_note_lem o.state.phase o.state (Some note) b ∙ (and_parts (not o.state.spoiled) _ slot).1)
          (inr (is_b (adds o rest None None (with_note (Some note) o.state)) note it refl fit))

      passing : (note : Note R) → slot_open o.state b ≡ true → NoteFor k b o.state.round.note note → acceptable o.state note.block ≡ true → is_some note.accepted ≡ false → adds o Accepted (Some relay) None (with_note (Some (accepted_at o.state.now note)) o.state) ≡ final →
          Primed b (with_note (Some (accepted_at o.state.now note)) o.state)
      passing note slot fit _ _ it =
          primed-at b (with_note (Some (accepted_at o.state.now note)) o.state) (at_note_lem o.state.phase o.state (Some (accepted_at o.state.now note)) b ∙ (and_parts (not o.state.spoiled) _ slot).1)
          (inr (is_b (adds o Accepted (Some relay) None (with_note (Some (accepted_at o.state.now note)) o.state)) note it refl fit))

      clashing : (note : Note R) → slot_open o.state b ≡ true → o.state.round.note ≡ Some note → same_block k note.block b ≡ false → clashes t o ≡ final → Primed b (clashes t o).state
      clashing note slot _ _ _ =
          let at : at_slot o.state.phase o.state b ≡ true = (and_parts (not o.state.spoiled) _ slot).1 in
          cond_both (is_on o.state.phase && not o.state.blamed) (adds o Clash (Some relay) (Some (own_blame t o.state)) (with_blamed true (with_spoiled true o.state))) (adds o Clash (Some relay) None (with_spoiled true o.state))
          (λ (x : Outcome S R). Primed b x.state)
          (λ _. primed-at b (with_blamed true (with_spoiled true o.state)) (at-blamed o.state.phase (with_spoiled true o.state) (at_spoilt o.state.phase o.state at)) (inl refl))
          (λ _. primed-at b (with_spoiled true o.state) (at_spoilt o.state.phase o.state at) (inl refl))

  pub proposal-carried : (e : Event) (p : History) (b : Block R) (seal : List ℕ) (parent : Option (Certificate R (List ℕ))) → Run S k w (e ∷ p) →
      GoodMessage S k w (Proposal b seal parent) e → (Refused S k w Orphan e p → ⊥) → (Refused S k w Rival e p → ⊥) → (Refused S k w Fork e p → ⊥) →
      (2 * b.rank.view ≤ stage (state S k w e.who p) + 1) → (0 < b.rank.turn → 2 * b.rank.view ≤ stage (state S k w e.who p)) →
      Primed b (state S k w e.who (e ∷ p))
  proposal-carried e p b seal parent run good orphan rival fork near far = by parent refl
    where
      t : Terms
      t = w.terms e.who

      s : State S R
      s = state S k w e.who p

      bs : List (Block R)
      bs = shelf S k w e.who p

      cells : ℕ
      cells = w.cells e.who

      steps : result S k w e p ≡ proposal k t s bs cells b parent
      steps = (good-step S k w law e.who e.what p (Proposal b seal parent) run.0.driven good).0

      lawful : LawfulParts k S w.n (Proposal b seal parent)
      lawful = lawful-from_read k S w.n (inbox_of e.what) (Proposal b seal parent) run.0.driven.in_bytes good.0

      finished : (o : Outcome S R) → result S k w e p ≡ Ok (proposed k t b o) → stage o.state ≡ stage s → ParentIn parent o.blocks → Primed b (state S k w e.who (e ∷ p))
      finished o r level there =
          let q = primes e p b seal parent o run lawful r level there (proposed-leaves k t b o).1 near far in
          subst (λ (d : Desk S R). Primed b d.state) (sym (desk-done S k w e p (proposed k t b o) r).1) q

      taking : (c : Certificate R (List ℕ)) (x : Result Verdict Refusal) → parent ≡ Some c → judge_in k s bs cells c.block ≡ x →
          result S k w e p ≡ carried (proposed k t b) (carried (taken s bs c (write (Certified c))) x) → Primed b (state S k w e.who (e ∷ p))
      taking c (Ok Known) some j r = finished (idle s bs) r refl (subst (λ y. ParentIn y bs) (sym some) (parent_known k s bs cells c j))
      taking c (Ok New) some j r =
          finished (taken s bs c (write (Certified c)) New) r (shelve_cases (λ (y : State S R). stage y ≡ stage s) c s (λ _. refl) (λ _. refl) (λ _ _. refl))
          (subst (λ y. ParentIn y (bs ++ (c.block ∷ []))) (sym some) (parent_new bs c))
      taking c (Err x) some j r =
          elim (judge_denies k s bs cells c.block (ordered S k w law e.who p run.1).core_sane.grown x j) [
            | inl q ↦ absurd (orphan (subst (λ y. Refused S k w y e p) q r))
            | inr (inl q) ↦ absurd (rival (subst (λ y. Refused S k w y e p) q r))
            | inr (inr (inl q)) ↦ absurd (run.0.driven.never_full (subst (λ y. Refused S k w y e p) q r))
            | inr (inr (inr q)) ↦ absurd (fork (subst (λ y. Refused S k w y e p) q r))
          ]

      by : (x : Option (Certificate R (List ℕ))) → parent ≡ x → Primed b (state S k w e.who (e ∷ p))
      by None none = finished (idle s bs) (steps ∙ ap (λ x. proposal k t s bs cells b x) none) refl (subst (λ x. ParentIn x bs) (sym none) tt)
      by (Some c) some =
          taking c (judge_in k s bs cells c.block) some refl (steps ∙ ap (λ x. proposal k t s bs cells b x) some)
