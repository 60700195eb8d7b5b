-- A primed seat stays primed, and votes at that rank for no other block.
use Rattle.std.proofs.Common.{◌≡◌, ℕ, ◌+◌, ◌*◌, ◌<◌, min, Bool, true, false, cond, ◌&&◌, ◌||◌, eqb, ltb, ◌⊎◌, List, [], ◌∷◌, ◌++◌, Some, None, Option, sym, refl, ap, ◌∙◌, subst, inl, inr, arith}
use Rattle.std.proofs.lemmas.Bool.{and_parts, eqb-true, eqb-false, ltb-true, or_cases}
use Rattle.content.specs.Kinds.{Kind}
use Rattle.blocks.specs.declared.block.Block.{Block}
use Rattle.wire.specs.Lawful.{LawfulBlock}
use Rattle.wire.specs.declared.message.Certificate.{Certificate}
use Rattle.shelf.specs.Blocks.{top_turn}
use Rattle.state.specs.HandIn.{accepted_at, last_view}
use Rattle.state.specs.Parts.{is_on, leave, turn_rises, with_best, with_note, with_spoiled}
use Rattle.state.specs.TakeIn.{better, shelve}
use Rattle.state.specs.Tick.{enter, turn_after, voted_for}
use Rattle.state.specs.declared.state.Note.{Note}
use Rattle.state.specs.declared.state.Phase.{Phase}
use Rattle.state.specs.declared.state.Phase.TheVariants.{On, Leaving}
use Rattle.state.specs.declared.state.State.{State}
use Rattle.agreement.specs.History.{Desk, Event, History}
use Rattle.agreement.specs.Run.{Moment, Run}
use Rattle.agreement.specs.Setting.{Lawful, Setting, Sound}
use Rattle.agreement.proofs.Along.{Kept, keep_call}
use Rattle.agreement.proofs.Basics.{true-false}
use Rattle.agreement.specs.Laws.{Earlier, stage, state}
use Rattle.agreement.proofs.Facts.{NoteIs, Primed}
use Rattle.agreement.proofs.Invariant.{whose}
use Rattle.agreement.proofs.Keeps.{fresh_note, shelve_cases}
use Rattle.agreement.proofs.Notes.{NoteInv, note-fine, note-kept}
use Rattle.agreement.proofs.Steps.{desk-other}

note-is : {R : Type 0} (b : Block R) (old : Option (Note R)) (note : Note R) → old ≡ Some note → NoteIs b old → note.block ≡ b
note-is b old note e q = subst (λ x. NoteIs b x) e q

note-none : {R : Type 0} (b : Block R) (old : Option (Note R)) → old ≡ None → NoteIs b old → ⊥
note-none b old e q = subst (λ x. NoteIs b x) e q

on-stage : (f : Phase) (view : ℕ) → is_on f ≡ true → cond (is_on f) (2 * view) (2 * view + 1) ≡ 2 * view
on-stage f view e = ap (λ (x : Bool). cond x (2 * view) (2 * view + 1)) e

pub leave-above : (f : Phase) (view v : ℕ) → (ltb view v || (is_on f && eqb view v)) ≡ true → cond (is_on f) (2 * view) (2 * view + 1) < 2 * v + 1
leave-above On view v t = elim (or_cases (ltb view v) (eqb view v) t) [
  | inl q ↦ let l : view < v = ltb-true view v q in omega arith
  | inr q ↦ let l : view ≡ v = eqb-true view v q in omega arith
]
leave-above (Leaving since) view v t = elim (or_cases (ltb view v) false t) [
  | inl q ↦ let l : view < v = ltb-true view v q in omega arith
  | inr q ↦ absurd (true-false (sym q))
]

module _ {S : ℕ} {R : Type 0} (b : Block R) where
  primed-note : (s : State S R) (new : Option (Note R)) → (NoteIs b s.round.note → NoteIs b new) → Primed b s → Primed b (with_note new s)
  primed-note s new f (inl q) = inl q
  primed-note s new f (inr (inl q)) = inr (inl q)
  primed-note s new f (inr (inr (inl (a, (t, inl q))))) = inr (inr (inl (a, (t, inl q))))
  primed-note s new f (inr (inr (inl (a, (t, inr q))))) = inr (inr (inl (a, (t, inr (f q)))))
  primed-note s new f (inr (inr (inr (a, (t, inl q))))) = inr (inr (inr (a, (t, inl q))))
  primed-note s new f (inr (inr (inr (a, (t, inr q))))) = inr (inr (inr (a, (t, inr (f q)))))

  primed_spoilt : (s : State S R) → Primed b s → Primed b (with_spoiled true s)
  primed_spoilt s (inl q) = inl q
  primed_spoilt s (inr (inl q)) = inr (inl q)
  primed_spoilt s (inr (inr (inl q))) = inr (inr (inl (q.0, (q.1.0, inl refl))))
  primed_spoilt s (inr (inr (inr q))) = inr (inr (inr (q.0, (q.1.0, inl refl))))

  primed-turn : (s : State S R) (t : ℕ) → is_on s.phase ≡ true → b.rank.turn < 65536 → t ≡ min (s.turn + 1) 4294967295 → Primed b s → Primed b (turn_rises t s)
  primed-turn s t on low e (inl q) = inl q
  primed-turn s t on low e (inr (inl q)) = let l = q.1 in inr (inl (q.0, omega arith))
  primed-turn s t on low e (inr (inr (inl q))) = let l : s.turn ≡ b.rank.turn = q.1.0 in inr (inl (q.0, omega arith))
  primed-turn s t on low e (inr (inr (inr q))) =
      let z : stage s ≡ 2 * s.view = on-stage s.phase s.view on in
      let y : stage s + 1 ≡ 2 * b.rank.view = q.0 in
      absurd (omega arith)

  primed-leave : (s : State S R) (v : ℕ) → (ltb s.view v || (is_on s.phase && eqb s.view v)) ≡ true → Primed b s → Primed b (leave v s)
  primed-leave s v t q = inl (by q)
    where
      above : stage s < 2 * v + 1
      above = leave-above s.phase s.view v t

      by : Primed b s → 2 * b.rank.view < 2 * v + 1
      by (inl q) = let a : stage s < 2 * v + 1 = above in omega arith
      by (inr (inl q)) = let a : stage s < 2 * v + 1 = above in let z : stage s ≡ 2 * b.rank.view = q.0 in omega arith
      by (inr (inr (inl q))) = let a : stage s < 2 * v + 1 = above in let z : stage s ≡ 2 * b.rank.view = q.0 in omega arith
      by (inr (inr (inr q))) = let a : stage s < 2 * v + 1 = above in let z : stage s + 1 ≡ 2 * b.rank.view = q.0 in omega arith

  -- a view is entered
  primed-enter : (s : State S R) (since v t : ℕ) → s.phase ≡ Leaving since → v ≡ s.view + 1 → Primed b s → Primed b (enter v t s)
  primed-enter s since v t leaving up q = by q
    where
      odd : stage s ≡ 2 * s.view + 1
      odd = ap (λ (f : Phase). cond (is_on f) (2 * s.view) (2 * s.view + 1)) leaving

      at : (z : Bool) → eqb t 0 ≡ z → 2 * v ≡ 2 * b.rank.view → b.rank.turn ≡ 0 → (s.spoiled ≡ true) ⊎ NoteIs b s.round.note → Primed b (enter v t s)
      at true e same none how =
          let tz : t ≡ 0 = eqb-true t 0 e in
          inr (inr (inl (same, (tz ∙ sym none, subst (λ (x : Bool). (s.spoiled ≡ true) ⊎ NoteIs b (cond x s.round (record { note = None; votes = s.round.votes; offered = s.round.offered })).note) (sym e) how))))
      at false e same none how =
          let tz : t ≡ 0 → ⊥ = eqb-false t 0 e in
          inr (inl (same, omega arith))

      by : Primed b s → Primed b (enter v t s)
      by (inl q) = let o : stage s ≡ 2 * s.view + 1 = odd in inl (omega arith)
      by (inr (inl q)) = let o : stage s ≡ 2 * s.view + 1 = odd in let z : stage s ≡ 2 * b.rank.view = q.0 in absurd (omega arith)
      by (inr (inr (inl q))) = let o : stage s ≡ 2 * s.view + 1 = odd in let z : stage s ≡ 2 * b.rank.view = q.0 in absurd (omega arith)
      by (inr (inr (inr q))) =
          let o : stage s ≡ 2 * s.view + 1 = odd in
          let z : stage s + 1 ≡ 2 * b.rank.view = q.0 in
          at (eqb t 0) refl (omega arith) q.1.0 q.1.1

  primed-shelve : (c : Certificate R (List ℕ)) (s : State S R) → b.rank.turn < 65536 → Primed b s → Primed b (shelve c s)
  primed-shelve c s low q =
      shelve_cases (Primed b) c s (λ _. q)
      (λ at. primed-turn (with_best (better s.best c) s) _ (and_parts (is_on s.phase) _ at).0 low refl q)
      (λ at _. primed-turn (with_best (better s.best c) s) _ (and_parts (is_on s.phase) _ at).0 low refl q)

module _ {L : ℕ} {R : Type 0} (S : ℕ) (k : Kind L R) (w : Setting) (law : Lawful w) where
  pub primed-kept : (b : Block R) (e : Event) (p : History) → LawfulBlock k b → Moment S k w e p → Kept S k w e p (λ s bs. NoteInv S k w e.who p s bs × Primed b s)
  primed-kept b e p lawful now = record {
    slips = λ s bs out q. q;
    noted = λ s bs c seal parent got there slot none q.
        (notes.noted s bs c seal parent got there slot none q.0, primed-note b s (Some (fresh_note c)) (λ n. absurd (note-none b s.round.note none n)) q.1);
    accepts = λ s bs note c seal parent got there slot n same able o ends st bl se q.
        (notes.accepts s bs note c seal parent got there slot n same able o ends st bl se q.0, primed-note b s (Some (accepted_at s.now note)) (λ x. note-is b s.round.note note n x) q.1);
    spoils = λ s bs note c slot n differs q. (q.0, primed_spoilt b s q.1);
    blames_own = λ s bs q. q;
    keeps_vote = λ s bs i c seal got t q. q;
    keeps_blame = λ s bs row q. q;
    shelves = λ s c source new o ends high more q. (notes.shelves s c source new o ends high more q.0, primed-shelve b c s lawful.turn q.1);
    leaves_view = λ s bs v why low t q. (notes.leaves_view s bs v why low t q.0, primed-leave b s v t q.1);
    clock_ticks = λ s bs q. q;
    enters = λ s bs since leaving q. (
      notes.enters s bs since leaving q.0,
      primed-enter b s since (min (s.view + 1) last_view) (turn_after (top_turn (min (s.view + 1) last_view) bs)) leaving
          (let l : s.view < 65535 = q.0.leaving_low since leaving in omega arith) q.1,
    );
    votes_own = λ s bs note on n q. (notes.votes_own s bs note on n q.0, primed-note b s (Some (voted_for note)) (λ x. note-is b s.round.note note n x) q.1);
    offers_own = λ s bs on fresh room q. q;
  }
    where
      notes : Kept S k w e p (NoteInv S k w e.who p)
      notes = note-kept S k w law e p p (λ i st q. q) now

  -- one call leaves a primed seat primed
  pub primed-step : (i : ℕ) (e : Event) (p : History) (b : Block R) → Sound w i → Run S k w (e ∷ p) → LawfulBlock k b → Primed b (state S k w i p) → Primed b (state S k w i (e ∷ p))
  primed-step i e p b sound run lawful q =
      elim (whose e.who i) [
        | inl mine ↦
            let same : i ≡ e.who = sym mine in
            subst (λ (j : ℕ). Primed b (state S k w j (e ∷ p))) (sym same)
            (keep_call S k w law (λ s bs. NoteInv S k w e.who p s bs × Primed b s) e p run.0 (primed-kept b e p lawful run.0)
            (note-fine S k w law e.who p run.0.driven.at_sound run.1, subst (λ (j : ℕ). Primed b (state S k w j p)) same q)).1
        | inr other ↦ subst (λ (d : Desk S R). Primed b d.state) (sym (desk-other S k w i e p other)) q
      ]

  primed-later : (i : ℕ) (p q : History) (b : Block R) → Sound w i → Run S k w (q ++ p) → LawfulBlock k b → Primed b (state S k w i p) → Primed b (state S k w i (q ++ p))
  primed-later i p [] b sound run lawful x = x
  primed-later i p (e ∷ q) b sound run lawful x = primed-step i e (q ++ p) b sound run lawful (primed-later i p q b sound run.1 lawful x)

  -- and so does a run
  pub primed-stays : (i : ℕ) (p h : History) (b : Block R) → Sound w i → Run S k w h → LawfulBlock k b → Earlier p h → Primed b (state S k w i p) → Primed b (state S k w i h)
  primed-stays i p h b sound run lawful (q, e) x =
      subst (λ (g : History). Primed b (state S k w i g)) (sym e) (primed-later i p q b sound (subst (λ (g : History). Run S k w g) e run) lawful x)
