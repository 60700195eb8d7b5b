-- Why a certificate is refused as an orphan, a rival or a fork.
use Rattle.std.proofs.Common.{◌≡◌, ℕ, ◌+◌, ◌≤◌, Bool, true, false, cond, not, ◌&&◌, ◌||◌, eqb, ltb, leb, ◌⊎◌, List, ◌∷◌, length, Some, None, Ok, Err, Option, Result, sym, refl, ap, ◌∙◌, subst, inl, inr, arith}
use Rattle.std.proofs.lemmas.Bool.{and_parts, cases_Bool, cond-true, cond-false, eqb-true, eq-eqb}
use Rattle.std.specs.Option.{ok_or}
use Rattle.content.specs.Kinds.{Kind, read_content}
use Rattle.content.specs.Refusals.{number_of}
use Rattle.content.specs.declared.refusal.Refusal.{Refusal}
use Rattle.content.specs.declared.refusal.Refusal.TheVariants.{Fork, LastTick, LastView, NoContent, NoLawfulParent, NoPlaceLeft, NotLeader, OfferLeaving, OfferSpoiled, OfferTooSoon, OfferedAlready, Orphan, Rival, Short, SlipOut, SmallOutbox, Trailing}
use Rattle.blocks.specs.Ranks.{below, parent_of, same_block}
use Rattle.blocks.specs.declared.block.Block.{Block}
use Rattle.wire.specs.Asked.{asked, judge, opened}
use Rattle.wire.specs.Reading.{next, read_parts}
use Rattle.wire.specs.declared.message.Certificate.{Certificate}
use Rattle.wire.specs.declared.message.Parts.{Parts}
use Rattle.wire.specs.declared.message.Parts.TheVariants.{Proposal, Vote, Blame, Certified, Notice}
use Rattle.wire.proofs.OneForm.{lawful-from_read}
use Rattle.shelf.proofs.Ancestry.{find-rank}
use Rattle.shelf.specs.Blocks.{read_below}
use Rattle.state.specs.Calls.{guarded, last_tick_of, least_outbox}
use Rattle.state.specs.HandIn.{add_seal, carried, certificate_of, completed, countable, counted, hand_parts, has_seal, is_note, last_view, proposed, quorate, taken, take_in}
use Rattle.state.specs.Offer.{can_carry, last_height, last_turn, next_height, offers, too_soon}
use Rattle.state.specs.Parts.{is_on, with_votes}
use Rattle.state.specs.Sends.{Outcome, relay, write}
use Rattle.state.specs.TakeIn.{here, judge_in, one_up, parent_there}
use Rattle.state.specs.declared.state.State.{State}
use Rattle.state.specs.declared.state.Terms.{Terms}
use Rattle.agreement.specs.History.{Call, Desk, Event, History, Refused, desk, hand, inbox_of, offer, outcome, sent, tick}
use Rattle.agreement.specs.Run.{Run}
use Rattle.agreement.specs.Setting.{Lawful, Setting, Sound}
use Rattle.agreement.proofs.Acceptances.{phase-on}
use Rattle.agreement.proofs.Along.{Ends, Handed}
use Rattle.agreement.proofs.Ballots.{VoteInv, source-voted, vote-kept, votes_fine}
use Rattle.agreement.proofs.Basics.{err_ok, err_same, ok_same, true-false}
use Rattle.agreement.proofs.Carried.{Denies, denies_either, denies_err, denies_ok}
use Rattle.agreement.proofs.Cases.{next_ok}
use Rattle.agreement.proofs.Commits.{committed-below}
use Rattle.agreement.specs.Laws.{OnShelf, ParentOn, shelf, state}
use Rattle.agreement.proofs.Facts.{Candidate, OnIn}
use Rattle.agreement.proofs.Keeps.{Source}
use Rattle.agreement.proofs.OneStep.{parent-from_test}
use Rattle.agreement.proofs.Shelved.{one-a-rank}
use Rattle.agreement.proofs.Shelves.{on-from-find}
use Rattle.agreement.proofs.Statements.{same_self}
use Rattle.agreement.proofs.Unread.{Unread, unread, unsealed}
use Rattle.agreement.proofs.Verdicts.{ForkThere, RefusedThere, rank-found, refused-there}

-- a refusal that has to do with a certificate that is taken in, by its number
abbrev pub Shelving : Refusal → Type 0
Shelving x = (9 ≤ number_of x) × (number_of x ≤ 12)

-- what a refused step came to
next_err : {X Y : Type 0} (r : Result X Refusal) (f : X → Result Y Refusal) (x : Refusal) → next r f ≡ Err x → (r ≡ Err x) ⊎ ((a : X) × (r ≡ Ok a) × (f a ≡ Err x))
next_err (Ok a) f x e = inr (a, refl, e)
next_err (Err y) f x e = inl (ap (λ (z : Refusal). Err z) (err_same e))

carried_err : {X Y : Type 0} (f : X → Y) (r : Result X Refusal) (x : Refusal) → carried f r ≡ Err x → r ≡ Err x
carried_err f (Ok a) x e = absurd (err_ok (sym e))
carried_err f (Err y) x e = ap (λ (z : Refusal). Err z) (err_same e)

-- a step that is refused otherwise, or goes on
past : {X : Type 0} (b : Bool) (y : Refusal) (r : Result X Refusal) (x : Refusal) → Shelving x → (Shelving y → ⊥) → cond b (Err y) r ≡ Err x → r ≡ Err x
past true y r x s n e = absurd (n (subst Shelving (sym (err_same e)) s))
past false y r x s n e = e

guarded_err : {S : ℕ} {R X : Type 0} (s : State S R) (room : ℕ) (r : Result X Refusal) (x : Refusal) → Shelving x → guarded s room r ≡ Err x → r ≡ Err x
guarded_err s room r x sh e =
    past (ltb room least_outbox) SmallOutbox r x sh (λ n. let h = n.1 in omega arith) (past s.slip SlipOut _ x sh (λ n. let h = n.1 in omega arith) e)

no-offer : {X : Type 0} (x : Refusal) → Shelving x → (b₁ b₂ b₃ b₄ b₅ b₆ b₇ : Bool) (o : X) →
    cond b₁ (Err NotLeader) (cond b₂ (Err OfferLeaving) (cond b₃ (Err OfferSpoiled) (cond b₄ (Err OfferedAlready) (cond b₅ (Err NoPlaceLeft) (cond b₆ (Err OfferTooSoon) (cond b₇ (Ok o) (Err NoLawfulParent))))))) ≡ Err x → ⊥
no-offer x sh b₁ b₂ b₃ b₄ b₅ b₆ b₇ o e =
    let g₁ = past b₁ NotLeader _ x sh (λ n. let h = n.1 in omega arith) e in
    let g₂ = past b₂ OfferLeaving _ x sh (λ n. let h = n.1 in omega arith) g₁ in
    let g₃ = past b₃ OfferSpoiled _ x sh (λ n. let h = n.1 in omega arith) g₂ in
    let g₄ = past b₄ OfferedAlready _ x sh (λ n. let h = n.1 in omega arith) g₃ in
    let g₅ = past b₅ NoPlaceLeft _ x sh (λ n. let h = n.1 in omega arith) g₄ in
    let g₆ = past b₆ OfferTooSoon _ x sh (λ n. let h = n.1 in omega arith) g₅ in
    last b₇ g₆
  where
    last : (b : Bool) → cond b (Ok o) (Err NoLawfulParent) ≡ Err x → ⊥
    last true f = err_ok (sym f)
    last false f = let n : Shelving NoLawfulParent = subst Shelving (sym (err_same f)) sh in let h = n.1 in omega arith

module _ {L : ℕ} {R : Type 0} (S : ℕ) (k : Kind L R) (w : Setting) where
  -- the certificate that a call was refused for
  pub record RefusedFor (e : Event) (p : History) (x : Refusal) : Type 0 where
    pub certificate : Certificate R (List ℕ)
    pub seat : State S R
    pub source : Source k (w.terms e.who) (w.cells e.who) (Handed S k w e) (Ends S k w e p) (shelf S k w e.who p) seat certificate
    pub fine : VoteInv S k w e.who p seat (shelf S k w e.who p)
    pub refused : judge_in k seat (shelf S k w e.who p) (w.cells e.who) certificate.block ≡ Err x
    pub phase : seat.phase ≡ (state S k w e.who p).phase
    pub view : seat.view ≡ (state S k w e.who p).view
    pub committed : seat.committed ≡ (state S k w e.who p).committed

module _ {L : ℕ} {R : Type 0} (S : ℕ) (k : Kind L R) (w : Setting) (law : Lawful w) where
  refused_for : (e : Event) (p : History) (x : Refusal) → Run S k w (e ∷ p) → Shelving x → Refused S k w x e p → RefusedFor S k w e p x
  refused_for e p x run sh r = call e.what refl
    where
      d : Desk S R
      d = desk S k w e.who p

      t : Terms
      t = w.terms e.who

      cells : ℕ
      cells = w.cells e.who

      sound : Sound w e.who
      sound = run.0.driven.at_sound

      fine : VoteInv S k w e.who p d.state d.blocks
      fine = votes_fine S k w law e.who p sound run.1

      low : Unread x → ⊥
      low u = let h = sh.0 in omega arith

      last_view_lem : Shelving LastView → ⊥
      last_view_lem n = let h = n.0 in omega arith

      plain : (c : Certificate R (List ℕ)) → Source k t cells (Handed S k w e) (Ends S k w e p) d.blocks d.state c → judge_in k d.state d.blocks cells c.block ≡ Err x → RefusedFor S k w e p x
      plain c source j = record { certificate = c; seat = d.state; source = source; fine = fine; refused = j; phase = refl; view = refl; committed = refl }

      parts : (m : Parts R (List ℕ)) → Handed S k w e m → hand_parts k t d.state d.blocks cells m ≡ Err x → RefusedFor S k w e p x
      parts (Proposal b seal None) got q = absurd (err_ok (sym q))
      parts (Proposal b seal (Some c)) got q =
          plain c (inr (inl (b, seal, got)))
          (carried_err (taken d.state d.blocks c (write (Certified c))) (judge_in k d.state d.blocks cells c.block) x
          (carried_err (proposed k t b) (take_in k d.state d.blocks cells c (write (Certified c))) x q))
      parts (Vote i b seal) got q = elim (cases_Bool (countable k d.state i b)) [
        | inr lacks ↦ absurd (err_ok (sym (sym (cond-false (countable k d.state i b) _ _ lacks) ∙ q)))
        | inl counts ↦
            let s' : State S R = with_votes (add_seal d.state.round.votes i seal) d.state in
            let c : Certificate R (List ℕ) = certificate_of b (add_seal d.state.round.votes i seal) in
            let q' : cond (quorate t s'.round.votes) (carried (completed s' d.blocks c) (judge_in k s' d.blocks cells b)) (Ok (counted s' d.blocks)) ≡ Err x = sym (cond-true (countable k d.state i b) _ _ counts) ∙ q in
            elim (cases_Bool (quorate t s'.round.votes)) [
              | inr lacks ↦ absurd (err_ok (sym (sym (cond-false (quorate t s'.round.votes) _ _ lacks) ∙ q')))
              | inl full ↦
                  let on = and_parts (is_on d.state.phase) _ counts in
                  let note = and_parts (is_note k d.state.round.note b) _ on.1 in
                  record {
                    certificate = c;
                    seat = s';
                    source = inr (inr (i, seal, got, on.0, note.0, full));
                    fine = (vote-kept S k w law e p run.0 run.1).keeps_vote d.state d.blocks i b seal got counts fine;
                    refused = carried_err (completed s' d.blocks c) (judge_in k s' d.blocks cells b) x (sym (cond-true (quorate t s'.round.votes) _ _ full) ∙ q');
                    phase = refl;
                    view = refl;
                    committed = refl;
                  }
            ]
      ]
      parts (Blame i view seal) got q =
          absurd (oks (is_on d.state.phase && (eqb d.state.view view && not (has_seal d.state.blames i))) _ _ (past (eqb view last_view) LastView _ x sh last_view_lem q))
        where
          oks : (b : Bool) (y z : Outcome S R) → cond {A = Result (Outcome S R) Refusal} b (Ok y) (Ok z) ≡ Err x → ⊥
          oks true y z f = err_ok (sym f)
          oks false y z f = err_ok (sym f)
      parts (Certified c) got q = plain c (inl got) (carried_err (taken d.state d.blocks c relay) (judge_in k d.state d.blocks cells c.block) x q)
      parts (Notice view mask seals) got q =
          absurd (oks (ltb d.state.view view || (is_on d.state.phase && eqb d.state.view view)) _ _ (past (eqb view last_view) LastView _ x sh last_view_lem q))
        where
          oks : (b : Bool) (y z : Outcome S R) → cond {A = Result (Outcome S R) Refusal} b (Ok y) (Ok z) ≡ Err x → ⊥
          oks true y z f = err_ok (sym f)
          oks false y z f = err_ok (sym f)

      call : (c : Call) → e.what ≡ c → RefusedFor S k w e p x
      call (hand inbox room) c =
          let r' : outcome k w e.who (hand inbox room) d ≡ Err x = ap (λ c. outcome k w e.who c d) (sym c) ∙ r in
          elim (next_err (opened k S t.seats.n w.leader w.accepts inbox) (hand_parts k t d.state d.blocks cells) x (guarded_err d.state room _ x sh r')) [
            | inl q ↦ elim (next_err (read_parts k S t.seats.n inbox) _ x q) [
              | inl u ↦ absurd (low (unread k S t.seats.n inbox x u))
              | inr m ↦ elim (next_err (judge w.accepts (asked k S t.seats.n w.leader m.0)) _ x m.2) [
                | inl u ↦ absurd (low (unsealed w.accepts (asked k S t.seats.n w.leader m.0) x u))
                | inr u ↦ absurd (err_ok (sym u.2))
              ]
            ]
            | inr m ↦
                let a = next_ok (read_parts k S t.seats.n inbox) _ m.0 m.1 in
                let b = next_ok (judge w.accepts (asked k S t.seats.n w.leader a.0)) _ m.0 a.2 in
                let same : a.0 ≡ m.0 = ok_same b.2 in
                let n : t.seats.n ≡ w.n = law.shares_n e.who sound in
                let box : inbox ≡ inbox_of e.what = ap inbox_of (sym c) in
                let reads : read_parts k S w.n (inbox_of e.what) ≡ Ok a.0 =
                subst (λ (xs : List ℕ). read_parts k S w.n xs ≡ Ok a.0) box (subst (λ (j : ℕ). read_parts k S j inbox ≡ Ok a.0) n a.1) in
                let good : judge w.accepts (asked k S w.n w.leader a.0) ≡ Ok tt = subst (λ (j : ℕ). judge w.accepts (asked k S j w.leader a.0) ≡ Ok tt) n b.1 in
                parts a.0 ((reads, good), lawful-from_read k S w.n (inbox_of e.what) a.0 run.0.driven.in_bytes reads) (ap (hand_parts k t d.state d.blocks cells) same ∙ m.2)
          ]
      call (tick room) c =
          let r' : outcome k w e.who (tick room) d ≡ Err x = ap (λ c. outcome k w e.who c d) (sym c) ∙ r in
          absurd (err_ok (sym (past (leb last_tick_of d.state.now) LastTick _ x sh (λ n. let h = n.1 in omega arith) (guarded_err d.state room _ x sh r'))))
      call (offer content room) c =
          let r' : outcome k w e.who (offer content room) d ≡ Err x = ap (λ c. outcome k w e.who c d) (sym c) ∙ r in
          elim (next_err (read_content k content) _ x (guarded_err d.state room _ x sh r')) [
            | inl q ↦ absurd (low (unread-offer content x q))
            | inr m ↦ absurd (no-offer x sh (not (eqb (w.leader d.state.view) t.own)) (not (is_on d.state.phase)) d.state.spoiled d.state.round.offered
                (ltb last_turn d.state.turn || ltb last_height (next_height d.state.best)) (too_soon t d.state) (can_carry d.state.view d.state.turn d.state.best) (offers t d.state d.blocks m.0) m.2)
          ]
        where
          unread-offer : (xs : List ℕ) → Denies (read_content k xs) Unread
          unread-offer xs = denies_either {Q = Unread} (ltb (length xs) L) _ _ (λ _. denies_err Unread (Short 0) (omega arith))
              (λ _. denies_either {Q = Unread} (ltb L (length xs)) _ _ (λ _. denies_err Unread (Trailing L) (omega arith)) (λ _. by (k.reads xs)))
            where
              by : (o : Option R) → Denies (ok_or o (NoContent 0)) Unread
              by None = denies_err Unread (NoContent 0) (omega arith)
              by (Some y) = denies_ok Unread y
      call sent c = absurd (err_ok (sym r ∙ ap (λ c. outcome k w e.who c d) c))

  -- the certificate is of a lawful block that sound seats voted for before
  candidate : (e : Event) (p : History) (x : Refusal) → Run S k w (e ∷ p) → (f : RefusedFor S k w e p x) → Candidate S k w f.certificate.block e p
  candidate e p x run f =
      let q = source-voted S k w law e p f.seat (shelf S k w e.who p) f.certificate run.0 run.1 f.fine f.source in
      record { lawful = q.0; voted = q.1 }

  -- a parent that is there is found
  parent_test : (e : Event) (p : History) (b : Block R) → Run S k w (e ∷ p) → ParentOn S k w b (shelf S k w e.who p) → parent_there (shelf S k w e.who p) b ≡ true
  parent_test e p b run (inl one) = cond-true (eqb b.height 1) _ _ (eq-eqb b.height 1 one)
  parent_test e p b run (inr (c, on, rank, high)) = elim (cases_Bool (eqb b.height 1)) [
    | inl one ↦ cond-true (eqb b.height 1) _ _ one
    | inr more ↦
        let bs : List (Block R) = shelf S k w e.who p in
        let f = rank-found b.parent bs c on rank in
        let same : f.0 ≡ c = one-a-rank S k w law e.who p f.0 c run.0.driven.at_sound run.1 (on-from-find b.parent bs f.0 f.1) on (find-rank b.parent bs f.0 f.1 ∙ sym rank) in
        cond-false (eqb b.height 1) _ _ more ∙ ap (one_up b.height) f.1 ∙ eq-eqb (f.0.height + 1) b.height (ap (λ (y : Block R). y.height + 1) same ∙ high)
  ]

  parent_there_lem : (e : Event) (p : History) (b : Block R) → parent_there (shelf S k w e.who p) b ≡ true → ParentOn S k w b (shelf S k w e.who p)
  parent_there_lem e p b t = elim (parent-from_test (shelf S k w e.who p) b t) [
    | inl one ↦ inl one
    | inr x ↦ inr (x.0, on-from-find b.parent (shelf S k w e.who p) x.0 x.1.0, find-rank b.parent (shelf S k w e.who p) x.0 x.1.0, x.1.1)
  ]

  pub orphan_because : (e : Event) (p : History) → Run S k w (e ∷ p) → Refused S k w Orphan e p →
      (b : Block R) × Candidate S k w b e p × (ParentOn S k w b (shelf S k w e.who p) → ⊥)
  orphan_because e p run r =
      let f = refused_for e p Orphan run (omega arith, omega arith) r in
      (f.certificate.block, candidate e p Orphan run f, λ up. by f up (refused-there k f.seat (shelf S k w e.who p) (w.cells e.who) f.certificate.block Orphan f.refused))
    where
      by : (f : RefusedFor S k w e p Orphan) → ParentOn S k w f.certificate.block (shelf S k w e.who p) → RefusedThere k f.seat (shelf S k w e.who p) (w.cells e.who) f.certificate.block Orphan → ⊥
      by f up (inl q) = true-false (sym (parent_test e p f.certificate.block run up) ∙ q.1)
      by f up (inr (inl q)) = let z : ◌≡◌ {A = ℕ} 9 10 = ap number_of q.0 in omega arith
      by f up (inr (inr (inl q))) = let z : ◌≡◌ {A = ℕ} 9 12 = ap number_of q.0 in omega arith
      by f up (inr (inr (inr (inl q)))) = let z : ◌≡◌ {A = ℕ} 9 11 = ap number_of q in omega arith
      by f up (inr (inr (inr (inr q)))) = let z : ◌≡◌ {A = ℕ} 9 23 = ap number_of q in omega arith

  pub rival_because : (e : Event) (p : History) → Run S k w (e ∷ p) → Refused S k w Rival e p →
      (b : Block R) × (c : Block R) × Candidate S k w b e p × OnShelf c (shelf S k w e.who p) × (c.rank ≡ b.rank) × (b ≡ c → ⊥)
  rival_because e p run r =
      let f = refused_for e p Rival run (omega arith, omega arith) r in
      by f (refused-there k f.seat (shelf S k w e.who p) (w.cells e.who) f.certificate.block Rival f.refused)
    where
      by : (f : RefusedFor S k w e p Rival) → RefusedThere k f.seat (shelf S k w e.who p) (w.cells e.who) f.certificate.block Rival →
          (b : Block R) × (c : Block R) × Candidate S k w b e p × OnShelf c (shelf S k w e.who p) × (c.rank ≡ b.rank) × (b ≡ c → ⊥)
      by f (inl q) = absurd (let z : ◌≡◌ {A = ℕ} 10 9 = ap number_of q.0 in omega arith)
      by f (inr (inl q)) =
          let b : Block R = f.certificate.block in
          let x = q.1 in (
            b,
            x.0,
            candidate e p Rival run f,
            on-from-find b.rank (shelf S k w e.who p) x.0 x.1,
            find-rank b.rank (shelf S k w e.who p) x.0 x.1,
            λ same. true-false (sym (subst (λ (y : Block R). same_block k x.0 y ≡ true) (sym same) (same_self k x.0)) ∙ x.2),
          )
      by f (inr (inr (inl q))) = absurd (let z : ◌≡◌ {A = ℕ} 10 12 = ap number_of q.0 in omega arith)
      by f (inr (inr (inr (inl q)))) = absurd (let z : ◌≡◌ {A = ℕ} 10 11 = ap number_of q in omega arith)
      by f (inr (inr (inr (inr q)))) = absurd (let z : ◌≡◌ {A = ℕ} 10 23 = ap number_of q in omega arith)

  pub fork_because : (e : Event) (p : History) → Run S k w (e ∷ p) → Refused S k w Fork e p →
      (b : Block R) × (c : Block R) × Candidate S k w b e p × OnIn S k w e.who b.rank.view p × ((state S k w e.who p).committed ≡ Some c) ×
      ParentOn S k w b (shelf S k w e.who p) × (below c.rank b.rank ≡ true) × OnShelf c (shelf S k w e.who p) ×
      (read_below (shelf S k w e.who p) (parent_of b) c.height ≡ Ok (Some c) → ⊥)
  fork_because e p run r =
      let f = refused_for e p Fork run (omega arith, omega arith) r in
      by f (refused-there k f.seat (shelf S k w e.who p) (w.cells e.who) f.certificate.block Fork f.refused)
    where
      by : (f : RefusedFor S k w e p Fork) → RefusedThere k f.seat (shelf S k w e.who p) (w.cells e.who) f.certificate.block Fork →
          (b : Block R) × (c : Block R) × Candidate S k w b e p × OnIn S k w e.who b.rank.view p × ((state S k w e.who p).committed ≡ Some c) ×
          ParentOn S k w b (shelf S k w e.who p) × (below c.rank b.rank ≡ true) × OnShelf c (shelf S k w e.who p) ×
          (read_below (shelf S k w e.who p) (parent_of b) c.height ≡ Ok (Some c) → ⊥)
      by f (inl q) = absurd (let z : ◌≡◌ {A = ℕ} 12 9 = ap number_of q.0 in omega arith)
      by f (inr (inl q)) = absurd (let z : ◌≡◌ {A = ℕ} 12 10 = ap number_of q.0 in omega arith)
      by f (inr (inr (inl q))) =
          let b : Block R = f.certificate.block in
          let g : ForkThere k f.seat (shelf S k w e.who p) (w.cells e.who) b = q.1 in
          let at = and_parts (is_on f.seat.phase) _ (and_parts (here f.seat b) _ g.commits_it).0 in
          let on : OnIn S k w e.who b.rank.view p = (sym f.phase ∙ phase-on f.seat.phase at.0, sym f.view ∙ eqb-true f.seat.view b.rank.view at.1) in
          let committed : (state S k w e.who p).committed ≡ Some g.last = sym f.committed ∙ g.committed in
          let under = committed-below S k w law e.who p b g.last run.0.driven.at_sound run.1 on g.rank_free committed in
          (b, g.last, candidate e p Fork run f, on, committed, parent_there_lem e p b g.parent, under.1, under.0, g.elsewhere)
      by f (inr (inr (inr (inl q)))) = absurd (let z : ◌≡◌ {A = ℕ} 12 11 = ap number_of q in omega arith)
      by f (inr (inr (inr (inr q)))) = absurd (let z : ◌≡◌ {A = ℕ} 12 23 = ap number_of q in omega arith)
