-- A message with good seals is carried out: a notice moves the seat on, a certificate's block is on its shelf.
use Rattle.std.proofs.Common.{◌≡◌, ℕ, ◌+◌, ◌*◌, ◌<◌, ◌≤◌, Bool, true, false, cond, ◌&&◌, ◌||◌, eqb, ltb, ◌⊎◌, List, [], ◌∷◌, length, Some, None, Ok, Err, Option, Result, sym, refl, ap, ◌∙◌, subst, inl, inr, arith}
use Rattle.std.proofs.lemmas.Bool.{and_parts, cases_Bool, cond_both, cond-true, cond-false, eqb-true, false≢true}
use Rattle.std.specs.Str.{bytes_eq}
use Rattle.content.specs.Kinds.{Kind}
use Rattle.content.specs.declared.refusal.Refusal.{Refusal}
use Rattle.content.specs.declared.refusal.Refusal.TheVariants.{Fork, Full, Orphan, Rival, SlipOut, SmallOutbox}
use Rattle.blocks.specs.Ranks.{parent_of, same_block, same_rank}
use Rattle.blocks.specs.declared.block.Block.{Block}
use Rattle.wire.specs.Asked.{asked, judge, opened}
use Rattle.wire.specs.Lawful.{LawfulBlock}
use Rattle.wire.specs.Reading.{next, read_parts}
use Rattle.wire.specs.declared.message.Certificate.{Certificate}
use Rattle.wire.specs.declared.message.Parts.{Parts}
use Rattle.wire.specs.declared.message.Parts.TheVariants.{Certified, Notice}
use Rattle.wire.proofs.OneForm.{lawful-from_read}
use Rattle.shelf.specs.Ancestry.{Grown, Parent}
use Rattle.shelf.specs.Blocks.{below_block, find, read_below}
use Rattle.shelf.proofs.Ancestry.{same-ranks}
use Rattle.state.specs.Calls.{blocks_after, guarded, least_outbox, state_after}
use Rattle.state.specs.HandIn.{carried, hand_parts, idle, last_view, leaves as leaves_by, notice, taken}
use Rattle.state.specs.Parts.{is_on}
use Rattle.state.specs.Sends.{relay}
use Rattle.state.specs.TakeIn.{commits, extends, is_last, judge_found, judge_in, parent_there}
use Rattle.state.specs.declared.state.State.{State}
use Rattle.state.specs.declared.taking.Verdict.{Verdict}
use Rattle.state.specs.declared.taking.Verdict.TheVariants.{Known, New}
use Rattle.agreement.specs.History.{Call, Desk, Event, History, Refused, desk, hand, inbox_of, offer, result, sent, tick}
use Rattle.agreement.specs.Run.{Driven, Run}
use Rattle.agreement.specs.Setting.{Lawful, Setting}
use Rattle.agreement.specs.Laws.{OnShelf, shelf, stage, state}
use Rattle.agreement.proofs.Facts.{GoodMessage}
use Rattle.agreement.proofs.Invariant.{ordered}
use Rattle.agreement.proofs.OneStep.{Judged, judged, parent-from_test}
use Rattle.agreement.proofs.Shelves.{AllLawful, found-on, never_broken, on-from-find, on-last}
use Rattle.agreement.proofs.Steps.{desk-mine, event}

same_bytes : (xs ys : List ℕ) → bytes_eq xs ys ≡ true → xs ≡ ys
same_bytes [] [] e = refl
same_bytes [] (y ∷ ys) e = absurd (false≢true e)
same_bytes (x ∷ xs) [] e = absurd (false≢true e)
same_bytes (x ∷ xs) (y ∷ ys) e =
    let p = and_parts (eqb x y) (bytes_eq xs ys) e in
    let a : x ≡ y = eqb-true x y p.0 in
    let b : xs ≡ ys = same_bytes xs ys p.1 in
    λ i. a i ∷ b i

-- blocks that compare as the same are the same where their contents are lawful
pub same_blocks_lem : {L : ℕ} {R : Type 0} (k : Kind L R) (x y : Block R) → LawfulBlock k x → LawfulBlock k y → same_block k x y ≡ true → x ≡ y
same_blocks_lem {R} k x y lx ly e =
    let p = and_parts (same_rank x.rank y.rank) _ e in
    let q = and_parts (eqb x.height y.height) _ p.1 in
    let r = and_parts (same_rank x.parent y.parent) _ q.1 in
    let a : x.rank ≡ y.rank = same-ranks x.rank y.rank p.0 in
    let b : x.height ≡ y.height = eqb-true x.height y.height q.0 in
    let c : x.parent ≡ y.parent = same-ranks x.parent y.parent r.0 in
    let f : Some x.content ≡ Some y.content =
    sym lx.content ∙ (ap k.reads (same_bytes (k.shown x.content) (k.shown y.content) r.1) ∙ ly.content) in
    let d : x.content ≡ y.content = some_same x.content y.content f in
    λ i. record { rank = a i; height = b i; parent = c i; content = d i }
  where
    some_same : (u v : R) → Some u ≡ Some v → u ≡ v
    some_same u v g = cc

-- what holds of every refusal
abbrev pub Denies : {X : Type 0} → Result X Refusal → (Refusal → Type 0) → Type 0
Denies {X} r Q = (x : Refusal) → r ≡ Err x → Q x

pub denies_ok : {X : Type 0} (Q : Refusal → Type 0) (v : X) → Denies (Ok v) Q
denies_ok Q v x e = absurd (let z : ◌≡◌ {A = ℕ} 0 1 = cc in omega arith)

pub denies_err : {X : Type 0} (Q : Refusal → Type 0) (y : Refusal) → Q y → Denies {X = X} (Err y) Q
denies_err Q y h x e = let p : y ≡ x = cc in subst Q p h

pub denies_either : {X : Type 0} {Q : Refusal → Type 0} (b : Bool) (r s : Result X Refusal) → (b ≡ true → Denies r Q) → (b ≡ false → Denies s Q) → Denies (cond b r s) Q
denies_either true r s f g = f refl
denies_either false r s f g = g refl

-- a certificate is refused as an orphan, a rival, for want of a cell or as a fork
abbrev pub Unshelved : Refusal → Type 0
Unshelved x = (x ≡ Orphan) ⊎ ((x ≡ Rival) ⊎ ((x ≡ Full) ⊎ (x ≡ Fork)))

module _ {L : ℕ} {R : Type 0} (k : Kind L R) where
  last_denies : (last : Block R) (r : Result (Option (Block R)) Refusal) → Denies r (λ _. ⊥) → Denies (is_last k last r) Unshelved
  last_denies last (Err y) h = λ x e. absurd (h y refl)
  last_denies last (Ok None) h = denies_err Unshelved Fork (inr (inr (inr refl)))
  last_denies last (Ok (Some b)) h =
      denies_either {Q = Unshelved} (same_block k b last) (Ok New) (Err Fork) (λ _. denies_ok Unshelved New) (λ _. denies_err Unshelved Fork (inr (inr (inr refl))))

  reads_denies : (bs : List (Block R)) (b : Block R) (h : ℕ) → Grown bs → (b.height ≡ 1) ⊎ ((p : Block R) × Parent bs b p) → Denies (read_below bs (parent_of b) h) (λ _. ⊥)
  reads_denies bs b h g up =
      cond_both (eqb b.height 1) None (Some b.parent) (λ place. Denies (read_below bs place h) (λ _. ⊥))
      (λ _. denies_ok (λ _. ⊥) None) (λ f x e. elim up [
        | inl one ↦ false≢true (sym f ∙ subst (λ y. eqb y 1 ≡ true) (sym one) refl)
        | inr p ↦
            never_broken bs p.0 h x g (found-on bs p.0 g (on-from-find b.parent bs p.0 p.1.0))
            (sym (ap (below_block bs h) p.1.0) ∙ e)
      ])

  extends_denies : (bs : List (Block R)) (b : Block R) (o : Option (Block R)) → Grown bs → (b.height ≡ 1) ⊎ ((p : Block R) × Parent bs b p) → Denies (extends k bs o b) Unshelved
  extends_denies bs b None g up = denies_ok Unshelved New
  extends_denies bs b (Some last) g up = last_denies last (read_below bs (parent_of b) last.height) (reads_denies bs b last.height g up)

module _ {L S : ℕ} {R : Type 0} (k : Kind L R) where
  found_denies : (s : State S R) (bs : List (Block R)) (cells : ℕ) (b : Block R) (o : Option (Block R)) → Grown bs → Denies (judge_found k s bs cells b o) Unshelved
  found_denies s bs cells b None g =
      denies_either {Q = Unshelved} (parent_there bs b) _ _
      (λ up. denies_either {Q = Unshelved} (ltb (length bs) cells) _ _
      (λ _. denies_either {Q = Unshelved} (commits s b) _ _ (λ _. extends_denies k bs b s.committed g (parent-from_test bs b up)) (λ _. denies_ok Unshelved New))
      (λ _. denies_err Unshelved Full (inr (inr (inl refl)))))
      (λ _. denies_err Unshelved Orphan (inl refl))
  found_denies s bs cells b (Some y) g =
      denies_either {Q = Unshelved} (same_block k y b) _ _ (λ _. denies_ok Unshelved Known) (λ _. denies_err Unshelved Rival (inr (inl refl)))

  -- on a grown shelf nothing else refuses a certificate
  pub judge_denies : (s : State S R) (bs : List (Block R)) (cells : ℕ) (b : Block R) → Grown bs → (x : Refusal) → judge_in k s bs cells b ≡ Err x → Unshelved x
  judge_denies s bs cells b g = found_denies s bs cells b (find b.rank bs) g

-- a call that is refused neither for a slip nor for its outbox goes on
guarded-passes : {S : ℕ} {R X : Type 0} (s : State S R) (room : ℕ) (r : Result X Refusal) → (guarded s room r ≡ Err SlipOut → ⊥) → (guarded s room r ≡ Err SmallOutbox → ⊥) →
    guarded s room r ≡ r
guarded-passes s room r slip small =
    elim (cases_Bool s.slip) [
      | inl t ↦ absurd (slip (cond-true _ _ _ t))
      | inr f ↦
          elim (cases_Bool (ltb room least_outbox)) [
            | inl t ↦ absurd (small (cond-false _ _ _ f ∙ cond-true _ _ _ t))
            | inr g ↦ cond-false _ _ _ f ∙ cond-false _ _ _ g
          ]
    ]

module _ {L : ℕ} {R : Type 0} (S : ℕ) (k : Kind L R) (w : Setting) where
  pub empty-reads : (m : Parts R (List ℕ)) → read_parts k S w.n [] ≡ Ok m → ⊥
  unfolding read_parts
  empty-reads m e = let z : ◌≡◌ {A = ℕ} 0 1 = cc in omega arith

  module _ (lawful : Lawful w) where
    opened-here : (n : ℕ) (inbox : List ℕ) (m : Parts R (List ℕ)) → read_parts k S n inbox ≡ Ok m → judge w.accepts (asked k S n w.leader m) ≡ Ok tt →
        opened k S n w.leader w.accepts inbox ≡ Ok m
    opened-here n inbox m e f = ap (λ r. next r (λ m. next (judge w.accepts (asked k S n w.leader m)) (λ _. Ok m))) e ∙ ap (λ r. next r (λ _. Ok m)) f

    -- a good message is what the seat steps by
    pub good-step : (i : ℕ) (c : Call) (p : History) (m : Parts R (List ℕ)) → Driven S k w (event i c) p → GoodMessage S k w m (event i c) →
        (result S k w (event i c) p ≡ hand_parts k (w.terms i) (state S k w i p) (shelf S k w i p) (w.cells i) m) ×
        (desk S k w i (event i c ∷ p) ≡ record { state = state_after (state S k w i p) (result S k w (event i c) p); blocks = blocks_after (shelf S k w i p) (result S k w (event i c) p) })
    good-step i (hand inbox room) p m driven good =
        let n : ℕ = (w.terms i).seats.n in
        let same : w.n ≡ n = sym (lawful.shares_n i driven.at_sound) in
        let reads : read_parts k S n inbox ≡ Ok m = subst (λ n. read_parts k S n inbox ≡ Ok m) same good.0 in
        let sealed : judge w.accepts (asked k S n w.leader m) ≡ Ok tt = subst (λ n. judge w.accepts (asked k S n w.leader m) ≡ Ok tt) same good.1 in (
          guarded-passes (state S k w i p) room _ driven.never_slip driven.never_small ∙
              ap (λ r. next r (hand_parts k (w.terms i) (state S k w i p) (shelf S k w i p) (w.cells i))) (opened-here n inbox m reads sealed),
          desk-mine S k w i (event i (hand inbox room)) p refl,
        )
    good-step i (tick room) p m driven good = absurd (empty-reads m good.0)
    good-step i (offer content room) p m driven good = absurd (empty-reads m good.0)
    good-step i sent p m driven good = absurd (empty-reads m good.0)

    stays-past : (b : Bool) (u v : ℕ) → (ltb u v || (b && eqb u v)) ≡ false → 2 * v + 1 ≤ cond b (2 * u) (2 * u + 1)
    stays-past true u v e = grind arith
    stays-past false u v e = grind arith

    notice_moves : (s : State S R) (bs : List (Block R)) (v : ℕ) → v < 65535 → 2 * v + 1 ≤ stage (state_after s (notice s bs v))
    notice_moves s bs v small =
        cond_both (eqb v last_view) _ (cond (ltb s.view v || (is_on s.phase && eqb s.view v)) (Ok (leaves_by s bs v relay)) (Ok (idle s bs)))
        (λ r. 2 * v + 1 ≤ stage (state_after s r))
        (λ t. let z : v ≡ 65535 = eqb-true v last_view t in absurd (omega arith))
        (λ _. cond_both (ltb s.view v || (is_on s.phase && eqb s.view v)) (Ok (leaves_by s bs v relay)) (Ok (idle s bs)) (λ r. 2 * v + 1 ≤ stage (state_after s r))
        (λ _. omega arith) (λ f. stays-past (is_on s.phase) s.view v f))

    pub notice-carried : (e : Event) (p : History) (v mask : ℕ) (seals : List ℕ) → Run S k w (e ∷ p) → GoodMessage S k w (Notice v mask seals) e →
        v < 65535 → 2 * v + 1 ≤ stage (state S k w e.who (e ∷ p))
    notice-carried e p v mask seals run good small =
        let g = good-step e.who e.what p (Notice v mask seals) run.0.driven good in
        let s : State S R = state S k w e.who p in
        subst (λ (d : Desk S R). 2 * v + 1 ≤ stage d.state) (sym g.1)
        (subst (λ r. 2 * v + 1 ≤ stage (state_after s r)) (sym g.0) (notice_moves s (shelf S k w e.who p) v small))

    shelved-after : (s : State S R) (bs : List (Block R)) (c : Certificate R (List ℕ)) (r : Result Verdict Refusal) → Grown bs → AllLawful k bs → LawfulBlock k c.block →
        ((v : Verdict) → r ≡ Ok v → Judged k bs c.block v) → Denies r (λ _. ⊥) → OnShelf c.block (blocks_after bs (carried (taken s bs c relay) r))
    shelved-after s bs c (Ok Known) g all l j d =
        let x = j Known refl in
        let on : OnShelf x.0 bs = on-from-find c.block.rank bs x.0 x.1 in
        subst (λ y. OnShelf y bs) (same_blocks_lem k x.0 c.block (all x.0 on) l x.2) on
    shelved-after s bs c (Ok New) g all l j d = on-last c.block bs
    shelved-after s bs c (Err x) g all l j d = absurd (d x refl)

    pub certificate-carried : (e : Event) (p : History) (c : Certificate R (List ℕ)) → Run S k w (e ∷ p) → GoodMessage S k w (Certified c) e →
        (Refused S k w Orphan e p → ⊥) → (Refused S k w Rival e p → ⊥) → (Refused S k w Fork e p → ⊥) → OnShelf c.block (shelf S k w e.who (e ∷ p))
    certificate-carried e p c run good orphan rival fork =
        let g = good-step e.who e.what p (Certified c) run.0.driven good in
        let s : State S R = state S k w e.who p in
        let bs : List (Block R) = shelf S k w e.who p in
        let cells : ℕ = w.cells e.who in
        let o = (ordered S k w lawful e.who p run.1).core_sane in
        let l = lawful-from_read k S w.n (inbox_of e.what) (Certified c) run.0.driven.in_bytes good.0 in
        let refused : (x : Refusal) → judge_in k s bs cells c.block ≡ Err x → Refused S k w x e p = λ x f. g.0 ∙ ap (carried (taken s bs c relay)) f in
        let d : Denies (judge_in k s bs cells c.block) (λ _. ⊥) = λ x f.
        elim (judge_denies k s bs cells c.block o.grown x f) [
          | inl q ↦ orphan (subst (λ y. Refused S k w y e p) q (refused x f))
          | inr (inl q) ↦ rival (subst (λ y. Refused S k w y e p) q (refused x f))
          | inr (inr (inl q)) ↦ run.0.driven.never_full (subst (λ y. Refused S k w y e p) q (refused x f))
          | inr (inr (inr q)) ↦ fork (subst (λ y. Refused S k w y e p) q (refused x f))
        ] in
        subst (λ (d : Desk S R). OnShelf c.block d.blocks) (sym g.1)
        (subst (λ r. OnShelf c.block (blocks_after bs r)) (sym g.0)
        (shelved-after s bs c (judge_in k s bs cells c.block) o.grown o.lawful l.0 (judged k s bs cells c.block) d))
