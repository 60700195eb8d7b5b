-- What holds of every sound seat at every moment of a run.
use Rattle.std.proofs.Common.{◌≡◌, ℕ, zero, suc, ◌+◌, ◌-◌, ◌*◌, ◌^◌, ◌<◌, ◌≤◌, min, Bool, true, cond, not, ◌&&◌, ◌||◌, eqb, ltb, ◌⊎◌, List, [], ◌∷◌, ◌++◌, Some, None, Option, sym, refl, ap, ◌∙◌, subst, inl, inr, arith}
use Rattle.std.proofs.lemmas.Bool.{cases_lt, cond_both, eqb-true, eqb-false, false≢true}
use Rattle.content.specs.Kinds.{Kind}
use Rattle.blocks.specs.Ranks.{at_least, below}
use Rattle.blocks.specs.declared.block.Block.{Block}
use Rattle.blocks.specs.declared.block.Rank.{Rank}
use Rattle.wire.specs.Lawful.{LawfulBlock}
use Rattle.wire.specs.declared.message.Certificate.{Certificate}
use Rattle.shelf.specs.Ancestry.{Grown, MayFollow, Parent}
use Rattle.shelf.specs.Blocks.{top_turn}
use Rattle.shelf.proofs.Ancestry.{find-rank, grown_push}
use Rattle.state.specs.Parts.{is_on}
use Rattle.state.specs.TakeIn.{better, keep_best}
use Rattle.state.specs.Tick.{place_of, turn_after}
use Rattle.state.specs.declared.state.Best.{Best}
use Rattle.state.specs.declared.state.Phase.{Phase}
use Rattle.state.specs.declared.state.Phase.TheVariants.{On, Leaving}
use Rattle.agreement.specs.Laws.{OnShelf}
use Rattle.agreement.proofs.OneStep.{Core, arrived, here_in, later, left, shelved}
use Rattle.agreement.proofs.Shelves.{AllLawful, TopOf, TurnOn, lawful-first, lawful-later, none-there, on_append, on-from-find, on-last, on_pushed, top_of, turns_down}

module _ {L : ℕ} {R : Type 0} (k : Kind L R) where
  abbrev pub BestLawful : Option (Best R) → Type 0
  BestLawful None = Unit {0}
  BestLawful (Some best) = LawfulBlock k best.block

  abbrev pub BlockLawful : Option (Block R) → Type 0
  BlockLawful None = Unit {0}
  BlockLawful (Some b) = LawfulBlock k b

module _ {R : Type 0} where
  -- the turns of a view on the shelf are those below a turn
  abbrev pub Turns : ℕ → ℕ → List (Block R) → Type 0
  Turns v turn bs = ((t : ℕ) → t < turn → TurnOn v t bs) × ((b : Block R) → OnShelf b bs → b.rank.view ≡ v → b.rank.turn < turn)

  -- while on, the turns of the view on the shelf are those below the seat's; while leaving, it has left for 2D ticks at most
  abbrev pub PhaseFits : (delta : ℕ) → Phase → (now view turn : ℕ) → List (Block R) → Type 0
  PhaseFits delta On now view turn bs = (view ≤ 65535) × Turns view turn bs
  PhaseFits delta (Leaving since) now view turn bs = (view < 65535) × (since ≤ now) × (now ≤ since + 2 * delta)

  -- best is at least the rank of every block on the shelf
  abbrev pub Covers : Option (Best R) → List (Block R) → Type 0
  Covers best bs = (b : Block R) → OnShelf b bs → at_least (place_of best) (Some b.rank) ≡ true

module _ {L : ℕ} {R : Type 0} (k : Kind L R) where
  -- the core of a seat, and its shelf
  pub record CoreSane (delta : ℕ) (x : Core R) (bs : List (Block R)) : Type 0 where
    pub grown : Grown bs
    pub lawful : AllLawful k bs
    pub phase_fits : PhaseFits delta x.phase x.now x.view x.turn bs
    pub covers : Covers x.best bs
    pub best_lawful : BestLawful k x.best
    pub committed_lawful : BlockLawful k x.committed

  -- a tick
  phase-later : (delta : ℕ) (ph : Phase) (now view turn : ℕ) (bs : List (Block R)) →
      ((since : ℕ) → ph ≡ Leaving since → (now + 1) - since < 2 * delta + 1) → PhaseFits delta ph now view turn bs → PhaseFits delta ph (now + 1) view turn bs
  phase-later delta On now view turn bs short h = h
  phase-later delta (Leaving since) now view turn bs short h =
      let l : (now + 1) - since < 2 * delta + 1 = short since refl in
      let a : since ≤ now = h.1 in
      (h.0, omega arith, omega arith)

  pub sane_later : (delta : ℕ) (x : Core R) (bs : List (Block R)) → ((since : ℕ) → x.phase ≡ Leaving since → (x.now + 1) - since < 2 * delta + 1) →
      CoreSane delta x bs → CoreSane delta (later x) bs
  sane_later delta x bs short h = record {
    grown = h.grown;
    lawful = h.lawful;
    phase_fits = phase-later delta x.phase x.now x.view x.turn bs short h.phase_fits;
    covers = h.covers;
    best_lawful = h.best_lawful;
    committed_lawful = h.committed_lawful;
  }

  -- leaving a view
  pub sane_left : (delta v : ℕ) (x : Core R) (bs : List (Block R)) → v < 65535 → CoreSane delta x bs → CoreSane delta (left v x) bs
  sane_left delta v x bs small h = record {
    grown = h.grown;
    lawful = h.lawful;
    phase_fits = (small, omega arith, omega arith);
    covers = h.covers;
    best_lawful = h.best_lawful;
    committed_lawful = h.committed_lawful;
  }

  -- entering a view: one above the highest turn
  turns-top : (v : ℕ) (bs : List (Block R)) (o : Option ℕ) → Grown bs → AllLawful k bs → TopOf v bs o → Turns v (turn_after o) bs
  turns-top v bs None g l h = ((λ t z. absurd (omega arith)), λ b on e. absurd (h b on e))
  turns-top v bs (Some u) g l h = (
    (λ t z. let e : u ≡ t + (u - t) = omega arith in turns_down k bs g l v (u - t) t (subst (λ y. TurnOn v y bs) e h.0)),
    λ b on e. let z : b.rank.turn ≤ u = h.1 b on e in omega arith,
  )

  pub sane_arrived : (delta v : ℕ) (x : Core R) (bs : List (Block R)) → v ≤ 65535 → CoreSane delta x bs →
      CoreSane delta (arrived v (turn_after (top_turn v bs)) x) bs
  sane_arrived delta v x bs small h = record {
    grown = h.grown;
    lawful = h.lawful;
    phase_fits = (small, turns-top v bs (top_turn v bs) h.grown h.lawful (top_of v bs));
    covers = h.covers;
    best_lawful = h.best_lawful;
    committed_lawful = h.committed_lawful;
  }

  -- a new block of the seat's own view has the seat's turn
  pub new_turn : (v turn : ℕ) (bs : List (Block R)) (b : Block R) → Grown bs → LawfulBlock k b → MayFollow bs b → Turns v turn bs → b.rank.view ≡ v → b.rank.turn ≡ turn
  new_turn v turn bs b g l m h e =
      elim (cases_lt b.rank.turn turn) [
        | inl low ↦
            let u = h.0 b.rank.turn low in
            let r : u.0.rank ≡ b.rank = same_parts u.0.rank b.rank (u.2 ∙ sym e) u.3 in
            absurd (none-there bs b.rank u.0 g m.0 u.1 r)
        | inr high ↦ (let z : b.rank.turn ≤ turn = not-past b.rank.turn refl m.1 in omega arith)
      ]
    where
      same_parts : (p q : Rank) → p.view ≡ q.view → p.turn ≡ q.turn → p ≡ q
      same_parts p q f g = λ i. record { view = f i; turn = g i }

      not-past : (t : ℕ) → t ≡ b.rank.turn → (b.height ≡ 1) ⊎ ((p : Block R) × Parent bs b p) → t ≤ turn
      not-past zero q p = omega arith
      not-past (suc t) q (inl one) =
          let z : b.rank.turn ≡ 0 = lawful-first b.rank.view b.rank.turn b.height b.parent.view b.parent.turn l.numbers one in
          absurd (omega arith)
      not-past (suc t) q (inr p) =
          let n = lawful-later b.rank.view b.rank.turn b.height b.parent.view b.parent.turn l.numbers (omega arith) in
          let r : p.0.rank ≡ b.parent = find-rank b.parent bs p.0 p.1.0 in
          let z : p.0.rank.turn < turn = h.1 p.0 (on-from-find b.parent bs p.0 p.1.0) (ap (λ (y : Rank). y.view) r ∙ (n.1 ∙ e)) in
          let y : p.0.rank.turn ≡ b.parent.turn = ap (λ (y : Rank). y.turn) r in
          let x : b.parent.turn + 1 ≡ b.rank.turn = n.2 in
          omega arith

  -- the order of ranks
  below-over : (av at bv bt cv ct : ℕ) → (ltb av bv || (eqb av bv && ltb at bt)) ≡ true → not (ltb av cv || (eqb av cv && ltb at ct)) ≡ true →
      not (ltb bv cv || (eqb bv cv && ltb bt ct)) ≡ true
  below-over av at bv bt cv ct p q = grind arith

  below_itself : (v t : ℕ) → not (ltb v v || (eqb v v && ltb t t)) ≡ true
  below_itself v t = grind arith

  covers-better : (best : Option (Best R)) (c : Certificate R (List ℕ)) (bs : List (Block R)) → Covers best bs → Covers (better best c) (bs ++ (c.block ∷ []))
  covers-better None c bs h b on =
      elim (on_pushed b c.block bs on) [
        | inl old ↦ absurd (false≢true (h b old))
        | inr same ↦ subst (λ (y : Block R). not (below c.block.rank y.rank) ≡ true) same (below_itself c.block.rank.view c.block.rank.turn)
      ]
  covers-better (Some best) c bs h b on =
      cond_both (below best.block.rank c.block.rank) (Some (keep_best c)) (Some best) (λ x. at_least (place_of x) (Some b.rank) ≡ true)
      (λ lower.
      elim (on_pushed b c.block bs on) [
        | inl old ↦
            below-over best.block.rank.view best.block.rank.turn c.block.rank.view c.block.rank.turn b.rank.view b.rank.turn
            lower (h b old)
        | inr same ↦ subst (λ (y : Block R). not (below c.block.rank y.rank) ≡ true) same (below_itself c.block.rank.view c.block.rank.turn)
      ])
      (λ not_lower.
      elim (on_pushed b c.block bs on) [
        | inl old ↦ h b old
        | inr same ↦ subst (λ (y : Block R). not (below best.block.rank y.rank) ≡ true) same (ap not not_lower)
      ])

  better-lawful : (best : Option (Best R)) (c : Certificate R (List ℕ)) → LawfulBlock k c.block → BestLawful k best → BestLawful k (better best c)
  better-lawful None c l h = l
  better-lawful (Some best) c l h =
      cond_both (below best.block.rank c.block.rank) (Some (keep_best c)) (Some best) (BestLawful k) (λ _. l) (λ _. h)

  lawful_pushed : (bs : List (Block R)) (b : Block R) → LawfulBlock k b → AllLawful k bs → AllLawful k (bs ++ b ∷ [])
  lawful_pushed bs b l h x on = elim (on_pushed x b bs on) [ inl old ↦ h x old | inr same ↦ subst (LawfulBlock k) same l ]

  turn-kept : (v t : ℕ) (bs : List (Block R)) (b : Block R) → TurnOn v t bs → TurnOn v t (bs ++ b ∷ [])
  turn-kept v t bs b h = (h.0, on_append h.0 bs (b ∷ []) h.1, h.2, h.3)

  turns-other : (v turn : ℕ) (bs : List (Block R)) (b : Block R) → (v ≡ b.rank.view → ⊥) → Turns v turn bs → Turns v turn (bs ++ b ∷ [])
  turns-other v turn bs b other h = (
    (λ t z. turn-kept v t bs b (h.0 t z)),
    λ x on e.
        elim (on_pushed x b bs on) [ inl old ↦ h.1 x old e | inr same ↦ absurd (other (sym e ∙ ap (λ (y : Block R). y.rank.view) (sym same))) ],
  )

  turns_next : (v turn : ℕ) (bs : List (Block R)) (b : Block R) → b.rank.view ≡ v → b.rank.turn ≡ turn → Turns v turn bs → Turns v (turn + 1) (bs ++ b ∷ [])
  turns_next v turn bs b e q h = (
    (λ t z.
        elim (cases_lt t turn) [
          | inl low ↦ turn-kept v t bs b (h.0 t low)
          | inr high ↦ (let s : turn ≡ t = omega arith in (b, on-last b bs, e, q ∙ s))
        ]),
    λ x on f.
        elim (on_pushed x b bs on) [
          | inl old ↦ (let l : x.rank.turn < turn = h.1 x old f in omega arith)
          | inr same ↦ (let l : b.rank.turn ≡ x.rank.turn = ap (λ (y : Block R). y.rank.turn) same in omega arith)
        ],
  )

  phase-shelved : (delta : ℕ) (ph : Phase) (now view turn : ℕ) (bs : List (Block R)) (b : Block R) → Grown bs → LawfulBlock k b → MayFollow bs b →
      PhaseFits delta ph now view turn bs → PhaseFits delta ph now view (cond (is_on ph && eqb view b.rank.view) (min (turn + 1) 4294967295) turn) (bs ++ b ∷ [])
  phase-shelved delta On now view turn bs b g l m h = (
    h.0,
    cond_both (eqb view b.rank.view) (min (turn + 1) 4294967295) turn (λ t. Turns view t (bs ++ b ∷ []))
        (λ t.
        let e : b.rank.view ≡ view = sym (eqb-true view b.rank.view t) in
        let q : b.rank.turn ≡ turn = new_turn view turn bs b g l m h.1 e in
        let small : b.rank.turn < 2 ^ 16 = l.turn in
        let z : turn + 1 ≡ min (turn + 1) 4294967295 = omega arith in
        subst (λ t. Turns view t (bs ++ b ∷ [])) z (turns_next view turn bs b e q h.1))
        (λ f. turns-other view turn bs b (eqb-false view b.rank.view f) h.1),
  )
  phase-shelved delta (Leaving since) now view turn bs b g l m h = h

  pub sane_shelved : (delta : ℕ) (c : Certificate R (List ℕ)) (spoiled : Bool) (x : Core R) (bs : List (Block R)) → LawfulBlock k c.block →
      MayFollow bs c.block → CoreSane delta x bs → CoreSane delta (shelved c spoiled x) (bs ++ (c.block ∷ []))
  sane_shelved delta c spoiled x bs l m h = record {
    grown = grown_push bs c.block h.grown m;
    lawful = lawful_pushed bs c.block l h.lawful;
    phase_fits = phase-shelved delta x.phase x.now x.view x.turn bs c.block h.grown l m h.phase_fits;
    covers = covers-better x.best c bs h.covers;
    best_lawful = better-lawful x.best c l h.best_lawful;
    committed_lawful = cond_both (here_in x c.block && not spoiled) (Some c.block) x.committed (BlockLawful k) (λ _. l) (λ _. h.committed_lawful);
  }
