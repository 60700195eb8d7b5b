-- Reading a height: on a grown shelf it finds the one ancestor of that height, and more stored changes nothing read.
use Rattle.std.proofs.Common.{◌≡◌, ℕ, ◌+◌, ◌-◌, ◌<◌, ◌≤◌, Bool, true, false, cond, eqb, ltb, ◌⊎◌, List, ◌++◌, Some, None, Ok, Err, Option, Result, sym, refl, ap, ◌∙◌, subst, inl, inr, arith}
use Rattle.std.proofs.lemmas.Bool.{cases_Bool, cond-true, cond-false, eqb-false, ltb-false, ne_eqb, le-ltb}
use Rattle.content.specs.declared.refusal.Refusal.{Refusal}
use Rattle.blocks.specs.Ranks.{Place}
use Rattle.blocks.specs.declared.block.Block.{Block}
use Rattle.blocks.specs.declared.block.Rank.{Rank}
use Rattle.shelf.specs.Blocks.{find, climb, read_below, below_block, answered}
use Rattle.shelf.specs.Ancestry.{On, Grown, Steps, OneAncestor, ReadsAncestor, ReadsStay}
use Rattle.shelf.proofs.Ancestry.{on-from-find, find_append_some, climb-from-steps, steps-from-climb, steps_append, steps-height, climb_join, steps-same, steps_on, steps-there}

module _ {R : Type 0} where
  -- what a height reads as, where steps lead down to it
  pub read_from-steps : (bs : List (Block R)) (r : Rank) (b p : Block R) (h : ℕ) → find r bs ≡ Some b → 1 ≤ h → h ≤ b.height → Steps (b.height - h) bs b p → read_below bs (Some r) h ≡ Ok (Some p)
  read_from-steps bs r b p h on low high s =
      let some : h ≡ 0 → ⊥ = λ e. omega arith in
      ap (below_block bs h) on
      ∙ (cond-false (eqb h 0) _ _ (ne_eqb h 0 some)
      ∙ (cond-false (ltb b.height h) _ _ (le-ltb b.height h high)
      ∙ ap answered (climb-from-steps (b.height - h) bs b p s)))

  -- and where a height could be read: the steps that led there
  answered-some : (r : Result (Block R) Refusal) (p : Block R) → answered r ≡ Ok (Some p) → r ≡ Ok p
  answered-some (Ok x) p e = cc
  answered-some (Err x) p e = let z : ◌≡◌ {A = ℕ} 0 1 = cc in absurd (omega arith)

  nothing_read : (p : Block R) → ◌≡◌ {A = Result (Option (Block R)) Refusal} (Ok None) (Ok (Some p)) → ⊥
  nothing_read p e = let z : ◌≡◌ {A = ℕ} 0 1 = cc in omega arith

  pub record WasRead (bs : List (Block R)) (r : Rank) (h : ℕ) (p : Block R) : Type 0 where
    pub from : Block R
    pub found : find r bs ≡ Some from
    pub low : 1 ≤ h
    pub high : h ≤ from.height
    pub steps : Steps (from.height - h) bs from p

  was_read : (bs : List (Block R)) (r : Rank) (h : ℕ) (p : Block R) (o : Option (Block R)) → find r bs ≡ o → below_block bs h o ≡ Ok (Some p) → WasRead bs r h p
  was_read bs r h p None f e = absurd (nothing_read p e)
  was_read bs r h p (Some b) f e =
      elim (cases_Bool (eqb h 0)) [
        | inl t ↦ absurd (nothing_read p (sym (cond-true (eqb h 0) _ _ t) ∙ e))
        | inr n ↦
            let e' = sym (cond-false (eqb h 0) _ _ n) ∙ e in
            elim (cases_Bool (ltb b.height h)) [
              | inl t ↦ absurd (nothing_read p (sym (cond-true (ltb b.height h) _ _ t) ∙ e'))
              | inr m ↦
                  let some = eqb-false h 0 n in
                  let high : h ≤ b.height = ltb-false b.height h m in
                  record {
                    from = b;
                    found = f;
                    low = omega (arith, some);
                    high = high;
                    steps = steps-from-climb (b.height - h) bs b p (answered-some _ p (sym (cond-false (ltb b.height h) _ _ m) ∙ e'));
                  }
            ]
      ]

  pub steps-from_read : (bs : List (Block R)) (r : Rank) (h : ℕ) (p : Block R) → read_below bs (Some r) h ≡ Ok (Some p) → WasRead bs r h p
  steps-from_read bs r h p e = was_read bs r h p (find r bs) refl e

  -- a block read is on the shelf, at the height asked for
  pub read_on : (bs : List (Block R)) (r : Rank) (h : ℕ) (p : Block R) → read_below bs (Some r) h ≡ Ok (Some p) → On bs p × (p.height ≡ h)
  read_on bs r h p e =
      let w = steps-from_read bs r h p e in
      let k = steps-height (w.from.height - h) bs w.from p w.steps in
      let l = w.high in
      (steps_on (w.from.height - h) bs w.from p (on-from-find r bs w.from w.found) w.steps, omega (arith, k, l))

  -- a block's own height reads as itself
  pub read_own : (bs : List (Block R)) (b : Block R) → On bs b → 1 ≤ b.height → read_below bs (Some b.rank) b.height ≡ Ok (Some b)
  read_own bs b on low =
      let e : 0 ≡ b.height - b.height = omega arith in
      let l : b.height ≤ b.height = omega arith in
      read_from-steps bs b.rank b b b.height on low l (subst (λ n. Steps n bs b b) e refl)

  -- at and below a block that was read, its own rank reads the same
  pub read_through : (bs : List (Block R)) (r : Rank) (h : ℕ) (p : Block R) → read_below bs (Some r) h ≡ Ok (Some p) →
      (l : ℕ) → l ≤ h → read_below bs (Some r) l ≡ read_below bs (Some p.rank) l
  read_through bs r h p e l m =
      let w = steps-from_read bs r h p e in
      let x = w.from in
      let o = read_on bs r h p e in
      let same : p.height ≡ h = o.1 in
      let high : h ≤ x.height = w.high in
      let left : l ≤ x.height = omega arith in
      let right : l ≤ p.height = omega arith in
      let n : x.height - l ≡ (x.height - h) + (p.height - l) = omega arith in
      ap (below_block bs l) w.found
      ∙ (ap (cond (eqb l 0) (Ok None))
      (cond-false (ltb x.height l) _ _ (le-ltb x.height l left)
      ∙ (ap answered (ap (λ k. climb k bs x) n ∙ climb_join (x.height - h) (p.height - l) bs x p w.steps)
      ∙ sym (cond-false (ltb p.height l) _ _ (le-ltb p.height l right))))
      ∙ sym (ap (below_block bs l) o.0))

  -- what could be read stays, whatever is stored after
  pub reads_stay : (bs cs : List (Block R)) → ReadsStay bs (bs ++ cs)
  reads_stay bs cs None h b e = absurd (nothing_read b e)
  reads_stay bs cs (Some r) h b e =
      let w = steps-from_read bs r h b e in
      read_from-steps (bs ++ cs) r w.from b h (find_append_some r bs cs w.from w.found) w.low w.high
      (steps_append (w.from.height - h) bs cs w.from b w.steps)

  -- on a grown shelf every height from 1 to a block's own reads as the block's one ancestor of that height
  pub one-ancestor : (bs : List (Block R)) → Grown bs → (b : Block R) → On bs b → (h : ℕ) → 1 ≤ h → h ≤ b.height →
      (p : Block R) × (read_below bs (Some b.rank) h ≡ Ok (Some p)) × OneAncestor bs b h p
  one-ancestor bs g b on h low high =
      let less : b.height - h < b.height = omega arith in
      let s : (p : Block R) × Steps (b.height - h) bs b p × On bs p = steps-there (b.height - h) bs g b on less in
      let e : s.0.height + (b.height - h) ≡ b.height = steps-height (b.height - h) bs b s.0 s.1 in (
        s.0,
        read_from-steps bs b.rank b s.0 h on low high s.1,
        record {
          on = s.2;
          high = omega arith;
          above = (b.height - h, s.1);
          only = λ q up k.
              let f : q.height + up.0 ≡ b.height = steps-height up.0 bs b q up.1 in
              let n : up.0 ≡ b.height - h = omega arith in
              steps-same (b.height - h) bs b q s.0 (subst (λ m. Steps m bs b q) n up.1) s.1;
        },
      )

  pub reads-ancestor : (bs : List (Block R)) (place : Place) (h : ℕ) → ReadsAncestor bs place h (read_below bs place h)
  reads-ancestor bs place h g b on at low high = rw at (one-ancestor bs g b on h low high)

  same-both : (t : Bool) (x : Result (Option (Block R)) Refusal) → cond t x x ≡ x
  same-both true x = refl
  same-both false x = refl

  -- height 0, and a height above the block's own, read as nothing
  out_of_reach : (h k : ℕ) (x : Result (Option (Block R)) Refusal) → (eqb h 0 ≡ true) ⊎ (ltb k h ≡ true) → cond (eqb h 0) (Ok None) (cond (ltb k h) (Ok None) x) ≡ Ok None
  out_of_reach h k x (inl z) = cond-true (eqb h 0) _ _ z
  out_of_reach h k x (inr o) = ap (cond (eqb h 0) (Ok None)) (cond-true (ltb k h) _ _ o) ∙ same-both (eqb h 0) (Ok None)

  pub read_none : (bs : List (Block R)) (r : Rank) (b : Block R) → find r bs ≡ Some b → (h : ℕ) → (eqb h 0 ≡ true) ⊎ (ltb b.height h ≡ true) → read_below bs (Some r) h ≡ Ok None
  read_none bs r b e h w = ap (below_block bs h) e ∙ out_of_reach h b.height (answered (climb (b.height - h) bs b)) w

  -- on a grown shelf every height of a rank that is there reads the same after more is stored
  pub reads_same : (bs cs : List (Block R)) → Grown bs → (r : Rank) (b : Block R) → find r bs ≡ Some b → (h : ℕ) → read_below (bs ++ cs) (Some r) h ≡ read_below bs (Some r) h
  reads_same bs cs g r b e h =
      elim (cases_Bool (eqb h 0)) [
        | inl z ↦ read_none (bs ++ cs) r b (find_append_some r bs cs b e) h (inl z) ∙ sym (read_none bs r b e h (inl z))
        | inr n ↦
            elim (cases_Bool (ltb b.height h)) [
              | inl o ↦ read_none (bs ++ cs) r b (find_append_some r bs cs b e) h (inr o) ∙ sym (read_none bs r b e h (inr o))
              | inr l ↦
                  let some = eqb-false h 0 n in
                  let low : 1 ≤ h = omega (arith, some) in
                  let high : h ≤ b.height = ltb-false b.height h l in
                  let less : b.height - h < b.height = omega arith in
                  let s : (p : Block R) × Steps (b.height - h) bs b p × On bs p = steps-there (b.height - h) bs g b (on-from-find r bs b e) less in
                  let read = read_from-steps bs r b s.0 h e low high s.1 in
                  reads_stay bs cs (Some r) h s.0 read ∙ sym read
            ]
      ]
