-- What a verdict on a certificate says of the shelf.
use Rattle.std.proofs.Common.{◌≡◌, ℕ, zero, suc, ◌+◌, ◌-◌, Bool, true, false, cond, eqb, ltb, ◌⊎◌, List, [], ◌∷◌, length, Some, None, Ok, Err, Option, Result, sym, refl, ap, ◌∙◌, subst, inl, inr}
use Rattle.std.proofs.lemmas.Bool.{cases_Bool, eq-eqb, and_from}
use Rattle.content.specs.Kinds.{Kind}
use Rattle.content.specs.declared.refusal.Refusal.{Refusal}
use Rattle.content.specs.declared.refusal.Refusal.TheVariants.{BrokenShelf, Fork, Full, Orphan, Rival}
use Rattle.blocks.specs.Ranks.{parent_of, same_block, same_rank}
use Rattle.blocks.specs.declared.block.Block.{Block}
use Rattle.blocks.specs.declared.block.Rank.{Rank}
use Rattle.shelf.specs.Blocks.{answered, below_block, climb, find, one_lower, read_below}
use Rattle.shelf.proofs.Scans.{find-here, find_past}
use Rattle.state.specs.TakeIn.{commits, extends, is_last, judge_found, judge_in, parent_there}
use Rattle.state.specs.declared.state.State.{State}
use Rattle.state.specs.declared.taking.Verdict.{Verdict}
use Rattle.state.specs.declared.taking.Verdict.TheVariants.{Known, New}
use Rattle.agreement.proofs.Basics.{err_ok, err_same, none-some, ok_same, some_same, true-false}
use Rattle.agreement.specs.Laws.{OnShelf}
use Rattle.agreement.proofs.Statements.{same_self}

same-rank-self : (a b : Rank) → a ≡ b → same_rank a b ≡ true
same-rank-self a b e =
    and_from (eqb a.view b.view) (eqb a.turn b.turn) (eq-eqb a.view b.view (ap (λ (r : Rank). r.view) e)) (eq-eqb a.turn b.turn (ap (λ (r : Rank). r.turn) e))

module _ {R : Type 0} where
  -- a rank that is on the shelf is found
  pub rank-found : (r : Rank) (bs : List (Block R)) (x : Block R) → OnShelf x bs → x.rank ≡ r → (y : Block R) × (find r bs ≡ Some y)
  rank-found r [] x o e = elim o [ ]
  rank-found r (b ∷ bs) x o e =
      elim (cases_Bool (same_rank b.rank r)) [
        | inl t ↦ (b, find-here r b bs t)
        | inr f ↦
            (elim o [
              | inl q ↦ absurd (true-false (sym (same-rank-self b.rank r (ap (λ (y : Block R). y.rank) q ∙ e)) ∙ f))
              | inr q ↦ let g = rank-found r bs x q e in (g.0, find_past r b bs f ∙ g.1)
            ])
      ]

  -- a climb is refused only where the shelf is broken
  lower_err : (h : ℕ) (o : Option (Block R)) (r : Refusal) → one_lower h o ≡ Err r → r ≡ BrokenShelf
  lower_err h None r e = sym (err_same e)
  lower_err h (Some q) r e = by (eqb (q.height + 1) h) e
    where
      by : (t : Bool) → ◌≡◌ {A = Result (Block R) Refusal} (cond t (Ok q) (Err BrokenShelf)) (Err r) → r ≡ BrokenShelf
      by true e = absurd (err_ok (sym e))
      by false e = sym (err_same e)

  climb_err : (n : ℕ) (bs : List (Block R)) (b : Block R) (r : Refusal) → climb n bs b ≡ Err r → r ≡ BrokenShelf
  unfolding climb
  climb_err zero bs b r e = absurd (err_ok (sym e))
  climb_err (suc n) bs b r e = by (one_lower b.height (find b.parent bs)) refl e (λ p. climb_err n bs p r)
    where
      by : (o : Result (Block R) Refusal) → one_lower b.height (find b.parent bs) ≡ o →
          ◌≡◌ {A = Result (Block R) Refusal} (elim o [ Ok p ↦ climb n bs p | Err e ↦ Err e ]) (Err r) → ((p : Block R) → climb n bs p ≡ Err r → r ≡ BrokenShelf) → r ≡ BrokenShelf
      by (Ok p) t e rest = rest p e
      by (Err x) t e rest = sym (err_same e) ∙ lower_err b.height (find b.parent bs) x t

  pub read_err : (bs : List (Block R)) (r : Option Rank) (h : ℕ) (x : Refusal) → read_below bs r h ≡ Err x → x ≡ BrokenShelf
  read_err bs None h x e = absurd (err_ok (sym e))
  read_err bs (Some r) h x e = by (find r bs) e
    where
      answer : (c : Result (Block R) Refusal) → ((y : Refusal) → c ≡ Err y → y ≡ BrokenShelf) → answered c ≡ Err x → x ≡ BrokenShelf
      answer (Ok b) f e = absurd (err_ok (sym e))
      answer (Err y) f e = sym (err_same e) ∙ f y refl

      high : (t : Bool) (c : Result (Block R) Refusal) → ((y : Refusal) → c ≡ Err y → y ≡ BrokenShelf) →
          ◌≡◌ {A = Result (Option (Block R)) Refusal} (cond t (Ok None) (answered c)) (Err x) → x ≡ BrokenShelf
      high true c f e = absurd (err_ok (sym e))
      high false c f e = answer c f e

      low : (t u : Bool) (c : Result (Block R) Refusal) → ((y : Refusal) → c ≡ Err y → y ≡ BrokenShelf) →
          ◌≡◌ {A = Result (Option (Block R)) Refusal} (cond t (Ok None) (cond u (Ok None) (answered c))) (Err x) → x ≡ BrokenShelf
      low true u c f e = absurd (err_ok (sym e))
      low false u c f e = high u c f e

      by : (o : Option (Block R)) → below_block bs h o ≡ Err x → x ≡ BrokenShelf
      by None e = absurd (err_ok (sym e))
      by (Some b) e = low (eqb h 0) (ltb b.height h) (climb (b.height - h) bs b) (λ y q. climb_err (b.height - h) bs b y q) e

module _ {L S : ℕ} {R : Type 0} (k : Kind L R) (s : State S R) (bs : List (Block R)) (cells : ℕ) (b : Block R) where
  -- why a certificate is refused
  pub record ForkThere : Type 0 where
    pub rank_free : find b.rank bs ≡ None
    pub parent : parent_there bs b ≡ true
    pub commits_it : commits s b ≡ true
    pub last : Block R
    pub committed : s.committed ≡ Some last
    pub elsewhere : read_below bs (parent_of b) last.height ≡ Ok (Some last) → ⊥

  abbrev pub RefusedThere : Refusal → Type 0
  RefusedThere r =
      ((r ≡ Orphan) × (parent_there bs b ≡ false)) ⊎ (((r ≡ Rival) × ((x : Block R) × (find b.rank bs ≡ Some x) × (same_block k x b ≡ false))) ⊎
      (((r ≡ Fork) × ForkThere) ⊎ ((r ≡ Full) ⊎ (r ≡ BrokenShelf))))

  pub refused-there : (r : Refusal) → judge_in k s bs cells b ≡ Err r → RefusedThere r
  refused-there r e = by (find b.rank bs) refl e
    where
      -- the block read at the last commit's height is not that block
      fork : find b.rank bs ≡ None → parent_there bs b ≡ true → commits s b ≡ true → (l : Block R) → s.committed ≡ Some l → (q : Result (Option (Block R)) Refusal) →
          read_below bs (parent_of b) l.height ≡ q → is_last k l q ≡ Err r → RefusedThere r
      fork f t c l m (Err x) q e = inr (inr (inr (inr (sym (err_same e) ∙ read_err bs (parent_of b) l.height x q))))
      fork f t c l m (Ok None) q e = inr (inr (inl (
        sym (err_same e),
        record { rank_free = f; parent = t; commits_it = c; last = l; committed = m; elsewhere = λ z. none-some (ok_same (sym q ∙ z)) },
      )))
      fork f t c l m (Ok (Some y)) q e = elim (cases_Bool (same_block k y l)) [
        | inl u ↦ absurd (err_ok (sym (sym (ap (λ (v : Bool). cond {A = Result Verdict Refusal} v (Ok New) (Err Fork)) u) ∙ e)))
        | inr u ↦ inr (inr (inl (
          sym (err_same (sym (ap (λ (v : Bool). cond {A = Result Verdict Refusal} v (Ok New) (Err Fork)) u) ∙ e)),
          record {
            rank_free = f;
            parent = t;
            commits_it = c;
            last = l;
            committed = m;
            elsewhere = λ z. true-false (sym (subst (λ (x : Block R). same_block k x l ≡ true) (sym (some_same (ok_same (sym q ∙ z)))) (same_self k l)) ∙ u);
          },
        )))
      ]

      extend : find b.rank bs ≡ None → parent_there bs b ≡ true → commits s b ≡ true → (o : Option (Block R)) → s.committed ≡ o → extends k bs o b ≡ Err r → RefusedThere r
      extend f t c None m e = absurd (err_ok (sym e))
      extend f t c (Some l) m e = fork f t c l m (read_below bs (parent_of b) l.height) refl e

      commit : find b.rank bs ≡ None → parent_there bs b ≡ true → (u : Bool) → commits s b ≡ u → ◌≡◌ {A = Result Verdict Refusal} (cond u (extends k bs s.committed b) (Ok New)) (Err r) → RefusedThere r
      commit f t true c e = extend f t c s.committed refl e
      commit f t false c e = absurd (err_ok (sym e))

      cell : find b.rank bs ≡ None → parent_there bs b ≡ true → (u : Bool) → ◌≡◌ {A = Result Verdict Refusal} (cond u (cond (commits s b) (extends k bs s.committed b) (Ok New)) (Err Full)) (Err r) → RefusedThere r
      cell f t true e = commit f t (commits s b) refl e
      cell f t false e = inr (inr (inr (inl (sym (err_same e)))))

      parents : find b.rank bs ≡ None → (u : Bool) → parent_there bs b ≡ u →
          ◌≡◌ {A = Result Verdict Refusal} (cond u (cond (ltb (length bs) cells) (cond (commits s b) (extends k bs s.committed b) (Ok New)) (Err Full)) (Err Orphan)) (Err r) → RefusedThere r
      parents f true t e = cell f t (ltb (length bs) cells) e
      parents f false t e = inl (sym (err_same e), t)

      rival : (x : Block R) → find b.rank bs ≡ Some x → (u : Bool) → same_block k x b ≡ u → ◌≡◌ {A = Result Verdict Refusal} (cond u (Ok Known) (Err Rival)) (Err r) → RefusedThere r
      rival x f true t e = absurd (err_ok (sym e))
      rival x f false t e = inr (inl (sym (err_same e), (x, f, t)))

      by : (o : Option (Block R)) → find b.rank bs ≡ o → judge_found k s bs cells b o ≡ Err r → RefusedThere r
      by None f e = parents f (parent_there bs b) refl e
      by (Some x) f e = rival x f (same_block k x b) refl e
