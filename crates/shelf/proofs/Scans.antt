-- Searching a list of blocks, one block at a time.
use Rattle.std.proofs.Common.{◌≡◌, ℕ, suc, ◌+◌, ◌-◌, ◌<◌, max, Bool, true, false, cond, eqb, List, [], ◌∷◌, ◌++◌, map, Some, None, Ok, Err, Option, inl, inr, sym, refl, ap, ◌∙◌, arith}
use Rattle.std.specs.List.{filter, find as list_find, fold, reduce}
use Rattle.std.proofs.lemmas.Bool.{cases_Bool, cond-true, cond-false}
use Rattle.content.specs.declared.refusal.Refusal.{Refusal}
use Rattle.blocks.specs.Ranks.{same_rank}
use Rattle.blocks.specs.declared.block.Block.{Block}
use Rattle.blocks.specs.declared.block.Rank.{Rank}
use Rattle.shelf.specs.Blocks.{find, higher, top_turn, one_lower, climb}

-- the highest of some turns, one turn more
fold_max : (t u : ℕ) (ts : List ℕ) → fold max (max t u) ts ≡ max t (fold max u ts)
fold_max t u [] = refl
fold_max t u (x ∷ ts) = let e : max (max t u) x ≡ max t (max u x) = omega arith in ap (λ m. fold max m ts) e ∙ fold_max t (max u x) ts

higher_one : (t : ℕ) (ts : List ℕ) → reduce max (t ∷ ts) ≡ higher t (reduce max ts)
higher_one t [] = refl
higher_one t (u ∷ ts) = ap Some (fold_max t u ts)

-- two turns may be weighed in either order
higher_swap : (s t : ℕ) (o : Option ℕ) → higher s (higher t o) ≡ higher t (higher s o)
higher_swap s t None = let e : max s t ≡ max t s = omega arith in ap Some e
higher_swap s t (Some u) = let e : max s (max t u) ≡ max t (max s u) = omega arith in ap Some e

weighed_swap : (p q : Bool) (s t : ℕ) (o : Option ℕ) → cond p (higher s (cond q (higher t o) o)) (cond q (higher t o) o) ≡ cond q (higher t (cond p (higher s o) o)) (cond p (higher s o) o)
weighed_swap true true s t o = higher_swap s t o
weighed_swap true false s t o = refl
weighed_swap false true s t o = refl
weighed_swap false false s t o = refl

module _ {R : Type 0} where
  -- the first block of the rank stands for it
  pub find-here : (r : Rank) (b : Block R) (bs : List (Block R)) → same_rank b.rank r ≡ true → find r (b ∷ bs) ≡ Some b
  unfolding find
  find-here r b bs e = cond-true _ _ _ e

  -- a block of another rank is passed over
  pub find_past : (r : Rank) (b : Block R) (bs : List (Block R)) → same_rank b.rank r ≡ false → find r (b ∷ bs) ≡ find r bs
  unfolding find
  find_past r b bs e = cond-false _ _ _ e

  pub find_none : (r : Rank) → find {R = R} r [] ≡ None
  unfolding find
  find_none r = refl

  -- the library's search finds it
  pub same_found : (r : Rank) (bs : List (Block R)) → list_find (λ b. same_rank b.rank r) bs ≡ find r bs
  unfolding find
  same_found r [] = refl
  same_found r (b ∷ bs) = ap (cond (same_rank b.rank r) (Some b)) (same_found r bs)

  -- the highest turn of a view is that of the blocks picked out
  pub same_top : (v : ℕ) (bs : List (Block R)) → reduce max (map (λ b. b.rank.turn) (filter (λ b. eqb b.rank.view v) bs)) ≡ top_turn v bs
  unfolding top_turn
  same_top v [] = refl
  same_top v (b ∷ bs) =
      elim (cases_Bool (eqb b.rank.view v)) [
        | inl t ↦ rw (t, ← same_top v bs) (higher_one b.rank.turn (map (λ b. b.rank.turn) (filter (λ b. eqb b.rank.view v) bs)))
        | inr f ↦ rw f (same_top v bs)
      ]

  -- the highest turn of a view, one block on
  pub top_push : (v : ℕ) (bs : List (Block R)) (b : Block R) → top_turn v (bs ++ b ∷ []) ≡ cond (eqb b.rank.view v) (higher b.rank.turn (top_turn v bs)) (top_turn v bs)
  unfolding top_turn
  top_push v [] b = refl
  top_push v (x ∷ bs) b =
      rw (top_push v bs b) (weighed_swap (eqb x.rank.view v) (eqb b.rank.view v) x.rank.turn b.rank.turn (top_turn v bs))

  -- one step up, and where there is none
  pub climb-up : (k : ℕ) (bs : List (Block R)) (b p : Block R) → Ok p ≡ one_lower b.height (find b.parent bs) → climb (suc k) bs b ≡ climb k bs p
  unfolding climb
  climb-up k bs b p e = rw (sym e, climb)

  pub climb_stops : (k : ℕ) (bs : List (Block R)) (b : Block R) (e : Refusal) → Err e ≡ one_lower b.height (find b.parent bs) → climb (suc k) bs b ≡ Err e
  unfolding climb
  climb_stops k bs b e q = rw (sym q, climb)

  pub climb-none : (k : ℕ) (bs : List (Block R)) (b : Block R) → k ≡ 0 → climb k bs b ≡ Ok b
  unfolding climb
  climb-none k bs b e = rw e

  pub climb-on : (n i : ℕ) (bs : List (Block R)) (b p : Block R) → i < n → Ok p ≡ one_lower b.height (find b.parent bs) → climb (n - (i + 1)) bs p ≡ climb (n - i) bs b
  climb-on n i bs b p h e =
      let k : n - i ≡ suc (n - (i + 1)) = omega arith in sym (ap (λ m. climb m bs b) k ∙ climb-up (n - (i + 1)) bs b p e)

  pub climb-fails : (n i : ℕ) (bs : List (Block R)) (b : Block R) (e : Refusal) → i < n → Err e ≡ one_lower b.height (find b.parent bs) → climb (n - i) bs b ≡ Err e
  climb-fails n i bs b e h q =
      let k : n - i ≡ suc (n - (i + 1)) = omega arith in ap (λ m. climb m bs b) k ∙ climb_stops (n - (i + 1)) bs b e q
