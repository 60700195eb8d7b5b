-- Looking up after more was stored; steps from parent to parent; and that a grown shelf has every ancestor of its blocks.
use Rattle.std.proofs.Common.{◌≡◌, ℕ, zero, suc, ◌+◌, ◌<◌, ◌≤◌, true, eqb, ◌⊎◌, List, [], ◌∷◌, ◌++◌, Some, None, Ok, Err, Option, Result, sym, refl, ap, ◌∙◌, subst, inl, inr, zero-add, arith}
use Rattle.std.proofs.lemmas.List.{append_assoc, append-nil}
use Rattle.std.proofs.lemmas.Option.{none-some, same_Some}
use Rattle.std.proofs.lemmas.Bool.{cases_Bool, cond-true, cond-false, and_parts, eqb-true, eq-eqb}
use Rattle.content.specs.declared.refusal.Refusal.{Refusal}
use Rattle.content.specs.declared.refusal.Refusal.TheVariants.{BrokenShelf}
use Rattle.blocks.specs.Ranks.{same_rank}
use Rattle.blocks.specs.declared.block.Block.{Block}
use Rattle.blocks.specs.declared.block.Rank.{Rank}
use Rattle.shelf.specs.Blocks.{find, one_lower, climb}
use Rattle.shelf.specs.Ancestry.{On, Parent, MayFollow, GrownOn, Grown, Steps}
use Rattle.shelf.proofs.Scans.{find-here, find_past, find_none, climb-up, climb_stops, climb-none}

-- a test of ranks that passes says that they are one
pub same-ranks : (a b : Rank) → same_rank a b ≡ true → a ≡ b
same-ranks a b e =
    let p = and_parts (eqb a.view b.view) (eqb a.turn b.turn) e in
    let v = eqb-true a.view b.view p.0 in
    let t = eqb-true a.turn b.turn p.1 in
    λ i. record { view = v i; turn = t i }

module _ {R : Type 0} where
  ok_same : (x y : Block R) → ◌≡◌ {A = Result (Block R) Refusal} (Ok x) (Ok y) → x ≡ y
  ok_same x y e = cc

  ok_err : (x : Block R) (r : Refusal) → ◌≡◌ {A = Result (Block R) Refusal} (Ok x) (Err r) → ⊥
  ok_err x r e = let z : ◌≡◌ {A = ℕ} 0 1 = cc in omega arith

  -- the block that stands for a rank has it
  pub find-rank : (r : Rank) (bs : List (Block R)) (b : Block R) → find r bs ≡ Some b → b.rank ≡ r
  find-rank r [] b e = absurd (none-some b (sym (find_none r) ∙ e))
  find-rank r (x ∷ bs) b e =
      elim (cases_Bool (same_rank x.rank r)) [
        | inl t ↦ ap (λ (y : Block R). y.rank) (sym (same_Some x b (sym (find-here r x bs t) ∙ e))) ∙ same-ranks x.rank r t
        | inr f ↦ find-rank r bs b (sym (find_past r x bs f) ∙ e)
      ]

  -- and is on the shelf
  pub on-from-find : (r : Rank) (bs : List (Block R)) (b : Block R) → find r bs ≡ Some b → On bs b
  on-from-find r bs b e = ap (λ q. find q bs) (find-rank r bs b e) ∙ e

  -- what stands for a rank still does after more is stored
  pub find_append_some : (r : Rank) (bs cs : List (Block R)) (b : Block R) → find r bs ≡ Some b → find r (bs ++ cs) ≡ Some b
  find_append_some r [] cs b e = absurd (none-some b (sym (find_none r) ∙ e))
  find_append_some r (x ∷ bs) cs b e =
      elim (cases_Bool (same_rank x.rank r)) [
        | inl t ↦ find-here r x (bs ++ cs) t ∙ (sym (find-here r x bs t) ∙ e)
        | inr f ↦ find_past r x (bs ++ cs) f ∙ find_append_some r bs cs b (sym (find_past r x bs f) ∙ e)
      ]

  -- a rank that is not there is looked up in what is stored next
  pub find_append_none : (r : Rank) (bs cs : List (Block R)) → find r bs ≡ None → find r (bs ++ cs) ≡ find r cs
  find_append_none r [] cs e = refl
  find_append_none r (x ∷ bs) cs e =
      elim (cases_Bool (same_rank x.rank r)) [
        | inl t ↦ absurd (none-some x (sym e ∙ find-here r x bs t))
        | inr f ↦ find_past r x (bs ++ cs) f ∙ find_append_none r bs cs (sym (find_past r x bs f) ∙ e)
      ]

  -- a parent stays the parent
  pub parent_append : (bs cs : List (Block R)) (b p : Block R) → Parent bs b p → Parent (bs ++ cs) b p
  parent_append bs cs b p h = (find_append_some b.parent bs cs p h.0, h.1)

  pub steps_append : (k : ℕ) (bs cs : List (Block R)) (b p : Block R) → Steps k bs b p → Steps k (bs ++ cs) b p
  steps_append zero bs cs b p h = h
  steps_append (suc k) bs cs b p h = (h.0, parent_append bs cs b h.0 h.1, steps_append k bs cs h.0 p h.2)

  -- the parent is what one step of a climb finds
  pub lower-from-parent : (bs : List (Block R)) (b p : Block R) → Parent bs b p → Ok p ≡ one_lower b.height (find b.parent bs)
  lower-from-parent bs b p h = sym (ap (one_lower b.height) h.0 ∙ cond-true _ _ _ (eq-eqb (p.height + 1) b.height h.1))

  lower-some : (h : ℕ) (o : Option (Block R)) (p : Block R) → Ok p ≡ one_lower h o → (o ≡ Some p) × (p.height + 1 ≡ h)
  lower-some h None p e = absurd (ok_err p BrokenShelf e)
  lower-some h (Some q) p e =
      elim (cases_Bool (eqb (q.height + 1) h)) [
        | inl t ↦
            let k : q ≡ p = ok_same q p (sym (e ∙ cond-true _ _ _ t)) in
            (ap Some k, ap (λ (y : Block R). y.height + 1) (sym k) ∙ eqb-true (q.height + 1) h t)
        | inr f ↦ absurd (ok_err p BrokenShelf (e ∙ cond-false _ _ _ f))
      ]

  pub parent-from-lower : (bs : List (Block R)) (b p : Block R) → Ok p ≡ one_lower b.height (find b.parent bs) → Parent bs b p
  parent-from-lower bs b p e = lower-some b.height (find b.parent bs) p e

  -- climbing follows the steps, and the steps are those of a climb
  pub climb-from-steps : (k : ℕ) (bs : List (Block R)) (b p : Block R) → Steps k bs b p → climb k bs b ≡ Ok p
  climb-from-steps zero bs b p h = climb-none 0 bs b refl ∙ ap Ok h
  climb-from-steps (suc k) bs b p h = climb-up k bs b h.0 (lower-from-parent bs b h.0 h.1) ∙ climb-from-steps k bs h.0 p h.2

  steps-more : (k : ℕ) (bs : List (Block R)) (b p : Block R) → ((q : Block R) → climb k bs q ≡ Ok p → Steps k bs q p) →
      (o : Result (Block R) Refusal) → o ≡ one_lower b.height (find b.parent bs) → climb (suc k) bs b ≡ Ok p → Steps (suc k) bs b p
  steps-more k bs b p rest (Ok q) o e = (q, parent-from-lower bs b q o, rest q (sym (climb-up k bs b q o) ∙ e))
  steps-more k bs b p rest (Err x) o e = absurd (ok_err p x (sym e ∙ climb_stops k bs b x o))

  pub steps-from-climb : (k : ℕ) (bs : List (Block R)) (b p : Block R) → climb k bs b ≡ Ok p → Steps k bs b p
  steps-from-climb zero bs b p e = ok_same b p (sym (climb-none 0 bs b refl) ∙ e)
  steps-from-climb (suc k) bs b p e =
      steps-more k bs b p (λ q. steps-from-climb k bs q p) (one_lower b.height (find b.parent bs)) refl e

  -- each step is one height
  pub steps-height : (k : ℕ) (bs : List (Block R)) (b p : Block R) → Steps k bs b p → p.height + k ≡ b.height
  steps-height zero bs b p h = let e : b.height ≡ p.height = ap (λ (y : Block R). y.height) h in omega arith
  steps-height (suc k) bs b p h = let e : p.height + k ≡ h.0.height = steps-height k bs h.0 p h.2 in let f : h.0.height + 1 ≡ b.height = h.1.1 in omega arith

  only_one : (r : Rank) (b x : Block R) → find r (b ∷ []) ≡ Some x → x ≡ b
  only_one r b x e =
      elim (cases_Bool (same_rank b.rank r)) [
        | inl t ↦ same_Some x b (sym e ∙ find-here r b [] t)
        | inr f ↦ absurd (none-some x (sym (find_past r b [] f ∙ find_none r) ∙ e))
      ]

  on-either : (bs : List (Block R)) (b x : Block R) (o : Option (Block R)) → find x.rank bs ≡ o → On (bs ++ b ∷ []) x → On bs x ⊎ (x ≡ b)
  on-either bs b x None e on = inr (only_one x.rank b x (sym (find_append_none x.rank bs (b ∷ []) e) ∙ on))
  on-either bs b x (Some y) e on = inl (e ∙ (sym (find_append_some x.rank bs (b ∷ []) y e) ∙ on))

  -- a block on the shelf after one more was stored was there before, or is that one
  pub on_push : (bs : List (Block R)) (b x : Block R) → On (bs ++ b ∷ []) x → On bs x ⊎ (x ≡ b)
  on_push bs b x on = on-either bs b x (find x.rank bs) refl on

  -- what growing keeps true of a block on the shelf: it has height 1, or its parent is on the shelf; and no height is 0
  abbrev RootedAt : List (Block R) → Block R → Type 0
  RootedAt bs b = (1 ≤ b.height) × ((b.height ≡ 1) ⊎ ((p : Block R) × Parent bs b p))

  abbrev Rooted : List (Block R) → Type 0
  Rooted bs = (b : Block R) → On bs b → RootedAt bs b

  rooted_append : (bs cs : List (Block R)) (b : Block R) → RootedAt bs b → RootedAt (bs ++ cs) b
  rooted_append bs cs b h =
      (h.0, elim h.1 [ inl one ↦ inl one | inr up ↦ inr (up.0, parent_append bs cs b up.0 up.1) ])

  rooted-next : (bs : List (Block R)) (b : Block R) → Rooted bs → MayFollow bs b → RootedAt bs b
  rooted-next bs b all m =
      elim m.1 [
        | inl one ↦ (omega arith, inl one)
        | inr up ↦
            let p : Block R = up.0 in
            let h : 1 ≤ p.height = (all p (on-from-find b.parent bs p up.1.0)).0 in
            let e : p.height + 1 ≡ b.height = up.1.1 in
            (omega arith, inr up)
      ]

  rooted_push : (bs : List (Block R)) (b : Block R) → Rooted bs → MayFollow bs b → Rooted (bs ++ b ∷ [])
  rooted_push bs b all m x on =
      elim (on_push bs b x on) [
        | inl old ↦ rooted_append bs (b ∷ []) x (all x old)
        | inr new ↦ subst (RootedAt (bs ++ b ∷ [])) (sym new) (rooted_append bs (b ∷ []) b (rooted-next bs b all m))
      ]

  rooted-from : (before bs : List (Block R)) → Rooted before → GrownOn before bs → Rooted (before ++ bs)
  rooted-from before [] all h = subst Rooted (sym (append-nil before)) all
  rooted-from before (b ∷ bs) all h =
      subst Rooted (append_assoc before (b ∷ []) bs) (rooted-from (before ++ b ∷ []) bs (rooted_push before b all h.0) h.1)

  rooted : (bs : List (Block R)) → Grown bs → Rooted bs
  rooted bs h = rooted-from [] bs (λ b e. absurd (none-some b (sym (find_none b.rank) ∙ e))) h

  -- on a grown shelf no block has height 0
  pub height_positive : (bs : List (Block R)) → Grown bs → (b : Block R) → On bs b → 1 ≤ b.height
  height_positive bs h b on = (rooted bs h b on).0

  -- and a block above height 1 has its parent there
  pub parent_there_lem : (bs : List (Block R)) → Grown bs → (b : Block R) → On bs b → 1 < b.height → (p : Block R) × Parent bs b p
  parent_there_lem bs h b on high =
      elim (rooted bs h b on).1 [ inl one ↦ absurd (omega arith) | inr up ↦ up ]

  grown_push_on : (before bs : List (Block R)) (b : Block R) → GrownOn before bs → MayFollow (before ++ bs) b → GrownOn before (bs ++ b ∷ [])
  grown_push_on before [] b h m = (subst (λ xs. MayFollow xs b) (append-nil before) m, tt)
  grown_push_on before (x ∷ bs) b h m =
      (h.0, grown_push_on (before ++ x ∷ []) bs b h.1 (subst (λ xs. MayFollow xs b) (sym (append_assoc before (x ∷ []) bs)) m))

  -- storing a block that may be stored next keeps a shelf grown
  pub grown_push : (bs : List (Block R)) (b : Block R) → Grown bs → MayFollow bs b → Grown (bs ++ b ∷ [])
  grown_push bs b h m = grown_push_on [] bs b h m

  -- every number of steps that stays above the root can be gone, and ends on the shelf
  pub steps-there : (k : ℕ) (bs : List (Block R)) → Grown bs → (b : Block R) → On bs b → k < b.height → (p : Block R) × Steps k bs b p × On bs p
  steps-there zero bs h b on l = (b, refl, on)
  steps-there (suc k) bs h b on l =
      let high : 1 < b.height = omega arith in
      let up : (p : Block R) × Parent bs b p = parent_there_lem bs h b on high in
      let e : up.0.height + 1 ≡ b.height = up.1.1 in
      let low : k < up.0.height = omega arith in
      let rest : (p : Block R) × Steps k bs up.0 p × On bs p = steps-there k bs h up.0 (on-from-find b.parent bs up.0 up.1.0) low in
      (rest.0, (up.0, up.1, rest.1), rest.2)

  -- going on from where steps ended
  pub steps_join : (j k : ℕ) (bs : List (Block R)) (b p q : Block R) → Steps j bs b p → Steps k bs p q → Steps (j + k) bs b q
  steps_join zero k bs b p q s t = rw (zero-add k, s) t
  steps_join (suc j) k bs b p q s t =
      let e : suc (j + k) ≡ suc j + k = omega arith in
      subst (λ n. Steps n bs b q) e (s.0, s.1, steps_join j k bs s.0 p q s.2 t)

  -- so many steps end at one block
  pub steps-same : (k : ℕ) (bs : List (Block R)) (b p q : Block R) → Steps k bs b p → Steps k bs b q → p ≡ q
  steps-same k bs b p q s t = ok_same p q (sym (climb-from-steps k bs b p s) ∙ climb-from-steps k bs b q t)

  -- ancestors of a block on the shelf are on it
  pub steps_on : (k : ℕ) (bs : List (Block R)) (b p : Block R) → On bs b → Steps k bs b p → On bs p
  steps_on zero bs b p on s = subst (On bs) s on
  steps_on (suc k) bs b p on s = steps_on k bs s.0 p (on-from-find b.parent bs s.0 s.1.0) s.2

  -- a climb goes on from where steps ended
  pub climb_join : (j k : ℕ) (bs : List (Block R)) (b p : Block R) → Steps j bs b p → climb (j + k) bs b ≡ climb k bs p
  climb_join zero k bs b p s = rw zero-add (ap (climb k bs) s)
  climb_join (suc j) k bs b p s =
      let e : suc j + k ≡ suc (j + k) = omega arith in
      ap (λ n. climb n bs b) e ∙ (climb-up (j + k) bs b s.0 (lower-from-parent bs b s.0 s.1) ∙ climb_join j k bs s.0 p s.2)
