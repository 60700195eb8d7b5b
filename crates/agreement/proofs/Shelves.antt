-- Grown shelves of lawful blocks: which blocks are on them, and which turns of a view.
use Rattle.std.proofs.Common.{◌≡◌, ℕ, zero, suc, ◌+◌, ◌-◌, ◌<◌, ◌≤◌, max, true, eqb, ltb, ◌⊎◌, List, [], ◌∷◌, ◌++◌, Some, None, Ok, Err, Option, Result, sym, refl, ap, ◌∙◌, subst, inl, inr, arith}
use Rattle.std.proofs.lemmas.List.{append_assoc}
use Rattle.std.proofs.lemmas.Bool.{cases_Bool, cond-true, cond-false, cond_both, cases_lt, eqb-true, eqb-false, eq-eqb, le-ltb, ltb-false, ne_eqb}
use Rattle.content.specs.Kinds.{Kind}
use Rattle.content.specs.declared.refusal.Refusal.{Refusal}
use Rattle.blocks.specs.Ranks.{same_rank}
use Rattle.blocks.specs.declared.block.Block.{Block}
use Rattle.blocks.specs.declared.block.Rank.{Rank}
use Rattle.wire.specs.Lawful.{LawfulBlock}
use Rattle.wire.specs.Layout.{lawful_numbers}
use Rattle.shelf.specs.Ancestry.{Grown, GrownOn, Steps}
use Rattle.shelf.specs.Blocks.{answered, below_block, climb, find, higher, read_below, top_turn}
use Rattle.shelf.proofs.Ancestry.{climb-from-steps, find_append_none, find-rank, height_positive, parent_there_lem, steps-height, steps-there}
use Rattle.shelf.proofs.Scans.{find-here, find_none, find_past}
use Rattle.agreement.specs.Laws.{OnShelf}
use Rattle.agreement.proofs.Facts.{Descends, self, up}

-- what lawful numbers say
pub lawful-first : (v t h pv pt : ℕ) → lawful_numbers v t h pv pt ≡ true → h ≡ 1 → t ≡ 0
lawful-first v t h pv pt e q = grind arith

pub lawful-later : (v t h pv pt : ℕ) → lawful_numbers v t h pv pt ≡ true → 0 < t → (1 < h) × (pv ≡ v) × (pt + 1 ≡ t)
lawful-later v t h pv pt e q = (grind arith, grind arith, grind arith)

pub lawful-high : (v t h pv pt : ℕ) → lawful_numbers v t h pv pt ≡ true → 1 ≤ h
lawful-high v t h pv pt e = grind arith

rank_itself : (r : Rank) → same_rank r r ≡ true
rank_itself r = rw (eq-eqb r.view r.view refl) (eq-eqb r.turn r.turn refl)

module _ {R : Type 0} where
  some_same : (x y : Block R) → Some x ≡ Some y → x ≡ y
  some_same x y e = cc

  none-some : (x : Block R) → None ≡ Some x → ⊥
  none-some x e = let z : ◌≡◌ {A = ℕ} 0 1 = cc in omega arith

  -- a block that is on a shelf stays on it when more is stored
  pub on_append : (b : Block R) (bs cs : List (Block R)) → OnShelf b bs → OnShelf b (bs ++ cs)
  on_append b [] cs h = absurd h
  on_append b (x ∷ bs) cs (inl e) = inl e
  on_append b (x ∷ bs) cs (inr h) = inr (on_append b bs cs h)

  pub on-last : (b : Block R) (bs : List (Block R)) → OnShelf b (bs ++ b ∷ [])
  on-last b [] = inl refl
  on-last b (x ∷ bs) = inr (on-last b bs)

  -- what is on it then was there before, or is what was stored
  pub on_pushed : (x b : Block R) (bs : List (Block R)) → OnShelf x (bs ++ b ∷ []) → OnShelf x bs ⊎ (b ≡ x)
  on_pushed x b [] (inl e) = inr e
  on_pushed x b [] (inr h) = absurd h
  on_pushed x b (y ∷ bs) (inl e) = inl (inl e)
  on_pushed x b (y ∷ bs) (inr h) = elim (on_pushed x b bs h) [ inl k ↦ inl (inr k) | inr k ↦ inr k ]

  -- a block that is found is on the shelf
  pub on-from-find : (r : Rank) (bs : List (Block R)) (b : Block R) → find r bs ≡ Some b → OnShelf b bs
  on-from-find r [] b e = absurd (none-some b (sym (find_none r) ∙ e))
  on-from-find r (x ∷ bs) b e =
      elim (cases_Bool (same_rank x.rank r)) [
        | inl t ↦ inl (some_same x b (sym (find-here r x bs t) ∙ e))
        | inr f ↦ inr (on-from-find r bs b (sym (find_past r x bs f) ∙ e))
      ]

  find-grown : (before bs : List (Block R)) (b : Block R) → GrownOn before bs → OnShelf b bs → find b.rank (before ++ bs) ≡ Some b
  find-grown before [] b g h = absurd h
  find-grown before (x ∷ bs) b g (inl e) =
      let f : find x.rank (before ++ (x ∷ bs)) ≡ Some x =
      find_append_none x.rank before (x ∷ bs) g.0.0 ∙ find-here x.rank x bs (rank_itself x.rank) in
      subst (λ (y : Block R). find y.rank (before ++ (x ∷ bs)) ≡ Some y) e f
  find-grown before (x ∷ bs) b g (inr h) =
      subst (λ xs. find b.rank xs ≡ Some b) (append_assoc before (x ∷ []) bs) (find-grown (before ++ x ∷ []) bs b g.1 h)

  -- on a grown shelf a block is found by its rank
  pub found-on : (bs : List (Block R)) (b : Block R) → Grown bs → OnShelf b bs → find b.rank bs ≡ Some b
  found-on bs b g h = find-grown [] bs b g h

  -- so it has one block a rank
  pub one_rank : (bs : List (Block R)) (b c : Block R) → Grown bs → OnShelf b bs → OnShelf c bs → b.rank ≡ c.rank → b ≡ c
  one_rank bs b c g h₁ h₂ e = some_same b c (sym (found-on bs b g h₁) ∙ (ap (λ r. find r bs) e ∙ found-on bs c g h₂))

  -- a rank that is not found is no block's
  pub none-there : (bs : List (Block R)) (r : Rank) (b : Block R) → Grown bs → find r bs ≡ None → OnShelf b bs → b.rank ≡ r → ⊥
  none-there bs r b g e h q = none-some b (sym e ∙ (ap (λ x. find x bs) (sym q) ∙ found-on bs b g h))

  -- the parent of a block above height 1 is on the shelf, one lower
  pub parent-on : (bs : List (Block R)) (b : Block R) → Grown bs → OnShelf b bs → 1 < b.height →
      (c : Block R) × OnShelf c bs × (c.rank ≡ b.parent) × (c.height + 1 ≡ b.height)
  parent-on bs b g h high =
      let u = parent_there_lem bs g b (found-on bs b g h) high in
      (u.0, on-from-find b.parent bs u.0 u.1.0, find-rank b.parent bs u.0 u.1.0, u.1.1)

  -- climbing from a block of a grown shelf finds an ancestor, and never a broken shelf
  descends_on : (bs : List (Block R)) (b d : Block R) → Descends bs b d → OnShelf b bs
  descends_on bs b d (self _ on) = on
  descends_on bs b d (up _ c _ on high rank height rest) = on

  descends_steps : (bs : List (Block R)) (b d : Block R) → Grown bs → Descends bs b d → (n : ℕ) × Steps n bs b d
  descends_steps bs b d g (self _ on) = (0, refl)
  descends_steps bs b d g (up _ c _ on high rank height rest) =
      let r = descends_steps bs c d g rest in
      let f : find b.parent bs ≡ Some c = ap (λ x. find x bs) (sym rank) ∙ found-on bs c g (descends_on bs c d rest) in
      (suc r.0, (c, (f, height), r.1))

  -- reading the height of an ancestor finds it
  pub reads-below : (bs : List (Block R)) (b d : Block R) → Grown bs → Descends bs b d → read_below bs (Some b.rank) d.height ≡ Ok (Some d)
  reads-below bs b d g h =
      let s = descends_steps bs b d g h in
      let n : ℕ = s.0 in
      let low : 1 ≤ d.height = height_positive bs g d (end_on bs b d g h) in
      let sum : d.height + n ≡ b.height = steps-height n bs b d s.1 in
      let no : d.height ≡ 0 → ⊥ = λ z. omega arith in
      let fits : d.height ≤ b.height = omega arith in
      let less : n ≡ b.height - d.height = omega arith in
      ap (below_block bs d.height) (found-on bs b g (descends_on bs b d h)) ∙
      (cond-false _ _ _ (ne_eqb d.height 0 no) ∙
      (cond-false _ _ _ (le-ltb b.height d.height fits) ∙
      ap answered (ap (λ x. climb x bs b) (sym less) ∙ climb-from-steps n bs b d s.1)))
    where
      end_on : (bs : List (Block R)) (b d : Block R) → Grown bs → Descends bs b d → find d.rank bs ≡ Some d
      end_on bs b d g (self _ on) = found-on bs b g on
      end_on bs b d g (up _ c _ on high rank height rest) = end_on bs c d g rest

  -- reading below a block of a grown shelf never finds it broken
  pub never_broken : (bs : List (Block R)) (b : Block R) (h : ℕ) (x : Refusal) → Grown bs → find b.rank bs ≡ Some b →
      below_block bs h (Some b) ≡ Err x → ⊥
  never_broken bs b h x g on e =
      elim (cases_Bool (eqb h 0)) [
        | inl t ↦ ok_err None x (sym (cond-true _ _ _ t) ∙ e)
        | inr f ↦
            elim (cases_Bool (ltb b.height h)) [
              | inl t ↦ ok_err None x (sym (cond-false _ _ _ f ∙ cond-true _ _ _ t) ∙ e)
              | inr u ↦
                  let no : h ≡ 0 → ⊥ = eqb-false h 0 f in
                  let fits : h ≤ b.height = ltb-false b.height h u in
                  let low : b.height - h < b.height = omega arith in
                  let s = steps-there (b.height - h) bs g b on low in
                  ok_err (Some s.0) x
                  (sym (cond-false _ _ _ f ∙ (cond-false _ _ _ u ∙ ap answered (climb-from-steps (b.height - h) bs b s.0 s.1))) ∙ e)
            ]
      ]
    where
      ok_err : (o : Option (Block R)) (x : Refusal) → ◌≡◌ {A = Result (Option (Block R)) Refusal} (Ok o) (Err x) → ⊥
      ok_err o x e = let z : ◌≡◌ {A = ℕ} 0 1 = cc in omega arith

  -- a turn of a view that is on the shelf
  abbrev pub TurnOn : ℕ → ℕ → List (Block R) → Type 0
  TurnOn v t bs = (b : Block R) × OnShelf b bs × (b.rank.view ≡ v) × (b.rank.turn ≡ t)

  -- what the highest turn of a view says
  abbrev pub TopOf : ℕ → List (Block R) → Option ℕ → Type 0
  TopOf v bs None = (b : Block R) → OnShelf b bs → b.rank.view ≡ v → ⊥
  TopOf v bs (Some t) = TurnOn v t bs × ((b : Block R) → OnShelf b bs → b.rank.view ≡ v → b.rank.turn ≤ t)

  turn_more : (v t : ℕ) (x : Block R) (bs : List (Block R)) → TurnOn v t bs → TurnOn v t (x ∷ bs)
  turn_more v t x bs h = (h.0, inr h.1, h.2, h.3)

  top-here : (v : ℕ) (x : Block R) (bs : List (Block R)) (o : Option ℕ) → x.rank.view ≡ v → TopOf v bs o → TopOf v (x ∷ bs) (higher x.rank.turn o)
  top-here v x bs None e h =
      ((x, inl refl, e, refl), λ b on q. elim on [ inl s ↦ (let l : x.rank.turn ≡ b.rank.turn = ap (λ (y : Block R). y.rank.turn) s in omega arith) | inr r ↦ absurd (h b r q) ])
  top-here v x bs (Some t) e h = (
    greater (max x.rank.turn t) refl,
    λ b on q.
        elim on [
          | inl s ↦ (let l : x.rank.turn ≡ b.rank.turn = ap (λ (y : Block R). y.rank.turn) s in omega arith)
          | inr r ↦ (let l : b.rank.turn ≤ t = h.1 b r q in omega arith)
        ],
  )
    where
      greater : (m : ℕ) → m ≡ max x.rank.turn t → TurnOn v m (x ∷ bs)
      greater m q =
          elim (cases_lt x.rank.turn t) [
            | inl l ↦ (let z : t ≡ m = omega arith in (h.0.0, inr h.0.1, h.0.2, h.0.3 ∙ z))
            | inr l ↦ (let z : x.rank.turn ≡ m = omega arith in (x, inl refl, e, z))
          ]

  top-past : (v : ℕ) (x : Block R) (bs : List (Block R)) (o : Option ℕ) → (x.rank.view ≡ v → ⊥) → TopOf v bs o → TopOf v (x ∷ bs) o
  top-past v x bs None e h = λ b on q.
      elim on [ inl s ↦ e (ap (λ (y : Block R). y.rank.view) s ∙ q) | inr r ↦ h b r q ]
  top-past v x bs (Some t) e h = (
    turn_more v t x bs h.0,
    λ b on q.
        elim on [ inl s ↦ absurd (e (ap (λ (y : Block R). y.rank.view) s ∙ q)) | inr r ↦ h.1 b r q ],
  )

  pub top_of : (v : ℕ) (bs : List (Block R)) → TopOf v bs (top_turn v bs)
  unfolding top_turn
  top_of v [] = λ b on q. on
  top_of v (x ∷ bs) =
      cond_both (eqb x.rank.view v) (higher x.rank.turn (top_turn v bs)) (top_turn v bs) (TopOf v (x ∷ bs))
      (λ t. top-here v x bs (top_turn v bs) (eqb-true x.rank.view v t) (top_of v bs))
      (λ f. top-past v x bs (top_turn v bs) (eqb-false x.rank.view v f) (top_of v bs))

module _ {L : ℕ} {R : Type 0} (k : Kind L R) where
  abbrev pub AllLawful : List (Block R) → Type 0
  AllLawful bs = (b : Block R) → OnShelf b bs → LawfulBlock k b

  -- below a turn on the shelf all turns of the view are on it
  turn-before : (bs : List (Block R)) (b : Block R) (t : ℕ) → Grown bs → AllLawful bs → OnShelf b bs → b.rank.turn ≡ suc t → TurnOn b.rank.view t bs
  turn-before bs b t g l on e =
      let n = lawful-later b.rank.view b.rank.turn b.height b.parent.view b.parent.turn (l b on).numbers (omega arith) in
      let p = parent-on bs b g on n.0 in
      let q : b.parent.turn + 1 ≡ b.rank.turn = n.2 in
      (p.0, p.1, ap (λ (r : Rank). r.view) p.2 ∙ n.1, (let z : p.0.rank.turn ≡ b.parent.turn = ap (λ (r : Rank). r.turn) p.2 in omega arith))

  pub turns_down : (bs : List (Block R)) → Grown bs → AllLawful bs → (v d t : ℕ) → TurnOn v (t + d) bs → TurnOn v t bs
  turns_down bs g l v zero t h = (h.0, h.1, h.2, (let e : h.0.rank.turn ≡ t + 0 = h.3 in omega arith))
  turns_down bs g l v (suc d) t h =
      let b : Block R = h.0 in
      let e : b.rank.turn ≡ suc (t + d) = (let f : b.rank.turn ≡ t + suc d = h.3 in omega arith) in
      let c = turn-before bs b (t + d) g l h.1 e in
      turns_down bs g l v d t (c.0, c.1, c.2 ∙ h.2, c.3)
