-- How a shelf grows, and the ancestors of its blocks.
use Rattle.std.specs.Prelude.{◌≡◌, ℕ, zero, suc, ◌+◌, ◌≤◌, ◌⊎◌, List, [], ◌∷◌, ◌++◌, Some, None, Ok, Option, Result}
use Rattle.content.specs.declared.refusal.Refusal.{Refusal}
use Rattle.blocks.specs.Ranks.{Place}
use Rattle.blocks.specs.declared.block.Block.{Block}
use Rattle.shelf.specs.Blocks.{find, read_below}

module _ {R : Type 0} where
  -- a block is on the shelf if it stands for its rank
  abbrev pub On : List (Block R) → Block R → Type 0
  On bs b = find b.rank bs ≡ Some b

  -- p is the parent of b: it stands for the rank that b names, one height lower
  abbrev pub Parent : List (Block R) → Block R → Block R → Type 0
  Parent bs b p = (find b.parent bs ≡ Some p) × (p.height + 1 ≡ b.height)

  -- b may be stored next: no block of its rank is there, and it has height 1 or its parent is there
  abbrev pub MayFollow : List (Block R) → Block R → Type 0
  MayFollow bs b = (find b.rank bs ≡ None) × ((b.height ≡ 1) ⊎ ((p : Block R) × Parent bs b p))

  -- a list grown from the empty one by storing, each at the end, blocks that may be stored next
  abbrev pub GrownOn : (before : List (Block R)) → List (Block R) → Type 0
  GrownOn before [] = Unit {0}
  GrownOn before (b ∷ bs) = MayFollow before b × GrownOn (before ++ b ∷ []) bs

  abbrev pub Grown : List (Block R) → Type 0
  Grown bs = GrownOn [] bs

  -- from b to p by going to the parent so many times
  abbrev pub Steps : ℕ → List (Block R) → Block R → Block R → Type 0
  Steps zero bs b p = b ≡ p
  Steps (suc k) bs b p = (q : Block R) × Parent bs b q × Steps k bs q p

  -- p is b itself or an ancestor of it
  abbrev pub Ancestor : List (Block R) → Block R → Block R → Type 0
  Ancestor bs b p = (k : ℕ) × Steps k bs b p

  -- p is the one ancestor of b that has height h, and it is on the shelf
  pub record OneAncestor (bs : List (Block R)) (b : Block R) (h : ℕ) (p : Block R) : Type 0 where
    pub on : On bs p
    pub high : p.height ≡ h
    pub above : Ancestor bs b p
    pub only : (q : Block R) → Ancestor bs b q → q.height ≡ h → q ≡ p

  -- what reading a height answers on a grown list, for a block on it and each height from 1 to the block's own: the one
  -- ancestor of that height, and never a refusal
  abbrev pub ReadsAncestor : List (Block R) → Place → ℕ → Result (Option (Block R)) Refusal → Type 0
  ReadsAncestor bs place h answer =
      Grown bs → (b : Block R) → On bs b → place ≡ Some b.rank → 1 ≤ h → h ≤ b.height →
      (p : Block R) × (answer ≡ Ok (Some p)) × OneAncestor bs b h p

  -- every block that could be read before is read still
  abbrev pub ReadsStay : (before after : List (Block R)) → Type 0
  ReadsStay before after =
      (place : Place) (h : ℕ) (b : Block R) → read_below before place h ≡ Ok (Some b) → read_below after place h ≡ Ok (Some b)
