-- What a seat has committed.
use Rattle.std.specs.Prelude.{◌≡◌, ℕ, ◌<◌, [], ◌∷◌, ◌++◌}
use Rattle.content.specs.Kinds.{Kind}
use Rattle.blocks.specs.declared.block.Block.{Block}
use Rattle.agreement.specs.History.{Did, Event, History, Once, desk}
use Rattle.agreement.specs.Setting.{Setting}

module _ {L : ℕ} {R : Type 0} (S : ℕ) (k : Kind L R) (w : Setting) where
  -- the call took in the certificate of a block: the block is shelved by it
  abbrev pub Takes : Block R → Event → History → Type 0
  Takes b e h = Did S k w (λ o. o.blocks ≡ (desk S k w e.who h).blocks ++ (b ∷ [])) e h

  -- a seat took in the certificate of a block
  abbrev pub Took : ℕ → Block R → History → Type 0
  Took i b h = Once (λ e p. (e.who ≡ i) × Takes b e p) h

  -- a call of the seat answered a height above 0, and b is the block of the certificate that it took in
  abbrev pub Commits : ℕ → Block R → History → Type 0
  Commits i b h = Once (λ e p. (e.who ≡ i) × (Did S k w (λ o. 0 < o.height) e p × Takes b e p)) h

  -- c is the parent of b: the block of the rank that b names, whose certificate the seat took in before that of b
  abbrev pub ParentOf : ℕ → Block R → Block R → History → Type 0
  ParentOf i c b h = (1 < b.height) × ((c.rank ≡ b.parent) × Once (λ e p. (e.who ≡ i) × (Takes b e p × Took i c p)) h)

  -- a seat commits such a block and its ancestors
  pub data Committed (h : History) (i : ℕ) : Block R → Type 0 where
    direct : (b : Block R) → Commits i b h → Committed h i b
    ancestor : (b c : Block R) → Committed h i b → ParentOf i c b h → Committed h i c
