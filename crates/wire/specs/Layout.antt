-- The bytes of blocks, statements and messages. All numbers lie low byte first.
use Rattle.std.specs.Prelude.{ℕ, ◌+◌, Bool, false, cond, ◌&&◌, List, [], ◌∷◌, ◌++◌, Some, None, Option, ◌==◌, nat_lt}
use Rattle.content.specs.Kinds.{Kind}
use Rattle.content.specs.Numbers.{spell}
use Rattle.blocks.specs.declared.block.Block.{Block}
use Rattle.wire.specs.declared.message.Certificate.{Certificate}
use Rattle.wire.specs.declared.message.Parts.{Parts}
use Rattle.wire.specs.declared.message.Parts.TheVariants.{Proposal, Vote, Blame, Certified, Notice}

-- whether a block of this view and turn may stand on a parent of this rank: one of an earlier view at turn 0, else the turn
-- before of its own view
abbrev pub carries : (pview pturn view turn : ℕ) → Bool
carries pview pturn view turn = cond (turn == 0) (nat_lt pview view) (pview == view && pturn + 1 == turn)

-- the five numbers of a block: height 1 stands on the root, with turn 0 and zeros for the parent; above it, the parent
-- carries the block
abbrev pub lawful_numbers : (view turn height pview pturn : ℕ) → Bool
lawful_numbers view turn height pview pturn =
    cond (height == 0) false
    (cond (height == 1) (turn == 0 && (pview == 0 && pturn == 0))
    (carries pview pturn view turn))

module _ {L : ℕ} {R : Type 0} (k : Kind L R) where
  abbrev pub block_bytes : Block R → List ℕ
  block_bytes b =
      spell 2 b.rank.view ++ (spell 2 b.rank.turn ++ (spell 4 b.height ++
      (spell 2 b.parent.view ++ (spell 2 b.parent.turn ++ k.shown b.content))))

  -- what a leader, a voter and a blaming seat put their seals on
  abbrev pub proposal_statement : Block R → List ℕ
  proposal_statement b = 1 ∷ block_bytes b

  abbrev pub vote_statement : Block R → List ℕ
  vote_statement b = 2 ∷ block_bytes b

  abbrev pub body_bytes : Certificate R (List ℕ) → List ℕ
  body_bytes c = block_bytes c.block ++ (spell 2 c.mask ++ c.seals)

  abbrev pub parent_bytes : Option (Certificate R (List ℕ)) → List ℕ
  parent_bytes None = []
  parent_bytes (Some c) = body_bytes c

  abbrev pub message_bytes : Parts R (List ℕ) → List ℕ
  message_bytes (Proposal block seal parent) = 1 ∷ (block_bytes block ++ (seal ++ parent_bytes parent))
  message_bytes (Vote seat block seal) = 2 ∷ (seat ∷ (block_bytes block ++ seal))
  message_bytes (Blame seat view seal) = 3 ∷ (seat ∷ (spell 2 view ++ seal))
  message_bytes (Certified c) = 4 ∷ body_bytes c
  message_bytes (Notice view mask seals) = 5 ∷ (spell 2 view ++ (spell 2 mask ++ seals))

abbrev pub blame_statement : ℕ → List ℕ
blame_statement view = 3 ∷ spell 2 view
