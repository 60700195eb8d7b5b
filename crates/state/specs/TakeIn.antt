-- Taking in a certificate.
use Rattle.std.specs.Prelude.{ℕ, ◌+◌, min, Bool, true, false, cond, not, ◌&&◌, List, length, Some, None, Ok, Err, Option, Result, ◌==◌, nat_lt}
use Rattle.content.specs.Kinds.{Kind}
use Rattle.content.specs.declared.refusal.Refusal.{Refusal}
use Rattle.content.specs.declared.refusal.Refusal.TheVariants.{Orphan, Rival, Full, Fork}
use Rattle.blocks.specs.Keeping.{padded}
use Rattle.blocks.specs.Ranks.{below, parent_of, same_block}
use Rattle.blocks.specs.declared.block.Block.{Block}
use Rattle.blocks.specs.declared.block.Rank.{Rank}
use Rattle.wire.specs.declared.message.Certificate.{Certificate}
use Rattle.shelf.specs.Blocks.{find, read_below}
use Rattle.state.specs.Parts.{is_on, turn_rises, with_best, with_committed}
use Rattle.state.specs.declared.state.Best.{Best}
use Rattle.state.specs.declared.state.State.{State}
use Rattle.state.specs.declared.taking.Verdict.{Verdict}
use Rattle.state.specs.declared.taking.Verdict.TheVariants.{Known, New}

module _ {R : Type 0} where
  -- the parent is the root, or on the shelf, one height lower
  abbrev pub one_up : ℕ → Option (Block R) → Bool
  one_up height None = false
  one_up height (Some p) = p.height + 1 == height

  abbrev pub parent_there : List (Block R) → Block R → Bool
  parent_there bs b = cond (b.height == 1) true (one_up b.height (find b.parent bs))

module _ {S : ℕ} {R : Type 0} where
  -- the seat is on in the block's view
  abbrev pub here : State S R → Block R → Bool
  here s b = is_on s.phase && s.view == b.rank.view

  -- a certificate commits its block where the seat is on in its view and not spoiled
  abbrev pub commits : State S R → Block R → Bool
  commits s b = here s b && not s.spoiled

module _ {L : ℕ} {R : Type 0} (k : Kind L R) where
  -- the block found at the height of the last commit has to be that block
  abbrev pub is_last : Block R → Result (Option (Block R)) Refusal → Result Verdict Refusal
  is_last last (Err e) = Err e
  is_last last (Ok None) = Err Fork
  is_last last (Ok (Some b)) = cond (same_block k b last) (Ok New) (Err Fork)

  -- a new commit has the last one among its ancestors
  abbrev pub extends : List (Block R) → Option (Block R) → Block R → Result Verdict Refusal
  extends bs None b = Ok New
  extends bs (Some last) b = is_last last (read_below bs (parent_of b) last.height)

module _ {L S : ℕ} {R : Type 0} (k : Kind L R) where
  -- a block whose rank is not on the shelf: its parent is wanted, a free cell and, if it commits, that it extends the last commit
  abbrev pub judge_new : State S R → List (Block R) → ℕ → Block R → Result Verdict Refusal
  judge_new s bs cells b =
      cond (parent_there bs b)
      (cond (nat_lt (length bs) cells)
      (cond (commits s b) (extends k bs s.committed b) (Ok New))
      (Err Full))
      (Err Orphan)

  -- a block whose rank is on the shelf: nothing new, or a rival
  abbrev pub judge_found : State S R → List (Block R) → ℕ → Block R → Option (Block R) → Result Verdict Refusal
  judge_found s bs cells b None = judge_new s bs cells b
  judge_found s bs cells b (Some x) = cond (same_block k x b) (Ok Known) (Err Rival)

  abbrev pub judge_in : State S R → List (Block R) → ℕ → Block R → Result Verdict Refusal
  judge_in s bs cells b = judge_found s bs cells b (find b.rank bs)

module _ {R : Type 0} where
  -- a certificate to keep: its seals, and zeros after them
  abbrev pub keep_best : Certificate R (List ℕ) → Best R
  keep_best c = record {
    block = c.block;
    mask = c.mask;
    seals = padded 512 c.seals;
  }

  -- whether a rank is above best
  abbrev pub higher_than : Option (Best R) → Rank → Bool
  higher_than None r = true
  higher_than (Some best) r = below best.block.rank r

  -- best becomes the higher rank
  abbrev pub better : Option (Best R) → Certificate R (List ℕ) → Option (Best R)
  better None c = Some (keep_best c)
  better (Some best) c = cond (below best.block.rank c.block.rank) (Some (keep_best c)) (Some best)

module _ {S : ℕ} {R : Type 0} where
  -- the seat after a new certificate: a turn rises at most to 2 ^ 32 - 1
  abbrev pub shelve : Certificate R (List ℕ) → State S R → State S R
  shelve c s =
      let t : State S R = with_best (better s.best c) s in
      let u : State S R = cond (here s c.block) (turn_rises (min (s.turn + 1) 4294967295) t) t in
      cond (commits s c.block) (with_committed c.block u) u

  -- the height that a new certificate commits, 0 if none
  abbrev pub height_of : State S R → Block R → ℕ
  height_of s b = cond (commits s b) b.height 0
