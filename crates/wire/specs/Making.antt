-- Judging a message by its parts before it is made: each field in the order in which it lies, with the refusals of
-- reading at the same offsets. A seal, or a row of seals, of another length is refused like a mask.
use Rattle.std.specs.Prelude.{ℕ, ◌+◌, ◌*◌, Bool, cond, not, List, length, Some, None, Ok, Err, Decides, Option, Result, ◌==◌, nat_lt}
use Rattle.content.specs.Kinds.{Kind, Lawful}
use Rattle.content.specs.declared.refusal.Refusal.{Refusal}
use Rattle.content.specs.declared.refusal.Refusal.TheVariants.{BadLayout, NoContent, WrongParent}
use Rattle.wire.specs.Lawful.{TwoBytes}
use Rattle.wire.specs.Layout.{lawful_numbers}
use Rattle.blocks.specs.Masks.{lawful_mask, quorum}
use Rattle.wire.specs.Reading.{next, is_parent}
use Rattle.blocks.specs.declared.block.Block.{Block}
use Rattle.blocks.specs.declared.block.Rank.{Rank}
use Rattle.wire.specs.declared.message.Certificate.{Certificate}
use Rattle.wire.specs.declared.message.Message.{Message}
use Rattle.wire.specs.declared.message.Parts.{Parts}
use Rattle.wire.specs.declared.message.Parts.TheVariants.{Proposal, Vote, Blame, Certified, Notice}

-- a rank in two bytes and two
abbrev pub RankHeld : Rank → Type 0
RankHeld r = TwoBytes r.view × TwoBytes r.turn

abbrev pub ok_if : Bool → Refusal → Result Unit Refusal
ok_if test e = cond test (Ok tt) (Err e)

-- a block; `fits` is whether its content is lawful
abbrev pub judge_block : {R : Type 0} → Bool → ℕ → Block R → Result Unit Refusal
judge_block fits at b =
    next (ok_if (lawful_numbers b.rank.view b.rank.turn b.height b.parent.view b.parent.turn) (BadLayout at))
    (λ _. ok_if fits (NoContent (at + 12)))

abbrev pub judge_row : (S n at mask : ℕ) → List ℕ → Result Unit Refusal
judge_row S n at mask seals =
    next (ok_if (lawful_mask n mask) (BadLayout at)) (λ _. ok_if (length seals == quorum n * S) (BadLayout (at + 2)))

module _ (L S n : ℕ) {R : Type 0} where
  abbrev pub judge_body : Bool → ℕ → Certificate R (List ℕ) → Result Unit Refusal
  judge_body fits at c = next (judge_block fits at c.block) (λ _. judge_row S n (at + 12 + L) c.mask c.seals)

  -- a parent's certificate at height 1, none above it, and another block's are one refusal
  abbrev pub judge_parent : Bool → ℕ → Block R → Option (Certificate R (List ℕ)) → Result Unit Refusal
  judge_parent fits at b None = ok_if (b.height == 1) (WrongParent at)
  judge_parent fits at b (Some c) =
      next (ok_if (not (b.height == 1)) (WrongParent at)) (λ _.
      next (judge_body fits at c) (λ _. ok_if (is_parent b c) (WrongParent at)))

  -- `fits` and `below`: whether the content, and that of the parent, is lawful
  abbrev pub judge_parts : (fits below : Bool) → Parts R (List ℕ) → Result Unit Refusal
  judge_parts fits below (Proposal block seal parent) =
      next (judge_block fits 1 block) (λ _.
      next (ok_if (length seal == S) (BadLayout (13 + L))) (λ _. judge_parent below (13 + L + length seal) block parent))
  judge_parts fits below (Vote seat block seal) =
      next (ok_if (nat_lt seat n) (BadLayout 1)) (λ _.
      next (judge_block fits 2 block) (λ _. ok_if (length seal == S) (BadLayout (14 + L))))
  judge_parts fits below (Blame seat view seal) =
      next (ok_if (nat_lt seat n) (BadLayout 1)) (λ _. ok_if (length seal == S) (BadLayout 4))
  judge_parts fits below (Certified c) = judge_body fits 1 c
  judge_parts fits below (Notice view mask seals) = judge_row S n 3 mask seals

-- whether the contents of a message are lawful
module _ {L : ℕ} {R : Type 0} (k : Kind L R) where
  abbrev pub ParentFits : Option (Certificate R (List ℕ)) → Bool → Type 0
  ParentFits None below = Unit {0}
  ParentFits (Some c) below = Decides below (Lawful k c.block.content)

  abbrev pub PartsFit : Parts R (List ℕ) → (fits below : Bool) → Type 0
  PartsFit (Proposal block seal parent) fits below = Decides fits (Lawful k block.content) × ParentFits parent below
  PartsFit (Vote seat block seal) fits below = Decides fits (Lawful k block.content)
  PartsFit (Blame seat view seal) fits below = Unit {0}
  PartsFit (Certified c) fits below = Decides fits (Lawful k c.block.content)
  PartsFit (Notice view mask seals) fits below = Unit {0}

-- whether a message was made, or the refusal
abbrev pub verdict : {R : Type 0} → Result (Message R) Refusal → Result Unit Refusal
verdict (Ok m) = Ok tt
verdict (Err e) = Err e
