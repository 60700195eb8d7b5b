-- Messages that keep the layout, said of their parts.
use Rattle.std.specs.Prelude.{◌≡◌, ℕ, ◌*◌, ◌^◌, ◌<◌, true, List, length, Some, None, Option, ◌≢◌}
use Rattle.content.specs.Kinds.{Kind, Lawful}
use Rattle.wire.specs.Layout.{lawful_numbers}
use Rattle.blocks.specs.Masks.{lawful_mask, quorum}
use Rattle.wire.specs.Reading.{is_parent}
use Rattle.blocks.specs.declared.block.Block.{Block}
use Rattle.wire.specs.declared.message.Certificate.{Certificate}
use Rattle.wire.specs.declared.message.Parts.{Parts}
use Rattle.wire.specs.declared.message.Parts.TheVariants.{Proposal, Vote, Blame, Certified, Notice}

-- two bytes hold a view, a turn and a mask, four a height
abbrev pub TwoBytes : ℕ → Type 0
TwoBytes x = x < 2 ^ 16

abbrev pub FourBytes : ℕ → Type 0
FourBytes x = x < 2 ^ 32

-- a quorum of seats, a bit each, and a seal of S bytes for each of them
pub record LawfulRow (S n mask : ℕ) (seals : List ℕ) : Type 0 where
  pub range : TwoBytes mask
  pub seats : lawful_mask n mask ≡ true
  pub row : length seals ≡ quorum n * S

pub record LawfulBlock {L : ℕ} {R : Type 0} (k : Kind L R) (b : Block R) : Type 0 where
  pub view : TwoBytes b.rank.view
  pub turn : TwoBytes b.rank.turn
  pub height : FourBytes b.height
  pub pview : TwoBytes b.parent.view
  pub pturn : TwoBytes b.parent.turn
  pub numbers : lawful_numbers b.rank.view b.rank.turn b.height b.parent.view b.parent.turn ≡ true
  pub content : Lawful k b.content

module _ {L : ℕ} {R : Type 0} (k : Kind L R) (S n : ℕ) where
  abbrev pub LawfulBody : Certificate R (List ℕ) → Type 0
  LawfulBody c = LawfulBlock k c.block × LawfulRow S n c.mask c.seals

  -- above height 1, and only there, a proposal carries its parent's certificate
  abbrev pub LawfulParent : Block R → Option (Certificate R (List ℕ)) → Type 0
  LawfulParent b None = b.height ≡ 1
  LawfulParent b (Some c) = (b.height ≢ 1) × LawfulBody c × (is_parent b c ≡ true)

  abbrev pub LawfulParts : Parts R (List ℕ) → Type 0
  LawfulParts (Proposal block seal parent) = LawfulBlock k block × (length seal ≡ S) × LawfulParent block parent
  LawfulParts (Vote seat block seal) = (seat < n) × LawfulBlock k block × (length seal ≡ S)
  LawfulParts (Blame seat view seal) = (seat < n) × TwoBytes view × (length seal ≡ S)
  LawfulParts (Certified c) = LawfulBody c
  LawfulParts (Notice view mask seals) = TwoBytes view × LawfulRow S n mask seals
