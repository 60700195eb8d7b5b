-- Reading a message, as a function on lists of bytes. Fields are read in the order in which they lie; `at` is the
-- offset of what is left.
use Rattle.std.specs.Prelude.{◌≡◌, ℕ, zero, suc, ◌+◌, ◌-◌, ◌*◌, Bool, cond, ◌&&◌, List, [], ◌∷◌, length, take, drop, Some, None, Ok, Err, Option, Result, ◌==◌, nat_lt}
use Rattle.content.specs.Kinds.{Kind}
use Rattle.content.specs.Numbers.{number}
use Rattle.content.specs.declared.refusal.Refusal.{Refusal}
use Rattle.content.specs.declared.refusal.Refusal.TheVariants.{Short, Trailing, UnknownKind, BadLayout, NoContent, WrongParent}
use Rattle.wire.specs.Layout.{lawful_numbers}
use Rattle.blocks.specs.Masks.{lawful_mask, quorum}
use Rattle.blocks.specs.Ranks.{same_rank}
use Rattle.blocks.specs.declared.block.Block.{Block}
use Rattle.blocks.specs.declared.block.Rank.{Rank}
use Rattle.wire.specs.declared.message.Certificate.{Certificate}
use Rattle.wire.specs.declared.message.Parts.{Parts}
use Rattle.wire.specs.declared.message.Parts.TheVariants.{Proposal, Vote, Blame, Certified, Notice}

-- a refusal ends the reading; else it goes on
abbrev pub next : {X Y : Type 0} → Result X Refusal → (X → Result Y Refusal) → Result Y Refusal
next (Ok x) f = f x
next (Err e) f = Err e

-- what was read, and the bytes that are left
abbrev pub Read : Type 0 → Type 0
Read X = Result (X × List ℕ) Refusal

-- len bytes were taken off the front: the offset and the bytes that are left, before and after
pub record Moved (len at : ℕ) (rest : List ℕ) (at' : ℕ) (rest' : List ℕ) : Type 0 where
  pub offset : at' ≡ at + len
  pub left : length rest' + len ≡ length rest

-- k bytes as they lie, or 1 at their offset
abbrev pub peel : (k at : ℕ) → List ℕ → Read (List ℕ)
peel k at xs = cond (nat_lt (length xs) k) (Err (Short at)) (Ok (take k xs, drop k xs))

abbrev pub peel_number : (k at : ℕ) → List ℕ → Read ℕ
peel_number k at xs = next (peel k at xs) (λ p. Ok (number p.0, p.1))

-- a seat below n
abbrev pub peel_seat : (n at : ℕ) → List ℕ → Read ℕ
peel_seat n at xs =
    next (peel_number 1 at xs) (λ p. cond (nat_lt p.0 n) (Ok p) (Err (BadLayout at)))

-- a set of exactly a quorum of seats below n
abbrev pub peel_mask : (n at : ℕ) → List ℕ → Read ℕ
peel_mask n at xs =
    next (peel_number 2 at xs) (λ p. cond (lawful_mask n p.0) (Ok p) (Err (BadLayout at)))

-- count seals of S bytes in a row; the first that does not fit is the field that is short
unfoldable pub seals_fit : (S count at : ℕ) → List ℕ → Result (List ℕ) Refusal
seals_fit S zero at xs = Ok xs
seals_fit S (suc count) at xs =
    cond (nat_lt (length xs) S) (Err (Short at)) (seals_fit S count (at + S) (drop S xs))

abbrev pub peel_seals : (S count at : ℕ) → List ℕ → Read (List ℕ)
peel_seals S count at xs = next (seals_fit S count at xs) (λ rest. Ok (take (count * S) xs, rest))

-- a view and a turn
abbrev pub peel_rank : (at : ℕ) → List ℕ → Read Rank
peel_rank at xs =
    next (peel_number 2 at xs) (λ view.
    next (peel_number 2 (at + 2) view.1) (λ turn. Ok (record { view = view.0; turn = turn.0 }, turn.1)))

-- nothing may be left
abbrev pub ended : {X : Type 0} → (total : ℕ) → X × List ℕ → Result X Refusal
ended total (x, []) = Ok x
ended total (x, y ∷ ys) = Err (Trailing (total - length (y ∷ ys)))

-- content: 1 if it does not fit, 5 if the bytes are no content of the kind
abbrev pub content_of : {R : Type 0} → (at : ℕ) → List ℕ → Option R → Read R
content_of at xs None = Err (NoContent at)
content_of at xs (Some r) = Ok (r, xs)

-- whether a certificate is that of the parent which a block names
abbrev pub is_parent : {R T : Type 0} → Block R → Certificate R T → Bool
is_parent b c = same_rank c.block.rank b.parent && c.block.height + 1 == b.height

module _ {L : ℕ} {R : Type 0} (k : Kind L R) where
  abbrev pub peel_content : (at : ℕ) → List ℕ → Read R
  peel_content at xs = next (peel L at xs) (λ p. content_of at p.1 (k.reads p.0))

  -- a block: its numbers are judged before its content is read
  abbrev pub peel_block : (at : ℕ) → List ℕ → Read (Block R)
  peel_block at xs =
      next (peel_number 2 at xs) (λ view.
      next (peel_number 2 (at + 2) view.1) (λ turn.
      next (peel_number 4 (at + 4) turn.1) (λ height.
      next (peel_number 2 (at + 8) height.1) (λ pview.
      next (peel_number 2 (at + 10) pview.1) (λ pturn.
      cond (lawful_numbers view.0 turn.0 height.0 pview.0 pturn.0)
      (next (peel_content (at + 12) pturn.1) (λ content.
      Ok (
        record {
          rank = record { view = view.0; turn = turn.0 };
          height = height.0;
          parent = record { view = pview.0; turn = pturn.0 };
          content = content.0;
        },
        content.1,
      )))
      (Err (BadLayout at)))))))

module _ {L : ℕ} {R : Type 0} (k : Kind L R) (S n : ℕ) where
  -- a certificate body: a block, a mask, the seals of its seats
  abbrev pub peel_body : (at : ℕ) → List ℕ → Read (Certificate R (List ℕ))
  peel_body at xs =
      next (peel_block k at xs) (λ block.
      next (peel_mask n (at + 12 + L) block.1) (λ mask.
      next (peel_seals S (quorum n) (at + 14 + L) mask.1) (λ seals.
      Ok (record { block = block.0; mask = mask.0; seals = seals.0 }, seals.1))))

  -- above height 1 a proposal carries the certificate of its parent
  abbrev pub proposal_of : (total : ℕ) → Block R → List ℕ → List ℕ → Result (Parts R (List ℕ)) Refusal
  proposal_of total b seal rest =
      cond (b.height == 1)
      (ended total (Proposal b seal None, rest))
      (next (peel_body (13 + L + S) rest) (λ c.
      next (ended total c) (λ parent.
      cond (is_parent b parent) (Ok (Proposal b seal (Some parent))) (Err (WrongParent (13 + L + S))))))

  abbrev pub read_proposal : (total : ℕ) → List ℕ → Result (Parts R (List ℕ)) Refusal
  read_proposal total xs =
      next (peel_block k 1 xs) (λ block.
      next (peel S (13 + L) block.1) (λ seal.
      proposal_of total block.0 seal.0 seal.1))

  abbrev pub read_vote : (total : ℕ) → List ℕ → Result (Parts R (List ℕ)) Refusal
  read_vote total xs =
      next (peel_seat n 1 xs) (λ seat.
      next (peel_block k 2 seat.1) (λ block.
      next (peel S (14 + L) block.1) (λ seal.
      ended total (Vote seat.0 block.0 seal.0, seal.1))))

  abbrev pub read_blame : (total : ℕ) → List ℕ → Result (Parts R (List ℕ)) Refusal
  read_blame total xs =
      next (peel_seat n 1 xs) (λ seat.
      next (peel_number 2 2 seat.1) (λ view.
      next (peel S 4 view.1) (λ seal.
      ended total (Blame seat.0 view.0 seal.0, seal.1))))

  abbrev pub read_certified : (total : ℕ) → List ℕ → Result (Parts R (List ℕ)) Refusal
  read_certified total xs =
      next (peel_body 1 xs) (λ c. next (ended total c) (λ body. Ok (Certified body)))

  abbrev pub read_notice : (total : ℕ) → List ℕ → Result (Parts R (List ℕ)) Refusal
  read_notice total xs =
      next (peel_number 2 1 xs) (λ view.
      next (peel_mask n 3 view.1) (λ mask.
      next (peel_seals S (quorum n) 5 mask.1) (λ seals.
      ended total (Notice view.0 mask.0 seals.0, seals.1))))

  -- the first byte is the kind, and chooses the layout of the rest
  abbrev pub read_kind : (total kind : ℕ) → List ℕ → Result (Parts R (List ℕ)) Refusal
  read_kind total kind rest =
      cond (kind == 1) (read_proposal total rest)
      (cond (kind == 2) (read_vote total rest)
      (cond (kind == 3) (read_blame total rest)
      (cond (kind == 4) (read_certified total rest)
      (cond (kind == 5) (read_notice total rest) (Err UnknownKind)))))

  unfoldable pub read_parts : List ℕ → Result (Parts R (List ℕ)) Refusal
  read_parts [] = Err (Short 0)
  read_parts (kind ∷ rest) = read_kind (1 + length rest) kind rest
