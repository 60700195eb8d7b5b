-- What code holds by reference, as plain values.
use Rattle.std.specs.Prelude.{ℕ, List, Some, None, Ok, Err, Option, Result}
use Rattle.std.specs.Borrow.{Bor}
use Rattle.content.specs.declared.refusal.Refusal.{Refusal}
use Rattle.wire.specs.Reading.{Read}
use Rattle.wire.specs.declared.message.Certificate.{Certificate}
use Rattle.wire.specs.declared.message.Parts.{Parts}
use Rattle.wire.specs.declared.message.Parts.TheVariants.{Proposal, Vote, Blame, Certified, Notice}
use Rattle.wire.specs.declared.message.Message.{Message}

-- a slice of bytes, as it is held
abbrev pub Slice : Type 0
Slice = Bor (List ℕ)

abbrev pub bytes_of : Slice → List ℕ
bytes_of s = s.now

-- what was taken off the front, and what that leaves
abbrev pub taken_by : {X Y : Type 0} → (X → Y) → Result X Refusal → List ℕ → Read Y
taken_by f (Ok x) rest = Ok (f x, rest)
taken_by f (Err e) rest = Err e

abbrev pub taken : {X : Type 0} → Result X Refusal → List ℕ → Read X
taken r rest = taken_by (λ x. x) r rest

abbrev pub plain_certificate : {R : Type 0} → Certificate R Slice → Certificate R (List ℕ)
plain_certificate c = record { block = c.block; mask = c.mask; seals = c.seals.now }

abbrev pub plain_body : {R : Type 0} → Result (Certificate R Slice) Refusal → Result (Certificate R (List ℕ)) Refusal
plain_body (Ok c) = Ok (plain_certificate c)
plain_body (Err e) = Err e

abbrev pub plain_parent : {R : Type 0} → Option (Certificate R Slice) → Option (Certificate R (List ℕ))
plain_parent None = None
plain_parent (Some c) = Some (plain_certificate c)

abbrev pub plain : {R : Type 0} → Parts R Slice → Parts R (List ℕ)
plain (Proposal block seal parent) = Proposal block seal.now (plain_parent parent)
plain (Vote seat block seal) = Vote seat block seal.now
plain (Blame seat view seal) = Blame seat view seal.now
plain (Certified c) = Certified (plain_certificate c)
plain (Notice view mask seals) = Notice view mask seals.now

-- the parts of a message, or the refusal
abbrev pub plainly : {R : Type 0} → Result (Parts R Slice) Refusal → Result (Parts R (List ℕ)) Refusal
plainly (Ok m) = Ok (plain m)
plainly (Err e) = Err e

abbrev pub meant : {R : Type 0} → Result (Message R) Refusal → Result (Parts R (List ℕ)) Refusal
meant (Ok m) = Ok (plain m.parts)
meant (Err e) = Err e
