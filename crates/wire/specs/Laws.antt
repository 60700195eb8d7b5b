-- What holds of every message.
use Rattle.std.specs.Prelude.{◌≡◌, ℕ, ◌≤◌, true, List, length, Some, None, Ok}
use Rattle.content.specs.Kinds.{Kind, Bytes}
use Rattle.rota.specs.Limits.{seats_lawful}
use Rattle.wire.specs.Lawful.{LawfulParts}
use Rattle.wire.specs.Layout.{message_bytes}
use Rattle.wire.specs.Reading.{read_parts}
use Rattle.wire.specs.Writing.{message_size}
use Rattle.wire.specs.declared.message.Parts.{Parts}
use Rattle.wire.specs.declared.message.Parts.TheVariants.{Proposal, Vote, Blame, Certified, Notice}

module _ {L : ℕ} {R : Type 0} (k : Kind L R) (S : ℕ) where
  -- a lawful message, written and read, is the same message
  abbrev pub ReadsBack : Type 0
  ReadsBack = (n : ℕ) (m : Parts R (List ℕ)) → LawfulParts k S n m → read_parts k S n (message_bytes k m) ≡ Ok m

  -- what reads as a message is what writing that message gives
  abbrev pub WritesBack : Type 0
  WritesBack = (n : ℕ) (xs : List ℕ) (m : Parts R (List ℕ)) → Bytes xs → read_parts k S n xs ≡ Ok m → message_bytes k m ≡ xs

  -- two different strings of bytes are never one message
  abbrev pub OneForm : Type 0
  OneForm = (n : ℕ) (xs ys : List ℕ) (m : Parts R (List ℕ)) → Bytes xs → Bytes ys → read_parts k S n xs ≡ Ok m → read_parts k S n ys ≡ Ok m → xs ≡ ys

  -- a lawful message is as long as its kind says
  abbrev pub Sized : Type 0
  Sized = (n : ℕ) (m : Parts R (List ℕ)) → LawfulParts k S n m → length (message_bytes k m) ≡ message_size L m

  -- and, with seals of at most 64 bytes, never longer than an outbox
  abbrev pub FitsOutbox : Type 0
  FitsOutbox = S ≤ 64 → (n : ℕ) (m : Parts R (List ℕ)) → seats_lawful n ≡ true → LawfulParts k S n m → message_size L m ≤ 1024

-- the lengths for three seats, contents of 17 bytes and seals of 8
abbrev pub studio_length : {R : Type 0} → Parts R (List ℕ) → ℕ
studio_length (Proposal block seal None) = 38
studio_length (Proposal block seal (Some c)) = 85
studio_length (Vote seat block seal) = 39
studio_length (Blame seat view seal) = 12
studio_length (Certified c) = 48
studio_length (Notice view mask seals) = 21

abbrev pub StudioSized : {R : Type 0} → Kind 17 R → Type 0
StudioSized {R} k = (m : Parts R (List ℕ)) → LawfulParts k 8 3 m → length (message_bytes k m) ≡ studio_length m
