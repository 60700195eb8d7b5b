-- Writing a message: how many bytes it takes, and what the memory holds afterwards.
use Rattle.std.specs.Prelude.{◌≡◌, ℕ, ◌+◌, ◌≤◌, Bool, cond, List, ◌++◌, length, take, drop, Some, None, Ok, Err, Option, Result, nat_le, nat_lt}
use Rattle.std.specs.Borrow.{MutBor}
use Rattle.content.specs.Kinds.{Kind}
use Rattle.content.specs.declared.refusal.Refusal.{Refusal}
use Rattle.content.specs.declared.refusal.Refusal.TheVariants.{SmallOutbox}
use Rattle.wire.specs.Layout.{message_bytes}
use Rattle.wire.specs.declared.message.Certificate.{Certificate}
use Rattle.wire.specs.declared.message.Parts.{Parts}
use Rattle.wire.specs.declared.message.Parts.TheVariants.{Proposal, Vote, Blame, Certified, Notice}

-- these bytes at this offset, and everything else as it was
unfoldable pub placed : List ℕ → ℕ → List ℕ → List ℕ
placed out at bytes = take at out ++ (bytes ++ drop (at + length bytes) out)

-- bytes were put into `out` at an offset: what it is now, and the offset behind them
pub record Put (out : List ℕ) (at : ℕ) (bytes : List ℕ) (out' : List ℕ) (end : ℕ) : Type 0 where
  pub is : out' ≡ placed out at bytes
  pub behind : end ≡ at + length bytes
  pub fits : end ≤ length out

-- one loan of memory before and after: it is still the same memory, and as long
abbrev pub SameMemory : MutBor (List ℕ) → MutBor (List ℕ) → Type 0
SameMemory before after = (after.ghost_name ≡ before.ghost_name) × (length after.now ≡ length before.now)

-- the length of a message, by its kind; a content has L bytes
module _ (L : ℕ) {R : Type 0} where
  abbrev pub body_size : Certificate R (List ℕ) → ℕ
  body_size c = 14 + L + length c.seals

  abbrev pub parent_size : Option (Certificate R (List ℕ)) → ℕ
  parent_size None = 0
  parent_size (Some c) = body_size c

  abbrev pub message_size : Parts R (List ℕ) → ℕ
  message_size (Proposal block seal parent) = 13 + L + length seal + parent_size parent
  message_size (Vote seat block seal) = 14 + L + length seal
  message_size (Blame seat view seal) = 4 + length seal
  message_size (Certified c) = 1 + body_size c
  message_size (Notice view mask seals) = 5 + length seals

module _ {L : ℕ} {R : Type 0} (k : Kind L R) where
  -- whether a message fits into memory behind an offset
  abbrev pub has_room : List ℕ → ℕ → Parts R (List ℕ) → Bool
  has_room out at m = nat_le (at + message_size L m) (length out)

  -- writing it there: the offset behind it, and the memory afterwards; without room nothing is written
  abbrev pub write_end : List ℕ → ℕ → Parts R (List ℕ) → Result ℕ Refusal
  write_end out at m = cond (has_room out at m) (Ok (at + message_size L m)) (Err SmallOutbox)

  abbrev pub write_out : List ℕ → ℕ → Parts R (List ℕ) → List ℕ
  write_out out at m = cond (has_room out at m) (placed out at (message_bytes k m)) out

  -- an outbox has at least 1,024 bytes
  abbrev pub outbox_end : List ℕ → Parts R (List ℕ) → Result ℕ Refusal
  outbox_end out m = cond (nat_lt (length out) 1024) (Err SmallOutbox) (write_end out 0 m)

  abbrev pub outbox_out : List ℕ → Parts R (List ℕ) → List ℕ
  outbox_out out m = cond (nat_lt (length out) 1024) out (write_out out 0 m)
