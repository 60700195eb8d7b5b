-- What a call sends: at most a certificate, then a message relayed or of the seat's own, then a blame; each is the whole
-- message handed in, or a message that the call writes into the outbox.
use Rattle.std.specs.Prelude.{ℕ, ◌+◌, List, replicate, Some, None, Option}
use Rattle.content.specs.Kinds.{Kind}
use Rattle.blocks.specs.declared.block.Block.{Block}
use Rattle.wire.specs.Layout.{message_bytes}
use Rattle.wire.specs.Writing.{message_size, placed}
use Rattle.wire.specs.declared.message.Parts.{Parts}
use Rattle.state.specs.declared.answer.Answer.{Answer}
use Rattle.state.specs.declared.answer.Item.{Item}
use Rattle.state.specs.declared.answer.Item.TheVariants.{Inbox, Outbox}
use Rattle.state.specs.declared.answer.Word.{Word}
use Rattle.state.specs.declared.state.State.{State}

-- an item: the message handed in, or one written
pub data Sending (R : Type 0) : Type 0 where
  relay : Sending R
  write : Parts R (List ℕ) → Sending R

pub record Sends (R : Type 0) : Type 0 where
  pub certificate : Option (Sending R)
  pub message : Option (Sending R)
  pub blame : Option (Sending R)

-- a call that was carried out: its word, the height it committed, what it sends, and what seat and shelf hold after it
pub record Outcome (S : ℕ) (R : Type 0) : Type 0 where
  pub word : Word
  pub height : ℕ
  pub sends : Sends R
  pub state : State S R
  pub blocks : List (Block R)

-- a seal that the signing box fills in later
abbrev pub zero_seal : ℕ → List ℕ
zero_seal S = replicate S 0

abbrev pub nothing : {R : Type 0} → Sends R
nothing = record { certificate = None; message = None; blame = None }

-- where the next message begins behind an item
abbrev pub end_of : Option Item → ℕ
end_of None = 0
end_of (Some Inbox) = 0
end_of (Some (Outbox from to)) = to

module _ {L : ℕ} {R : Type 0} (k : Kind L R) where
  -- how many bytes of the outbox an item takes
  abbrev pub size_of : Option (Sending R) → ℕ
  size_of None = 0
  size_of (Some relay) = 0
  size_of (Some (write m)) = message_size L m

  -- a message is written at an offset, and everything else stays as it was
  abbrev pub put_item : ℕ → Option (Sending R) → List ℕ → List ℕ
  put_item from None outbox = outbox
  put_item from (Some relay) outbox = outbox
  put_item from (Some (write m)) outbox = placed outbox from (message_bytes k m)

  -- the outbox after the call: what it writes stands from the start, in the order of the items
  abbrev pub outbox_after : Sends R → List ℕ → List ℕ
  outbox_after t outbox =
      put_item (size_of t.certificate + size_of t.message) t.blame
      (put_item (size_of t.certificate) t.message
      (put_item 0 t.certificate outbox))

  -- where an item lies, if what is written before it ends at `from`
  abbrev pub item_at : ℕ → Option (Sending R) → Option Item
  item_at from None = None
  item_at from (Some relay) = Some Inbox
  item_at from (Some (write m)) = Some (Outbox from (from + message_size L m))

  abbrev pub answer_of : {S : ℕ} → Outcome S R → Answer
  answer_of o = record {
    word = o.word;
    height = o.height;
    certificate = item_at 0 o.sends.certificate;
    message = item_at (size_of o.sends.certificate) o.sends.message;
    blame = item_at (size_of o.sends.certificate + size_of o.sends.message) o.sends.blame;
  }

  -- the bytes that an item sends, given the message that was handed in
  abbrev pub sending_bytes : List ℕ → Sending R → List ℕ
  sending_bytes inbox relay = inbox
  sending_bytes inbox (write m) = message_bytes k m
