-- What a message that was read promises.
use Rattle.std.proofs.Common.{◌≡◌, ℕ, List, IfOk, Ok, Err, Result, sym}
use Rattle.content.specs.Kinds.{Kind, Bytes}
use Rattle.content.specs.declared.refusal.Refusal.{Refusal}
use Rattle.wire.specs.Lawful.{LawfulParts}
use Rattle.wire.specs.Layout.{message_bytes}
use Rattle.wire.specs.Meaning.{Slice, plain, plainly}
use Rattle.wire.specs.Reading.{read_parts}
use Rattle.wire.specs.declared.message.Parts.{Parts}
use Rattle.wire.proofs.OneForm.{one_form_back, lawful-from_read}

module _ {L : ℕ} {R : Type 0} (k : Kind L R) (S n : ℕ) where
  -- what was read is what writing it gives, and keeps the layout
  pub made-back : (xs : List ℕ) → Bytes xs → (r : Result (Parts R Slice) Refusal) → plainly r ≡ read_parts k S n xs → IfOk r (λ m. message_bytes k (plain m) ≡ xs)
  made-back xs h (Ok m) e = one_form_back k S n xs (plain m) h (sym e)
  made-back xs h (Err f) e = tt

  pub made-lawful : (xs : List ℕ) → Bytes xs → (r : Result (Parts R Slice) Refusal) → plainly r ≡ read_parts k S n xs → IfOk r (λ m. LawfulParts k S n (plain m))
  made-lawful xs h (Ok m) e = lawful-from_read k S n xs (plain m) h (sym e)
  made-lawful xs h (Err f) e = tt
