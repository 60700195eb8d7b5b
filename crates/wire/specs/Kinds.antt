-- The kinds of messages, by their first bytes.
use Rattle.std.specs.Prelude.{ℕ, cond, List, Ok, Err, Result, ◌==◌}
use Rattle.content.specs.Kinds.{Kind}
use Rattle.content.specs.declared.refusal.Refusal.{Refusal}
use Rattle.content.specs.declared.refusal.Refusal.TheVariants.{UnknownKind}
use Rattle.wire.specs.Reading.{read_proposal, read_vote, read_blame, read_certified, read_notice}
use Rattle.wire.specs.declared.message.MessageKind.{MessageKind}
use Rattle.wire.specs.declared.message.MessageKind.TheVariants.{Proposal, Vote, Blame, Certified, Notice}
use Rattle.wire.specs.declared.message.Parts.{Parts}

abbrev pub kind_of : ℕ → Result MessageKind Refusal
kind_of byte =
    cond (byte == 1) (Ok Proposal)
    (cond (byte == 2) (Ok Vote)
    (cond (byte == 3) (Ok Blame)
    (cond (byte == 4) (Ok Certified)
    (cond (byte == 5) (Ok Notice) (Err UnknownKind)))))

-- what lies behind the first byte of a message of a kind
abbrev pub read_as : {L : ℕ} {R : Type 0} → Kind L R → (S n total : ℕ) → MessageKind → List ℕ → Result (Parts R (List ℕ)) Refusal
read_as k S n total Proposal rest = read_proposal k S n total rest
read_as k S n total Vote rest = read_vote k S n total rest
read_as k S n total Blame rest = read_blame k S n total rest
read_as k S n total Certified rest = read_certified k S n total rest
read_as k S n total Notice rest = read_notice k S n total rest
