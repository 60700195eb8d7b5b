-- What the seal check is asked about a message: a seat, a statement and a seal for each of its seals, in their order.
use Rattle.std.specs.Prelude.{ℕ, zero, suc, Bool, cond, List, [], ◌∷◌, take, drop, Some, None, Ok, Err, Option, Result}
use Rattle.content.specs.Kinds.{Kind}
use Rattle.content.specs.declared.refusal.Refusal.{Refusal}
use Rattle.content.specs.declared.refusal.Refusal.TheVariants.{BadSeal}
use Rattle.wire.specs.Layout.{proposal_statement, vote_statement, blame_statement}
use Rattle.blocks.specs.Masks.{bit}
use Rattle.wire.specs.Reading.{next, read_parts}
use Rattle.wire.specs.declared.message.Certificate.{Certificate}
use Rattle.wire.specs.declared.message.Parts.{Parts}
use Rattle.wire.specs.declared.message.Parts.TheVariants.{Proposal, Vote, Blame, Certified, Notice}

pub record Question : Type 0 where
  pub seat : ℕ
  pub statement : List ℕ
  pub seal : List ℕ

abbrev pub asked_one : ℕ → List ℕ → List ℕ → Question
asked_one seat statement seal = record { seat = seat; statement = statement; seal = seal }

-- a row of seals on one statement: those of the seats in the mask, from seat i on, k of them
unfoldable pub row_asked : (S mask i k : ℕ) → List ℕ → List ℕ → List Question
row_asked S mask i zero statement row = []
row_asked S mask i (suc k) statement row =
    cond (bit mask i)
    (asked_one i statement (take S row) ∷ row_asked S mask (suc i) k statement (drop S row))
    (row_asked S mask (suc i) k statement row)

module _ {L : ℕ} {R : Type 0} (k : Kind L R) (S n : ℕ) (leader : ℕ → ℕ) where
  abbrev pub body_asked : Certificate R (List ℕ) → List Question
  body_asked c = row_asked S c.mask 0 n (vote_statement k c.block) c.seals

  abbrev pub parent_asked : Option (Certificate R (List ℕ)) → List Question
  parent_asked None = []
  parent_asked (Some c) = body_asked c

  -- a proposal's own seal is asked of the leader of its block's view
  abbrev pub asked : Parts R (List ℕ) → List Question
  asked (Proposal block seal parent) =
      asked_one (leader block.rank.view) (proposal_statement k block) seal ∷ parent_asked parent
  asked (Vote seat block seal) = asked_one seat (vote_statement k block) seal ∷ []
  asked (Blame seat view seal) = asked_one seat (blame_statement view) seal ∷ []
  asked (Certified c) = body_asked c
  asked (Notice view mask seals) = row_asked S mask 0 n (blame_statement view) seals

-- the first no is the refusal, with the seat that was asked
abbrev pub judge : (accepts : ℕ → List ℕ → List ℕ → Bool) → List Question → Result Unit Refusal
judge accepts [] = Ok tt
judge accepts (q ∷ qs) =
    cond (accepts q.seat q.statement q.seal) (judge accepts qs) (Err (BadSeal q.seat))

-- a message is opened: read, and then each of its seals is asked about
abbrev pub opened : {L : ℕ} {R : Type 0} → Kind L R → (S n : ℕ) → (leader : ℕ → ℕ) → (accepts : ℕ → List ℕ → List ℕ → Bool) → List ℕ
    → Result (Parts R (List ℕ)) Refusal
opened k S n leader accepts xs =
    next (read_parts k S n xs) (λ m. next (judge accepts (asked k S n leader m)) (λ _. Ok m))
