-- The roll: a list of the seals that are good.
use Rattle.std.specs.Prelude.{◌≡◌, ℕ, Bool, ◌&&◌, T, ◌⊎◌, List, [], ◌∷◌, length, Decides, ◌==◌}
use Rattle.std.proofs.Common.{eqb→eq}
use Rattle.std.specs.List.{list_any}
use Rattle.std.specs.Str.{bytes_eq}
use Rattle.seals.specs.Checks.{and_left}
use Rattle.seals.specs.declared.roll.RollLine.{RollLine}

-- a line is this seat's, on this statement, with this seal
abbrev pub is_line : RollLine → ℕ → List ℕ → List ℕ → Bool
is_line line seat statement seal = line.seat == seat && (bytes_eq line.statement.now statement && bytes_eq line.seal seal)

-- one of the lines is
abbrev pub listed : List RollLine → ℕ → List ℕ → List ℕ → Bool
listed lines seat statement seal = list_any (λ line. is_line line seat statement seal) lines

-- the roll says yes to the lines of its list, whose seals have eight bytes
abbrev pub roll_accepts : List RollLine → ℕ → List ℕ → List ℕ → Bool
roll_accepts lines seat statement seal = length seal == 8 && listed lines seat statement seal

-- a line of the list is this one
abbrev pub Among : List RollLine → ℕ → List ℕ → List ℕ → Type 0
Among [] seat statement seal = ⊥
Among (line ∷ lines) seat statement seal =
    ((line.seat ≡ seat) × ((line.statement.now ≡ statement) × (line.seal ≡ seal))) ⊎ Among lines seat statement seal

-- the statement of that: yes exactly for the lines of the list
abbrev pub OnlyItsLines : Type 0
OnlyItsLines = (lines : List RollLine) (seat : ℕ) (statement seal : List ℕ) → Decides (roll_accepts lines seat statement seal) ((length seal ≡ 8) × Among lines seat statement seal)

-- every good seal has eight bytes
pub roll_sized : (lines : List RollLine) (seat : ℕ) (statement seal : List ℕ) → T (roll_accepts lines seat statement seal) → length seal ≡ 8
roll_sized lines seat statement seal h = eqb→eq (length seal) 8 (and_left (length seal == 8) (listed lines seat statement seal) h)
