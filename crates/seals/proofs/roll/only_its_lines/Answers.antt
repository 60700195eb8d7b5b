use Rattle.std.proofs.Common.{ℕ, eqb, List, [], ◌∷◌, length, Decides}
use Rattle.std.specs.Str.{bytes_eq}
use Rattle.std.proofs.lemmas.Slice.Eq.{bytes_eq-Decides}
use Rattle.std.proofs.lemmas.Bool.Decides.{Decides-eqb, Decides-and, Decides-or}
use Rattle.seals.specs.Rolls.{is_line, listed, Among}
use Rattle.seals.specs.declared.roll.RollLine.{RollLine}
use Rattle.seals.proofs.roll.only_its_lines.Goals as goal

listed-among : (lines : List RollLine) (seat : ℕ) (statement seal : List ℕ) → Decides (listed lines seat statement seal) (Among lines seat statement seal)
listed-among [] seat statement seal = (λ h. cc, λ h. absurd h)
listed-among (line ∷ lines) seat statement seal =
    Decides-or (is_line line seat statement seal) (listed lines seat statement seal)
    (Decides-and (eqb line.seat seat) _ (Decides-eqb line.seat seat)
    (Decides-and (bytes_eq line.statement.now statement) (bytes_eq line.seal seal)
    (bytes_eq-Decides line.statement.now statement) (bytes_eq-Decides line.seal seal)))
    (listed-among lines seat statement seal)

pub returns : goal.returns
returns c lines seat statement seal =
    Decides-and (eqb (length seal) 8) (listed lines seat statement seal) (Decides-eqb (length seal) 8) (listed-among lines seat statement seal)
