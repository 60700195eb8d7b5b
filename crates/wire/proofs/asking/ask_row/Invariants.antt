use Rattle.std.proofs.Common.{◌≡◌, ◌∷◌}
use Rattle.wire.specs.Statements.{tag_of}
use Rattle.wire.proofs.RowsAsked.{Going}
use Rattle.wire.proofs.asking.ask_row.Given as goal

-- the check answers as it did at first
abbrev pub invariant-loop-seat : goal.invariant-loop-seat
invariant-loop-seat g l =
    (g.K.SealCheck.accepts l.check ≡ g.K.SealCheck.accepts l.initial.check) ×
    Going (g.K.SealCheck.accepts l.initial.check) g.row.S l.mask l.fn.seats.n l.seat (tag_of l.statement ∷ l.body) l.row l.rest
