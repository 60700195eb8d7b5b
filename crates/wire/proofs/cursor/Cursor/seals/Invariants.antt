use Rattle.std.proofs.Common.{◌≡◌, ◌+◌, ◌-◌, length}
use Rattle.wire.specs.Reading.{seals_fit}
use Rattle.wire.proofs.cursor.Cursor.seals.Given as goal

-- the seals that are still to come fit as all of them do
abbrev pub invariant-loop-i : goal.invariant-loop-i
invariant-loop-i g l =
    (seals_fit g.row.S (l.count - l._i) l.self.at l.self.rest.now ≡ seals_fit g.row.S l.count l.initial.self.at l.bytes) ×
    (l.self.at + length l.self.rest.now ≡ l.initial.self.at + length l.bytes)
