use Rattle.std.proofs.Common.{rules}
use Rattle.seat.proofs.Guards.{ready_ok, ready-small}
use Rattle.seat.proofs.seat.Seat.ready.Goals as goal

pub returns-then-room-lt-OUTBOX : goal.returns-then-room-lt-OUTBOX
returns-then-room-lt-OUTBOX g c = search (rules, ready-small)

pub returns : goal.returns
returns g c = search (rules, ready_ok)
