use Rattle.std.proofs.Common.{◌≡◌}
use Rattle.seals.specs.SipHash.{sip_rounds}
use Rattle.seals.proofs.siphash.State.rounds.Given as goal

abbrev pub invariant-loop : goal.invariant-loop
invariant-loop l = l.state ≡ sip_rounds l.counter l.initial.state
