use Rattle.std.proofs.Common.{◌<◌, ◌≤◌, length, sym, ap, subst, arith, rules}
use Rattle.wire.specs.Lawful.{LawfulParts}
use Rattle.wire.specs.Meaning.{plain, plain_parent}
use Rattle.wire.specs.Writing.{parent_size}
use Rattle.shelf.specs.Blocks.{held, size}
use Rattle.state.specs.HandIn.{hand_parts}
use Rattle.state.specs.HandIn.{blame as blames, notice as notices, vote as votes}
use Rattle.hearing.proofs.Doing.{steps_at}
use Rattle.hearing.proofs.Room.{parent-small, seats-few}
use Rattle.hearing.proofs.handling.hand_parts.Goals as goal

pub proposal-requires : goal.proposal-requires
proposal-requires g c =
    let n = c.args.call.now.terms.now.seats.n in
    let law = c.args.call.now.terms.now.seats.lawful in
    let l = subst (λ m. LawfulParts g.C.Content.kind g.row.S n (plain m)) c.in-Proposal.is c.requires in
    let p : parent_size g.row.L (plain_parent c.in-Proposal.parent) ≤ 590 =
    parent-small g.C.Content.kind g.row.S n c.in-Proposal.block law c.args.call.now.short (plain_parent c.in-Proposal.parent) l.2 in
    let s : g.row.S ≤ 64 = c.args.call.now.short in
    let r : 1024 ≤ length c.args.call.now.outbox.now = c.args.call.now.room in
    (search rules, (search rules, omega arith))

pub invariant_of-seal : goal.invariant_of-seal
invariant_of-seal g c =
    let n = c.args.call.now.terms.now.seats.n in
    let few : n ≤ 15 = seats-few n c.args.call.now.terms.now.seats.lawful in
    let l = subst (λ m. LawfulParts g.C.Content.kind g.row.S n (plain m)) c.in-Vote.is c.requires in
    let among : c.in-Vote.seat < n = l.0 in
    record { possible = omega arith; whole = l.2 }

pub invariant_of-seal-in-Blame : goal.invariant_of-seal-in-Blame
invariant_of-seal-in-Blame g c =
    let n = c.args.call.now.terms.now.seats.n in
    let few : n ≤ 15 = seats-few n c.args.call.now.terms.now.seats.lawful in
    let l = subst (λ m. LawfulParts g.C.Content.kind g.row.S n (plain m)) c.in-Blame.is c.requires in
    let among : c.in-Blame.seat < n = l.0 in
    record { possible = omega arith; whole = l.2 }

pub returns-in-Vote : goal.returns-in-Vote
returns-in-Vote g c =
    let k = g.C.Content.kind in
    let s = c.args.state.now in
    let bs = held c.args.shelf.now in
    let cells = size c.args.shelf.now in
    let terms = c.args.call.now.terms.now in
    steps_at k (votes k terms s bs cells c.in-Vote.seat c.in-Vote.block c.in-Vote.seal.now) (hand_parts k terms s bs cells (plain c.args.parts.now))
    (ap (λ m. hand_parts k terms s bs cells (plain m)) (sym c.in-Vote.is)) c.vote.ensures

pub returns-in-Blame : goal.returns-in-Blame
returns-in-Blame g c =
    let k = g.C.Content.kind in
    let s = c.args.state.now in
    let bs = held c.args.shelf.now in
    let cells = size c.args.shelf.now in
    let terms = c.args.call.now.terms.now in
    steps_at k (blames terms s bs c.in-Blame.seat c.in-Blame.view c.in-Blame.seal.now) (hand_parts k terms s bs cells (plain c.args.parts.now))
    (ap (λ m. hand_parts k terms s bs cells (plain m)) (sym c.in-Blame.is)) c.blame.ensures

pub returns-in-Notice : goal.returns-in-Notice
returns-in-Notice g c =
    let k = g.C.Content.kind in
    let s = c.args.state.now in
    let bs = held c.args.shelf.now in
    let cells = size c.args.shelf.now in
    let terms = c.args.call.now.terms.now in
    steps_at k (notices s bs c.in-Notice.view) (hand_parts k terms s bs cells (plain c.args.parts.now))
    (ap (λ m. hand_parts k terms s bs cells (plain m)) (sym c.in-Notice.is)) c.notice.ensures
