use Rattle.std.proofs.Common.{length}
use Rattle.wire.specs.Meaning.{plain_parent}
use Rattle.wire.specs.Writing.{parent_size}
use Rattle.acting.proofs.Offers.{proposal-fits}
use Rattle.acting.proofs.offering.put_proposal.Goals as goal

pub put-requires : goal.put-requires
put-requires g c =
    proposal-fits g.row.L g.row.S (length c.args.call.now.outbox.now) (parent_size g.row.L (plain_parent c.best_certificate.result))
    g.C.Content.kind.high c.args.call.now.short c.args.call.now.room (c.best_certificate.ensures.size g.row.L)
