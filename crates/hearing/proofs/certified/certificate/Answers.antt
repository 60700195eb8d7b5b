use Rattle.std.proofs.Common.{Ok, sym, ap, ◌∙◌, rules}
use Rattle.shelf.specs.Blocks.{held, size}
use Rattle.state.proofs.Certificates.{new_has_room}
use Rattle.hearing.proofs.certified.certificate.Goals as goal

pub take-requires : goal.take-requires
take-requires g c =
    let room =
    new_has_room g.C.Content.kind c.args.state.now (held c.args.shelf.now) (size c.args.shelf.now) c.args.c.now.block
    (sym c.in_ok-judge_in.ensures ∙ ap (λ v. Ok v) c.in-New.is) in
    search rules
