use Rattle.std.proofs.Common.{Some, None, sym, ap, ◌∙◌}
use Rattle.state.specs.Reactions.{reacted}
use Rattle.hearing.proofs.Proposals.{reacts_at}
use Rattle.hearing.proofs.proposing.react.Goals as goal

pub returns-in-None : goal.returns-in-None
returns-in-None g c =
    let h = reacts_at g.C.Content.kind c.args.state.now c.args.block.now None c.first.result c.first.new.state
    c.if-not-slot_open.ensures c.in-None.is c.first.ensures.reaction c.first.ensures.state in
    record { reaction = h.reaction_is; state = h.state_is }

pub returns-in-Some : goal.returns-in-Some
returns-in-Some g c =
    let h = reacts_at g.C.Content.kind c.args.state.now c.args.block.now (Some c.in-Some.note) c.again.result c.again.new.state
    c.if-not-slot_open.ensures c.in-Some.is c.again.ensures.reaction
    (c.again.ensures.state ∙ ap (λ x. reacted c.args.state.now c.in-Some.note x) (sym c.again.ensures.reaction)) in
    record { reaction = h.reaction_is; state = h.state_is }
