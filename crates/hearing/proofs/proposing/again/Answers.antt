use Rattle.std.proofs.Common.{ap, ◌∙◌}
use Rattle.state.specs.Reactions.{reacted}
use Rattle.hearing.proofs.Proposals.{meets-clash}
use Rattle.hearing.proofs.proposing.again.Goals as goal

pub returns-then-not-same_block : goal.returns-then-not-same_block
returns-then-not-same_block g c =
    let e = meets-clash g.C.Content.kind c.args.state.now c.args.block.now c.args.note c.if-not-same_block.ensures in
    record {
      reaction = c.clash.ensures.reaction ∙ e;
      state = c.clash.ensures.state c.args.note ∙ ap (λ x. reacted c.args.state.now c.args.note x) e;
    }
