use Rattle.std.proofs.Common.{◌∙◌}
use Rattle.shelf.specs.Blocks.{held, size}
use Rattle.state.proofs.Certificates.{judge-full, judge-plain, judge-extends}
use Rattle.state.proofs.taking.judge_new.Goals as goal

pub returns-then-is_full : goal.returns-then-is_full
returns-then-is_full g c =
    judge-full g.C.Content.kind c.args.state.now (held c.args.shelf.now) (size c.args.shelf.now) c.args.block.now
    c.if-not-parent_there.ensures c.if-is_full.ensures

pub returns-then-not-commits : goal.returns-then-not-commits
returns-then-not-commits g c =
    judge-plain g.C.Content.kind c.args.state.now (held c.args.shelf.now) (size c.args.shelf.now) c.args.block.now
    c.if-not-parent_there.ensures c.if-is_full.ensures c.if-not-commits.ensures

pub returns : goal.returns
returns g c =
    c.extends.ensures ∙
    judge-extends g.C.Content.kind c.args.state.now (held c.args.shelf.now) (size c.args.shelf.now) c.args.block.now
    c.if-not-parent_there.ensures c.if-is_full.ensures c.if-not-commits.ensures
