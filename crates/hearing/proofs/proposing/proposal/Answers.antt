use Rattle.std.proofs.Common.{◌≡◌, ◌+◌, ◌≤◌, length, Err, ap, ◌∙◌, arith, rules}
use Rattle.std.proofs.lemmas.Result.{err_from_is_err_and}
use Rattle.wire.specs.Meaning.{plain_parent}
use Rattle.wire.specs.Writing.{parent_size}
use Rattle.shelf.specs.Blocks.{held, size}
use Rattle.state.specs.HandIn.{carried, proposed}
use Rattle.state.specs.HandIn.{proposal as proposing}
use Rattle.state.specs.Reactions.{blames_by, parent_taken, responded}
use Rattle.state.specs.Sends.{end_of, put_item}
use Rattle.state.proofs.Going.{followed}
use Rattle.hearing.proofs.Doing.{does_at}
use Rattle.hearing.proofs.Proposals.{proposal_does, proposal-is, quiet_parent, refused_too}
use Rattle.hearing.proofs.proposing.proposal.Goals as goal

pub returns-in_err-answer : goal.returns-in_err-answer
returns-in_err-answer g c =
    let k = g.C.Content.kind in
    let s = c.args.state.now in
    let bs = held c.args.shelf.now in
    let cells = size c.args.shelf.now in
    let terms = c.args.call.now.terms.now in
    let b = c.args.block.now in
    let parent = plain_parent c.args.parent.now in
    let p = err_from_is_err_and c.from_residual.result c.from_residual.ensures.1 in
    let h = c.in_err-answer.ensures.steps in
    let t = does_at k (carried (proposed k terms b) (parent_taken k s bs cells parent)) (proposing k terms s bs cells b parent) (proposal-is k s bs cells terms b parent)
    (refused_too k (proposed k terms b) (parent_taken k s bs cells parent) h.does) in
    record {
      same = h.same;
      does = record { answer = (p.1 ∙ ap (λ e. Err e) p.2) ∙ t.answer; state = t.state; blocks = t.blocks; outbox = t.outbox };
      cells = h.cells;
    }

pub respond-requires : goal.respond-requires
respond-requires g c =
    let z : length c.take_parent.new.call.outbox.now ≡ length c.args.call.now.outbox.now = c.in_ok-answer.ensures.steps.same.size in
    let e : end_of c.in_ok-answer.answer.certificate ≤ 1 + parent_size g.row.L (plain_parent c.args.parent.now) = c.in_ok-answer.ensures.end in
    let r : 1 + parent_size g.row.L (plain_parent c.args.parent.now) + (4 + g.row.S) ≤ length c.args.call.now.outbox.now = c.requires in
    (search rules, omega arith)

pub returns : goal.returns
returns g c =
    let k = g.C.Content.kind in
    let s = c.args.state.now in
    let bs = held c.args.shelf.now in
    let cells = size c.args.shelf.now in
    let terms = c.args.call.now.terms.now in
    let b = c.args.block.now in
    let parent = plain_parent c.args.parent.now in
    let h = c.in_ok-answer.ensures.steps in
    let r = c.respond.ensures in
    let e = ap (λ t. t.now) h.same.terms in
    record {
      same = followed h.same r.call.same;
      does = does_at k (carried (proposed k terms b) (parent_taken k s bs cells parent)) (proposing k terms s bs cells b parent) (proposal-is k s bs cells terms b parent)
          (proposal_does k terms b c.react-reaction.result (parent_taken k s bs cells parent) (quiet_parent k s bs cells parent) h.does
          c.react-reaction.ensures.reaction c.react-reaction.ensures.state
          (r.answer ∙ ap (λ t. responded k c.in_ok-answer.answer (blames_by g.row.S t c.take_parent.new.state.view c.react-reaction.result) c.react-reaction.result) e)
          (r.call.outbox ∙ ap (λ t. put_item k (end_of c.in_ok-answer.answer.certificate) (blames_by g.row.S t c.take_parent.new.state.view c.react-reaction.result) c.take_parent.new.call.outbox.now) e));
      cells = h.cells;
    }
