use Rattle.std.proofs.Common.{Ok, Err, sym, refl, ap, ◌∙◌, rules}
use Rattle.shelf.specs.Blocks.{held, size}
use Rattle.state.specs.HandIn.{certificate_of, completed}
use Rattle.state.specs.HandIn.{vote as voted}
use Rattle.state.specs.Parts.{with_votes}
use Rattle.state.specs.declared.taking.Verdict.TheVariants.{New}
use Rattle.state.proofs.Certificates.{new_has_room}
use Rattle.state.proofs.Going.{unmoved}
use Rattle.hearing.proofs.Counts.{quorum-few, vote-dropped, vote-judged}
use Rattle.hearing.proofs.Doing.{does_at}
use Rattle.hearing.proofs.counting.vote.Goals as goal

pub certify-requires : goal.certify-requires
certify-requires g c =
    let t = with_votes c.add_seal.new.row c.args.state.now in (
      search rules,
      (
        search rules,
        (
          new_has_room g.C.Content.kind t (held c.args.shelf.now) (size c.args.shelf.now) c.args.block.now (sym c.in-Ok-New.ensures ∙ ap (λ v. Ok v) c.in-Ok-New.field-0-is),
          quorum-few c.args.call.now.terms.now c.add_seal.new.row c.if-not-quorate.ensures,
        ),
      ),
    )

pub returns-in-Err : goal.returns-in-Err
returns-in-Err g c =
    let k = g.C.Content.kind in
    let p = c.args.call.now.terms.now in
    let s = c.args.state.now in
    let bs = held c.args.shelf.now in
    let cells = size c.args.shelf.now in
    let i = c.args.seal.now.seat in
    let b = c.args.block.now in
    let seal = c.args.seal.now.bytes.now in
    let t = with_votes c.add_seal.new.row s in
    let e = ap (λ r. with_votes r s) c.add_seal.ensures in
    record {
      same = unmoved;
      does = does_at k (Err c.in-Err.refusal) (voted k p s bs cells i b seal)
          (vote-judged k p s bs cells i b seal t c.if-not-countable.ensures e c.if-not-quorate.ensures (Err c.in-Err.refusal) c.in-Err.ensures)
          (record {
            answer = refl;
            state = vote-dropped k p s bs cells i b seal t c.if-not-countable.ensures e (with_votes c.drop_seal.new.row t) (ap (λ r. with_votes r t) c.drop_seal.ensures);
            blocks = refl;
            outbox = refl;
          });
      cells = (refl, refl);
    }

pub returns-in-Ok-New : goal.returns-in-Ok-New
returns-in-Ok-New g c =
    let k = g.C.Content.kind in
    let p = c.args.call.now.terms.now in
    let s = c.args.state.now in
    let bs = held c.args.shelf.now in
    let cells = size c.args.shelf.now in
    let i = c.args.seal.now.seat in
    let b = c.args.block.now in
    let seal = c.args.seal.now.bytes.now in
    let t = with_votes c.add_seal.new.row s in
    let h = c.certify.ensures in
    record {
      same = h.same;
      does = does_at k (Ok (completed t bs (certificate_of b t.round.votes) New)) (voted k p s bs cells i b seal)
          (vote-judged k p s bs cells i b seal t c.if-not-countable.ensures (ap (λ r. with_votes r s) c.add_seal.ensures) c.if-not-quorate.ensures
          (Ok New) (sym (ap (λ v. Ok v) c.in-Ok-New.field-0-is) ∙ c.in-Ok-New.ensures))
          (record { answer = h.does.answer; state = h.does.state; blocks = h.does.blocks; outbox = h.does.outbox });
      cells = h.cells;
    }
