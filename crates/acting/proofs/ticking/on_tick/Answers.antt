use Rattle.std.proofs.Common.{◌≡◌, ◌+◌, ◌≤◌, [], length, Ok, ap, ◌∙◌, arith, rules}
use Rattle.state.specs.Sends.{item_at, put_item}
use Rattle.state.specs.Tick.{after_blame, blame_of}
use Rattle.state.specs.declared.answer.Answer.{Answer}
use Rattle.state.proofs.Going.{followed}
use Rattle.acting.proofs.Ticks.{on_shows, vote_ends}
use Rattle.acting.proofs.ticking.on_tick.Goals as goal

pub blame_if_due-blame-requires : goal.blame_if_due-blame-requires
blame_if_due-blame-requires g c =
    let v = c.vote_if_due-message in
    let h : c.end_of.result ≤ 14 + g.row.L + g.row.S =
    vote_ends g.C.Content.kind c.args.call.now.terms.now c.args.state.now.round.note c.args.state.now v.result c.end_of.result v.ensures.item c.end_of.ensures in
    let z : length v.new.call.outbox.now ≡ length c.args.call.now.outbox.now = v.ensures.call.same.size in
    let r : 1024 ≤ length c.args.call.now.outbox.now = c.args.call.now.room in
    let s : g.row.S ≤ 64 = c.args.call.now.short in
    let l : g.row.L ≤ 64 = g.C.Content.kind.high in
    (search rules, (search rules, omega arith))

pub returns : goal.returns
returns g c =
    let k = g.C.Content.kind in
    let v = c.vote_if_due-message in
    let b = c.blame_if_due-blame in
    let s1 = v.new.state in
    let e = ap (λ t. t.now) v.ensures.call.same.terms in
    let h = on_shows k c.args.call.now.terms.now c.args.state.now.round.note c.last_word.result c.args.state.now
    s1 b.new.state [] v.result b.result c.end_of.result
    c.args.call.now.outbox.now v.new.call.outbox.now b.new.call.outbox.now
    v.ensures.item v.ensures.state v.ensures.call.outbox c.end_of.ensures
    (b.ensures.item ∙ ap (λ p. item_at k c.end_of.result (blame_of p s1)) e)
    (b.ensures.state ∙ ap (λ p. after_blame p s1) e)
    (b.ensures.call.outbox ∙ ap (λ p. put_item k c.end_of.result (blame_of p s1) v.new.call.outbox.now) e)
    c.last_word.ensures in
    record {
      same = followed v.ensures.call.same b.ensures.call.same;
      answer = ap (λ (a : Answer). Ok (record { word = a.word; height = a.height; certificate = a.certificate; message = v.result; blame = b.result })) c.of.ensures ∙ ap (λ a. Ok a) h.answer_is;
      state = h.state_is;
      outbox = h.outbox_is;
    }
