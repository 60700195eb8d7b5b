use Rattle.std.proofs.Common.{◌-◌, ◌*◌, ◌≤◌, length, take, Some, Ok, ap, ◌∙◌, arith, rules}
use Rattle.shelf.specs.Blocks.{held}
use Rattle.state.specs.declared.answer.Answer.{Answer}
use Rattle.hearing.proofs.Counts.{certificate_of_lem, certifies, row-holds, row_room, seals_of_lem}
use Rattle.hearing.proofs.counting.certify.Goals as goal

pub overflow_mul-c : goal.overflow_mul-c
overflow_mul-c g c =
    let h : c.count.result * g.row.S ≤ 512 = seals_of_lem c.args.state.now.round.votes c.count.result c.args.call.now.short c.count.ensures c.requires.count in
    search rules

pub slice_bounds-c-end : goal.slice_bounds-c-end
slice_bounds-c-end g c = row-holds c.args.state.now.round.votes c.count.result c.row-row.result c.args.call.now.short c.count.ensures c.requires.count c.row-row.ensures

pub put_certificate-certificate-requires : goal.put_certificate-certificate-requires
put_certificate-certificate-requires g c =
    let h : length (take (c.count.result * g.row.S - 0) c.row-row.result) ≤ 512 =
    row_room c.args.state.now.round.votes c.count.result c.row-row.result c.args.call.now.short c.count.ensures c.requires.count in
    let r : 1024 ≤ length c.args.call.now.outbox.now = c.args.call.now.room in
    let l : g.row.L ≤ 64 = g.C.Content.kind.high in
    (search rules, omega arith)

pub returns : goal.returns
returns g c =
    let t = c.take.ensures in
    let p = c.put_certificate-certificate in
    let h = certifies g.C.Content.kind c.args.state.now (held c.args.shelf.now) c.args.call.now.outbox.now c.args.block.now
    (record { block = c.args.block.now; mask = c.mask.result; seals = take (c.count.result * g.row.S - 0) c.row-row.result })
    p.result c.take.result c.take.new.self (held c.take.new.shelf) p.new.call.outbox.now
    (certificate_of_lem c.args.state.now.round.votes {R = g.row.C-Record.Denot} c.args.block.now c.mask.result c.count.result c.row-row.result c.mask.ensures c.count.ensures c.row-row.ensures)
    p.ensures.item p.ensures.call.outbox t.height t.state t.blocks in
    record {
      same = p.ensures.call.same;
      does = record {
        answer = ap (λ (a : Answer). Ok (record { word = a.word; height = c.take.result; certificate = Some p.result; message = a.message; blame = a.blame })) c.of.ensures ∙ h.answer;
        state = h.state;
        blocks = h.blocks;
        outbox = h.outbox;
      };
      cells = t.place;
    }
