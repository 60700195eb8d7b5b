use Rattle.std.proofs.Common.{◌-◌, ◌*◌, ◌≤◌, length, take, Some, refl, ap, ◌∙◌, arith, rules}
use Rattle.state.specs.Sends.{item_at, put_item, write}
use Rattle.hearing.proofs.Counts.{notice_of_lem, row-holds, row_room}
use Rattle.hearing.proofs.counting.put_notice.Goals as goal

pub slice_bounds-parts-end : goal.slice_bounds-parts-end
slice_bounds-parts-end g c = row-holds c.args.blames.now c.count.result c.row-row.result c.args.call.now.short c.count.ensures c.requires c.row-row.ensures

pub put-requires : goal.put-requires
put-requires g c =
    let h : length (take (c.count.result * g.row.S - 0) c.row-row.result) ≤ 512 =
    row_room c.args.blames.now c.count.result c.row-row.result c.args.call.now.short c.count.ensures c.requires in
    let r : 1024 ≤ length c.args.call.now.outbox.now = c.args.call.now.room in
    omega arith

pub returns : goal.returns
returns g c =
    let e = notice_of_lem c.args.blames.now {R = g.row.C-Record.Denot} c.args.view c.mask.result c.count.result c.row-row.result c.mask.ensures c.count.ensures c.row-row.ensures in
    record {
      item = c.put.ensures.item ∙ ap (λ m. item_at g.C.Content.kind 0 (Some (write m))) e;
      call = record {
        same = record { terms = refl; place = refl; size = search rules };
        outbox = c.put.ensures.bytes ∙ ap (λ m. put_item g.C.Content.kind 0 (Some (write m)) c.args.call.now.outbox.now) e;
      };
    }
