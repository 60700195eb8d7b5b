use Rattle.std.proofs.Common.{length, take, ◌∙◌, ap, arith, ◌≤◌}
use Rattle.std.proofs.lemmas.Iterator.{YieldsList, YieldsList-from_take}
use Rattle.std.proofs.lemmas.Iterator.Consumers.{YieldsList-at, YieldsList-from_enumerate, YieldsList-turn, YieldsList-end}
use Rattle.std.proofs.lemmas.List.FromFn.{length-enumerate_from}
use Rattle.std.proofs.lemmas.List.{take_all}
use Rattle.blocks.specs.Keeping.{padded}
use Rattle.blocks.proofs.Keeping.{byte_poured, padded-cut, padded-none}
use Rattle.blocks.proofs.rows.row_of.Goals as goal

pub loop-at-init : goal.loop-at-init
loop-at-init g c xs y = padded-none 512

pub loop-at-preserved : goal.loop-at-preserved
loop-at-preserved g c xs y =
    let given : YieldsList g.I.Iterator.next_gives (λ b. b.now) c.args.bytes xs = record { runs = y } in
    let road = YieldsList-from_enumerate {s = c.into_iter-at-iterator.result} (YieldsList-from_take 512 (YieldsList-at (cc) given) cc) cc in
    let turn = YieldsList-turn road
    c.loop-at.yielded c.loop-at.at-iterator c.loop-at.yielded_by c.next.result c.next.new.self (c.in-Some.at, c.in-Some.byte) c.in-Some.is c.next.ensures.steps in
    byte_poured (take 512 xs) c.loop-at.row c.in-Some.at c.in-Some.byte.now c.loop-at.yielded (c.in-Some.at, c.in-Some.byte) turn.0 turn.1 (c.loop-at.invariant xs y)

pub returns : goal.returns
returns g c xs y =
    let given : YieldsList g.I.Iterator.next_gives (λ b. b.now) c.args.bytes xs = record { runs = y } in
    let road = YieldsList-from_enumerate {s = c.into_iter-at-iterator.result} (YieldsList-from_take 512 (YieldsList-at (cc) given) cc) cc in
    let end = YieldsList-end road c.loop-at.yielded c.loop-at.at-iterator c.loop-at.yielded_by c.next.result c.next.new.self c.in-None.is c.next.ensures.steps in
    let all : length (take 512 xs) ≤ length c.loop-at.yielded = omega (arith, end.1, length-enumerate_from 0 (take 512 xs)) in
    c.loop-at.invariant xs y ∙ ap (padded 512) (take_all (length c.loop-at.yielded) (take 512 xs) all) ∙ padded-cut 512 xs
