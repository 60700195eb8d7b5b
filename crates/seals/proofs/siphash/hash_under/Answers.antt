use Rattle.std.proofs.Common.{◌≡◌, ◌<◌, ◌≤◌, length, take, drop, rules, arith}
use Rattle.seals.proofs.Words.{fits_in, sip_short, sip_long}
use Rattle.seals.proofs.siphash.hash_under.Goals as goal

pub close-requires : goal.close-requires
close-requires c =
    let l : length c.args.body.now < 7 = search rules in
    fits_in 7 (omega arith) c.first_word-in-None.ensures.room

pub returns-in-None : goal.returns-in-None
returns-in-None c =
    let l : length c.args.body.now < 7 = search rules in
    sip_short c.args.key.now c.args.body.now c.args.tag c.first_word-in-None.result _ c.new-state.result
    l c.new-state.ensures c.first_word-in-None.ensures.value c.close.ensures

pub returns-in-Some : goal.returns-in-Some
returns-in-Some c =
    let f : c.in-Some.first.now ≡ take 7 c.args.body.now = search rules in
    let r : c.in-Some.rest.now ≡ drop 7 c.args.body.now = search rules in
    let l : 7 ≤ length c.args.body.now = search rules in
    sip_long c.args.key.now c.args.body.now _ _ c.args.tag c.first_word.result _ c.new-state.result c.compress.result
    l f r c.first_word.ensures.value c.new-state.ensures c.compress.ensures c.absorb.ensures
