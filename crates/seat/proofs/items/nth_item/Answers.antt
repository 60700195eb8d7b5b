use Rattle.std.proofs.Common.{[], ◌∷◌, rules, tests}
use Rattle.std.proofs.lemmas.Iterator.{YieldsList-from_slice}
use Rattle.std.proofs.lemmas.Iterator.Consumers.{nth_from_yields_List, YieldsList-from_filter_map}
use Rattle.seat.proofs.Nth.{nth_of_chain}
use Rattle.seat.proofs.items.nth_item.Goals as goal

pub returns : goal.returns
returns c =
    let a = c.args.answer.now in
    nth_of_chain a c.args.k c.nth.result
    (nth_from_yields_List c.nth.result _ c.args.k c.nth.ensures.ran
    (YieldsList-from_filter_map _ (λ y. y) (YieldsList-from_slice (a.certificate ∷ (a.message ∷ (a.blame ∷ []))) cc) c.filter_map.ensures.closure (λ x r q k. search (rules, tests))))
