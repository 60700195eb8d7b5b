use Rattle.std.proofs.Common.{rules, tests, sym, ◌∙◌, eqb}
use Rattle.std.proofs.lemmas.Iterator.{YieldsList-from_slice, YieldsList-from_map}
use Rattle.std.proofs.lemmas.Iterator.Adapters.{option_map_id}
use Rattle.std.proofs.lemmas.Iterator.Consumers.{YieldsList-at, YieldsList-from_filter, max_from_yields_List}
use Rattle.shelf.proofs.Scans.{same_top}
use Rattle.shelf.proofs.search.top_turn_of.Goals as goal

pub returns : goal.returns
returns g c =
    sym (option_map_id _)
    ∙ max_from_yields_List c.map.result _ c.max.ensures.ran
    (YieldsList-from_map _ (λ b. b.rank.turn)
    (YieldsList-at c.map.ensures.source
    (YieldsList-from_filter _ (λ b. eqb b.rank.view c.args.view)
    (YieldsList-at c.filter.ensures.source (YieldsList-from_slice c.args.blocks.now cc)) c.filter.ensures.closure (λ x r q k. search (rules, tests))))
    c.map.ensures.closure (λ x r q k. search rules))
    ∙ same_top c.args.view c.args.blocks.now
