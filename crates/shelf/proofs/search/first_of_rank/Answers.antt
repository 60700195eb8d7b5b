use Rattle.std.proofs.Common.{rules, tests, ◌∙◌}
use Rattle.std.proofs.lemmas.Iterator.{YieldsList-from_slice}
use Rattle.std.proofs.lemmas.Iterator.Search.{find_from_yields_List}
use Rattle.blocks.specs.Ranks.{same_rank}
use Rattle.shelf.proofs.Scans.{same_found}
use Rattle.shelf.proofs.search.first_of_rank.Goals as goal

pub returns : goal.returns
returns g c =
    find_from_yields_List (λ b. same_rank b.rank c.args.rank) _ _ c.find.result c.find.ensures.ran (YieldsList-from_slice c.args.blocks.now cc)
    (λ x b q k. search (rules, tests))
    ∙ same_found c.args.rank c.args.blocks.now
