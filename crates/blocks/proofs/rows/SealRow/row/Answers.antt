use Rattle.std.proofs.Common.{◌∙◌, ap}
use Rattle.std.specs.Option.{option_to_list}
use Rattle.std.proofs.lemmas.Iterator.{YieldsList-from_slice}
use Rattle.std.proofs.lemmas.Iterator.Adapters.{YieldsList-from_flatten}
use Rattle.std.proofs.lemmas.Iterator.Consumers.{YieldsList-at}
use Rattle.blocks.specs.Keeping.{padded}
use Rattle.blocks.proofs.Keeping.{opened, row_opened}
use Rattle.blocks.proofs.rows.SealRow.row.Goals as goal

pub returns : goal.returns
returns g c =
    let seals = YieldsList-from_flatten {s = c.flatten.result} _ _ (λ y. y.now) option_to_list (λ x j b. opened x j b)
    (YieldsList-at c.flatten.ensures.source (YieldsList-from_slice c.args.self.now.by_seat cc)) c.flatten.ensures.front c.flatten.ensures.back c.flatten.ensures.done in
    let bytes = YieldsList-from_flatten {s = c.flatten-2.result} _ _ (λ y. y.now) (λ seal. seal) (λ x j b. YieldsList-from_slice x.now b.0)
    (YieldsList-at c.flatten-2.ensures.source seals) c.flatten-2.ensures.front c.flatten-2.ensures.back c.flatten-2.ensures.done in
    c.row_of.ensures _ bytes.runs ∙ ap (padded 512) (row_opened c.args.self.now.by_seat)
