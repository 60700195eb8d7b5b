use Rattle.wire.proofs.OneForm.{one_form_forth, one_form_back, one_form_apart}
use Rattle.wire.proofs.laws.one_form.Goals as goal

pub returns : goal.returns
returns g c =
    let k = g.C.Content.kind in
    record {
      forth = λ n m h. one_form_forth k g.row.S n m h;
      back = λ n xs m b h. one_form_back k g.row.S n xs m b h;
      apart = λ n xs ys m b d h i. one_form_apart k g.row.S n xs ys m b d h i;
    }
