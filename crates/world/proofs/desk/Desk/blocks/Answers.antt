use Rattle.std.proofs.Common.{◌≡◌, ℕ, List, take, Option, Bor, Some, None, arith, sym, ap, ◌∙◌, take_all}
use native.Mathlib.Nat.{sub-zero}
use Rattle.std.specs.Slice.{IsGetRangeResult}
use Rattle.std.specs.Option.{unwrap_or}
use Rattle.world.proofs.desk.Desk.blocks.Goals as goal

-- the first n of a list, or all of a list that has fewer
front : {X : Type 0} (xs : List X) (n : ℕ) (whole : Bor (List X)) (r : Option (Bor (List X))) → whole.now ≡ xs → IsGetRangeResult xs 0 n r → (unwrap_or r whole).now ≡ take n xs
front xs n whole None e p = e ∙ sym (take_all n xs (omega (arith, p.0)))
front xs n whole (Some x) e p = p.0.2 ∙ ap (λ m. take m xs) (sub-zero n)

pub returns : goal.returns
returns g c =
    let n = c.args.self.now.filled in
    let whole = c.deref-2.result in
    ap (λ x. x.now) c.unwrap_or.ensures ∙ (front c.deref.result.now n whole c.get.result (c.deref-2.ensures.value ∙ sym c.deref.ensures.value) c.get.ensures.lookup ∙ ap (take n) c.deref.ensures.value)
