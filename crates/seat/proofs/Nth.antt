-- Counting the items that are there.
use Rattle.std.proofs.Common.{◌≡◌, ℕ, zero, suc, List, [], ◌∷◌, Some, None, Option, refl, ap, ◌∙◌}
use Rattle.std.specs.List.{filter_map, slice_get}
use Rattle.std.specs.Option.{option_map}
use Rattle.state.specs.declared.answer.Answer.{Answer}
use Rattle.state.specs.declared.answer.Item.{Item}
use Rattle.seat.specs.Items.{infront, items_of, nth}

nth-get : (xs : List Item) (k : ℕ) → slice_get xs k ≡ nth xs k
nth-get [] zero = refl
nth-get [] (suc k) = refl
nth-get (x ∷ xs) zero = refl
nth-get (x ∷ xs) (suc k) = nth-get xs k

front-is : (o : Option Item) (os : List (Option Item)) → filter_map (λ y. y) (o ∷ os) ≡ infront o (filter_map (λ y. y) os)
front-is None os = refl
front-is (Some x) os = refl

there : (a : Answer) → filter_map (λ y. y) (a.certificate ∷ (a.message ∷ (a.blame ∷ []))) ≡ items_of a
there a =
    front-is a.certificate (a.message ∷ (a.blame ∷ []))
    ∙ (ap (λ xs. infront a.certificate xs) (front-is a.message (a.blame ∷ []))
    ∙ ap (λ xs. infront a.certificate (infront a.message xs)) (front-is a.blame []))

same_option : (o : Option Item) → o ≡ option_map (λ y. y) o
same_option None = refl
same_option (Some x) = refl

pub nth_of_chain : (a : Answer) (k : ℕ) (r : Option Item) →
    option_map (λ y. y) r ≡ slice_get (filter_map (λ y. y) (a.certificate ∷ (a.message ∷ (a.blame ∷ [])))) k → r ≡ nth (items_of a) k
nth_of_chain a k r h = same_option r ∙ (h ∙ (ap (λ xs. slice_get xs k) (there a) ∙ nth-get (items_of a) k))
