-- A call that goes on.
use Rattle.std.proofs.Common.{ℕ, refl, ◌∙◌}
use Rattle.state.specs.Steps.{SameCall}
use Rattle.state.specs.declared.call.Call.{Call}

module _ {S : ℕ} where
  pub unmoved : {c : Call S} → SameCall c c
  unmoved = record { terms = refl; place = refl; size = refl }

  pub followed : {c d e : Call S} → SameCall d c → SameCall e d → SameCall e c
  followed h g = record { terms = g.terms ∙ h.terms; place = g.place ∙ h.place; size = g.size ∙ h.size }
