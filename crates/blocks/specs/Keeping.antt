-- Keeping seals by seat, and rows of seals in memory of a fixed size.
use Rattle.std.specs.Prelude.{ℕ, zero, suc, Bool, cond, ◌&&◌, List, [], ◌∷◌, length, is_some, Some, None, ◌==◌, nat_lt, slice_index_or, slice_set}
use Rattle.blocks.specs.Masks.{Kept}

-- whether a seat's seal is there
abbrev pub has_kept : Kept → ℕ → Bool
has_kept kept seat = is_some (slice_index_or kept seat None)

-- one more seal, of S bytes, for one of 15 seats
abbrev pub keep_seal : (S : ℕ) → Kept → ℕ → List ℕ → Kept
keep_seal S kept seat seal = cond (length seal == S && nat_lt seat 15) (slice_set kept seat (Some seal)) kept

-- a row in memory of a fixed size: zeros behind it, and what does not fit is cut off
unfoldable pub padded : ℕ → List ℕ → List ℕ
padded zero row = []
padded (suc room) [] = 0 ∷ padded room []
padded (suc room) (x ∷ row) = x ∷ padded room row
