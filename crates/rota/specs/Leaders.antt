-- The seat that leads a view of a log with n seats.
use Rattle.std.specs.Prelude.{ℕ, ◌%◌, List, length, slice_index}

-- round robin: the views go round the seats
abbrev pub robin : ℕ → ℕ → ℕ
robin n view = view % n

-- the entry that a view comes to: the views go round the entries
abbrev pub entry_of : List ℕ → ℕ → ℕ
entry_of entries view = slice_index entries (view % length entries)

-- a posted rota: the view's entry, taken round the seats
abbrev pub posted : List ℕ → ℕ → ℕ → ℕ
posted entries n view = entry_of entries view % n
