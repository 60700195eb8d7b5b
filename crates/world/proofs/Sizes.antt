-- A desk has room for its seat: the bound on the whole is one on the part.
use Rattle.std.proofs.Common.{ℕ, ◌+◌, ◌<◌, le_trans, lt_of_le_of_lt, le-add_left}
use prog.Memory.{up}
use prog.Align.{up-ge}

pub part_fits : (align rest part bound : ℕ) → up align (rest + part) < bound → part < bound
part_fits align rest part bound h = lt_of_le_of_lt (le_trans (le-add_left _ _) (up-ge _ _)) h
