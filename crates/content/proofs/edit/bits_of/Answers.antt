use Rattle.std.proofs.Common.{T, sym, ap, ◌∙◌, subst}
use lib.Ieee.{binary64, of_bits}
use lib.Ieee.Bits.{of_bits-to_bits}
use Rattle.content.proofs.edit.bits_of.Goals as goal

pub returns-clause-back : goal.returns-clause-back
returns-clause-back c = ap (of_bits binary64) c.f64_to_bits_with_nan.ensures ∙ of_bits-to_bits binary64 c.args.x (subst T (sym c.well_formed.0.1) tt)
