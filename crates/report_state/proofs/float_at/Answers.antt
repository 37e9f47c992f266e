-- `report_state::float_at` meets its contract. Assumes nothing.
use mathlib.Core.Path.{ap}
use lib.Ieee.{binary64, of_bits}
use Rattle.report_state.proofs.laws.Read.{number-bits}
use borrow.Author.Rules.{rules}
use Rattle.report_state.proofs.float_at.Goals as goal

pub float_from_bits-result : goal.float_from_bits-result
float_from_bits-result c =
    number-bits c.long_at.result _ c.long_at.ensures c.requires.1

pub returns : goal.returns
returns c =
    ap (of_bits binary64) c.long_at.ensures
