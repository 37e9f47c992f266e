-- `report_state::mean_in` meets its contract. Assumes nothing.
use native.Mathlib.Omega.{arith}
use Rattle.report_state.proofs.laws.Read.{same_mean}
use Rattle.report_state.proofs.mean_in.Goals as goal

pub float_at-sum-requires : goal.float_at-sum-requires
float_at-sum-requires c =
    (omega (arith, c.requires.long_enough), c.requires.sum_number)

pub float_at-mean-requires : goal.float_at-mean-requires
float_at-mean-requires c =
    (omega (arith, c.requires.long_enough), c.requires.mean_number)

pub returns : goal.returns
returns c =
    same_mean _ _ _ _ c.float_at-sum.ensures c.float_at-mean.ensures
