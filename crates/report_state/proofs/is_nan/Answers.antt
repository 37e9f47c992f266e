-- `report_state::is_nan` meets its contract. Assumes nothing.
use Rattle.report_state.proofs.laws.Read.{nan_test}
use Rattle.report_state.proofs.is_nan.Goals as goal

pub returns : goal.returns
returns c =
    nan_test c.args.bits
