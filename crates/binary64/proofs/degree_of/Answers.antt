-- `ratio::degree_of` meets its contract. The sum is exact, so that the division is that of the definition. Assumes nothing.
use mathlib.Core.Path.{ap}
use lib.Ieee.{Float, binary64, div, of_bits}
use native.Mathlib.Omega.{arith}
use Rattle.binary64.specs.Degree.{one, degree_of}
use Rattle.binary64.proofs.laws.Degree.{sum_exact}
use Rattle.binary64.proofs.degree_of.Goals as goal

pub int_to_float-result : goal.int_to_float-result
int_to_float-result c = tt

pub returns : goal.returns
unfolding of_bits degree_of
returns c = ap (λ (x : Float). div binary64 one x) (sum_exact c.args.d (omega arith))
