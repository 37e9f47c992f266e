-- `mean::none` meets its contract: both numbers are read from their bits. Assumes nothing.
use mathlib.Core.Path.{refl}
use lib.Ieee.{of_bits}
use Rattle.mean.proofs.none.Goals as goal

pub returns : goal.returns
unfolding of_bits
returns c = refl
