-- No cut.
use lib.ListN.{length-set}
use lib.Seq.{get_or-set_same}
use mathlib.Core.Path.{◌∙◌}
use native.Mathlib.Omega.{arith}
use Rattle.runs.proofs.laws.Set.{nothing-held}
use Rattle.runset.proofs.RunSet.empty.Goals as goal

pub returns : goal.returns
returns c = nothing-held _ (length-set c.args.set.now 512 0 ∙ c.requires) (get_or-set_same c.args.set.now 512 0 0 (omega (arith, c.requires)))
