-- The invariant: the set has the members of the first i runs, and these are fit.
use Rattle.std.proofs.Common.{◌≡◌, false}
use Rattle.runs.specs.Set.{Holds}
use Rattle.runset_c.specs.Bytes.{in_runs, unfit_runs}
use Rattle.runset_c.proofs.load.Given as goal

abbrev pub invariant-loop-i : goal.invariant-loop-i
invariant-loop-i l = (unfit_runs l.s l.i ≡ false) × Holds (in_runs l.s l.i) l.set
