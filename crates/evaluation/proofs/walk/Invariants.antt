-- Record by record from the last to the first, the two tables by turns.
use Prim.Native.Nat.{◌*◌}
use mathlib.Core.Path.{◌≡◌}
use lib.ListN.{length}
use Rattle.runs.specs.Runs.{most_runs}
use Rattle.evaluation.proofs.laws.Walk.{Walked}
use Rattle.evaluation.proofs.walk.Given as goal

abbrev pub invariant-loop-i : goal.invariant-loop-i
invariant-loop-i l = Walked l.table l.count l.rec l.i l.a l.b l.flip × (length l.shared ≡ 4 * most_runs)
