-- The invariant: the nearest is the least distance to the runs from number i on.
use Rattle.std.proofs.Common.{◌*◌, ◌≤◌, drop, get_or}
use Rattle.runs.specs.Runs.{most_runs}
use Rattle.runs.specs.Set.{cuts_of}
use Rattle.slot.proofs.laws.Nearness.{Reaches}
use Rattle.runset.proofs.RunSet.distance.Given as goal

abbrev pub invariant-loop-i : goal.invariant-loop-i
invariant-loop-i l = record {
  within : 2 * l.i ≤ get_or l.set (2 * most_runs) 0;
  reaches : Reaches (drop (2 * l.i) (cuts_of l.set)) l.v l.nearest;
}
