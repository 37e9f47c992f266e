-- `collect` meets its contract. The invariant: the set holds the part below x, and a turn may start at x.
use Prim.Native.Nat.{◌≤◌, ◌<◌, ◌-◌}
use Rattle.number.specs.Axis.{axis}
use Rattle.differences.specs.inner.Sweep.{from}
use Rattle.differences.proofs.GatherLaws.{Gathered}
use Rattle.differences.proofs.collect.Given as goal

abbrev pub invariant-loop-x : goal.invariant-loop-x
invariant-loop-x g l = (l.low ≤ l.x) × Gathered (from l.low (g.P.Pairs.of l.pairs)) l.x l.set × (l.x < axis → g.P.Pairs.starts l.pairs l.x)

abbrev pub decreases-loop-x : goal.decreases-loop-x
decreases-loop-x g l = axis - l.x
