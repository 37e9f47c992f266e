-- `least` meets its contract. The invariant: all pairs in a row before i or a column before j are weighed.
use Prim.Native.Nat.{◌≤◌, ◌-◌, ◌+◌}
use lib.ListN.{length}
use Rattle.differences.proofs.WalkLaws.{Passed}
use Rattle.differences.proofs.least.Given as goal

abbrev pub invariant-loop-i : goal.invariant-loop-i
invariant-loop-i l = (l.i ≤ length l.a) × (l.j ≤ length l.b) × Passed l.a l.b l.x l.i l.j l.best

abbrev pub decreases-loop-i : goal.decreases-loop-i
decreases-loop-i l = (length l.a - l.i) + (length l.b - l.j)
