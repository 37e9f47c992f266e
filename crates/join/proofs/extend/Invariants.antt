-- The invariant: all runs passed meet the open one.
use Prim.Native.Nat.{◌-◌}
use lib.ListN.{length}
use Rattle.join.proofs.laws.Remainder.{Reaching}
use Rattle.join.proofs.extend.Given as goal

abbrev pub invariant-loop-at : goal.invariant-loop-at
invariant-loop-at l = Reaching l.l l.i l.end l.at l.far

abbrev pub decreases-loop-at : goal.decreases-loop-at
decreases-loop-at l = length l.l - l.at
