-- The invariant: the cuts written so far, with those of what the rests of both lists share, are all cuts.
use Prim.Native.Nat.{◌+◌, ◌-◌}
use lib.ListN.{length}
use Rattle.merge.proofs.Progress.{Walking}
use Rattle.merge.proofs.walk.merge.Given as goal

abbrev pub invariant-loop-i : goal.invariant-loop-i
invariant-loop-i l = Walking l.a l.b l.initial.out l.out l.n l.i l.j

abbrev pub decreases-loop-i : goal.decreases-loop-i
decreases-loop-i l = (length l.a + length l.b) - (l.i + l.j)
