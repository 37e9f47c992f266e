-- The invariant: the runs before the open one are stored, those behind it are still in the lists.
use Prim.Native.Nat.{◌+◌, ◌-◌}
use mathlib.Core.Path.{◌≡◌}
use lib.ListN.{length}
use Rattle.join.proofs.laws.Join.{Joining}
use Rattle.join.proofs.join.Given as goal

abbrev pub invariant-loop-run : goal.invariant-loop-run
invariant-loop-run l = Joining l.a l.b l.set l.n l.run × (l.stores ≡ l.n)

abbrev pub decreases-loop-run : goal.decreases-loop-run
decreases-loop-run l = (length l.a + length l.b) - (l.run.i + l.run.j)
