-- `sweep` meets its contract. The invariant: the times of a before place i are done, and those of b before `start` are under x from there on.
use Rattle.differences.proofs.SweepLaws.{Rows}
use Rattle.differences.proofs.AllPairsPairs.sweep.Given as goal

abbrev pub invariant-loop-i : goal.invariant-loop-i
invariant-loop-i l = Rows l.a l.b l.x l.i l.start l.end l.next l.initial.w l.w
