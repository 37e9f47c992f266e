-- `sweep` meets its contract. The invariant: the neighbours before place i are done.
use Rattle.differences.proofs.SweepLaws.{Steps}
use Rattle.differences.proofs.NeighboursPairs.sweep.Given as goal

abbrev pub invariant-loop-i : goal.invariant-loop-i
invariant-loop-i l = Steps l.t l.x l.i l.end l.next l.initial.w l.w
