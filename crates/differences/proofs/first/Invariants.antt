-- `first` meets its contract. The invariant: the times before place j, minus s, are under x.
use Rattle.differences.specs.inner.Sweep.{Under}
use Rattle.differences.proofs.first.Given as goal

abbrev pub invariant-loop-j : goal.invariant-loop-j
invariant-loop-j l = Under l.b l.s l.x l.j
