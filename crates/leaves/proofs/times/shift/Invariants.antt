-- The first k are shifted, the others are as before.
use Rattle.leaves.proofs.laws.Indices.{Shifting}
use Rattle.leaves.proofs.times.shift.Given as goal

abbrev pub invariant-loop-k : goal.invariant-loop-k
invariant-loop-k l = Shifting l.initial.times l.k l.times
