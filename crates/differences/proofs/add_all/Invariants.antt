-- `add_all` meets its contract. The invariant: the set holds the part below d of its members and the seen numbers.
use Rattle.differences.proofs.GatherLaws.{Gathered}
use Rattle.differences.proofs.TurnLaws.{with_shown}
use Rattle.differences.proofs.add_all.Given as goal

abbrev pub invariant-loop-d : goal.invariant-loop-d
invariant-loop-d l = Gathered (with_shown l.initial.set l.w l.x l.end) l.d l.set
