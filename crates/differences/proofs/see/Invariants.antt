-- `see` meets its contract. The invariant: the differences before place j are seen.
use Rattle.differences.proofs.RowLaws.{Seeing}
use Rattle.differences.proofs.see.Given as goal

abbrev pub invariant-loop-j : goal.invariant-loop-j
invariant-loop-j l = Seeing l.b l.s l.x l.j l.initial.w l.w
