-- `sheet::first_break` meets its contract. The invariant: index and line are right of the first k lines. Assumes nothing.
use Rattle.sheet.specs.inner.Firsts.{Earliest}
use Rattle.sheet.proofs.first_break.Given as goal

abbrev pub invariant-loop-k : goal.invariant-loop-k
invariant-loop-k l = Earliest l.first l.n l.sheet l.k l.index l.line
