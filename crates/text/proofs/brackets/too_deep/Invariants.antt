-- The invariant: the brackets before i are counted, and at no byte before i too many are open.
use Rattle.text.proofs.BracketLaws.{Counted}
use Rattle.text.proofs.brackets.too_deep.Given as goal

abbrev pub invariant-loop-b : goal.invariant-loop-b
invariant-loop-b l = Counted l.text l.opened l.closed l.b-index
