-- The joining of the cuts.
use Rattle.runs.specs.Set.{member}
use Rattle.join.proofs.laws.Join.{joins_lists}
use Rattle.runset.proofs.RunSet.join.Goals as goal

pub returns-then-q-eq2 : goal.returns-then-q-eq2
unfolding member
returns-then-q-eq2 c = joins_lists _ _ c.cuts_of-p.ensures c.cuts_of-q.ensures c.of_two.ensures

pub returns : goal.returns
unfolding member
returns c = joins_lists _ _ c.cuts_of-p.ensures c.cuts_of-q.ensures c.join.ensures
