-- The number of the node.
use Rattle.question.proofs.limits.+asks.Given as goal

abbrev pub decreases-asks : goal.decreases-asks
decreases-asks l = l.n
