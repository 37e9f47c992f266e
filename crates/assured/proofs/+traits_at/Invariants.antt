-- The number of the node.
use Rattle.assured.proofs.+traits_at.Given as goal

abbrev pub decreases-traits_at : goal.decreases-traits_at
decreases-traits_at l = l.n
