-- Twice the number of the node, and one more where it may be a leaf.
use Rattle.std.proofs.Common.{◌+◌, ◌*◌}
use Rattle.evaluation.proofs.+child_eval.Given as goal

abbrev pub decreases-child : goal.decreases-child
decreases-child l = 2 * l.n + 1

abbrev pub decreases-eval : goal.decreases-eval
decreases-eval l = 2 * l.n
