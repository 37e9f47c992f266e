-- The invariant: the lines of the first i runs are put.
use Rattle.page.specs.Page.{run_lines}
use Rattle.page.specs.inner.Puts.{Puts}
use lib.ListN.{length}
use mathlib.Core.Path.{◌≡◌}
use Rattle.page.proofs.lines.runs.Given as goal

abbrev pub invariant-loop-i : goal.invariant-loop-i
invariant-loop-i l = (length l.out ≡ length l.initial.out) × Puts (run_lines l.i l.set) l.initial.out l.at l.out l.end
