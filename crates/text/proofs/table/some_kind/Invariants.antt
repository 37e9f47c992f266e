-- The invariant: no kind before i lies there.
use mathlib.Core.Path.{◌≡◌}
use mathlib.Core.Bool.{false}
use Rattle.grammar.specs.Classes.{within}
use Rattle.grammar.specs.inner.Table.{some_kind}
use Rattle.text.proofs.table.some_kind.Given as goal

abbrev pub invariant-loop-i : goal.invariant-loop-i
invariant-loop-i l = some_kind (within l.low l.high) l.table 0 l.i ≡ false
