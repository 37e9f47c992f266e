-- `barred::some_barred` meets its contract. The invariant: no row before i is barred.
use mathlib.Core.Path.{◌≡◌}
use mathlib.Core.Bool.{false}
use Rattle.grammar.specs.inner.Table.{some_row}
use Rattle.marks.specs.Marks.{marks_of}
use Rattle.lab.specs.inner.Barred.{row_barred}
use Rattle.lab.proofs.barred.some_barred.Given as goal

abbrev pub invariant-loop-i : goal.invariant-loop-i
invariant-loop-i l = some_row (row_barred (marks_of l.marks)) l.table 0 l.i ≡ false
