-- An atom, one run by its ends, else the times of events or additions, or the differences between tops.
use Rattle.std.proofs.Common.{ℕ, Bool, List}
use Rattle.grammar.specs.declared.Row.{Row}
use Rattle.runs.proofs.laws.Set.{holds_makes}
use Rattle.meaning.specs.inner.Truth.{val}
use Rattle.meaning.specs.inner.Coded.{coded}
use Rattle.leaves.specs.inner.Leaf.{leaf_of}
use Rattle.leaves.proofs.laws.Span.{spans_make}
use Rattle.leaves.proofs.leaf.Goals as goal

-- the members of the leaf's set
abbrev members : List ℕ → ℕ → Row → ℕ → Bool
members rec i row v = val (coded rec) v (leaf_of row) i

pub returns-then-kind-lt-HIGH : goal.returns-then-kind-lt-HIGH
returns-then-kind-lt-HIGH c = let s = c in holds_makes (members s.args.rec.now s.args.i s.args.row) _ c.atom.ensures

pub returns-then-kind-lt-PEAKS : goal.returns-then-kind-lt-PEAKS
returns-then-kind-lt-PEAKS c =
    spans_make (members c.args.rec.now c.args.i c.args.row) c.extreme-s.result _ c.extreme-s.ensures c.span.ensures

pub returns-then-kind-eq-AMPL : goal.returns-then-kind-eq-AMPL
returns-then-kind-eq-AMPL c =
    spans_make (members c.args.rec.now c.args.i c.args.row) c.amplitude-s.result _ c.amplitude-s.ensures c.span-then-kind-eq-AMPL.ensures
