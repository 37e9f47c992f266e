-- Run by run: what is stored, with what is left, is always the same.
use Prim.Native.Nat.{◌-◌}
use mathlib.Core.Path.{◌≡◌, sym, subst}
use native.Mathlib.Omega.{arith}
use lib.ListN.{length}
use Rattle.join.specs.inner.Join.{Appended}
use Rattle.join.proofs.laws.Join.{whole_runs}
use Rattle.runs.proofs.laws.Place.{two_left}
use Rattle.join.proofs.laws.Remainder.{Appending, appending_on, appended}
use borrow.Author.Rules.{rules}
use Rattle.join.proofs.append.Given as goal

abbrev pub invariant-loop-from : goal.invariant-loop-from
invariant-loop-from l = Appending l.l l.i l.initial.set l.n l.from l.at l.set × (l.stores ≡ l.at)

abbrev pub decreases-loop-from : goal.decreases-loop-from
decreases-loop-from l = length l.l - l.from
