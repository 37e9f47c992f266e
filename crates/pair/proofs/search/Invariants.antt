-- `pair::search` meets its contract. The outer loop has passed the earlier places below i; every time below j is too low for the earlier places from i on. Assumes nothing.
use borrow.Author.Rules.{rules}
use borrow.Author.Count.{below_none, below_more}
use mathlib.Core.Path.{◌≡◌, sym, ap, subst}
use mathlib.Core.Logic.{◌⊎◌, inl, inr, ⊎_elim}
use mathlib.Core.List.{List}
use Prim.Native.Nat.{ℕ, ◌+◌, ◌-◌, ◌≤◌, ◌<◌}
use native.Mathlib.Omega.{arith}
use lib.ListN.{get_or}
use Rattle.number.proofs.laws.Order.{less_or_not, less-more_equal}
use Rattle.refusal.specs.Outcome.{result}
use Rattle.pair.specs.inner.Search.{Rising, Spaced}
use Rattle.pair.proofs.laws.Search.{found_first, found_none, Low, low-more, low-next, none_later, none_before, behind_earlier}
use Rattle.pair.proofs.search.Given as goal

abbrev pub invariant-loop-j : goal.invariant-loop-j
invariant-loop-j l = Low l.times l.n l.g l.i l.j

abbrev pub decreases-loop-j : goal.decreases-loop-j
decreases-loop-j l = l.n - l.j

abbrev pub invariant-earlier : goal.invariant-earlier
invariant-earlier l = ((a : ℕ) → a < l.i → (b : ℕ) → Spaced l.times l.n l.g a b → ⊥) × Low l.times l.n l.g l.i l.j

abbrev pub decreases-earlier : goal.decreases-earlier
decreases-earlier l = l.n - l.i
