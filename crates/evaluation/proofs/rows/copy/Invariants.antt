-- Word by word: the first i are copied.
use Prim.Native.Nat.{ℕ, ◌+◌, ◌-◌, ◌*◌, ◌≤◌, ◌<◌}
use mathlib.Core.Path.{◌≡◌, refl, ap, ◌∙◌}
use mathlib.Core.Logic.{⊎_elim}
use mathlib.Core.List.{List}
use native.Mathlib.Omega.{arith}
use lib.ListN.{length, get_or, set, length-set}
use lib.Seq.{get_or-set_same, get_or-set_other}
use Rattle.number.proofs.laws.Order.{less_or_not}
use Rattle.grammar.specs.inner.Table.{row}
use Rattle.parser.specs.inner.Rows.{Same}
use borrow.Author.Rules.{rules}
use Rattle.evaluation.proofs.rows.copy.Given as goal

-- the first i words are copied
pub record Copied (table rows₀ : List ℕ) (i : ℕ) (rows : List ℕ) : Type 0 where
  pub size : length rows ≡ length rows₀
  pub word : (j : ℕ) → j < i → get_or rows j 0 ≡ get_or table j 0

abbrev pub invariant-loop-i : goal.invariant-loop-i
invariant-loop-i l = Copied l.table l.initial.rows l.i l.rows
