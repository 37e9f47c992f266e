-- Word by word: the first i are copied.
use Prim.Native.Nat.{ℕ, ◌+◌, ◌-◌, ◌*◌, ◌≤◌, ◌<◌}
use mathlib.Core.Path.{◌≡◌, refl, ap, ◌∙◌}
use mathlib.Core.Logic.{⊎_elim}
use mathlib.Core.List.{List}
use native.Mathlib.Omega.{arith}
use lib.ListN.{length, get_or, set, length-set}
use lib.Seq.{get_or-set_same, get_or-set_other}
use Rattle.number.proofs.laws.Order.{less_or_not}
use Rattle.grammar.specs.inner.Table.{row}
use Rattle.parser.specs.inner.Rows.{Same}
use borrow.Author.Rules.{rules}
use Rattle.evaluation.proofs.rows.copy.Invariants.{Copied}
use Rattle.evaluation.proofs.rows.copy.Goals as goal

copied_on : (table rows₀ : List ℕ) (i : ℕ) (rows : List ℕ) → i < length rows₀ → Copied table rows₀ i rows → Copied table rows₀ (i + 1) (set rows i (get_or table i 0))
copied_on table rows₀ i rows h c = record {
  size = length-set rows i (get_or table i 0) ∙ c.size;
  word = λ j g. ⊎_elim
      (λ l. get_or-set_other rows i j (get_or table i 0) 0 (λ e. omega (arith, e, l)) ∙ c.word j l)
      (λ l. let e : j ≡ i = omega (arith, g, l) in ap (λ (k : ℕ). get_or (set rows i (get_or table i 0)) k 0) e ∙ get_or-set_same rows i (get_or table i 0) 0 (omega (arith, h, c.size)) ∙ ap (λ (k : ℕ). get_or table k 0) (omega (arith, e)))
      (less_or_not j i);
}

-- the words of a row
copied_all : (table rows₀ : List ℕ) (count i : ℕ) (rows : List ℕ) → 4 * count ≤ i → Copied table rows₀ i rows → Same count table rows
copied_all table rows₀ count i rows h c = record {
  row-at = λ m l k. row (c.word (4 * m) (omega arith) k) (c.word (4 * m + 1) (omega arith) k) (c.word (4 * m + 2) (omega arith) k) (c.word (4 * m + 3) (omega arith) k);
}

pub loop-i-preserved : goal.loop-i-preserved
loop-i-preserved c =
    copied_on c.args.table.now c.args.rows.now c.loop-i.i c.loop-i.rows (omega (arith, c.loop-i-test.true, c.requires.1)) c.loop-i.invariant

pub returns : goal.returns
returns c =
    copied_all c.args.table.now c.args.rows.now c.args.count c.loop-i.i c.loop-i.rows c.loop-i-test.false c.loop-i.invariant
