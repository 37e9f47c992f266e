-- The row of a text's root says where its children are laid.
use Rattle.std.specs.Prelude.{ℕ, ◌+◌, ◌-◌, ◌<◌, ◌≡◌, List}
use Rattle.std.proofs.Common.{arith, sym, ap, ◌∙◌}
use Rattle.grammar.specs.Syntax.{Text, listed, lag}
use Rattle.grammar.specs.declared.Row.{Row}
use Rattle.grammar.specs.inner.Table.{row, build, row_at, unary_from}
use Rattle.parser.specs.inner.Rows.{Laid, leaf, unary, binary}
use Rattle.leaves.specs.inner.Leaf.{leaf_of}
use Rattle.evaluation.proofs.laws.Tree.{build_leaf}

module _ (table : List ℕ) (n : ℕ) (line : Row) (is-line : line ≡ row_at table n) where
  -- the row as it was laid
  pub line_is : (m k a b : ℕ) → m + 1 ≡ n + 1 → row_at table m ≡ row k a b 0 → line ≡ row k a b 0
  line_is m k a b is e = let x : n ≡ m = omega arith in is-line ∙ ap (row_at table) x ∙ e

  pub laid_kind : (m k a b : ℕ) → m + 1 ≡ n + 1 → row_at table m ≡ row k a b 0 → line.kind ≡ k
  laid_kind m k a b is e = ap (λ (x : Row). x.kind) (line_is m k a b is e)

  pub leaf_kind : (b : ℕ) → b + 1 ≡ n + 1 → (row_at table b).kind < unary_from → line.kind < unary_from
  leaf_kind b is l = let x : n ≡ b = omega arith in let e = ap (λ (y : Row). y.kind) is-line ∙ ap (λ (j : ℕ). (row_at table j).kind) x in omega (arith, e, l)

  -- the text of a leaf
  pub leaf_text : {b m : ℕ} {t : Text} → Laid table b m t → m ≡ n + 1 → line.kind < unary_from → leaf_of line ≡ t
  leaf_text (leaf {b} {t} l e) is h =
      let x : n ≡ b = omega arith in
      sym (build_leaf line (listed lag) (listed lag) h) ∙ ap (λ (y : Row). build y (listed lag) (listed lag)) (is-line ∙ ap (row_at table) x) ∙ e
  leaf_text (unary {b} {m} k l c child e) is h = let x = laid_kind m k (m - 1) 0 is e in absurd (omega (arith, x, l, h))
  leaf_text (binary {b} {m} {n = j} k l c first second e) is h = let x = laid_kind j k (m - 1) (j - 1) is e in absurd (omega (arith, x, l, h))
