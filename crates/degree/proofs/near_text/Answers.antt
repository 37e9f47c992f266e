-- One leaf, or any other text.
use Prim.Native.Nat.{◌-◌}
use mathlib.Core.Path.{sym, ◌∙◌}
use borrow.Author.Tests.{ltb-true}
use Rattle.grammar.specs.inner.Kinds.{NOT}
use Rattle.grammar.specs.inner.Table.{row_at}
use borrow.Author.Rules.{rules}
use Rattle.degree.proofs.near_text.Goals as goal

pub near_leaf-requires : goal.near_leaf-requires
near_leaf-requires c =
    (c.requires.0, c.requires.1, ltb-true (row_at c.args.table.now (c.args.count - 1)).kind NOT (sym c.is_leaf.ensures ∙ c.if-is_leaf.true))
