-- One leaf, or any other text.
use Prim.Native.Nat.{◌-◌}
use mathlib.Core.Path.{sym, ◌∙◌}
use borrow.Author.Tests.{ltb-true}
use Rattle.grammar.specs.inner.Kinds.{NOT}
use Rattle.grammar.specs.inner.Table.{row_at}
use borrow.Author.Rules.{rules}
use Rattle.question.proofs.call.answer.Goals as goal

pub answer_leaf-requires : goal.answer_leaf-requires
answer_leaf-requires c =
    (c.requires, ltb-true (row_at c.args.table.now (c.args.count - 1)).kind NOT (sym c.is_leaf.ensures ∙ c.if-is_leaf.true))
