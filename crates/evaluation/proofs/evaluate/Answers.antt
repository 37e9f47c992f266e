-- A text of one node by its leaf; else the rows are copied, and then the walk for a text with F, G, X, U or W, and the first record for any other.
use native.Mathlib.Omega.{arith}
use mathlib.Core.Path.{◌∙◌}
use Rattle.parser.proofs.laws.Rows.{laid_above}
use Rattle.evaluation.proofs.laws.Alone.{alone_asked, alone_evaluates}
use Rattle.evaluation.proofs.laws.Rows.{same_asking, same_temporal, same_child, same_evaluates}
use Rattle.evaluation.proofs.evaluate.Goals as goal

pub overflow_sub-count : goal.overflow_sub-count
overflow_sub-count c = omega (arith, laid_above c.requires.0.laid)

pub row_at-root-requires : goal.row_at-root-requires
row_at-root-requires c = omega (arith, laid_above c.requires.0.laid, c.requires.0.rows)

pub leaf-requires : goal.leaf-requires
leaf-requires c =
    (alone_asked c.args.table.now c.args.count c.args.rec.now c.requires.0 c.row_at-root.result c.row_at-root.ensures c.if-root-lt-NOT.true, c.requires.2)

pub returns-then-root-lt-NOT : goal.returns-then-root-lt-NOT
returns-then-root-lt-NOT c =
    alone_evaluates c.args.table.now c.args.count c.args.rec.now c.requires.0 c.row_at-root.result c.row_at-root.ensures c.if-root-lt-NOT.true _ _ c.leaf.ensures

pub copy-requires : goal.copy-requires
copy-requires c = (c.requires.0.rows, omega (arith, c.requires.0.few))

pub walk-requires : goal.walk-requires
walk-requires c = (
  same_asking c.args.table.now _ c.args.count c.args.rec.now c.copy.ensures c.requires.0 (omega (arith, c.copy.auto.rows, c.requires.0.few)),
  same_temporal c.args.table.now _ c.args.count c.args.rec.now c.copy.ensures c.requires.0 _ (c.requires.1 ∙ c.if-ahead.true),
  c.requires.2,
  same_child c.args.table.now _ c.args.count c.args.rec.now c.copy.ensures c.requires.0 c.row_at-root.result c.row_at-root.ensures c.if-root-lt-NOT.false,
)

pub returns-then-ahead : goal.returns-then-ahead
returns-then-ahead c =
    same_evaluates c.args.table.now _ c.args.count c.args.rec.now c.copy.ensures c.requires.0 _ _ _ c.walk.ensures

pub at_first-requires : goal.at_first-requires
at_first-requires c = (
  same_asking c.args.table.now _ c.args.count c.args.rec.now c.copy.ensures c.requires.0 (omega (arith, c.copy.auto.rows, c.requires.0.few)),
  same_temporal c.args.table.now _ c.args.count c.args.rec.now c.copy.ensures c.requires.0 _ (c.requires.1 ∙ c.if-ahead.false),
  c.requires.2,
  same_child c.args.table.now _ c.args.count c.args.rec.now c.copy.ensures c.requires.0 c.row_at-root.result c.row_at-root.ensures c.if-root-lt-NOT.false,
)

pub returns : goal.returns
returns c =
    same_evaluates c.args.table.now _ c.args.count c.args.rec.now c.copy.ensures c.requires.0 _ _ _ c.at_first.ensures
