-- Differences between tops, or a leaf that takes none and is therefore not refused by 9.
use mathlib.Core.Path.{subst}
use mathlib.Core.Bool.{Bool}
use Rattle.runs.specs.Set.{Makes}
use Rattle.meaning.specs.inner.Coded.{coded}
use Rattle.meaning.specs.inner.Truth.{val}
use Rattle.leaves.specs.inner.Leaf.{leaf_of}
use Rattle.question.proofs.laws.Limit.{leaf_none}
use Rattle.question.proofs.laws.Answered.{leaf_asked}
use borrow.Author.Rules.{rules}
use Rattle.std.proofs.lemmas.Result.{err_from_is_err_and}
use Rattle.question.proofs.answered.alone.Goals as goal

pub returns-then-row-ge-GAPS : goal.returns-then-row-ge-GAPS
returns-then-row-ge-GAPS c = c.between_tops.ensures 0

pub leaf-requires : goal.leaf-requires
leaf-requires c =
    (leaf_asked c.args.rec.now c.args.row c.requires.0 c.requires.1 c.requires.2 c.if-row-ge-GAPS.false, c.requires.3)

pub returns-in_err-leaf : goal.returns-in_err-leaf
returns-in_err-leaf c =
    let p = err_from_is_err_and c.from_residual.result c.from_residual.ensures.1 in
    rw (p.1, p.2) (
      leaf_none (coded c.args.rec.now) c.args.row.first c.args.row.second c.args.row.number c.args.row.kind c.if-row-ge-GAPS.false,
      (c.in_err-leaf.field-0.0, c.in_err-leaf.ensures),
    )

pub returns : goal.returns
returns c = (
  leaf_none (coded c.args.rec.now) c.args.row.first c.args.row.second c.args.row.number c.args.row.kind c.if-row-ge-GAPS.false,
  c.in_ok-leaf.ensures,
)
