-- By the kind of the leaf.
use mathlib.Core.Path.{ap, sym, ◌∙◌}
use mathlib.Core.Bool.{Bool, ◌||◌}
use native.Mathlib.Omega.{arith}
use Rattle.recording.specs.Reading.{Curve, B}
use Rattle.meaning.specs.inner.Coded.{coded}
use Rattle.meaning.specs.inner.Truth.{many_tops}
use Rattle.question.proofs.laws.Limit.{leaf_none, leaf_one, leaf_both}
use borrow.Author.Rules.{rules}
use Rattle.question.proofs.limits.leaf_asks.Goals as goal

pub returns-then-kind-lt-GAPS : goal.returns-then-kind-lt-GAPS
returns-then-kind-lt-GAPS c =
    sym (leaf_none (coded c.args.rec.now) c.args.row.first c.args.row.second c.args.row.number c.args.row.kind c.if-kind-lt-GAPS.true)

pub many_tops-requires : goal.many_tops-requires
many_tops-requires c =
    (c.requires.0, omega arith)

pub returns-then-many_tops : goal.returns-then-many_tops
returns-then-many_tops c =
    sym (leaf_both (coded c.args.rec.now) c.args.row.first c.args.row.second c.args.row.number c.args.row.kind c.if-kind-eq-LAG.true ∙ ap (λ (b : Bool). b || many_tops B (coded c.args.rec.now)) (sym c.many_tops.ensures ∙ c.if-many_tops.true))

pub many_tops-requires-then-kind-eq-LAG : goal.many_tops-requires-then-kind-eq-LAG
many_tops-requires-then-kind-eq-LAG c =
    (c.requires.0, omega arith)

pub returns-then-kind-eq-LAG : goal.returns-then-kind-eq-LAG
returns-then-kind-eq-LAG c =
    c.many_tops-then-kind-eq-LAG.ensures ∙ sym (leaf_both (coded c.args.rec.now) c.args.row.first c.args.row.second c.args.row.number c.args.row.kind c.if-kind-eq-LAG.true ∙ ap (λ (b : Bool). b || many_tops B (coded c.args.rec.now)) (sym c.many_tops.ensures ∙ c.if-many_tops.false))

pub many_tops-requires-2 : goal.many_tops-requires-2
many_tops-requires-2 c =
    (c.requires.0, c.curve.ensures.0)

pub returns : goal.returns
returns c =
    c.many_tops-2.ensures ∙ ap (λ (x : Curve). many_tops x (coded c.args.rec.now)) c.curve.ensures.1 ∙ sym (leaf_one (coded c.args.rec.now) c.args.row.first c.args.row.second c.args.row.number c.args.row.kind c.if-kind-lt-GAPS.false c.requires.1 c.if-kind-eq-LAG.false)
