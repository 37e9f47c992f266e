-- By the kind of the row.
use Rattle.std.proofs.Common.{subst, arith}
use Rattle.recording.specs.Reading.{Curve}
use Rattle.grammar.specs.Syntax as asks
use Rattle.grammar.specs.Syntax.{Text}
use Rattle.grammar.specs.inner.Kinds.{HIGH, LOW, LOWAFTER, CAPAFTER}
use Rattle.meaning.specs.inner.Truth.{val, truth}
use Rattle.meaning.specs.inner.Coded.{coded}
use Rattle.leaves.specs.inner.Span.{Spans}
use Rattle.leaves.proofs.laws.Leaf.{by_kind, past, just}
use Rattle.leaves.proofs.extreme.Goals as goal

pub high-requires : goal.high-requires
high-requires c = let s = c in (s.requires.0.accepted, omega (arith, s.requires.0.index), c.curve-curve.ensures.0)

pub returns-then-kind-eq-HIGH : goal.returns-then-kind-eq-HIGH
unfolding val
returns-then-kind-eq-HIGH c =
    by_kind (λ (p : Text). Spans (λ v. val (coded c.args.rec.now) v p c.args.i) c.high.result) c.args.row HIGH c.if-kind-eq-HIGH.true
    (subst (λ (k : Curve). Spans (λ v. truth (asks.high k) (coded c.args.rec.now) v) c.high.result) c.curve-curve.ensures.1 c.high.ensures)

pub low-requires : goal.low-requires
low-requires c = let s = c in (s.requires.0.accepted, omega (arith, s.requires.0.index), c.curve-curve.ensures.0)

pub returns-then-kind-eq-LOW : goal.returns-then-kind-eq-LOW
unfolding val
returns-then-kind-eq-LOW c =
    by_kind (λ (p : Text). Spans (λ v. val (coded c.args.rec.now) v p c.args.i) c.low.result) c.args.row LOW c.if-kind-eq-LOW.true
    (subst (λ (k : Curve). Spans (λ v. truth (asks.low k) (coded c.args.rec.now) v) c.low.result) c.curve-curve.ensures.1 c.low.ensures)

pub lowafter-requires : goal.lowafter-requires
lowafter-requires c = let s = c in (s.requires.0.accepted, c.curve-curve.ensures.0)

pub returns-then-kind-eq-LOWAFTER : goal.returns-then-kind-eq-LOWAFTER
unfolding val
returns-then-kind-eq-LOWAFTER c =
    by_kind (λ (p : Text). Spans (λ v. val (coded c.args.rec.now) v p c.args.i) c.lowafter.result) c.args.row LOWAFTER c.if-kind-eq-LOWAFTER.true
    (subst (λ (k : Curve). Spans (λ v. truth (asks.lowafter k c.args.row.number) (coded c.args.rec.now) v) c.lowafter.result) c.curve-curve.ensures.1 c.lowafter.ensures)

pub capafter-requires : goal.capafter-requires
capafter-requires c = let s = c in (s.requires.0.accepted, c.curve-curve.ensures.0)

pub returns : goal.returns
unfolding val
returns c =
    by_kind (λ (p : Text). Spans (λ v. val (coded c.args.rec.now) v p c.args.i) c.capafter.result) c.args.row CAPAFTER
    (just CAPAFTER (past LOWAFTER (past LOW (past HIGH c.requires.1 c.if-kind-eq-HIGH.false) c.if-kind-eq-LOW.false) c.if-kind-eq-LOWAFTER.false) c.requires.2)
    (subst (λ (k : Curve). Spans (λ v. truth (asks.capafter k c.args.row.number) (coded c.args.rec.now) v) c.capafter.result) c.curve-curve.ensures.1 c.capafter.ensures)
