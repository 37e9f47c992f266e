-- By the kind of the text's last row, which is its root.
use mathlib.Core.Path.{refl}
use native.Mathlib.Omega.{arith}
use Rattle.recording.specs.Reading.{curve_of}
use Rattle.grammar.specs.Syntax as asks
use Rattle.meaning.specs.inner.Coded.{coded}
use Rattle.evaluation.specs.inner.Evaluation.{text_of}
use Rattle.band.proofs.laws.Call.{asked, text-high, text-low, text_lowafter, text_capafter, text_ampl, text-other}
use borrow.Author.Rules.{rules}
use Rattle.band.proofs.of_text.Goals as goal

pub overflow_sub-count : goal.overflow_sub-count
overflow_sub-count c = omega (arith, c.requires.0.some)

pub row_at-row-requires : goal.row_at-row-requires
row_at-row-requires c = omega (arith, c.requires.0.some, c.requires.0.rows)

pub high-requires : goal.high-requires
high-requires c = (c.requires.0.accepted, c.requires.0.record_there, c.curve-curve.ensures.0, c.requires.1)

pub returns-then-kind-eq-HIGH : goal.returns-then-kind-eq-HIGH
returns-then-kind-eq-HIGH c =
    asked (text_of c.args.table.now c.args.count) (asks.high (curve_of c.curve-curve.result)) c.args.e (coded c.args.rec.now)
    (text-high c.args.table.now c.args.count c.args.rec.now c.requires.0 c.row_at-row.result c.row_at-row.ensures (curve_of c.curve-curve.result) c.curve-curve.ensures.1 c.if-kind-eq-HIGH.true) refl _ c.high.ensures

pub low-requires : goal.low-requires
low-requires c = (c.requires.0.accepted, c.requires.0.record_there, c.curve-curve.ensures.0, c.requires.1)

pub returns-then-kind-eq-LOW : goal.returns-then-kind-eq-LOW
returns-then-kind-eq-LOW c =
    asked (text_of c.args.table.now c.args.count) (asks.low (curve_of c.curve-curve.result)) c.args.e (coded c.args.rec.now)
    (text-low c.args.table.now c.args.count c.args.rec.now c.requires.0 c.row_at-row.result c.row_at-row.ensures (curve_of c.curve-curve.result) c.curve-curve.ensures.1 c.if-kind-eq-LOW.true) refl _ c.low.ensures

pub lowafter-requires : goal.lowafter-requires
lowafter-requires c = (c.requires.0.accepted, c.curve-curve.ensures.0, c.requires.1)

pub returns-then-kind-eq-LOWAFTER : goal.returns-then-kind-eq-LOWAFTER
returns-then-kind-eq-LOWAFTER c =
    asked (text_of c.args.table.now c.args.count) (asks.lowafter (curve_of c.curve-curve.result) c.row_at-row.result.number) c.args.e (coded c.args.rec.now)
    (text_lowafter c.args.table.now c.args.count c.args.rec.now c.requires.0 c.row_at-row.result c.row_at-row.ensures (curve_of c.curve-curve.result) c.curve-curve.ensures.1 c.if-kind-eq-LOWAFTER.true) refl _ c.lowafter.ensures

pub capafter-requires : goal.capafter-requires
capafter-requires c = (c.requires.0.accepted, c.curve-curve.ensures.0, c.requires.1)

pub returns-then-kind-eq-CAPAFTER : goal.returns-then-kind-eq-CAPAFTER
returns-then-kind-eq-CAPAFTER c =
    asked (text_of c.args.table.now c.args.count) (asks.capafter (curve_of c.curve-curve.result) c.row_at-row.result.number) c.args.e (coded c.args.rec.now)
    (text_capafter c.args.table.now c.args.count c.args.rec.now c.requires.0 c.row_at-row.result c.row_at-row.ensures (curve_of c.curve-curve.result) c.curve-curve.ensures.1 c.if-kind-eq-CAPAFTER.true) refl _ c.capafter.ensures

pub ampl-requires : goal.ampl-requires
ampl-requires c = (c.requires.0.accepted, c.requires.0.record_there, c.curve-curve.ensures.0, c.requires.1)

pub returns-then-kind-eq-AMPL : goal.returns-then-kind-eq-AMPL
returns-then-kind-eq-AMPL c =
    asked (text_of c.args.table.now c.args.count) (asks.ampl (curve_of c.curve-curve.result)) c.args.e (coded c.args.rec.now)
    (text_ampl c.args.table.now c.args.count c.args.rec.now c.requires.0 c.row_at-row.result c.row_at-row.ensures (curve_of c.curve-curve.result) c.curve-curve.ensures.1 c.if-kind-eq-AMPL.true) refl _ c.ampl.ensures

pub returns : goal.returns
returns c =
    text-other c.args.table.now c.args.count c.args.rec.now c.requires.0 c.row_at-row.result c.row_at-row.ensures c.if-kind-eq-HIGH.false c.if-kind-eq-LOW.false c.if-kind-eq-LOWAFTER.false c.if-kind-eq-CAPAFTER.false c.if-kind-eq-AMPL.false c.args.e (coded c.args.rec.now)
