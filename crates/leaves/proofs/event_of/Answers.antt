-- By the kind of the row.
use Rattle.std.proofs.Common.{sym, ap, ◌∙◌}
use Rattle.recording.specs.Reading.{Curve}
use Rattle.grammar.specs.Syntax.{listed, peaks, dips}
use Rattle.grammar.specs.inner.Kinds.{PEAKS, DIPS, CROSS, CROSSUP}
use Rattle.leaves.proofs.laws.Leaf.{leaf_at, past, just, under}
use Rattle.leaves.proofs.event_of.Goals as goal

pub returns-then-kind-eq-CROSS : goal.returns-then-kind-eq-CROSS
returns-then-kind-eq-CROSS c = (tt, ap (leaf_at c.args.row) c.if-kind-eq-CROSS.true)

pub returns-then-kind-eq-CROSSUP : goal.returns-then-kind-eq-CROSSUP
returns-then-kind-eq-CROSSUP c = (tt, ap (leaf_at c.args.row) c.if-kind-eq-CROSSUP.true)

pub returns-then-kind-eq-PEAKS : goal.returns-then-kind-eq-PEAKS
returns-then-kind-eq-PEAKS c =
    (c.curve-curve.ensures.0, ap (leaf_at c.args.row) c.if-kind-eq-PEAKS.true ∙ ap (λ (k : Curve). listed (peaks k)) (sym c.curve-curve.ensures.1))

pub returns : goal.returns
returns c =
    let e = just DIPS (past PEAKS c.requires.0 c.if-kind-eq-PEAKS.false)
    (under CROSS (under CROSSUP c.requires.1 c.if-kind-eq-CROSSUP.false) c.if-kind-eq-CROSS.false) in
    (c.curve-curve.ensures.0, ap (leaf_at c.args.row) e ∙ ap (λ (k : Curve). listed (dips k)) (sym c.curve-curve.ensures.1))
