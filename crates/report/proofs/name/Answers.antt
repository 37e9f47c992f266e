-- `report::name` meets its contract: refused by 15, then by 5 to 7, then as the target is. Assumes nothing.
use mathlib.Core.Path.{ap, ◌∙◌}
use native.Mathlib.Omega.{arith}
use lib.Dec.{eqb, ltb}
use lib.IntN.{ℤ}
use Rattle.report.specs.Report.{most_batches}
use borrow.Author.Tests.{eq-eqb, lt-ltb}
use mir.Syntax.{w64}
use mir.ValLaws.{to_z-of_z}
use Rattle.std.proofs.lemmas.Result.{err_from_is_err_and}
use Rattle.number.proofs.laws.Boolean.{or_left, or_right}
use Rattle.refusal.specs.Outcome.{judged}
use Rattle.meaning.specs.inner.Coded.{index}
use Rattle.report.specs.inner.Naming.{target_lines}
use Rattle.report.proofs.laws.Naming.{count_bad, count_good, text_bad, text_good}
use borrow.Author.Rules.{rules}
use Rattle.report.proofs.name.Goals as goal

pub returns-then-count-eq0 : goal.returns-then-count-eq0
returns-then-count-eq0 c =
    count_bad c.args.count c.args.text.now c.args.target c.args.room (or_left (eqb c.args.count 0) (ltb most_batches c.args.count) (eq-eqb c.args.count 0 c.if-count-eq0.true))

pub returns-then-count-gt-MOST_BATCHES : goal.returns-then-count-gt-MOST_BATCHES
returns-then-count-gt-MOST_BATCHES c =
    count_bad c.args.count c.args.text.now c.args.target c.args.room (or_right (eqb c.args.count 0) (ltb most_batches c.args.count) (lt-ltb _ _ c.if-count-gt-MOST_BATCHES.true))

pub returns-in_err-read : goal.returns-in_err-read
returns-in_err-read c =
    let p = err_from_is_err_and c.from_residual.result c.from_residual.ensures.1 in
    let good = count_good c.args.count c.args.text.now c.args.target c.args.room (omega (arith, c.if-count-eq0.false)) c.if-count-gt-MOST_BATCHES.false in
    rw (p.1, p.2) (text_bad c.args.count c.args.text.now c.args.target c.args.room good _ _ c.read.ensures _ c.in_err-read.was)

pub returns : goal.returns
returns c =
    let good = count_good c.args.count c.args.text.now c.args.target c.args.room (omega (arith, c.if-count-eq0.false)) c.if-count-gt-MOST_BATCHES.false in
    let e = to_z-of_z w64 c.args.target c.ranges.target in
    text_good c.args.count c.args.text.now c.args.target c.args.room good _ _ c.read.ensures _ c.in_ok-read.was _
    (c.aimed.ensures ∙ ap (λ (g : ℤ). judged (target_lines g c.args.room) (index g)) e)
