-- A single record spreads by nothing; else today's end, moved by 2e, not below 0 and not beyond the axis.
use Prim.Native.Nat.{ℕ}
use mathlib.Core.Path.{ap₂, ◌∙◌}
use native.Mathlib.Omega.{arith}
use Rattle.recording.specs.Reading.{curve_of}
use Rattle.band.specs.inner.Ends.{upto, two_sets}
use Rattle.band.proofs.laws.Today.{ampl_alone, ampl_today}
use borrow.Author.Rules.{rules}
use Rattle.band.proofs.ends.ampl.Goals as goal

pub returns-then-rec-eq1 : goal.returns-then-rec-eq1
returns-then-rec-eq1 c =
    c.upto.ensures ∙ ampl_alone c.args.rec.now c.requires.0 (curve_of c.args.curve) c.if-rec-eq1.true c.args.e

pub ampl-today-requires : goal.ampl-today-requires
ampl-today-requires c = (c.requires.0, c.requires.1, c.requires.2)

pub overflow_mul-e : goal.overflow_mul-e
overflow_mul-e c = omega (arith, c.requires.3)

pub overflow_sub-today : goal.overflow_sub-today
overflow_sub-today c =
    let h = ampl_today c.args.rec.now c.requires.0 (curve_of c.args.curve) c.requires.1 c.ampl-today.result c.if-rec-eq1.false c.ampl-today.ensures in
    omega (arith, c.requires.3, h.0)

pub overflow_mul-e-2 : goal.overflow_mul-e-2
overflow_mul-e-2 c = omega (arith, c.requires.3)

pub overflow_add-today : goal.overflow_add-today
overflow_add-today c =
    omega (arith, c.requires.3, c.ampl-today.ensures.inside)

pub returns : goal.returns
returns c =
    c.upto-2.ensures
    ∙ ap₂ (λ (m n : ℕ). two_sets (upto m) (upto n)) c.greater.ensures c.lesser.ensures
    ∙ (ampl_today c.args.rec.now c.requires.0 (curve_of c.args.curve) c.requires.1 c.ampl-today.result c.if-rec-eq1.false c.ampl-today.ensures).1 c.args.e
