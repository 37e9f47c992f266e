-- Empty where today's run is; else its end, moved by e.
use mathlib.Core.Path.{◌∙◌}
use native.Mathlib.Omega.{arith}
use Rattle.recording.specs.Reading.{curve_of}
use Rattle.band.proofs.laws.Today.{lowafter_none, lowafter_today}
use borrow.Author.Rules.{rules}
use Rattle.band.proofs.ends.lowafter.Goals as goal

pub lowafter-today-requires : goal.lowafter-today-requires
lowafter-today-requires c = (c.requires.0, c.requires.1)

pub returns-then-today : goal.returns-then-today
returns-then-today c =
    lowafter_none c.args.rec.now c.requires.0 (curve_of c.args.curve) c.args.after c.lowafter-today.result c.if-today.true c.lowafter-today.ensures c.args.e

pub overflow_add-today : goal.overflow_add-today
overflow_add-today c =
    let h = lowafter_today c.args.rec.now c.requires.0 (curve_of c.args.curve) c.args.after c.lowafter-today.result c.if-today.false c.lowafter-today.ensures in
    omega (arith, c.requires.2, h.0.0, h.0.1)

pub overflow_sub-today : goal.overflow_sub-today
overflow_sub-today c =
    let h = lowafter_today c.args.rec.now c.requires.0 (curve_of c.args.curve) c.args.after c.lowafter-today.result c.if-today.false c.lowafter-today.ensures in
    omega (arith, c.requires.2, h.0.0, h.0.1)

pub returns : goal.returns
returns c =
    c.from.ensures
    ∙ (lowafter_today c.args.rec.now c.requires.0 (curve_of c.args.curve) c.args.after c.lowafter-today.result c.if-today.false c.lowafter-today.ensures).1 c.args.e
