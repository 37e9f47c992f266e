-- The whole axis where today's run is; else its end, moved by e.
use mathlib.Core.Path.{◌∙◌}
use native.Mathlib.Omega.{arith}
use Rattle.recording.specs.Reading.{curve_of}
use Rattle.band.proofs.laws.Today.{capafter_none, capafter_today}
use borrow.Author.Rules.{rules}
use Rattle.band.proofs.ends.capafter.Goals as goal

pub capafter-today-requires : goal.capafter-today-requires
capafter-today-requires c = (c.requires.0, c.requires.1)

pub returns-then-today-eq0 : goal.returns-then-today-eq0
returns-then-today-eq0 c =
    c.from.ensures ∙ capafter_none c.args.rec.now c.requires.0 (curve_of c.args.curve) c.args.after c.capafter-today.result c.if-today-eq0.true c.capafter-today.ensures c.args.e

pub overflow_add-today : goal.overflow_add-today
overflow_add-today c =
    let h = capafter_today c.args.rec.now c.requires.0 (curve_of c.args.curve) c.args.after c.capafter-today.result c.if-today-eq0.false c.capafter-today.ensures in
    omega (arith, c.requires.2, h.0.0, h.0.1)

pub overflow_sub-today : goal.overflow_sub-today
overflow_sub-today c =
    let h = capafter_today c.args.rec.now c.requires.0 (curve_of c.args.curve) c.args.after c.capafter-today.result c.if-today-eq0.false c.capafter-today.ensures in
    omega (arith, c.requires.2, h.0.0, h.0.1)

pub returns : goal.returns
returns c =
    c.from-2.ensures
    ∙ (capafter_today c.args.rec.now c.requires.0 (curve_of c.args.curve) c.args.after c.capafter-today.result c.if-today-eq0.false c.capafter-today.ensures).1 c.args.e
