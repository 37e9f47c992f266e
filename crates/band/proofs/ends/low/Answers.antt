-- Today's end, moved by e.
use mathlib.Core.Path.{◌∙◌}
use native.Mathlib.Omega.{arith}
use Rattle.recording.specs.Reading.{curve_of}
use Rattle.band.proofs.laws.Today.{low_today}
use borrow.Author.Rules.{rules}
use Rattle.band.proofs.ends.low.Goals as goal

pub low-today-requires : goal.low-today-requires
low-today-requires c = (c.requires.0, c.requires.1, c.requires.2)

pub overflow_add-today : goal.overflow_add-today
overflow_add-today c =
    let h = low_today c.args.rec.now c.requires.0 (curve_of c.args.curve) c.requires.1 c.low-today.result c.low-today.ensures in
    omega (arith, c.requires.3, h.0.0, h.0.1)

pub overflow_sub-today : goal.overflow_sub-today
overflow_sub-today c =
    let h = low_today c.args.rec.now c.requires.0 (curve_of c.args.curve) c.requires.1 c.low-today.result c.low-today.ensures in
    omega (arith, c.requires.3, h.0.0, h.0.1)

pub returns : goal.returns
returns c =
    c.from.ensures ∙ (low_today c.args.rec.now c.requires.0 (curve_of c.args.curve) c.requires.1 c.low-today.result c.low-today.ensures).1 c.args.e
