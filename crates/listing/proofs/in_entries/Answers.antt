-- A wrong curve number and a level off the axis are 12; else the level is the number at an index.
use Rattle.std.specs.Prelude.{Some, None}
use native.Mathlib.Omega.{arith}
use Rattle.targets.proofs.laws.Target.{placed-handed}
use Rattle.listing.proofs.laws.Call.{of_no_curve, of_off_axis, of_index}
use borrow.Author.Rules.{rules}
use Rattle.listing.proofs.in_entries.Goals as goal

pub returns-then-curve-gt1 : goal.returns-then-curve-gt1
returns-then-curve-gt1 c =
    of_no_curve c.args.summary.now c.args.curve c.args.out.now c.args.level (omega (arith, c.if-curve-gt1.true))

pub at_level-requires : goal.at_level-requires
at_level-requires c =
    let p = placed-handed c.args.level c.ranges.level c.on_axis.result (Some c.in-Some.index) c.in-Some.is c.on_axis.ensures in
    (c.requires.0, c.requires.1, search rules, p.1)

pub returns : goal.returns
returns c =
    of_index c.args.summary.now c.args.curve c.args.out.now c.args.level c.if-curve-gt1.false c.in-Some.index
    (placed-handed c.args.level c.ranges.level c.on_axis.result (Some c.in-Some.index) c.in-Some.is c.on_axis.ensures) c.at_level.result c.at_level.new.out c.at_level.ensures

pub returns-in_default : goal.returns-in_default
returns-in_default c =
    of_off_axis c.args.summary.now c.args.curve c.args.out.now c.args.level
    (placed-handed c.args.level c.ranges.level c.on_axis.result None c.in_default.is c.on_axis.ensures)
