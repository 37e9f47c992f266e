-- Off the axis there is no band.
use Rattle.std.specs.Prelude.{Some, None}
use Rattle.evaluation.specs.inner.Evaluation.{text_of}
use Rattle.meaning.specs.inner.Coded.{coded}
use Rattle.targets.proofs.laws.Target.{placed-handed}
use Rattle.band.proofs.laws.Call.{width_off, width_on}
use borrow.Author.Rules.{rules}
use Rattle.band.proofs.within.Goals as goal

pub at_index-requires : goal.at_index-requires
at_index-requires c = c.requires

pub returns : goal.returns
returns c =
    width_on (text_of c.args.table.now c.args.count) (coded c.args.rec.now) c.args.e c.in-Some.index
    (placed-handed c.args.e c.ranges.e c.on_axis.result (Some c.in-Some.index) c.in-Some.is c.on_axis.ensures) _ c.at_index.ensures

pub returns-in_default : goal.returns-in_default
returns-in_default c =
    width_off (text_of c.args.table.now c.args.count) (coded c.args.rec.now) c.args.e
    (placed-handed c.args.e c.ranges.e c.on_axis.result None c.in_default.is c.on_axis.ensures)
