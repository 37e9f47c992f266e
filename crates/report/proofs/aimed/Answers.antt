-- `report::aimed` meets its contract: refused by 12, or by 10. Assumes nothing.
use Rattle.std.specs.Prelude.{Some, None}
use Rattle.targets.proofs.laws.Target.{placed-handed}
use Rattle.report.proofs.laws.Naming.{target_off, target_short, target_on}
use borrow.Author.Rules.{rules}
use Rattle.report.proofs.aimed.Goals as goal

pub returns-in_default : goal.returns-in_default
returns-in_default c =
    target_off c.args.target c.args.room (placed-handed c.args.target c.ranges.target c.on_axis.result None c.in_default.is c.on_axis.ensures)

pub returns-then-room-lt-REPORT_BYTES : goal.returns-then-room-lt-REPORT_BYTES
returns-then-room-lt-REPORT_BYTES c =
    target_short c.args.target c.args.room c.in-Some.index (placed-handed c.args.target c.ranges.target c.on_axis.result (Some c.in-Some.index) c.in-Some.is c.on_axis.ensures) c.if-room-lt-REPORT_BYTES.true

pub returns : goal.returns
returns c =
    target_on c.args.target c.args.room c.in-Some.index (placed-handed c.args.target c.ranges.target c.on_axis.result (Some c.in-Some.index) c.in-Some.is c.on_axis.ensures) c.if-room-lt-REPORT_BYTES.false
