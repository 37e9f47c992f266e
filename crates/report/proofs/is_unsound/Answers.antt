-- `report::is_unsound` meets its contract. Assumes nothing.
use mathlib.Core.Path.{sym, ◌∙◌}
use lib.Dec.{leb}
use borrow.Author.Tests.{le-leb, lt-leb}
use Rattle.number.specs.Axis.{axis}
use Rattle.number.proofs.laws.Boolean.{or_left, or_pass}
use Rattle.report.specs.inner.Running.{faulty}
use borrow.Author.Rules.{rules}
use Rattle.report.proofs.is_unsound.Goals as goal

pub returns-then-index-ge-AXIS : goal.returns-then-index-ge-AXIS
returns-then-index-ge-AXIS c =
    sym (or_left (leb axis c.args.index) (faulty c.args.r) (le-leb axis c.args.index c.if-index-ge-AXIS.true))

pub returns : goal.returns
returns c =
    c.is_faulty.ensures ∙ sym (or_pass (leb axis c.args.index) (faulty c.args.r) (lt-leb axis c.args.index c.if-index-ge-AXIS.false))
