-- `report::is_absent` meets its contract. Assumes nothing.
use mathlib.Core.Path.{sym, ◌∙◌}
use Rattle.number.proofs.laws.Boolean.{or_left, or_pass}
use Rattle.report.specs.inner.Running.{unread, unsound}
use borrow.Author.Rules.{rules}
use Rattle.report.proofs.is_absent.Goals as goal

pub returns-then-is_unsound : goal.returns-then-is_unsound
returns-then-is_unsound c =
    sym (or_left (unsound c.args.r c.args.index) (unread c.args.text.now) (sym c.is_unsound.ensures ∙ c.if-is_unsound.true))

pub returns : goal.returns
returns c =
    c.is_unread.ensures ∙ sym (or_pass (unsound c.args.r c.args.index) (unread c.args.text.now) (sym c.is_unsound.ensures ∙ c.if-is_unsound.false))
