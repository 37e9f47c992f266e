-- `report::stop` meets its contract. Assumes nothing.
use mathlib.Core.Path.{sym, ap, ◌∙◌}
use mathlib.Core.Bool.{Bool, cond}
use Rattle.refusal.specs.Numbers.{number_of, place_of}
use Rattle.report.specs.inner.Running.{none, stopped}
use borrow.Author.Rules.{rules}
use Rattle.report.proofs.stop.Goals as goal

pub returns-then-is_unread : goal.returns-then-is_unread
returns-then-is_unread c =
    sym (ap (λ (b : Bool). cond b none (stopped (number_of c.args.x) (place_of c.args.x))) (sym c.is_unread.ensures ∙ c.if-is_unread.true))

pub returns : goal.returns
returns c =
    sym (ap (λ (b : Bool). cond b none (stopped (number_of c.args.x) (place_of c.args.x))) (sym c.is_unread.ensures ∙ c.if-is_unread.false))
