-- The add call of crate `report_state`, by the page.
use borrow.Author.Rules.{rules}
use Rattle.promises.proofs.laws.Carried.{report_add}
use Rattle.mill.proofs.mill_report_add.Goals as goal

pub returns : goal.returns
returns c = report_add _ _ _ _ _ _ _ _ _ _ _ _ c.add.ensures
