-- `report_state::words_of` meets its contract. Assumes nothing.
use borrow.Author.Rules.{rules}
use Rattle.report_state.proofs.words_of.Goals as goal

pub returns : goal.returns
returns c =
    cc
