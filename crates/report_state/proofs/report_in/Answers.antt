-- `report_state::report_in` meets its contract. Assumes nothing.
use Rattle.report_state.proofs.laws.Read.{same_report}
use borrow.Author.Rules.{rules}
use Rattle.report_state.proofs.report_in.Goals as goal

pub returns : goal.returns
returns c =
    same_report _ _ _ _ _ _ _ _ _ _ _ _ c.word_at-count.ensures c.word_at-taken.ensures c.word_at-met.ensures c.word_at-empty.ensures c.long_at-distances.ensures c.mean_in-mean.ensures
