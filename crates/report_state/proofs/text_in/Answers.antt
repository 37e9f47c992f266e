-- `report_state::text_in` meets its contract. Assumes nothing.
use Rattle.report_state.proofs.laws.Read.{text-part}
use borrow.Author.Rules.{rules}
use Rattle.report_state.proofs.text_in.Goals as goal

pub returns : goal.returns
returns c =
    text-part c.args.buffer.now _ c.word_at-size.ensures
