-- `report_state::begin` meets its contract. Assumes nothing.
use native.Mathlib.Omega.{arith}
use mathlib.Core.Path.{ap, ◌∙◌}
use Rattle.report_state.specs.State.{figure_words}
use Rattle.report_state.proofs.laws.Start.{begun, begin_numbers}
use borrow.Author.Rules.{rules}
use Rattle.report_state.proofs.begin.Goals as goal

pub words_of-requires : goal.words_of-requires
words_of-requires c =
    begin_numbers _ _ c.begin-r.ensures

pub overflow_cast-text : goal.overflow_cast-text
overflow_cast-text c =
    omega (arith, c.requires.1)

pub returns : goal.returns
returns c =
    begun c.args.count c.args.index c.args.text.now c.args.buffer.now _ _ _ _ _ (c.words_of.ensures ∙ ap figure_words c.begin-r.ensures) c.put_words.ensures c.put_word.ensures c.put_word-2.ensures c.put_text.ensures
