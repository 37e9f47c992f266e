-- `barred::is_barred` meets its contract, test by test.
use mathlib.Core.Path.{sym, ap, ◌∙◌}
use mathlib.Core.Bool.{not}
use borrow.Author.Rules.{rules}
use Rattle.grammar.specs.Classes.{within}
use Rattle.grammar.specs.inner.Kinds.{LOWAFTER, CAPAFTER}
use Rattle.lab.specs.inner.Barred.{row_names_b, row_barred}
use Rattle.lab.proofs.laws.Barred.{here, past, chosen, other}
use Rattle.lab.proofs.barred.is_barred.Goals as goal

pub returns-then-names_b : goal.returns-then-names_b
unfolding row_barred
returns-then-names_b c = here (row_names_b c.args.row.kind c.args.row.first) _ (sym c.names_b.ensures ∙ c.if-names_b.true)

pub returns-then-between : goal.returns-then-between
unfolding row_barred
returns-then-between c =
    past (row_names_b c.args.row.kind c.args.row.first) _ (sym c.names_b.ensures ∙ c.if-names_b.false)
    (chosen (within LOWAFTER CAPAFTER c.args.row.kind) _ _ (sym c.between.ensures ∙ c.if-between.true) (ap not c.has_index.ensures))

pub returns : goal.returns
unfolding row_barred
returns c =
    past (row_names_b c.args.row.kind c.args.row.first) _ (sym c.names_b.ensures ∙ c.if-names_b.false)
    (other (within LOWAFTER CAPAFTER c.args.row.kind) _ _ (sym c.between.ensures ∙ c.if-between.false) c.is_temporal.ensures)
