-- `barred::is_temporal` meets its contract, test by test.
use mathlib.Core.Path.{sym, ◌∙◌}
use borrow.Author.Rules.{rules}
use Rattle.grammar.specs.Classes.{within}
use Rattle.grammar.specs.inner.Kinds.{NEXT, GLOBALLY}
use Rattle.lab.proofs.laws.Barred.{here, past}
use Rattle.lab.proofs.barred.is_temporal.Goals as goal

pub returns-then-between : goal.returns-then-between
returns-then-between c = here (within NEXT GLOBALLY c.args.kind) _ (sym c.between.ensures ∙ c.if-between.true)

pub returns : goal.returns
returns c =
    past (within NEXT GLOBALLY c.args.kind) _ (sym c.between.ensures ∙ c.if-between.false) c.between-2.ensures
