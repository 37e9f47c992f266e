-- `barred::has_curve` meets its contract, test by test.
use mathlib.Core.Path.{sym, ◌∙◌}
use borrow.Author.Rules.{rules}
use Rattle.grammar.specs.Classes.{within}
use Rattle.grammar.specs.inner.Kinds.{FALL, RISE, HIGH, DIPS}
use Rattle.lab.proofs.laws.Barred.{here, past}
use Rattle.lab.proofs.barred.has_curve.Goals as goal

pub returns-then-between : goal.returns-then-between
returns-then-between c = here (within FALL RISE c.args.kind) _ (sym c.between.ensures ∙ c.if-between.true)

pub returns-then-between-2 : goal.returns-then-between-2
returns-then-between-2 c =
    past (within FALL RISE c.args.kind) _ (sym c.between.ensures ∙ c.if-between.false)
    (here (within HIGH DIPS c.args.kind) _ (sym c.between-2.ensures ∙ c.if-between-2.true))

pub returns : goal.returns
returns c =
    past (within FALL RISE c.args.kind) _ (sym c.between.ensures ∙ c.if-between.false)
    (past (within HIGH DIPS c.args.kind) _ (sym c.between-2.ensures ∙ c.if-between-2.false) c.between-3.ensures)
