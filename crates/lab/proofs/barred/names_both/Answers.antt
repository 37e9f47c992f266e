-- `barred::names_both` meets its contract, test by test.
use mathlib.Core.Path.{refl, sym, ◌∙◌}
use lib.Dec.{eqb}
use borrow.Author.Rules.{rules}
use borrow.Author.Tests.{eq-eqb, ne_eqb}
use Rattle.grammar.specs.Classes.{within}
use Rattle.grammar.specs.inner.Kinds.{A-TO-B, CROSS, CROSSUP}
use Rattle.lab.proofs.laws.Barred.{here, past}
use Rattle.lab.proofs.barred.names_both.Goals as goal

pub returns-then-kind-eq-A_TO_B : goal.returns-then-kind-eq-A_TO_B
returns-then-kind-eq-A_TO_B c = here (eqb c.args.kind A-TO-B) _ (eq-eqb c.args.kind A-TO-B c.if-kind-eq-A_TO_B.true)

pub returns-then-between : goal.returns-then-between
returns-then-between c =
    past (eqb c.args.kind A-TO-B) _ (ne_eqb c.args.kind A-TO-B c.if-kind-eq-A_TO_B.false) (here (within CROSS CROSSUP c.args.kind) _ (sym c.between.ensures ∙ c.if-between.true))

pub returns : goal.returns
returns c =
    past (eqb c.args.kind A-TO-B) _ (ne_eqb c.args.kind A-TO-B c.if-kind-eq-A_TO_B.false) (past (within CROSS CROSSUP c.args.kind) _ (sym c.between.ensures ∙ c.if-between.false) refl)
