-- `barred::names_b` meets its contract, test by test.
use mathlib.Core.Path.{refl, sym, ap, ◌∙◌}
use mathlib.Core.Bool.{Bool, ◌&&◌}
use lib.Dec.{leb, ltb}
use borrow.Author.Rules.{rules}
use borrow.Author.Tests.{le-leb, lt-leb}
use Rattle.grammar.specs.inner.Kinds.{COMPARE}
use Rattle.lab.specs.inner.Barred.{names_both, row_names_b}
use Rattle.lab.proofs.laws.Barred.{here, past, chosen, other}
use Rattle.lab.proofs.barred.names_b.Goals as goal

pub returns-then-names_both : goal.returns-then-names_both
unfolding row_names_b
returns-then-names_both c = here (names_both c.args.kind) _ (sym c.names_both.ensures ∙ c.if-names_both.true)

pub returns-then-kind-le-COMPARE : goal.returns-then-kind-le-COMPARE
unfolding row_names_b
returns-then-kind-le-COMPARE c =
    past (names_both c.args.kind) _ (sym c.names_both.ensures ∙ c.if-names_both.false) (chosen (leb c.args.kind COMPARE) _ _ (le-leb c.args.kind COMPARE c.if-kind-le-COMPARE.true) refl)

pub returns-then-has_curve : goal.returns-then-has_curve
unfolding row_names_b
returns-then-has_curve c =
    past (names_both c.args.kind) _ (sym c.names_both.ensures ∙ c.if-names_both.false)
    (other (leb c.args.kind COMPARE) _ _ (lt-leb c.args.kind COMPARE c.if-kind-le-COMPARE.false)
    (sym (ap (λ (b : Bool). b && ltb 0 c.args.first) (sym c.has_curve.ensures ∙ c.if-has_curve.true))))

pub returns : goal.returns
unfolding row_names_b
returns c =
    past (names_both c.args.kind) _ (sym c.names_both.ensures ∙ c.if-names_both.false)
    (other (leb c.args.kind COMPARE) _ _ (lt-leb c.args.kind COMPARE c.if-kind-le-COMPARE.false)
    (sym (ap (λ (b : Bool). b && ltb 0 c.args.first) (sym c.has_curve.ensures ∙ c.if-has_curve.false))))
