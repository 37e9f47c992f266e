-- By the kind of the operator.
use mathlib.Core.Path.{◌∙◌}
use borrow.Author.Rules.{rules}
use Rattle.grammar.specs.inner.Kinds.{OR, AND}
use Rattle.assured.proofs.laws.Row.{chosen, passed}
use Rattle.assured.proofs.operators.binary.Goals as goal

pub returns-then-kind-eq-OR : goal.returns-then-kind-eq-OR
returns-then-kind-eq-OR c = c.or.ensures ∙ chosen c.args.kind OR _ _ c.if-kind-eq-OR.true

pub returns-then-kind-eq-AND : goal.returns-then-kind-eq-AND
returns-then-kind-eq-AND c =
    c.and.ensures ∙ chosen c.args.kind AND _ _ c.if-kind-eq-AND.true ∙ passed c.args.kind OR _ _ c.if-kind-eq-OR.false

pub returns : goal.returns
returns c =
    c.until.ensures ∙ passed c.args.kind AND _ _ c.if-kind-eq-AND.false ∙ passed c.args.kind OR _ _ c.if-kind-eq-OR.false
