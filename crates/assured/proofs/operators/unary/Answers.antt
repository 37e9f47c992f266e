-- By the kind of the operator.
use mathlib.Core.Path.{◌∙◌}
use borrow.Author.Rules.{rules}
use Rattle.grammar.specs.inner.Kinds.{NOT, NEXT, FINALLY}
use Rattle.assured.proofs.laws.Row.{chosen, passed}
use Rattle.assured.proofs.operators.unary.Goals as goal

pub returns-then-kind-eq-NOT : goal.returns-then-kind-eq-NOT
returns-then-kind-eq-NOT c = c.not.ensures ∙ chosen c.args.kind NOT _ _ c.if-kind-eq-NOT.true

pub returns-then-kind-eq-NEXT : goal.returns-then-kind-eq-NEXT
returns-then-kind-eq-NEXT c =
    c.next.ensures ∙ chosen c.args.kind NEXT _ _ c.if-kind-eq-NEXT.true ∙ passed c.args.kind NOT _ _ c.if-kind-eq-NOT.false

pub returns-then-kind-eq-FINALLY : goal.returns-then-kind-eq-FINALLY
returns-then-kind-eq-FINALLY c =
    c.finally.ensures ∙ chosen c.args.kind FINALLY _ _ c.if-kind-eq-FINALLY.true ∙ passed c.args.kind NEXT _ _ c.if-kind-eq-NEXT.false
    ∙ passed c.args.kind NOT _ _ c.if-kind-eq-NOT.false

pub returns : goal.returns
returns c =
    c.globally.ensures ∙ passed c.args.kind FINALLY _ _ c.if-kind-eq-FINALLY.false ∙ passed c.args.kind NEXT _ _ c.if-kind-eq-NEXT.false
    ∙ passed c.args.kind NOT _ _ c.if-kind-eq-NOT.false
