-- The invariant: the brackets before i are counted, and at no byte before i too many are open.
use native.Mathlib.Omega.{arith}
use mathlib.Core.Path.{◌∙◌}
use lib.Dec.{eqb}
use lib.ListN.{get_or}
use Rattle.number.proofs.laws.Order.{one_at_most}
use Rattle.text.proofs.BracketLaws.{one_if, deep, not_deep, never_deep}
use Rattle.text.proofs.brackets.too_deep.Goals as goal

pub overflow_add-opened : goal.overflow_add-opened
overflow_add-opened c =
    let f = c.loop-b.invariant.few in
    let e = c.from-opened.ensures ∙ one_if (eqb (get_or c.args.text.now c.loop-b.b-index 0) 40) in
    record { fits = omega (arith, one_at_most (eqb (get_or c.args.text.now c.loop-b.b-index 0) 40)) }

pub overflow_add-closed : goal.overflow_add-closed
overflow_add-closed c =
    let f = c.loop-b.invariant.few in
    let e = c.from-closed.ensures ∙ one_if (eqb (get_or c.args.text.now c.loop-b.b-index 0) 41) in
    record { fits = omega (arith, one_at_most (eqb (get_or c.args.text.now c.loop-b.b-index 0) 41)) }

pub returns-then-closed-opened : goal.returns-then-closed-opened
returns-then-closed-opened c =
    deep c.args.text.now c.loop-b.opened c.loop-b.closed c.loop-b.b-index c.from-opened.result c.from-closed.result c.loop-b.invariant c.loop-b-test.true
    (c.from-opened.ensures ∙ one_if _) (c.from-closed.ensures ∙ one_if _) c.if-closed-opened.true

pub loop-b-preserved : goal.loop-b-preserved
loop-b-preserved c =
    not_deep c.args.text.now c.loop-b.opened c.loop-b.closed c.loop-b.b-index c.from-opened.result c.from-closed.result c.loop-b.invariant c.loop-b-test.true
    (c.from-opened.ensures ∙ one_if _) (c.from-closed.ensures ∙ one_if _) c.if-closed-opened.false

pub returns : goal.returns
returns c = never_deep c.args.text.now c.loop-b.opened c.loop-b.closed c.loop-b.b-index c.loop-b.invariant c.loop-b-test.false
