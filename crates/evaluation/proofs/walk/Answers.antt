-- Record by record from the last to the first, the two tables by turns.
use Prim.Native.Nat.{ℕ}
use mathlib.Core.Path.{◌≡◌, refl, sym, subst, ◌∙◌}
use native.Mathlib.Omega.{arith}
use Rattle.runs.specs.Set.{Valid}
use Rattle.parser.proofs.laws.Rows.{laid_above}
use Rattle.leaves.proofs.laws.Coding.{length-coded}
use Rattle.evaluation.proofs.laws.Walk.{Walked, walk_start, into_a, into_b, walked_a, walked_b, over_a, over_b, valid_a, valid_b, done_a, done_b, holds_same}
use Rattle.evaluation.proofs.walk.Goals as goal

pub overflow_sub-root : goal.overflow_sub-root
overflow_sub-root c =
    omega (arith, laid_above c.requires.0.laid)

pub loop-i-init : goal.loop-i-init
loop-i-init c =
    (walk_start c.args.table.now c.args.count c.args.rec.now c.requires.0 _ _ _ (sym (length-coded c.args.rec.now)) refl refl, refl)

pub eval-requires : goal.eval-requires
eval-requires c =
    (into_b c.args.table.now c.args.count c.args.rec.now c.requires.0 c.loop-i.i c.loop-i.a c.loop-i.b c.loop-i.flip c.loop-i.invariant.0 c.loop-i-test.true c.if-flip.true, c.loop-i.invariant.1, c.requires.3)

pub returns-in_err-eval : goal.returns-in_err-eval
returns-in_err-eval c =
    over_b c.args.table.now c.args.count c.args.rec.now c.requires.0 c.loop-i.i c.loop-i.a c.loop-i.b c.loop-i.flip c.loop-i.invariant.0 c.loop-i-test.true _ _ _ c.requires.1 _ c.if-flip.true c.in_err-eval.ensures.0 refl _ c.from_residual.ensures.0

pub loop-i-preserved-then-flip : goal.loop-i-preserved-then-flip
loop-i-preserved-then-flip c =
    (walked_b c.args.table.now c.args.count c.args.rec.now c.requires.0 c.loop-i.i c.loop-i.a c.loop-i.b c.loop-i.flip c.loop-i.invariant.0 c.loop-i-test.true _ _ _ c.if-flip.true c.in_ok-eval.ensures.0 (c.in_ok-eval.ensures.2 ∙ sym c.loop-i.invariant.0.size_a) (c.in_ok-eval.ensures.1 ∙ sym c.loop-i.invariant.0.size_b) refl, c.in_ok-eval.ensures.3)

pub eval-requires-else-flip : goal.eval-requires-else-flip
eval-requires-else-flip c =
    (into_a c.args.table.now c.args.count c.args.rec.now c.requires.0 c.loop-i.i c.loop-i.a c.loop-i.b c.loop-i.flip c.loop-i.invariant.0 c.loop-i-test.true c.if-flip.false, c.loop-i.invariant.1, c.requires.3)

pub returns-in_err-eval-2 : goal.returns-in_err-eval-2
returns-in_err-eval-2 c =
    over_a c.args.table.now c.args.count c.args.rec.now c.requires.0 c.loop-i.i c.loop-i.a c.loop-i.b c.loop-i.flip c.loop-i.invariant.0 c.loop-i-test.true _ _ _ c.requires.1 _ c.if-flip.false c.in_err-eval-2.ensures.0 refl _ c.from_residual-in_err-eval-2.ensures.0

pub loop-i-preserved : goal.loop-i-preserved
loop-i-preserved c =
    (walked_a c.args.table.now c.args.count c.args.rec.now c.requires.0 c.loop-i.i c.loop-i.a c.loop-i.b c.loop-i.flip c.loop-i.invariant.0 c.loop-i-test.true _ _ _ c.if-flip.false c.in_ok-eval-2.ensures.0 (c.in_ok-eval-2.ensures.1 ∙ sym c.loop-i.invariant.0.size_a) (c.in_ok-eval-2.ensures.2 ∙ sym c.loop-i.invariant.0.size_b) refl, c.in_ok-eval-2.ensures.3)

pub set_in-requires : goal.set_in-requires
set_in-requires c =
    (c.loop-i.invariant.0.size_a, omega (arith, laid_above c.requires.0.laid, c.requires.0.few))

pub copy-requires : goal.copy-requires
copy-requires c =
    let e : c.loop-i.i ≡ 0 = omega (arith, c.loop-i-test.false) in let w = subst (λ (i : ℕ). Walked c.args.table.now c.args.count c.args.rec.now i c.loop-i.a c.loop-i.b c.loop-i.flip) e c.loop-i.invariant.0 in (subst Valid (sym c.set_in.ensures) (valid_a c.args.table.now c.args.count c.args.rec.now c.requires.0 c.loop-i.a c.loop-i.b c.loop-i.flip w c.if-flip-2.true), c.requires.2)

pub returns-then-flip-2 : goal.returns-then-flip-2
returns-then-flip-2 c =
    let e : c.loop-i.i ≡ 0 = omega (arith, c.loop-i-test.false) in let w = subst (λ (i : ℕ). Walked c.args.table.now c.args.count c.args.rec.now i c.loop-i.a c.loop-i.b c.loop-i.flip) e c.loop-i.invariant.0 in done_a c.args.table.now c.args.count c.args.rec.now c.requires.0 c.loop-i.a c.loop-i.b c.loop-i.flip w c.requires.1 _ c.if-flip-2.true (holds_same _ c.set_in.ensures c.copy.ensures)

pub set_in-requires-2 : goal.set_in-requires-2
set_in-requires-2 c =
    (c.loop-i.invariant.0.size_b, omega (arith, laid_above c.requires.0.laid, c.requires.0.few))

pub copy-requires-2 : goal.copy-requires-2
copy-requires-2 c =
    let e : c.loop-i.i ≡ 0 = omega (arith, c.loop-i-test.false) in let w = subst (λ (i : ℕ). Walked c.args.table.now c.args.count c.args.rec.now i c.loop-i.a c.loop-i.b c.loop-i.flip) e c.loop-i.invariant.0 in (subst Valid (sym c.set_in-2.ensures) (valid_b c.args.table.now c.args.count c.args.rec.now c.requires.0 c.loop-i.a c.loop-i.b c.loop-i.flip w c.if-flip-2.false), c.requires.2)

pub returns : goal.returns
returns c =
    let e : c.loop-i.i ≡ 0 = omega (arith, c.loop-i-test.false) in let w = subst (λ (i : ℕ). Walked c.args.table.now c.args.count c.args.rec.now i c.loop-i.a c.loop-i.b c.loop-i.flip) e c.loop-i.invariant.0 in done_b c.args.table.now c.args.count c.args.rec.now c.requires.0 c.loop-i.a c.loop-i.b c.loop-i.flip w c.requires.1 _ c.if-flip-2.false (holds_same _ c.set_in-2.ensures c.copy-2.ensures)
