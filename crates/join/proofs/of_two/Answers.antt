-- The run that begins first, and the other: they meet, or both are stored.
use native.Mathlib.Omega.{arith}
use Rattle.join.proofs.laws.Join.{rest-any, joining_start, joining_meet, joining_apart}
use Rattle.join.proofs.laws.Remainder.{joins_last}
use Rattle.join.proofs.of_two.Goals as goal

pub next-r-requires : goal.next-r-requires
next-r-requires c =
    (rest-any _ c.args.a.now _ c.next-run.ensures.left, rest-any _ c.args.b.now _ c.next-run.ensures.right, omega (arith, c.requires.2, c.requires.3, c.next-run.ensures.step), omega (arith, c.requires.2), omega (arith, c.requires.3))

pub returns-then-r-run : goal.returns-then-r-run
returns-then-r-run c =
    let w = joining_start c.args.a.now c.args.b.now c.args.set.now c.requires.4 _ c.next-run.ensures in
    joins_last c.args.a.now c.args.b.now c.args.set.now 0 _ (joining_meet c.args.a.now c.args.b.now c.args.set.now 0 _ w _ c.next-r.ensures c.if-r-run.true _ c.greater.ensures) (omega (arith, c.requires.2, c.requires.3, c.next-r.ensures.step, c.next-run.ensures.step, c.next-r.ensures.left.place, c.next-r.ensures.right.place)) (omega (arith, c.requires.2, c.requires.3, c.next-r.ensures.step, c.next-run.ensures.step, c.next-r.ensures.left.place, c.next-r.ensures.right.place)) (omega arith) _ c.store.ensures.0 _ c.store.ensures.1

pub returns : goal.returns
returns c =
    let w = joining_start c.args.a.now c.args.b.now c.args.set.now c.requires.4 _ c.next-run.ensures in
    let o = joining_apart c.args.a.now c.args.b.now c.args.set.now 0 _ w _ c.next-r.ensures c.if-r-run.false (λ z. omega arith) _ c.close.ensures.0 in
    joins_last c.args.a.now c.args.b.now _ 1 _ o (omega (arith, c.requires.2, c.requires.3, c.next-r.ensures.step, c.next-run.ensures.step, c.next-r.ensures.left.place, c.next-r.ensures.right.place)) (omega (arith, c.requires.2, c.requires.3, c.next-r.ensures.step, c.next-run.ensures.step, c.next-r.ensures.left.place, c.next-r.ensures.right.place)) (omega arith) _ c.close-2.ensures.0 _ (omega (arith, c.close.ensures.1, c.close-2.ensures.1))
