-- The invariant: the cuts written so far, with those of what the rests of both lists share, are all cuts.
use native.Mathlib.Omega.{arith}
use Rattle.runs.proofs.laws.Place.{two_left}
use Rattle.merge.proofs.Progress.{walked_left, walked_right, pass_left, pass_right, write_left, write_right, no_room}
use Rattle.merge.proofs.walk.merge.Goals as goal

pub returns-then-j-b : goal.returns-then-j-b
returns-then-j-b c =
    walked_right c.args.a.now c.args.b.now c.args.out.now c.loop-i.out c.loop-i.n c.loop-i.i c.loop-i.j c.loop-i.invariant c.if-j-b.true

pub bounds-a-i-in-loop-i : goal.bounds-a-i-in-loop-i
bounds-a-i-in-loop-i c =
    omega (arith, two_left c.args.a.now c.loop-i.i c.loop-i.invariant.left c.loop-i-test.true)

pub bounds-b-j-in-loop-i : goal.bounds-b-j-in-loop-i
bounds-b-j-in-loop-i c =
    omega (arith, two_left c.args.b.now c.loop-i.j c.loop-i.invariant.right (omega (arith, c.loop-i.invariant.right_in, c.if-j-b.false)))

pub loop-i-preserved-then-ea-lb : goal.loop-i-preserved-then-ea-lb
loop-i-preserved-then-ea-lb c =
    pass_left c.args.a.now c.args.b.now c.args.out.now c.loop-i.out c.loop-i.n c.loop-i.i c.loop-i.j c.loop-i.invariant c.loop-i-test.true (omega (arith, c.loop-i.invariant.right_in, c.if-j-b.false)) (omega (arith, c.if-ea-lb.true))

pub loop-i-preserved-then-eb-la : goal.loop-i-preserved-then-eb-la
loop-i-preserved-then-eb-la c =
    pass_right c.args.a.now c.args.b.now c.args.out.now c.loop-i.out c.loop-i.n c.loop-i.i c.loop-i.j c.loop-i.invariant c.loop-i-test.true (omega (arith, c.loop-i.invariant.right_in, c.if-j-b.false)) (omega (arith, c.if-eb-la.true))

pub returns-then-room-n : goal.returns-then-room-n
returns-then-room-n c =
    no_room c.args.a.now c.args.b.now c.args.out.now c.loop-i.out c.loop-i.n c.loop-i.i c.loop-i.j c.loop-i.invariant c.loop-i-test.true (omega (arith, c.loop-i.invariant.right_in, c.if-j-b.false)) (omega (arith, c.if-ea-lb.false)) (omega (arith, c.if-eb-la.false)) (omega (arith, c.if-room-n.true))

pub loop-i-preserved-then-ea-eb : goal.loop-i-preserved-then-ea-eb
loop-i-preserved-then-ea-eb c =
    write_left c.args.a.now c.args.b.now c.args.out.now c.loop-i.out c.loop-i.n c.loop-i.i c.loop-i.j c.loop-i.invariant c.loop-i-test.true (omega (arith, c.loop-i.invariant.right_in, c.if-j-b.false)) _ _ c.max.ensures c.min.ensures (omega (arith, c.if-ea-lb.false)) (omega (arith, c.if-ea-eb.true)) (omega (arith, c.if-room-n.false))

pub loop-i-preserved : goal.loop-i-preserved
loop-i-preserved c =
    write_right c.args.a.now c.args.b.now c.args.out.now c.loop-i.out c.loop-i.n c.loop-i.i c.loop-i.j c.loop-i.invariant c.loop-i-test.true (omega (arith, c.loop-i.invariant.right_in, c.if-j-b.false)) _ _ c.max.ensures c.min.ensures (omega (arith, c.if-eb-la.false)) (omega (arith, c.if-ea-eb.false)) (omega (arith, c.if-room-n.false))

pub returns : goal.returns
returns c =
    walked_left c.args.a.now c.args.b.now c.args.out.now c.loop-i.out c.loop-i.n c.loop-i.i c.loop-i.j c.loop-i.invariant c.loop-i-test.false
