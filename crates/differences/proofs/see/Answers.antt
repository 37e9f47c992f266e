-- `see` meets its contract. The invariant: the differences before place j are seen.
use Prim.Native.Nat.{ℕ, ◌+◌}
use native.Mathlib.Omega.{arith}
use mathlib.Core.Path.{◌≡◌, subst}
use lib.ListN.{length}
use Rattle.differences.specs.inner.Sweep.{window_size}
use Rattle.differences.proofs.RowLaws.{parts-end, parts_here, Seeing, seeing_start, seeing_more, seeing_end}
use Rattle.differences.proofs.see.Goals as goal

pub loop-j-init : goal.loop-j-init
loop-j-init c =
    seeing_start c.args.b.now c.args.s c.args.x c.args.start c.args.w.now c.requires.3 c.requires.2

pub difference-requires : goal.difference-requires
difference-requires c =
    (c.requires.0, (c.requires.1.least c.loop-j.j c.loop-j-test.true, c.requires.1.most c.loop-j.j c.loop-j-test.true))

pub place-t-requires : goal.place-t-requires
place-t-requires c =
    omega (arith, c.difference.ensures, c.requires.2.over c.loop-j.j (omega arith) c.loop-j-test.true)

pub returns-then-t-ge-WINDOW : goal.returns-then-t-ge-WINDOW
returns-then-t-ge-WINDOW c =
    let p = parts_here c.args.b.now c.requires.1 c.args.s (c.args.x + window_size) c.loop-j.j c.loop-j.invariant.under c.loop-j-test.true
    c.difference.result c.difference.ensures (omega (arith, c.place-t.ensures, c.if-t-ge-WINDOW.true)) in
    (p, seeing_end c.args.b.now c.args.s c.args.x c.loop-j.j c.args.w.now c.loop-j.w c.loop-j.invariant p)

pub bounds-w-t : goal.bounds-w-t
bounds-w-t c = omega (arith, c.loop-j.invariant.long, c.if-t-ge-WINDOW.false)

pub loop-j-preserved : goal.loop-j-preserved
loop-j-preserved c =
    rw c.place-t.ensures (seeing_more c.args.b.now c.args.s c.args.x c.loop-j.j c.args.w.now c.loop-j.w c.loop-j.invariant
    c.loop-j-test.true c.difference.result c.difference.ensures (omega (arith, c.difference.ensures, c.requires.2.over c.loop-j.j (omega arith) c.loop-j-test.true))
    (omega (arith, c.place-t.ensures, c.if-t-ge-WINDOW.false)) c.requires.1)

pub returns : goal.returns
returns c =
    let e : c.loop-j.j ≡ length c.args.b.now = omega (arith, c.loop-j-test.false, c.requires.2.within) in
    let m = subst (λ (j : ℕ). Seeing c.args.b.now c.args.s c.args.x j c.args.w.now c.loop-j.w) e c.loop-j.invariant in
    let p = parts-end c.args.b.now c.requires.1 c.args.s (c.args.x + window_size) (length c.args.b.now) m.under (omega arith) (omega arith) in
    (p, seeing_end c.args.b.now c.args.s c.args.x (length c.args.b.now) c.args.w.now c.loop-j.w m p)
