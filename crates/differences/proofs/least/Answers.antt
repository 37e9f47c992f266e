-- `least` meets its contract. The invariant: all pairs in a row before i or a column before j are weighed.
use native.Mathlib.Omega.{arith}
use native.Mathlib.Numerals.{add-one}
use mathlib.Core.Logic.{inl, inr}
use Rattle.differences.proofs.WalkLaws.{passed_start, passed_column, passed_row, passed_end}
use Rattle.differences.proofs.least.Goals as goal

pub loop-i-init : goal.loop-i-init
loop-i-init c =
    (omega arith, omega arith, passed_start c.args.a.now c.args.b.now c.args.x c.requires.2)

pub returns-then-b-j : goal.returns-then-b-j
returns-then-b-j c =
    passed_end c.args.a.now c.args.b.now c.args.x c.loop-i.i c.loop-i.j c.loop-i.best c.loop-i.invariant.2 (inr c.if-b-j.true)

pub difference-d-requires : goal.difference-d-requires
difference-d-requires c =
    ((c.requires.0.least c.loop-i.i c.loop-i-test.true, c.requires.0.most c.loop-i.i c.loop-i-test.true), (c.requires.1.least c.loop-i.j c.if-b-j.false, c.requires.1.most c.loop-i.j c.if-b-j.false))

pub loop-i-preserved-then-d-x : goal.loop-i-preserved-then-d-x
loop-i-preserved-then-d-x c = (
  omega arith,
  omega arith,
  rw add-one (passed_column c.args.a.now c.args.b.now c.requires.0 c.args.x c.loop-i.i c.loop-i.j c.loop-i.best
      c.difference-d.result c.loop-i.invariant.2 c.loop-i-test.true c.difference-d.ensures c.if-d-x.true),
)

pub loop-i-preserved : goal.loop-i-preserved
loop-i-preserved c = (
  omega arith,
  omega arith,
  rw (add-one, c.min-best.ensures) (passed_row c.args.a.now c.args.b.now c.requires.0 c.requires.1 c.args.x c.loop-i.i c.loop-i.j c.loop-i.best
      c.difference-d.result c.loop-i.invariant.2 c.loop-i-test.true c.if-b-j.false
      c.difference-d.ensures c.if-d-x.false),
)

pub returns : goal.returns
returns c =
    passed_end c.args.a.now c.args.b.now c.args.x c.loop-i.i c.loop-i.j c.loop-i.best c.loop-i.invariant.2 (inl c.loop-i-test.false)
