-- The first of two heads, or of the one list that goes on.
use Prim.Native.Nat.{◌<◌}
use mathlib.Core.Logic.{inl, inr}
use native.Mathlib.Omega.{arith}
use lib.ListN.{length}
use Rattle.join.proofs.laws.Join.{whole_runs, next_left, next_right}
use Rattle.runs.proofs.laws.Place.{two_left}
use Rattle.join.proofs.next.Goals as goal

pub bounds-b-j : goal.bounds-b-j
bounds-b-j c = let s = c in omega (arith, s.requires.0.place, s.requires.1.place, s.requires.2, s.requires.3, s.requires.4, c.if-i-a.true)

pub bounds-b-j-then-i-a : goal.bounds-b-j-then-i-a
bounds-b-j-then-i-a c =
    let p : c.args.j < length c.args.b.now = omega (arith, c.requires.0.place, c.requires.1.place, c.requires.2, c.if-i-a.true) in
    omega (arith, two_left c.args.b.now c.args.j (whole_runs c.requires.1) p)

pub returns-then-i-a : goal.returns-then-i-a
returns-then-i-a c =
    let p : c.args.j < length c.args.b.now = omega (arith, c.requires.0.place, c.requires.1.place, c.requires.2, c.if-i-a.true) in
    next_right c.args.a.now c.args.i c.args.b.now c.args.j c.requires.0 c.requires.1 p (inl c.if-i-a.true)

pub bounds-a-i : goal.bounds-a-i
bounds-a-i c = let s = c in omega (arith, s.requires.0.place, s.requires.1.place, s.requires.2, s.requires.3, s.requires.4, c.if-j-b.true, c.if-i-a.false)

pub bounds-a-i-then-j-b : goal.bounds-a-i-then-j-b
bounds-a-i-then-j-b c =
    let o : c.args.i < length c.args.a.now = omega (arith, c.requires.0.place, c.if-i-a.false) in
    omega (arith, two_left c.args.a.now c.args.i (whole_runs c.requires.0) o)

pub returns-then-j-b : goal.returns-then-j-b
returns-then-j-b c =
    let o : c.args.i < length c.args.a.now = omega (arith, c.requires.0.place, c.if-i-a.false) in
    next_left c.args.a.now c.args.i c.args.b.now c.args.j c.requires.0 c.requires.1 o (inl c.if-j-b.true)

pub bounds-a-i-2 : goal.bounds-a-i-2
bounds-a-i-2 c = let s = c in omega (arith, s.requires.0.place, s.requires.1.place, s.requires.2, s.requires.3, s.requires.4, c.if-i-a.false)

pub bounds-b-j-2 : goal.bounds-b-j-2
bounds-b-j-2 c = let s = c in omega (arith, s.requires.0.place, s.requires.1.place, s.requires.2, s.requires.3, s.requires.4, c.if-j-b.false)

pub bounds-a-i-then-a-i : goal.bounds-a-i-then-a-i
bounds-a-i-then-a-i c = let s = c in omega (arith, s.requires.0.place, s.requires.1.place, s.requires.2, s.requires.3, s.requires.4, c.if-i-a.false)

pub bounds-a-i-then-a-i-2 : goal.bounds-a-i-then-a-i-2
bounds-a-i-then-a-i-2 c =
    let o : c.args.i < length c.args.a.now = omega (arith, c.requires.0.place, c.if-i-a.false) in
    omega (arith, two_left c.args.a.now c.args.i (whole_runs c.requires.0) o)

pub returns-then-a-i : goal.returns-then-a-i
returns-then-a-i c =
    let o : c.args.i < length c.args.a.now = omega (arith, c.requires.0.place, c.if-i-a.false) in
    let p : c.args.j < length c.args.b.now = omega (arith, c.requires.1.place, c.if-j-b.false) in
    next_left c.args.a.now c.args.i c.args.b.now c.args.j c.requires.0 c.requires.1 o (inr (p, omega (arith, c.if-a-i.true)))

pub bounds-b-j-3 : goal.bounds-b-j-3
bounds-b-j-3 c = let s = c in omega (arith, s.requires.0.place, s.requires.1.place, s.requires.2, s.requires.3, s.requires.4, c.if-j-b.false)

pub bounds-b-j-4 : goal.bounds-b-j-4
bounds-b-j-4 c =
    let p : c.args.j < length c.args.b.now = omega (arith, c.requires.1.place, c.if-j-b.false) in
    omega (arith, two_left c.args.b.now c.args.j (whole_runs c.requires.1) p)

pub returns : goal.returns
returns c =
    let o : c.args.i < length c.args.a.now = omega (arith, c.requires.0.place, c.if-i-a.false) in
    let p : c.args.j < length c.args.b.now = omega (arith, c.requires.1.place, c.if-j-b.false) in
    next_right c.args.a.now c.args.i c.args.b.now c.args.j c.requires.0 c.requires.1 p (inr (o, c.if-a-i.false))
