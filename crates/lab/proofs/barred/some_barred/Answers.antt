-- `barred::some_barred` meets its contract. The invariant: no row before i is barred.
use mathlib.Core.Path.{refl, sym, ap, ◌∙◌}
use Prim.Native.Nat.{ℕ}
use native.Mathlib.Omega.{arith}
use Rattle.marks.specs.Marks.{marks_of}
use Rattle.text.proofs.laws.Table.{some_here, some_next, some_end}
use Rattle.lab.specs.inner.Barred.{row_barred}
use Rattle.lab.proofs.laws.Barred.{barred_scan}
use Rattle.lab.proofs.barred.some_barred.Goals as goal

pub loop-i-init : goal.loop-i-init
loop-i-init c = refl

pub returns-then-is_barred : goal.returns-then-is_barred
returns-then-is_barred c =
    let i : ℕ = c.loop-i.i in
    let P = row_barred (marks_of c.args.marks.now) in
    barred_scan (marks_of c.args.marks.now) c.args.table.now c.args.n _
    (sym (some_here P c.args.table.now c.args.n i c.loop-i-test.true
    (ap P (sym c.row_at.ensures) ∙ sym c.is_barred.ensures ∙ c.if-is_barred.true)))

pub loop-i-preserved : goal.loop-i-preserved
loop-i-preserved c =
    let i : ℕ = c.loop-i.i in
    let P = row_barred (marks_of c.args.marks.now) in
    some_next P c.args.table.now i (ap P (sym c.row_at.ensures) ∙ sym c.is_barred.ensures ∙ c.if-is_barred.false)
    c.loop-i.invariant

pub returns : goal.returns
returns c =
    barred_scan (marks_of c.args.marks.now) c.args.table.now c.args.n _
    (some_end (row_barred (marks_of c.args.marks.now)) c.args.table.now c.loop-i.i c.args.n (omega arith) (omega arith) c.loop-i.invariant)
