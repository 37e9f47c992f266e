-- The cuts of what both hold, whole, and how many they are.
use mathlib.Core.Path.{sym}
use native.Mathlib.Omega.{arith}
use lib.Seq.{length-take-le}
use Rattle.merge.proofs.laws.Made.{shared-over, shared-held}
use Rattle.runs.proofs.laws.Set.{makes_failed}
use Rattle.merge.proofs.intersect.Goals as goal

pub slice_bounds-merge-end-2 : goal.slice_bounds-merge-end-2
slice_bounds-merge-end-2 c = let s = c in sym (length-take-le 512 s.args.set.now (omega (arith, s.requires.4)))

pub returns-in_err-n : goal.returns-in_err-n
returns-in_err-n c =
    let s = c in
    let w = rw c.in_err-n.ensures.ok_part at c.merge.ensures in
    makes_failed {x = c.in_err-n.field-0.0} _ c.merge.new.out _ _
    (shared-over s.args.a.now s.args.b.now s.args.set.now c.merge.new.out s.requires.0 s.requires.1 s.requires.4 w c.merge.new.out)
    c.from_residual.ensures.0

pub returns : goal.returns
returns c =
    let s = c in
    shared-held s.args.a.now s.args.b.now s.args.set.now _ s.requires.0 s.requires.1 s.requires.4 _ (rw c.in_ok-n.ensures.ok_part at c.merge.ensures)
