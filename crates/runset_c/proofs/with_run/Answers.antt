-- The set or one run, where the run ends on the axis.
use Rattle.std.proofs.Common.{refl}
use Rattle.runset_c.proofs.Loading.{extended_over, extended_copy, off-axis}
use Rattle.runset_c.proofs.with_run.Goals as goal

pub returns-then-high-ge-AXIS : goal.returns-then-high-ge-AXIS
returns-then-high-ge-AXIS c = let g = c.args in off-axis g.set.now _ g.low g.high c.if-high-ge-AXIS.true

pub returns-in_err-or : goal.returns-in_err-or
returns-in_err-or c = let g = c.args in rw c.from_residual.ensures.0 (extended_over g.set.now _ _ _ g.low g.high c.if-high-ge-AXIS.false c.span.ensures c.in_err-or.ensures)

pub copy-requires : goal.copy-requires
copy-requires c = let s = c in ((c.in_ok-or.ensures.holds refl).valid, s.requires.size)

pub returns : goal.returns
returns c = let g = c.args in extended_copy g.set.now _ _ _ g.low g.high c.if-high-ge-AXIS.false c.span.ensures c.in_ok-or.ensures c.copy.ensures
