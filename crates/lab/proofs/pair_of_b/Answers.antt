-- `lab::pair_of_b` meets its contract: the lines one by one, the last of which always meets.
use Rattle.std.specs.Prelude.{Some, None}
use Rattle.std.proofs.lemmas.Result.{err_from_is_err_and}
use Rattle.targets.proofs.laws.Target.{placed-handed}
use Rattle.lab.proofs.laws.Pair.{recording_refused, none_there, target_off, always_b}
use Rattle.lab.proofs.pair_of_b.Goals as goal

pub returns-in_err-n : goal.returns-in_err-n
returns-in_err-n c =
    let p = err_from_is_err_and c.from_residual.result c.from_residual.ensures.1 in
    rw (p.1, p.2) (recording_refused c.args.rec.now c.args.target _ _ c.check.ensures c.in_err-n.was)

pub returns-then-n-eq0 : goal.returns-then-n-eq0
returns-then-n-eq0 c =
    none_there c.args.rec.now c.args.target _ _ c.check.ensures c.in_ok-n.was c.if-n-eq0.true

pub returns-in_default : goal.returns-in_default
returns-in_default c =
    target_off c.args.rec.now c.args.target _ _ c.check.ensures c.in_ok-n.was c.if-n-eq0.false
    (placed-handed c.args.target c.ranges.target c.on_axis.result None c.in_default.is c.on_axis.ensures)

pub returns : goal.returns
returns c =
    always_b c.args.rec.now c.args.target _ _ c.check.ensures c.in_ok-n.was c.if-n-eq0.false c.in-Some.field-0
    (placed-handed c.args.target c.ranges.target c.on_axis.result (Some c.in-Some.field-0) c.in-Some.is c.on_axis.ensures)
