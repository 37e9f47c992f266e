-- Refused by 1 to 7, or by the text.
use native.Mathlib.Omega.{arith}
use mir.Syntax.{w64}
use mir.ValLaws.{to_z-of_z}
use Rattle.question.proofs.laws.Call.{prepared_ready}
use Rattle.degree.proofs.laws.Call.{degree_refused, degree_answered}
use Rattle.std.proofs.lemmas.Result.{err_from_is_err_and}
use Rattle.degree.proofs.degree.Goals as goal

pub near_target-requires : goal.near_target-requires
near_target-requires c =
    prepared_ready c.args.rec.now c.args.text.now _ _ _ c.prepare.ensures c.in_ok-count.was (omega (arith, c.prepare.auto.table))

pub returns-in_err-count : goal.returns-in_err-count
returns-in_err-count c =
    let p = err_from_is_err_and c.from_residual.result c.from_residual.ensures.1 in
    rw (p.1, p.2) (degree_refused c.args.rec.now c.args.text.now _ c.args.target _ c.prepare.ensures _ c.in_err-count.was)

pub returns : goal.returns
returns c =
    degree_answered c.args.rec.now c.args.text.now _ c.args.target _ c.prepare.ensures _ c.in_ok-count.was _ (to_z-of_z w64 c.args.target c.ranges.target) _ c.near_target.ensures
