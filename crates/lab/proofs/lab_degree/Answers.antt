-- `lab::lab_degree` meets its contract: refused, or told of a text that was read.
use native.Mathlib.Omega.{arith}
use mathlib.Core.Path.{refl}
use mir.Syntax.{w64}
use mir.ValLaws.{to_z-of_z}
use Rattle.std.proofs.lemmas.Result.{err_from_is_err_and}
use Rattle.question.proofs.laws.Call.{prepared_ready}
use Rattle.lab.proofs.laws.Call.{degree_refused, plainly, degree_answered}
use Rattle.lab.proofs.lab_degree.Goals as goal

pub near_target-requires : goal.near_target-requires
near_target-requires c =
    prepared_ready c.args.rec.now c.args.text.now _ _ _ (plainly c.args.rec.now c.args.marks.now c.args.text.now _ _ c.prepare.ensures _ c.in_ok-count.was) refl
    (omega (arith, c.prepare.auto.table))

pub returns-in_err-count : goal.returns-in_err-count
returns-in_err-count c =
    let p = err_from_is_err_and c.from_residual.result c.from_residual.ensures.1 in
    rw (p.1, p.2) (degree_refused c.args.rec.now c.args.marks.now c.args.text.now _ _ c.prepare.ensures c.args.target _ c.in_err-count.was)

pub returns : goal.returns
returns c =
    degree_answered c.args.rec.now c.args.marks.now c.args.text.now _ _ c.prepare.ensures _ c.in_ok-count.was c.args.target _
    (to_z-of_z w64 c.args.target c.ranges.target) _ c.near_target.ensures
