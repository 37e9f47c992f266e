-- Refused by 1 to 7, or by the text.
use native.Mathlib.Omega.{arith}
use Rattle.question.proofs.laws.Call.{prepared_ready}
use Rattle.degree.proofs.laws.Call.{at_refused, at_answered}
use Rattle.std.proofs.lemmas.Result.{err_from_is_err_and}
use Rattle.degree.proofs.distance_at.Goals as goal

pub near_text-requires : goal.near_text-requires
near_text-requires c =
    (prepared_ready c.args.rec.now c.args.text.now _ _ _ c.prepare.ensures c.in_ok-count.was (omega (arith, c.prepare.auto.table)), c.requires)

pub returns-in_err-count : goal.returns-in_err-count
returns-in_err-count c =
    let p = err_from_is_err_and c.from_residual.result c.from_residual.ensures.1 in
    rw (p.1, p.2) (at_refused c.args.rec.now c.args.text.now _ c.args.index _ c.prepare.ensures _ c.in_err-count.was)

pub returns : goal.returns
returns c =
    at_answered c.args.rec.now c.args.text.now _ c.args.index _ c.prepare.ensures _ c.in_ok-count.was _ c.near_text.ensures
