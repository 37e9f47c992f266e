-- `lab::prepare` meets its contract: refused by 1 to 7, or by 11 and 14.
use native.Mathlib.Omega.{arith}
use Rattle.std.proofs.lemmas.Result.{err_from_is_err_and}
use Rattle.question.proofs.laws.Call.{prepared_ready}
use Rattle.lab.proofs.laws.Call.{prepare_refused, prepare_asked}
use Rattle.lab.proofs.prepare.Goals as goal

pub allowed-requires : goal.allowed-requires
allowed-requires c =
    (prepared_ready c.args.rec.now c.args.text.now _ _ _ c.prepare.ensures c.in_ok-count.was (omega arith)).rows

pub returns-in_err-count : goal.returns-in_err-count
returns-in_err-count c =
    let p = err_from_is_err_and c.from_residual.result c.from_residual.ensures.1 in
    rw (p.1, p.2) (prepare_refused c.args.rec.now c.args.marks.now c.args.text.now _ _ c.prepare.ensures _ c.in_err-count.was)

pub returns : goal.returns
returns c =
    prepare_asked c.args.rec.now c.args.marks.now c.args.text.now _ _ c.prepare.ensures _ c.in_ok-count.was _
    c.allowed.ensures
