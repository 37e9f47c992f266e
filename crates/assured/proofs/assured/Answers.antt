-- The refusal of the text, or the verdict on what was read.
use native.Mathlib.Omega.{arith}
use Rattle.std.proofs.lemmas.Result.{err_from_is_err_and}
use Rattle.assured.proofs.laws.Call.{call_refused, call_ready, call_judged}
use Rattle.assured.proofs.assured.Goals as goal

pub judge-requires : goal.judge-requires
judge-requires c =
    call_ready _ _ _ c.read.ensures _ c.in_ok-n.was (omega arith)

pub returns-in_err-n : goal.returns-in_err-n
returns-in_err-n c =
    let p = err_from_is_err_and c.from_residual.result c.from_residual.ensures.1 in
    rw (p.1, p.2) (call_refused _ _ _ c.read.ensures c.args.marks.now _ c.in_err-n.was)

pub returns : goal.returns
returns c =
    call_judged _ _ _ c.read.ensures _ c.in_ok-n.was c.args.marks.now c.judge.result c.judge.ensures
