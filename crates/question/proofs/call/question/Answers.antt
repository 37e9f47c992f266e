-- Refused by 1 to 7, or answered.
use native.Mathlib.Omega.{arith}
use Rattle.question.proofs.laws.Call.{question_refused, prepared_ready, question_answered}
use borrow.Author.Rules.{rules}
use Rattle.std.proofs.lemmas.Result.{err_from_is_err_and}
use Rattle.question.proofs.call.question.Goals as goal

pub prepare-requires : goal.prepare-requires
prepare-requires c = omega arith

pub answer-requires : goal.answer-requires
answer-requires c =
    prepared_ready c.args.rec.now c.args.text.now _ _ _ c.prepare.ensures c.in_ok-count.was (omega (arith, c.prepare.auto.table))

pub returns-in_err-count : goal.returns-in_err-count
returns-in_err-count c =
    let p = err_from_is_err_and c.from_residual.result c.from_residual.ensures.1 in
    rw (p.1, p.2) (question_refused c.args.rec.now c.args.text.now _ _ _ c.prepare.ensures c.in_err-count.was c.args.out.now)

pub returns : goal.returns
returns c =
    question_answered c.args.rec.now c.args.text.now _ _ _ c.prepare.ensures c.in_ok-count.was c.args.out.now _ _ c.answer.ensures
