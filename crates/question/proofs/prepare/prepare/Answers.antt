-- Each answer is the first refusal that meets, or the table of the text.
use Rattle.question.proofs.laws.Prepare.{prepare_empty, prepare_refused, prepare_asked}
use borrow.Author.Rules.{rules}
use Rattle.std.proofs.lemmas.Result.{err_from_is_err_and}
use Rattle.question.proofs.prepare.prepare.Goals as goal

pub returns-in_err-records : goal.returns-in_err-records
returns-in_err-records c =
    let p = err_from_is_err_and c.from_residual.result c.from_residual.ensures.1 in
    rw (p.1, p.2) (prepare_refused c.args.rec.now c.args.text.now _ _ _ c.check.ensures c.in_err-records.was)

pub returns-then-records-eq0 : goal.returns-then-records-eq0
returns-then-records-eq0 c =
    prepare_empty c.args.rec.now c.args.text.now _ _ _ c.check.ensures c.in_ok-records.was c.if-records-eq0.true

pub returns : goal.returns
returns c =
    prepare_asked c.args.rec.now c.args.text.now _ _ _ c.check.ensures c.in_ok-records.was c.if-records-eq0.false _ c.read.ensures
