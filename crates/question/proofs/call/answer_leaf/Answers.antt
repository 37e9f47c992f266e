-- Refused by 9 or 8, or the set is written.
use Rattle.std.proofs.Common.{◌-◌}
use Rattle.std.proofs.lemmas.Result.{err_from_is_err_and}
use Rattle.evaluation.specs.inner.Evaluation.{text_of}
use Rattle.question.proofs.laws.Call.{answer_refused, answer_fine}
use Rattle.question.proofs.call.answer_leaf.Goals as goal

pub write_set-requires : goal.write_set-requires
write_set-requires c = (c.of_leaf.ensures.set c.in_ok-of_leaf.was).valid

pub returns-in_err-of_leaf : goal.returns-in_err-of_leaf
returns-in_err-of_leaf c =
    let p = err_from_is_err_and c.from_residual.result c.from_residual.ensures.1 in
    rw (p.1, p.2) (answer_refused c.args.rec.now (text_of c.args.table.now c.args.count) _ _ c.of_leaf.ensures c.args.out.now _ c.in_err-of_leaf.was)

pub returns : goal.returns
returns c = answer_fine c.args.rec.now (text_of c.args.table.now c.args.count) _ _ c.of_leaf.ensures c.args.out.now c.in_ok-of_leaf.was _ _ c.write_set.ensures
