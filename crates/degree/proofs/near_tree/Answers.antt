-- Refused by 9 or 8, or by the set.
use Rattle.std.proofs.Common.{ap}
use Rattle.refusal.specs.Outcome.{result}
use Rattle.evaluation.specs.inner.Evaluation.{text_of}
use Rattle.degree.proofs.laws.Call.{text_refused, text-near}
use borrow.Author.Rules.{rules}
use Rattle.std.proofs.lemmas.Result.{err_from_is_err_and}
use Rattle.degree.proofs.near_tree.Goals as goal

pub near_set-requires : goal.near_set-requires
near_set-requires c = ((c.of_tree.ensures.set c.in_ok-of_tree.was).valid, c.requires.1)

pub returns-in_err-of_tree : goal.returns-in_err-of_tree
returns-in_err-of_tree c =
    let p = err_from_is_err_and c.from_residual.result c.from_residual.ensures.1 in
    rw (p.1, p.2) (text_refused c.args.rec.now (text_of c.args.table.now c.args.count) _ _ c.of_tree.ensures c.args.index _ c.in_err-of_tree.was)

pub returns : goal.returns
returns c =
    text-near c.args.rec.now (text_of c.args.table.now c.args.count) _ _ c.of_tree.ensures c.args.index c.in_ok-of_tree.was c.requires.1 _ (ap result c.near_set.ensures)
