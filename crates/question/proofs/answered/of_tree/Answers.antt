-- 9 by the search for tops, 8 and the set by the evaluation.
use mathlib.Core.Path.{sym, ap, ◌∙◌}
use Rattle.std.specs.Prelude.{is_err}
use Rattle.evaluation.specs.inner.Evaluation.{text_of}
use Rattle.question.proofs.laws.Answered.{gives_nine, gives_eight, gives_set, asking}
use borrow.Author.Rules.{rules}
use Rattle.std.proofs.lemmas.Result.{err_from_is_err_and}
use Rattle.question.proofs.answered.of_tree.Goals as goal

pub returns-then-asks : goal.returns-then-asks
returns-then-asks c = gives_nine c.args.rec.now (text_of c.args.table.now c.args.count) _ (sym c.asks.ensures ∙ c.if-asks.true)

pub evaluate-requires : goal.evaluate-requires
evaluate-requires c =
    (asking c.args.table.now c.args.count c.args.rec.now c.requires.0 (sym c.asks.ensures ∙ c.if-asks.false), sym (c.is_temporal-ahead.ensures (text_of c.args.table.now c.args.count) c.requires.0.holds), c.requires.1)

pub returns-in_err-evaluate : goal.returns-in_err-evaluate
returns-in_err-evaluate c =
    let p = err_from_is_err_and c.from_residual.result c.from_residual.ensures.1 in
    rw (p.1, p.2) (gives_eight c.args.rec.now (text_of c.args.table.now c.args.count) _ (sym c.asks.ensures ∙ c.if-asks.false) (sym c.evaluate.ensures.flag ∙ ap is_err c.in_err-evaluate.was))

pub returns : goal.returns
returns c =
    let good = ap is_err c.in_ok-evaluate.was in
    gives_set c.args.rec.now (text_of c.args.table.now c.args.count) _ (sym c.asks.ensures ∙ c.if-asks.false) (sym c.evaluate.ensures.flag ∙ good) (c.evaluate.ensures.holds good)
