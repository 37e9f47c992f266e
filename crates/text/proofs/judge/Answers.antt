-- Each way out cites its law.
use Rattle.text.proofs.ToldLaws.{judge_mixed, judge_large, judge_deep, judge_nodes}
use Rattle.text.proofs.judge.Goals as goal

pub returns-then-is_mixed : goal.returns-then-is_mixed
returns-then-is_mixed c = λ t h. judge_mixed c.args.text.now c.args.table.now c.args.n t h c.is_mixed.result (c.is_mixed.ensures t h) c.if-is_mixed.true

pub returns-then-n-gt-MOST_NODES : goal.returns-then-n-gt-MOST_NODES
returns-then-n-gt-MOST_NODES c = λ t h. judge_large c.args.text.now c.args.table.now c.args.n t h c.is_mixed.result (c.is_mixed.ensures t h) c.if-is_mixed.false c.if-n-gt-MOST_NODES.true

pub returns-then-too_deep : goal.returns-then-too_deep
returns-then-too_deep c = λ t h. judge_deep c.args.text.now c.args.table.now c.args.n t h c.is_mixed.result (c.is_mixed.ensures t h) c.if-is_mixed.false c.if-n-gt-MOST_NODES.false c.too_deep.result c.too_deep.ensures c.if-too_deep.true

pub returns : goal.returns
returns c = λ t h. judge_nodes c.args.text.now c.args.table.now c.args.n t h c.is_mixed.result (c.is_mixed.ensures t h) c.if-is_mixed.false c.if-n-gt-MOST_NODES.false c.too_deep.result c.too_deep.ensures c.if-too_deep.false
