-- 11, or what the traits of the root say.
use borrow.Author.Rules.{rules}
use Rattle.assured.proofs.laws.Call.{judge_refused, judge_told}
use Rattle.assured.proofs.judge.Goals as goal

pub returns-then-are_bad : goal.returns-then-are_bad
returns-then-are_bad c =
    judge_refused c.args.table.now c.args.n c.args.marks.now _ c.are_bad.ensures c.if-are_bad.true

pub returns : goal.returns
returns c =
    judge_told c.args.table.now c.args.n c.args.marks.now _ c.are_bad.ensures c.if-are_bad.false
    c.traits_at-root.result c.traits_at-root.ensures _ c.assured.ensures
