-- `lab::allowed` meets its contract: 11, then 14.
use borrow.Author.Rules.{rules}
use Rattle.lab.proofs.laws.Call.{marks_refused, text_refused, text_allowed}
use Rattle.lab.proofs.allowed.Goals as goal

pub returns-then-are_bad : goal.returns-then-are_bad
returns-then-are_bad c =
    λ t h. marks_refused c.args.marks.now c.args.n c.are_bad.result c.are_bad.ensures c.if-are_bad.true t

pub returns-then-some_barred : goal.returns-then-some_barred
returns-then-some_barred c =
    λ t h. text_refused c.args.marks.now c.args.n c.are_bad.result c.are_bad.ensures c.if-are_bad.false t c.some_barred.result (c.some_barred.ensures t h) c.if-some_barred.true

pub returns : goal.returns
returns c =
    λ t h. text_allowed c.args.marks.now c.args.n c.are_bad.result c.are_bad.ensures c.if-are_bad.false t c.some_barred.result (c.some_barred.ensures t h) c.if-some_barred.false
