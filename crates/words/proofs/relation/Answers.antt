-- The first word of the table that stands there, test by test.
use borrow.Author.Rules.{rules}
use Rattle.words.proofs.WordLaws.{test}
use Rattle.words.proofs.relation.Goals as goal

pub returns-then-spelled : goal.returns-then-spelled
returns-then-spelled c = rw (test c.spelled.ensures c.if-spelled.true)

pub returns-then-spelled-2 : goal.returns-then-spelled-2
returns-then-spelled-2 c = rw (test c.spelled.ensures c.if-spelled.false, test c.spelled-2.ensures c.if-spelled-2.true)

pub returns-then-spelled-3 : goal.returns-then-spelled-3
returns-then-spelled-3 c = rw (test c.spelled.ensures c.if-spelled.false, test c.spelled-2.ensures c.if-spelled-2.false, test c.spelled-3.ensures c.if-spelled-3.true)

pub returns-then-spelled-4 : goal.returns-then-spelled-4
returns-then-spelled-4 c = rw (test c.spelled.ensures c.if-spelled.false, test c.spelled-2.ensures c.if-spelled-2.false, test c.spelled-3.ensures c.if-spelled-3.false, test c.spelled-4.ensures c.if-spelled-4.true)

pub returns-then-spelled-5 : goal.returns-then-spelled-5
returns-then-spelled-5 c = rw (test c.spelled.ensures c.if-spelled.false, test c.spelled-2.ensures c.if-spelled-2.false, test c.spelled-3.ensures c.if-spelled-3.false, test c.spelled-4.ensures c.if-spelled-4.false, test c.spelled-5.ensures c.if-spelled-5.true)

pub returns : goal.returns
returns c = rw (test c.spelled.ensures c.if-spelled.false, test c.spelled-2.ensures c.if-spelled-2.false, test c.spelled-3.ensures c.if-spelled-3.false, test c.spelled-4.ensures c.if-spelled-4.false, test c.spelled-5.ensures c.if-spelled-5.false)
