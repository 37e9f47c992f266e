-- The first word of the table that stands there, test by test.
use borrow.Author.Rules.{rules}
use Rattle.words.proofs.WordLaws.{test}
use Rattle.words.proofs.curve_letter.Goals as goal

pub returns-then-spelled : goal.returns-then-spelled
returns-then-spelled c = rw (test c.spelled.ensures c.if-spelled.true)

pub returns-then-spelled-2 : goal.returns-then-spelled-2
returns-then-spelled-2 c = rw (test c.spelled.ensures c.if-spelled.false, test c.spelled-2.ensures c.if-spelled-2.true)

pub returns : goal.returns
returns c = rw (test c.spelled.ensures c.if-spelled.false, test c.spelled-2.ensures c.if-spelled-2.false)
