-- The one word of the table.
use borrow.Author.Rules.{rules}
use Rattle.words.proofs.WordLaws.{test}
use Rattle.words.proofs.time.Goals as goal

pub returns-then-spelled : goal.returns-then-spelled
returns-then-spelled c = rw (test c.spelled.ensures c.if-spelled.true)

pub returns : goal.returns
returns c = rw (test c.spelled.ensures c.if-spelled.false)
