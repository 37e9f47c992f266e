-- The invariant: the word stands there just if its rest stands behind the bytes passed.
use Rattle.std.proofs.Common.{◌≡◌, ◌+◌, drop}
use Rattle.grammar.specs.inner.Lexer.{spelled_at}
use Rattle.words.proofs.spelled.Given as goal

abbrev pub invariant-loop-i : goal.invariant-loop-i
invariant-loop-i l = spelled_at l.text l.at l.word ≡ spelled_at l.text (l.at + l.i) (drop l.i l.word)
