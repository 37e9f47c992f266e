-- The invariant: what was read so far and the digits ahead come to what the digits from `at` on come to.
use Rattle.lexer.proofs.NumberLaws.{Reading}
use Rattle.lexer.proofs.numbers.digit_run.Given as goal

abbrev pub invariant-loop-end : goal.invariant-loop-end
invariant-loop-end l = Reading l.text l.at l.value l.end
