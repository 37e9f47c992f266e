-- What is found without a sign is on the axis.
use native.Mathlib.Omega.{arith}
use Rattle.lexer.proofs.NumberLaws.{unsigned_low}
use Rattle.lexer.proofs.numbers.number.Goals as goal

pub overflow_sub-code : goal.overflow_sub-code
overflow_sub-code c = unsigned_low c.args.text.now _ _ _ c.in_ok-n.was c.unsigned.ensures

pub overflow_add-code : goal.overflow_add-code
overflow_add-code c = record { fits = omega (arith, unsigned_low c.args.text.now _ _ _ c.in_ok-n-2.was c.unsigned-else-peek-eq45.ensures) }
