-- A number stops within the text.
use Rattle.lexer.proofs.NumberLaws.{number-within}
use Rattle.lexer.proofs.timed.Goals as goal

pub closed-requires : goal.closed-requires
closed-requires c = number-within c.args.text.now _ _ _ c.in_ok-code.was c.number.ensures
