-- The number of a pigment stops within the text.
use Rattle.lexer.proofs.NumberLaws.{pigment_within}
use Rattle.lexer.proofs.pigment_leaf.Goals as goal

pub closed-requires : goal.closed-requires
closed-requires c = pigment_within c.args.text.now c.args.at _ _ c.in_ok-code.was c.pigment.ensures
