-- A head stops within the text.
use Rattle.lexer.proofs.WordLaws.{head_within}
use Rattle.lexer.proofs.leaf.Goals as goal

pub headed-requires : goal.headed-requires
headed-requires c = head_within c.args.text.now c.args.at _ _ c.in_ok-code.was c.head.ensures
