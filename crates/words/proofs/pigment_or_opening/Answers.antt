-- A table in parts is gone through part by part.
use borrow.Author.Rules.{rules}
use Rattle.grammar.specs.inner.Lexer.{pigment_names, openings}
use Rattle.words.proofs.WordLaws.{in_first, in_rest}
use Rattle.words.proofs.pigment_or_opening.Goals as goal

pub returns-in-Some : goal.returns-in-Some
returns-in-Some c = in_first pigment_names openings c.args.text.now c.args.at c.pigment_name.ensures c.in-Some.is

pub returns-in-None : goal.returns-in-None
returns-in-None c = in_rest pigment_names openings c.args.text.now c.args.at c.pigment_name.ensures c.in-None.is c.opening.ensures
