-- A table in parts is gone through part by part.
use borrow.Author.Rules.{rules}
use mathlib.Core.List.{◌++◌}
use Rattle.grammar.specs.inner.Lexer.{fields, level_names, top_names, difference_names, pigment_names, openings}
use Rattle.words.proofs.WordLaws.{in_first, in_rest}
use Rattle.words.proofs.begun.Goals as goal

pub returns-in-Some : goal.returns-in-Some
returns-in-Some c = in_first fields (level_names ++ (top_names ++ (difference_names ++ (pigment_names ++ openings)))) c.args.text.now c.args.at c.field.ensures c.in-Some.is

pub returns-in-None : goal.returns-in-None
returns-in-None c = in_rest fields (level_names ++ (top_names ++ (difference_names ++ (pigment_names ++ openings)))) c.args.text.now c.args.at c.field.ensures c.in-None.is c.name_or_opening.ensures
