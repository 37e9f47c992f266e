-- A table in parts is gone through part by part.
use borrow.Author.Rules.{rules}
use mathlib.Core.List.{◌++◌}
use Rattle.grammar.specs.inner.Lexer.{level_names, top_names, difference_names, pigment_names, openings}
use Rattle.words.proofs.WordLaws.{in_first, in_rest}
use Rattle.words.proofs.name_or_opening.Goals as goal

pub returns-in-Some : goal.returns-in-Some
returns-in-Some c = in_first level_names (top_names ++ (difference_names ++ (pigment_names ++ openings))) c.args.text.now c.args.at c.level_name.ensures c.in-Some.is

pub returns-in-Some-top_name : goal.returns-in-Some-top_name
returns-in-Some-top_name c = in_rest level_names (top_names ++ (difference_names ++ (pigment_names ++ openings))) c.args.text.now c.args.at c.level_name.ensures c.in-None.is (in_first top_names (difference_names ++ (pigment_names ++ openings)) c.args.text.now c.args.at c.top_name.ensures c.in-Some-top_name.is)

pub returns-in-None-top_name : goal.returns-in-None-top_name
returns-in-None-top_name c = in_rest level_names (top_names ++ (difference_names ++ (pigment_names ++ openings))) c.args.text.now c.args.at c.level_name.ensures c.in-None.is (in_rest top_names (difference_names ++ (pigment_names ++ openings)) c.args.text.now c.args.at c.top_name.ensures c.in-None-top_name.is c.difference_or_opening.ensures)
