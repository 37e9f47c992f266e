-- A table in parts is gone through part by part.
use mathlib.Core.List.{[], ◌∷◌}
use borrow.Author.Rules.{rules}
use Rattle.grammar.specs.Bytes.{bytes}
use Rattle.grammar.specs.inner.Lexer.{word, curves}
use Rattle.words.proofs.WordLaws.{in_first, in_rest}
use Rattle.words.proofs.field.Goals as goal

pub returns-in-Some : goal.returns-in-Some
returns-in-Some c = in_first curves (word 2 (bytes "T") ∷ []) c.args.text.now c.args.at c.curve_letter.ensures c.in-Some.is

pub returns-in-None : goal.returns-in-None
returns-in-None c = in_rest curves (word 2 (bytes "T") ∷ []) c.args.text.now c.args.at c.curve_letter.ensures c.in-None.is c.time.ensures
