-- No word of the table begins with a digit or a foreign byte.
use mathlib.Core.Path.{refl}
use borrow.Author.Rules.{rules}
use Rattle.grammar.specs.declared.Class.TheVariants.{Digit, Foreign}
use Rattle.words.proofs.WordLaws.{no_head, letter_or_sign}
use Rattle.words.proofs.head.Goals as goal

pub returns-in-Digit : goal.returns-in-Digit
unfolding letter_or_sign
returns-in-Digit c = no_head c.args.text.now c.args.at c.peek.result c.class_of.result Digit c.peek.ensures c.class_of.ensures c.in-Digit.is refl

pub returns-in-Foreign : goal.returns-in-Foreign
unfolding letter_or_sign
returns-in-Foreign c = no_head c.args.text.now c.args.at c.peek.result c.class_of.result Foreign c.peek.ensures c.class_of.ensures c.in-Foreign.is refl
