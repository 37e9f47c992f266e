-- Each interval of the match has one class, by computing.
use native.Mathlib.Omega.{arith}
use mathlib.Core.Path.{refl}
use Rattle.grammar.specs.declared.Class.TheVariants.{Digit, Letter, Sign, Foreign}
use Rattle.grammar.specs.Classes.{class_of}
use Rattle.grammar.proofs.ClassLaws.{classed, single, class_in, sign_alone}
use Rattle.grammar.proofs.classes.class_of.Goals as goal

pub returns-in-48-to-57 : goal.returns-in-48-to-57
unfolding classed single class_of
returns-in-48-to-57 c = class_in 48 10 c.args.b Digit refl c.in-48-to-57.in_default-own.rest.1 (omega arith) (omega arith)

pub returns-in-65-to-90 : goal.returns-in-65-to-90
unfolding classed single class_of
returns-in-65-to-90 c = class_in 65 26 c.args.b Letter refl c.in-65-to-90.in_default-own.rest.1 (omega arith) (omega arith)

pub returns-in-65-to-90-2 : goal.returns-in-65-to-90-2
unfolding classed single class_of
returns-in-65-to-90-2 c = class_in 97 26 c.args.b Letter refl c.in-65-to-90.in_default-own.rest.1 (omega arith) (omega arith)

pub returns-in_default : goal.returns-in_default
unfolding classed single class_of
returns-in_default c = class_in 0 40 c.args.b Foreign refl c.in_default.in_default-own.rest.1 (omega arith) (omega arith)

pub returns-in_default-2 : goal.returns-in_default-2
unfolding classed single class_of
returns-in_default-2 c = class_in 42 2 c.args.b Foreign refl c.in_default.in_default-own.rest.1 (omega arith) (omega arith)

pub returns-in_default-3 : goal.returns-in_default-3
unfolding classed single class_of
returns-in_default-3 c = class_in 46 2 c.args.b Foreign refl c.in_default.in_default-own.rest.1 (omega arith) (omega arith)

pub returns-in_default-4 : goal.returns-in_default-4
unfolding classed single class_of
returns-in_default-4 c = class_in 58 2 c.args.b Foreign refl c.in_default.in_default-own.rest.1 (omega arith) (omega arith)

pub returns-in_default-5 : goal.returns-in_default-5
unfolding classed single class_of
returns-in_default-5 c = class_in 63 2 c.args.b Foreign refl c.in_default.in_default-own.rest.1 (omega arith) (omega arith)

pub returns-in_default-6 : goal.returns-in_default-6
unfolding classed single class_of
returns-in_default-6 c = class_in 91 6 c.args.b Foreign refl c.in_default.in_default-own.rest.1 (omega arith) (omega arith)

pub returns-in_default-7 : goal.returns-in_default-7
unfolding classed single class_of
returns-in_default-7 c = class_in 123 133 c.args.b Foreign refl c.in_default.in_default-own.rest.1 (omega arith) (omega arith)

pub returns-in-33 : goal.returns-in-33
returns-in-33 c = sign_alone c.args.b c.in-33.in-33-own.keys1

pub returns-in-33-2 : goal.returns-in-33-2
unfolding classed single class_of
returns-in-33-2 c = class_in 40 2 c.args.b Sign refl c.in-33.in_default-own.rest.1 (omega arith) (omega arith)

pub returns-in-33-3 : goal.returns-in-33-3
unfolding classed single class_of
returns-in-33-3 c = class_in 44 2 c.args.b Sign refl c.in-33.in_default-own.rest.1 (omega arith) (omega arith)

pub returns-in-33-4 : goal.returns-in-33-4
unfolding classed single class_of
returns-in-33-4 c = class_in 60 3 c.args.b Sign refl c.in-33.in_default-own.rest.1 (omega arith) (omega arith)
