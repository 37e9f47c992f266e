-- By the code.
use Rattle.std.proofs.Common.{sym, ap, ◌∙◌, arith}
use Rattle.grammar.specs.Syntax.{Field}
use Rattle.grammar.specs.inner.Table.{field_of}
use Rattle.meaning.specs.inner.Truth.{coded_at, coded_field}
use Rattle.meaning.specs.inner.Coded.{coded}
use Rattle.leaves.proofs.laws.Code.{field_else}
use Rattle.leaves.proofs.fields.field_at.Goals as goal

pub value_at-requires : goal.value_at-requires
value_at-requires c = let s = c in (s.requires.0, s.requires.1, omega arith)

pub returns-then-code-eq0 : goal.returns-then-code-eq0
returns-then-code-eq0 c =
    (c.value_at.ensures.0 ∙ ap (λ (f : Field). coded_field f (coded_at (coded c.args.rec.now) c.args.i)) (ap field_of (sym c.if-code-eq0.true)), c.value_at.ensures.1)

pub value_at-requires-then-code-eq1 : goal.value_at-requires-then-code-eq1
value_at-requires-then-code-eq1 c = let s = c in (s.requires.0, s.requires.1, omega arith)

pub returns-then-code-eq1 : goal.returns-then-code-eq1
returns-then-code-eq1 c =
    (c.value_at-then-code-eq1.ensures.0 ∙ ap (λ (f : Field). coded_field f (coded_at (coded c.args.rec.now) c.args.i)) (ap field_of (sym c.if-code-eq1.true)), c.value_at-then-code-eq1.ensures.1)

pub time_at-requires : goal.time_at-requires
time_at-requires c = c.requires

pub returns : goal.returns
returns c =
    (c.time_at.ensures.0 ∙ ap (λ (f : Field). coded_field f (coded_at (coded c.args.rec.now) c.args.i)) (sym (field_else c.args.code c.if-code-eq0.false c.if-code-eq1.false)), c.time_at.ensures.1)
