-- One test for all numbers.
use Rattle.std.proofs.Common.{ℕ, ◌∙◌, ap₂, arith}
use Rattle.grammar.specs.inner.Table.{relation_of}
use Rattle.meaning.specs.inner.Truth.{relate}
use Rattle.leaves.proofs.atoms.a_to_b.Goals as goal

pub value_at-requires : goal.value_at-requires
value_at-requires c = let s = c in (s.requires.0, s.requires.1, omega arith)

pub value_at-requires-2 : goal.value_at-requires-2
value_at-requires-2 c = let s = c in (s.requires.0, s.requires.1, omega arith)

pub returns : goal.returns
returns c =
    λ n. c.relates.ensures
    ∙ ap₂ (λ (x y : ℕ). relate (relation_of c.args.relation) x y) c.value_at.ensures.0 c.value_at-2.ensures.0
