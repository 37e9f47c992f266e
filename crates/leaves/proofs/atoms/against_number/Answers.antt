-- One test for all numbers.
use Rattle.std.proofs.Common.{ℕ, ap, ◌∙◌}
use Rattle.grammar.specs.inner.Table.{relation_of}
use Rattle.meaning.specs.inner.Truth.{relate}
use Rattle.leaves.proofs.atoms.against_number.Goals as goal

pub field_at-requires : goal.field_at-requires
field_at-requires c = c.requires

pub returns : goal.returns
returns c =
    λ n. c.relates.ensures ∙ ap (λ (x : ℕ). relate (relation_of c.args.relation) x c.args.k) c.field_at.ensures.0
