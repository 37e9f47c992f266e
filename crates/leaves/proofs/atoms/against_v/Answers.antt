-- What is related to the field.
use Rattle.std.proofs.Common.{ℕ, ap}
use Rattle.grammar.specs.inner.Table.{relation_of}
use Rattle.meaning.specs.inner.Truth.{relate}
use Rattle.leaves.proofs.laws.Span.{spans_ext}
use Rattle.leaves.proofs.atoms.against_v.Goals as goal

pub field_at-requires : goal.field_at-requires
field_at-requires c = c.requires

pub related-requires : goal.related-requires
related-requires c = c.field_at.ensures.1

pub returns : goal.returns
returns c =
    spans_ext _ _ _ (λ n h. ap (λ (x : ℕ). relate (relation_of c.args.relation) x n) c.field_at.ensures.0) c.related.ensures
