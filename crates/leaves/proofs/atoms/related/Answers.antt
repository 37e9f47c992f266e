-- By the code: the numbers up to x, from x on, below x, behind x, or x alone.
use Rattle.std.proofs.Common.{ℕ, ◌+◌, ltb, leb, sym, ap, arith}
use Rattle.grammar.specs.Syntax.{Relation}
use Rattle.grammar.specs.inner.Table.{relation_of}
use Rattle.meaning.specs.inner.Truth.{relate}
use Rattle.leaves.proofs.laws.Code.{relation_else}
use Rattle.leaves.specs.declared.span.Span.{Span}
use Rattle.leaves.specs.inner.Span.{Spans}
use Rattle.leaves.proofs.laws.Span.{spans_ext, spans_point, above_from}
use Rattle.leaves.proofs.atoms.related.Goals as goal

-- behind x
after : (x : ℕ) (s : Span) → Spans (λ n. leb (x + 1) n) s → Spans (λ n. ltb x n) s
after x s w = spans_ext (λ n. leb (x + 1) n) (λ n. ltb x n) s (λ v h. above_from x v) w

pub upto-requires : goal.upto-requires
upto-requires c = c.requires

pub returns-then-relation-eq0 : goal.returns-then-relation-eq0
returns-then-relation-eq0 c =
    spans_ext _ _ _ (λ n h. ap (λ (ρ : Relation). relate ρ c.args.x n) (ap relation_of (sym c.if-relation-eq0.true))) c.upto.ensures

pub returns-then-relation-eq1 : goal.returns-then-relation-eq1
returns-then-relation-eq1 c =
    spans_ext _ _ _ (λ n h. ap (λ (ρ : Relation). relate ρ c.args.x n) (ap relation_of (sym c.if-relation-eq1.true))) c.from.ensures

pub below-requires : goal.below-requires
below-requires c = c.requires

pub returns-then-relation-eq2 : goal.returns-then-relation-eq2
returns-then-relation-eq2 c =
    spans_ext _ _ _ (λ n h. ap (λ (ρ : Relation). relate ρ c.args.x n) (ap relation_of (sym c.if-relation-eq2.true))) c.below.ensures

pub returns-then-relation-eq3 : goal.returns-then-relation-eq3
returns-then-relation-eq3 c =
    spans_ext _ _ _ (λ n h. ap (λ (ρ : Relation). relate ρ c.args.x n) (ap relation_of (sym c.if-relation-eq3.true))) (after c.args.x _ c.from-then-relation-eq3.ensures)

pub returns : goal.returns
returns c =
    spans_ext _ _ _ (λ n h. ap (λ (ρ : Relation). relate ρ c.args.x n) (sym (relation_else c.args.relation (omega arith)))) (spans_point c.args.x c.requires)
