-- By the code.
use Rattle.std.proofs.Common.{sym, ap, arith}
use Rattle.grammar.specs.Syntax.{Relation}
use Rattle.grammar.specs.inner.Table.{relation_of}
use Rattle.meaning.specs.inner.Truth.{relate}
use Rattle.leaves.proofs.laws.Code.{relation_else}
use Rattle.leaves.proofs.atoms.relates.Goals as goal

pub returns-then-relation-eq0 : goal.returns-then-relation-eq0
returns-then-relation-eq0 c =
    ap (λ (ρ : Relation). relate ρ c.args.x c.args.y) (ap relation_of (sym c.if-relation-eq0.true))

pub returns-then-relation-eq1 : goal.returns-then-relation-eq1
returns-then-relation-eq1 c =
    ap (λ (ρ : Relation). relate ρ c.args.x c.args.y) (ap relation_of (sym c.if-relation-eq1.true))

pub returns-then-relation-eq2 : goal.returns-then-relation-eq2
returns-then-relation-eq2 c =
    ap (λ (ρ : Relation). relate ρ c.args.x c.args.y) (ap relation_of (sym c.if-relation-eq2.true))

pub returns-then-relation-eq3 : goal.returns-then-relation-eq3
returns-then-relation-eq3 c =
    ap (λ (ρ : Relation). relate ρ c.args.x c.args.y) (ap relation_of (sym c.if-relation-eq3.true))

pub returns : goal.returns
returns c =
    ap (λ (ρ : Relation). relate ρ c.args.x c.args.y) (sym (relation_else c.args.relation (omega arith)))
