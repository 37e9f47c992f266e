-- By a field, or one test for all numbers.
use Rattle.std.proofs.Common.{sym, ◌∙◌, arith}
use Rattle.grammar.specs.Syntax.{Text}
use Rattle.grammar.specs.inner.Kinds.{COMPARE-V}
use Rattle.runs.proofs.laws.Set.{holds_ext}
use Rattle.meaning.specs.inner.Truth.{val}
use Rattle.meaning.specs.inner.Coded.{coded}
use Rattle.leaves.specs.inner.Span.{Spans}
use Rattle.leaves.proofs.laws.Leaf.{by_kind, past}
use Rattle.leaves.proofs.atom.Goals as goal

pub against_v-s-requires : goal.against_v-s-requires
against_v-s-requires c = let s = c in (s.requires.0.accepted, s.requires.0.index)

pub returns-then-row-eq-COMPARE_V : goal.returns-then-row-eq-COMPARE_V
unfolding val
returns-then-row-eq-COMPARE_V c =
    let w = by_kind (λ (p : Text). Spans (λ v. val (coded c.args.rec.now) v p c.args.i) c.against_v-s.result) c.args.row COMPARE-V c.if-row-eq-COMPARE_V.true c.against_v-s.ensures in
    holds_ext _ _ _ w.members c.span.ensures

pub holds-requires : goal.holds-requires
holds-requires c = let s = c in (s.requires.0, past COMPARE-V (omega arith) c.if-row-eq-COMPARE_V.false, s.requires.1)

pub returns-then-holds : goal.returns-then-holds
returns-then-holds c = holds_ext _ _ _ (λ v h. sym c.if-holds.true ∙ c.holds.ensures v) c.whole.ensures

pub returns : goal.returns
returns c = holds_ext _ _ _ (λ v h. sym c.if-holds.false ∙ c.holds.ensures v) c.empty.ensures
