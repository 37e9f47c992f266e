-- Each kind is one operation on sets.
use mathlib.Core.Path.{◌≡◌, sym, ap, ◌∙◌}
use mathlib.Core.Bool.{Bool}
use Prim.Native.Nat.{ℕ, ◌≤◌, ◌<◌}
use native.Mathlib.Omega.{arith}
use Rattle.grammar.specs.inner.Kinds.{AND, UNTIL, WEAK-UNTIL}
use Rattle.grammar.specs.inner.Table.{binary_from}
use Rattle.runs.specs.Set.{member}
use Rattle.runs.proofs.laws.Set.{holds_makes, makes_ext}
use Rattle.evaluation.specs.inner.Step.{binary_of}
use Rattle.evaluation.proofs.laws.Step.{last_of_four, until_or_weak}
use Rattle.evaluation.proofs.step.two.Goals as goal

above : (k : ℕ) → binary_from ≤ k → (k ≡ binary_from → ⊥) → (k ≡ AND → ⊥) → AND < k
above k l m n = omega arith

pub or-requires : goal.or-requires
or-requires c =
    (c.requires.2, c.requires.3, c.requires.6)

pub returns-then-kind-eq-OR : goal.returns-then-kind-eq-OR
returns-then-kind-eq-OR c =
    makes_ext _ (λ v. binary_of c.args.kind c.args.last (member c.args.p.now v) (member c.args.q.now v) (member c.args.own.now v)) _ _ (λ v h. sym (ap (λ (k : ℕ). binary_of k c.args.last (member c.args.p.now v) (member c.args.q.now v) (member c.args.own.now v)) c.if-kind-eq-OR.true)) c.or.ensures

pub and-requires : goal.and-requires
and-requires c =
    (c.requires.2, c.requires.3, c.requires.6)

pub returns-then-kind-eq-AND : goal.returns-then-kind-eq-AND
returns-then-kind-eq-AND c =
    makes_ext _ (λ v. binary_of c.args.kind c.args.last (member c.args.p.now v) (member c.args.q.now v) (member c.args.own.now v)) _ _ (λ v h. sym (ap (λ (k : ℕ). binary_of k c.args.last (member c.args.p.now v) (member c.args.q.now v) (member c.args.own.now v)) c.if-kind-eq-AND.true)) c.and.ensures

pub copy-requires : goal.copy-requires
copy-requires c =
    (c.requires.3, c.requires.6)

pub returns-then-kind-eq-UNTIL : goal.returns-then-kind-eq-UNTIL
returns-then-kind-eq-UNTIL c =
    makes_ext _ (λ v. binary_of c.args.kind c.args.last (member c.args.p.now v) (member c.args.q.now v) (member c.args.own.now v)) _ _ (λ v h. sym (ap (λ (b : Bool). binary_of UNTIL b (member c.args.p.now v) (member c.args.q.now v) (member c.args.own.now v)) c.if-last.true) ∙ sym (ap (λ (k : ℕ). binary_of k c.args.last (member c.args.p.now v) (member c.args.q.now v) (member c.args.own.now v)) c.if-kind-eq-UNTIL.true)) (holds_makes _ _ c.copy.ensures)

pub or-requires-then-last : goal.or-requires-then-last
or-requires-then-last c =
    (c.requires.2, c.requires.3, c.requires.6)

pub returns-then-last : goal.returns-then-last
returns-then-last c =
    let e = last_of_four binary_from c.args.kind c.requires.0 c.requires.1 c.if-kind-eq-OR.false c.if-kind-eq-AND.false c.if-kind-eq-UNTIL.false in
    makes_ext _ (λ v. binary_of c.args.kind c.args.last (member c.args.p.now v) (member c.args.q.now v) (member c.args.own.now v)) _ _ (λ v h. sym (ap (λ (b : Bool). binary_of WEAK-UNTIL b (member c.args.p.now v) (member c.args.q.now v) (member c.args.own.now v)) c.if-last.true) ∙ sym (ap (λ (k : ℕ). binary_of k c.args.last (member c.args.p.now v) (member c.args.q.now v) (member c.args.own.now v)) e)) c.or-then-last.ensures

pub or_and-requires : goal.or_and-requires
or_and-requires c =
    let n = c.requires.4 c.if-last.false (above c.args.kind c.requires.0 c.if-kind-eq-OR.false c.if-kind-eq-AND.false) in
    (c.requires.3, c.requires.2, n, c.requires.5, c.requires.6)

pub returns : goal.returns
returns c =
    makes_ext _ (λ v. binary_of c.args.kind c.args.last (member c.args.p.now v) (member c.args.q.now v) (member c.args.own.now v)) _ _
    (λ v h. until_or_weak c.args.kind c.requires.0 c.requires.1 c.if-kind-eq-OR.false c.if-kind-eq-AND.false (member c.args.p.now v) (member c.args.q.now v) (member c.args.own.now v) ∙ sym (ap (λ (b : Bool). binary_of c.args.kind b (member c.args.p.now v) (member c.args.q.now v) (member c.args.own.now v)) c.if-last.false))
    c.or_and.ensures
