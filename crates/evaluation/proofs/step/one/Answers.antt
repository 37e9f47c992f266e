-- Each kind is one operation on sets.
use mathlib.Core.Path.{sym, ap, ◌∙◌}
use mathlib.Core.Bool.{Bool}
use Prim.Native.Nat.{ℕ}
use native.Mathlib.Omega.{arith}
use Rattle.grammar.specs.inner.Kinds.{FINALLY, GLOBALLY}
use Rattle.grammar.specs.inner.Table.{unary_from}
use Rattle.runs.specs.Set.{member}
use Rattle.runs.proofs.laws.Set.{holds_makes, makes_ext}
use Rattle.evaluation.specs.inner.Step.{unary_of}
use Rattle.evaluation.proofs.laws.Step.{child_at-last, last_of_four}
use Rattle.evaluation.proofs.step.one.Goals as goal

pub not-requires : goal.not-requires
not-requires c =
    (c.requires.3, c.requires.5)

pub returns-then-kind-eq-NOT : goal.returns-then-kind-eq-NOT
returns-then-kind-eq-NOT c =
    λ old. makes_ext _ (λ v. unary_of c.args.kind c.args.last (member c.args.p.now v) (member c.args.own.now v) (old v)) _ _ (λ v h. sym (ap (λ (k : ℕ). unary_of k c.args.last (member c.args.p.now v) (member c.args.own.now v) (old v)) c.if-kind-eq-NOT.true)) c.not.ensures

pub copy-requires : goal.copy-requires
copy-requires c =
    (c.requires.3, c.requires.5)

pub returns-then-last : goal.returns-then-last
returns-then-last c =
    λ old. makes_ext _ (λ v. unary_of c.args.kind c.args.last (member c.args.p.now v) (member c.args.own.now v) (old v)) _ _ (λ v h. child_at-last c.args.kind c.requires.0 c.requires.1 c.if-kind-eq-NOT.false (member c.args.p.now v) (member c.args.own.now v) (old v) ∙ sym (ap (λ (b : Bool). unary_of c.args.kind b (member c.args.p.now v) (member c.args.own.now v) (old v)) c.if-last.true)) (holds_makes _ _ c.copy.ensures)

pub or-requires : goal.or-requires
or-requires c =
    (c.requires.3, c.requires.4 c.if-last.false (omega (arith, c.if-kind-eq-FINALLY.true)), c.requires.5)

pub returns-then-kind-eq-FINALLY : goal.returns-then-kind-eq-FINALLY
returns-then-kind-eq-FINALLY c =
    λ old. makes_ext _ (λ v. unary_of c.args.kind c.args.last (member c.args.p.now v) (member c.args.own.now v) (old v)) _ _ (λ v h. sym (ap (λ (b : Bool). unary_of FINALLY b (member c.args.p.now v) (member c.args.own.now v) (old v)) c.if-last.false) ∙ sym (ap (λ (k : ℕ). unary_of k c.args.last (member c.args.p.now v) (member c.args.own.now v) (old v)) c.if-kind-eq-FINALLY.true)) c.or.ensures

pub and-requires : goal.and-requires
and-requires c =
    let e = last_of_four unary_from c.args.kind c.requires.0 c.requires.1 c.if-kind-eq-NOT.false c.requires.2 c.if-kind-eq-FINALLY.false in (c.requires.3, c.requires.4 c.if-last.false (omega (arith, e)), c.requires.5)

pub returns : goal.returns
returns c =
    let e = last_of_four unary_from c.args.kind c.requires.0 c.requires.1 c.if-kind-eq-NOT.false c.requires.2 c.if-kind-eq-FINALLY.false in λ old. makes_ext _ (λ v. unary_of c.args.kind c.args.last (member c.args.p.now v) (member c.args.own.now v) (old v)) _ _ (λ v h. sym (ap (λ (b : Bool). unary_of GLOBALLY b (member c.args.p.now v) (member c.args.own.now v) (old v)) c.if-last.false) ∙ sym (ap (λ (k : ℕ). unary_of k c.args.last (member c.args.p.now v) (member c.args.own.now v) (old v)) e)) c.and.ensures
