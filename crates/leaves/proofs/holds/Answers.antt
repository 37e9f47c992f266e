-- By the kind of the row.
use Rattle.std.proofs.Common.{◌≡◌, ℕ}
use Rattle.grammar.specs.Syntax.{Text}
use Rattle.grammar.specs.inner.Kinds.{COMPARE, A-TO-B, FALL, RISE, PIGMENT}
use Rattle.meaning.specs.inner.Truth.{val}
use Rattle.meaning.specs.inner.Coded.{coded}
use Rattle.leaves.proofs.laws.Leaf.{by_kind, past, just}
use Rattle.leaves.proofs.holds.Goals as goal

pub against_number-requires : goal.against_number-requires
against_number-requires c = let s = c in (s.requires.0.accepted, s.requires.0.index)

pub returns-then-kind-eq-COMPARE : goal.returns-then-kind-eq-COMPARE
unfolding val
returns-then-kind-eq-COMPARE c =
    by_kind (λ (p : Text). (v : ℕ) → c.against_number.result ≡ val (coded c.args.rec.now) v p c.args.i) c.args.row COMPARE c.if-kind-eq-COMPARE.true c.against_number.ensures

pub a_to_b-requires : goal.a_to_b-requires
a_to_b-requires c = let s = c in (s.requires.0.accepted, s.requires.0.index)

pub returns-then-kind-eq-A_TO_B : goal.returns-then-kind-eq-A_TO_B
unfolding val
returns-then-kind-eq-A_TO_B c =
    by_kind (λ (p : Text). (v : ℕ) → c.a_to_b.result ≡ val (coded c.args.rec.now) v p c.args.i) c.args.row A-TO-B c.if-kind-eq-A_TO_B.true c.a_to_b.ensures

pub sloped-requires : goal.sloped-requires
sloped-requires c = let s = c in (s.requires.0.accepted, s.requires.0.index)

pub returns-then-kind-eq-FALL : goal.returns-then-kind-eq-FALL
unfolding val
returns-then-kind-eq-FALL c =
    by_kind (λ (p : Text). (v : ℕ) → c.sloped.result ≡ val (coded c.args.rec.now) v p c.args.i) c.args.row FALL c.if-kind-eq-FALL.true (λ v. c.sloped.ensures)

pub sloped-requires-then-kind-eq-RISE : goal.sloped-requires-then-kind-eq-RISE
sloped-requires-then-kind-eq-RISE c = let s = c in (s.requires.0.accepted, s.requires.0.index)

pub returns-then-kind-eq-RISE : goal.returns-then-kind-eq-RISE
unfolding val
returns-then-kind-eq-RISE c =
    by_kind (λ (p : Text). (v : ℕ) → c.sloped-then-kind-eq-RISE.result ≡ val (coded c.args.rec.now) v p c.args.i) c.args.row RISE c.if-kind-eq-RISE.true (λ v. c.sloped-then-kind-eq-RISE.ensures)

pub adding-requires : goal.adding-requires
adding-requires c = let s = c in (s.requires.0.accepted, s.requires.0.index)

pub returns : goal.returns
unfolding val
returns c =
    by_kind (λ (p : Text). (v : ℕ) → c.adding.result ≡ val (coded c.args.rec.now) v p c.args.i) c.args.row PIGMENT
    (just PIGMENT (past RISE (past FALL (past A-TO-B (past COMPARE c.requires.1 c.if-kind-eq-COMPARE.false) c.if-kind-eq-A_TO_B.false) c.if-kind-eq-FALL.false) c.if-kind-eq-RISE.false) c.requires.2)
    c.adding.ensures
