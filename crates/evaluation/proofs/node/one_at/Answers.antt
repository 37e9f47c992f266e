-- The step is lent the slot of its node, and the slot of its child.
use mathlib.Core.Path.{sym, ap, subst, ◌∙◌}
use Prim.Native.Nat.{ℕ}
use native.Mathlib.Omega.{arith}
use lib.ListN.{length-drop}
use lib.Seq.{length-take-le}
use Rattle.runs.specs.Set.{member, Valid}
use Rattle.evaluation.specs.inner.Step.{unary_of}
use Rattle.evaluation.specs.inner.Slots.{slot}
use Rattle.evaluation.proofs.laws.Slots.{across, across_is, made_in, puts_lists, puts_ext}
use Rattle.evaluation.proofs.node.one_at.Goals as goal

pub next_at-requires : goal.next_at-requires
next_at-requires c =
    (c.requires.2, c.requires.3, c.requires.4, c.requires.5, c.requires.6, (λ e. (c.requires.7 e (omega (arith, c.if-kind-eq-NEXT.true))).1), c.requires.8)

pub returns-then-kind-eq-NEXT : goal.returns-then-kind-eq-NEXT
returns-then-kind-eq-NEXT c =
    puts_ext _ (λ v. unary_of c.args.kind c.args.last (member (slot c.args.other.now c.args.first) v) (member (slot c.args.other.now c.args.n) v) (member (slot c.args.own.now c.args.first) v)) _ _ _ _
    (λ v h. sym (ap (λ (k : ℕ). unary_of k c.args.last (member (slot c.args.other.now c.args.first) v) (member (slot c.args.other.now c.args.n) v) (member (slot c.args.own.now c.args.first) v)) c.if-kind-eq-NEXT.true))
    c.next_at.ensures

pub set_in-requires : goal.set_in-requires
set_in-requires c =
    (c.requires.5, c.requires.3)

pub set_in-requires-2 : goal.set_in-requires-2
set_in-requires-2 c =
    (c.requires.5, c.requires.2)

pub one-requires : goal.one-requires
one-requires c = (
  c.requires.0,
  c.requires.1,
  c.if-kind-eq-NEXT.false,
  subst Valid (sym c.set_in.ensures) c.requires.6,
  (λ e k. subst Valid (sym c.set_in-2.ensures) (c.requires.7 e k).0),
  length-take-le (across c.args.n) _ (simp length-drop (omega (arith, c.requires.4, c.requires.2, across_is c.args.n))) ∙ across_is c.args.n,
)

pub returns : goal.returns
returns c =
    puts_lists (λ a b d v. unary_of c.args.kind c.args.last (member a v) (member b v) (member (slot c.args.own.now c.args.first) v)) _ _ _ _
    c.set_in.ensures c.set_in-2.ensures c.set_in-2.ensures
    (made_in c.args.own.now _ c.args.n c.requires.4 c.requires.2 (c.one.auto.out ∙ length-take-le (across c.args.n) _ (simp length-drop (omega (arith, c.requires.4, c.requires.2, across_is c.args.n))) ∙ across_is c.args.n) (across c.args.n) (across_is c.args.n) _ _ (c.one.ensures (λ v. member (slot c.args.own.now c.args.first) v)))
