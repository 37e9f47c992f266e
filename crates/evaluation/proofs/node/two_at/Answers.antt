-- The step is lent the slot of its node, and the slots of its children.
use mathlib.Core.Path.{sym, subst, ◌∙◌}
use native.Mathlib.Omega.{arith}
use lib.ListN.{length-drop}
use lib.Seq.{length-take-le}
use Rattle.runs.specs.Set.{member, Valid}
use Rattle.evaluation.specs.inner.Step.{binary_of}
use Rattle.evaluation.proofs.laws.Slots.{across, across_is, made_in, puts_lists}
use Rattle.evaluation.proofs.node.two_at.Goals as goal

pub set_in-requires : goal.set_in-requires
set_in-requires c =
    (c.requires.6, c.requires.3)

pub set_in-requires-2 : goal.set_in-requires-2
set_in-requires-2 c =
    (c.requires.6, c.requires.4)

pub set_in-requires-3 : goal.set_in-requires-3
set_in-requires-3 c =
    (c.requires.6, c.requires.2)

pub two-requires : goal.two-requires
two-requires c = (
  c.requires.0,
  c.requires.1,
  subst Valid (sym c.set_in.ensures) c.requires.7,
  subst Valid (sym c.set_in-2.ensures) c.requires.8,
  (λ e k. subst Valid (sym c.set_in-3.ensures) (c.requires.9 e k)),
  c.requires.10,
  length-take-le (across c.args.n) _ (simp length-drop (omega (arith, c.requires.5, c.requires.2, across_is c.args.n))) ∙ across_is c.args.n,
)

pub returns : goal.returns
returns c =
    puts_lists (λ a b d v. binary_of c.args.kind c.args.last (member a v) (member b v) (member d v)) _ _ _ _
    c.set_in.ensures c.set_in-2.ensures c.set_in-3.ensures
    (made_in c.args.own.now _ c.args.n c.requires.5 c.requires.2 (c.two.auto.out ∙ length-take-le (across c.args.n) _ (simp length-drop (omega (arith, c.requires.5, c.requires.2, across_is c.args.n))) ∙ across_is c.args.n) (across c.args.n) (across_is c.args.n) _ _ c.two.ensures)
