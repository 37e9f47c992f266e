-- The root is evaluated at the first record, and its set is copied out.
use mathlib.Core.Path.{refl, sym, subst}
use native.Mathlib.Omega.{arith}
use Rattle.runs.specs.Set.{Valid}
use Rattle.parser.proofs.laws.Rows.{laid_above}
use Rattle.evaluation.proofs.laws.Walk.{flat_node, flat_over, flat_valid, flat_done, holds_same}
use Rattle.evaluation.proofs.at_first.Goals as goal

pub overflow_sub-root : goal.overflow_sub-root
overflow_sub-root c =
    omega (arith, laid_above c.requires.0.laid)

pub eval-requires : goal.eval-requires
eval-requires c =
    (flat_node c.args.table.now c.args.count c.args.rec.now c.requires.0 c.requires.1 _ _ refl refl, refl, c.requires.3)

pub returns-in_err-eval : goal.returns-in_err-eval
returns-in_err-eval c =
    flat_over c.args.table.now c.args.count c.args.rec.now c.requires.0 c.requires.1 _ _ _ _ refl refl _ c.in_err-eval.ensures.0 _ refl _ c.from_residual.ensures.0

pub set_in-requires : goal.set_in-requires
set_in-requires c =
    (c.in_ok-eval.ensures.1, omega (arith, laid_above c.requires.0.laid, c.requires.0.few))

pub copy-requires : goal.copy-requires
copy-requires c =
    (subst Valid (sym c.set_in.ensures) (flat_valid c.args.table.now c.args.count c.args.rec.now c.requires.0 c.requires.1 _ _ _ _ refl refl _ c.in_ok-eval.ensures.0 refl), c.requires.2)

pub returns : goal.returns
returns c =
    flat_done c.args.table.now c.args.count c.args.rec.now c.requires.0 c.requires.1 _ _ _ _ refl refl _ c.in_ok-eval.ensures.0 _ refl (holds_same _ c.set_in.ensures c.copy.ensures)
