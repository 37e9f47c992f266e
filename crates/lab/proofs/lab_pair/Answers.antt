-- `lab::lab_pair` meets its contract: B is refused, and for another curve number 14 does not meet.
use mathlib.Core.Path.{sym, ap, ◌∙◌}
use Prim.Native.Nat.{ℕ}
use mir.Syntax.{w64}
use mir.ValLaws.{to_z-of_z}
use borrow.Author.Rules.{rules}
use Rattle.pair.specs.Pair.{pair_of}
use Rattle.lab.specs.Lab.{lab_pair_of}
use Rattle.lab.proofs.laws.Pair.{other_curve}
use Rattle.lab.proofs.lab_pair.Goals as goal

pub returns-then-curve-eq1 : goal.returns-then-curve-eq1
returns-then-curve-eq1 c =
    c.pair_of_b.ensures ∙ ap (lab_pair_of c.args.rec.now 1) (to_z-of_z w64 c.args.target c.ranges.target) ∙ ap (λ (k : ℕ). lab_pair_of c.args.rec.now k c.args.target) (sym c.if-curve-eq1.true)

pub returns : goal.returns
returns c =
    c.pair.ensures ∙ ap (pair_of c.args.rec.now c.args.curve) (to_z-of_z w64 c.args.target c.ranges.target) ∙ other_curve c.args.rec.now c.args.curve c.args.target c.if-curve-eq1.false
