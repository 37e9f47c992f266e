-- The answer of `lab::lab_degree`, told: its place fits in the low half, and its floats are numbers.
use Rattle.refusal.specs.declared.Refusal.{Refusal}
use Rattle.std.specs.Prelude.{Result}
use Prim.Native.Nat.{ℕ}
use mathlib.Core.Path.{◌≡◌, sym, subst}
use mathlib.Core.List.{List}
use lib.IntN.{ℤ}
use mir.Syntax.{w64}
use mir.ValLaws.{to_z-of_z}
use Rattle.refusal.specs.Outcome.{Outcome}
use Rattle.degree.specs.Degree.{Value, outcome_of}
use Rattle.lab.specs.Lab.{lab_degree_of}
use Rattle.degree.specs.declared.Nearness.{Nearness}
use Rattle.reply.specs.Reply.{InHalf}
use Rattle.boundary.specs.Boundary.{value_told}
use Rattle.boundary.specs.inner.Fits.{NumbersIn}
use Rattle.boundary.proofs.laws.Boundary.{degrees_same}
use Rattle.promises.proofs.laws.InHalf.{lab_degree_in_half, lab_degree_numbers}
use borrow.Author.Rules.{rules}
use Rattle.promises.specs.Page as call
use Rattle.promises.specs.inner.Made.{two}
use Rattle.promises.proofs.laws.Computed.{every_call}
use Rattle.mill.proofs.mill_lab_degree.Goals as goal

-- the promise, of the target itself
asked : (bytes marks text : List ℕ) (g h : ℤ) (n : Result Nearness Refusal) → h ≡ g → outcome_of n ≡ lab_degree_of bytes marks text h → outcome_of n ≡ lab_degree_of bytes marks text g
asked bytes marks text g h n e a = subst (λ (z : ℤ). outcome_of n ≡ lab_degree_of bytes marks text z) e a

pub tell_degree-requires : goal.tell_degree-requires
tell_degree-requires c =
    let e = asked c.args.rec.now c.args.marks.now c.args.text.now c.args.target _ c.lab_degree-near.result (to_z-of_z w64 c.args.target c.ranges.target) c.lab_degree-near.ensures in (
      subst (λ (o : Outcome Value). InHalf (value_told o)) (sym e) (lab_degree_in_half c.args.rec.now c.args.marks.now c.args.text.now c.args.target),
      subst NumbersIn (sym e) (lab_degree_numbers c.args.rec.now c.args.marks.now c.args.text.now c.args.target),
    )

pub returns : goal.returns
returns c =
    every_call (call.lab_degree c.args.marks.now c.args.text.now c.args.target) c.args.rec.now _ _ _
    (two (degrees_same (asked c.args.rec.now c.args.marks.now c.args.text.now c.args.target _ c.lab_degree-near.result (to_z-of_z w64 c.args.target c.ranges.target) c.lab_degree-near.ensures) c.tell_degree.ensures))
