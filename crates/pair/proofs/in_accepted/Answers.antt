-- `pair::in_accepted` meets its contract. Each test of the code is a line of the table, in the table's order. Assumes nothing.
use Rattle.refusal.specs.declared.Refusal.{Refusal}
use Rattle.std.specs.Prelude.{Some, None, Result, Err, Option}
use borrow.Author.Rules.{rules}
use borrow.Author.Tests.{lt-ltb, le-ltb, eq-eqb, ne_eqb}
use mathlib.Core.Path.{◌≡◌, refl, sym, ap, ap₂, ◌∙◌, subst}
use mathlib.Core.Bool.{Bool, true, ◌||◌}
use mathlib.Core.List.{List, [], ◌∷◌}
use Prim.Native.Nat.{ℕ, ◌/◌, ◌≤◌, ◌<◌}
use lib.Dec.{ltb}
use lib.ListN.{length}
use lib.IntN.{ℤ}
use Rattle.number.specs.Axis.{whole}
use Rattle.refusal.specs.Outcome.{judged}
use Rattle.refusal.specs.declared.Refusal.TheVariants.{NoRecord, BadTarget}
use Rattle.number.proofs.laws.Boolean.{or_right}
use Rattle.recording.specs.Recording.{records, readings}
use Rattle.recording.proofs.laws.Record.{length-records}
use Rattle.targets.specs.Target.{off_axis, Placed, bad_target}
use Rattle.targets.proofs.laws.Target.{placed-handed}
use Rattle.pair.specs.declared.TopPair.{TopPair}
use Rattle.pair.specs.Pair.{Given, first_pair, too_many_tops, accepted_lines, outcome_of}
use Rattle.recording.specs.Recording.{no_record}
use Rattle.pair.proofs.laws.Pair.{answer-first, answer_pass}
use Rattle.recording.specs.Reading.{curve_of}
use Rattle.pair.proofs.in_accepted.Goals as goal

module _ (bytes : List ℕ) (n : ℕ) (e : n ≡ length bytes / 16) (curve : ℕ) (g : ℤ) where
  abbrev given : Given
  given = first_pair (readings bytes) (curve_of curve) g

  count : length (records bytes) ≡ n
  count = length-records bytes ∙ sym e

  empty : n ≡ 0 → outcome_of (Err NoRecord) ≡ judged (accepted_lines bytes curve g) given
  empty z =
      answer-first given (no_record bytes) _ NoRecord (eq-eqb _ 0 (count ∙ z)) refl refl

  module _ (some : n ≡ 0 → ⊥) where
    past_empty : (p : Result (Option TopPair) Refusal) → outcome_of p ≡ judged (bad_target curve g ∷ too_many_tops bytes curve ∷ []) given
        → outcome_of p ≡ judged (accepted_lines bytes curve g) given
    past_empty p a =
        answer_pass given (no_record bytes ∷ []) (bad_target curve g ∷ too_many_tops bytes curve ∷ []) p
        (ne_eqb (length (records bytes)) 0 (λ z. some (sym count ∙ z)), tt) a

    bad : (ltb 1 curve || off_axis g) ≡ true → outcome_of (Err BadTarget) ≡ judged (accepted_lines bytes curve g) given
    bad m =
        past_empty (Err BadTarget)
        (answer-first given (bad_target curve g) (too_many_tops bytes curve ∷ []) BadTarget m refl refl)

    no_curve : 1 < curve → outcome_of (Err BadTarget) ≡ judged (accepted_lines bytes curve g) given
    no_curve h = bad (ap (λ (b : Bool). b || off_axis g) (lt-ltb 1 curve h))

    off : Placed g None → outcome_of (Err BadTarget) ≡ judged (accepted_lines bytes curve g) given
    off h = bad (or_right (ltb 1 curve) (off_axis g) h)

    on : curve ≤ 1 → (index : ℕ) → Placed g (Some index) → (p : Result (Option TopPair) Refusal)
        → outcome_of p ≡ judged (too_many_tops bytes curve ∷ []) (first_pair (readings bytes) (curve_of curve) (whole index)) → outcome_of p ≡ judged (accepted_lines bytes curve g) given
    on h index o p a =
        past_empty p
        (answer_pass given (bad_target curve g ∷ []) (too_many_tops bytes curve ∷ []) p
        (ap₂ (λ (b d : Bool). b || d) (le-ltb 1 curve h) o.0, tt)
        (subst (λ (z : ℤ). outcome_of p ≡ judged (too_many_tops bytes curve ∷ []) (first_pair (readings bytes) (curve_of curve) z)) o.2 a))

pub returns-then-n-eq0 : goal.returns-then-n-eq0
returns-then-n-eq0 c =
    empty c.args.rec.now c.args.n c.requires.1 c.args.curve c.args.target c.if-n-eq0.true

pub returns-then-curve-gt1 : goal.returns-then-curve-gt1
returns-then-curve-gt1 c =
    no_curve c.args.rec.now c.args.n c.requires.1 c.args.curve c.args.target c.if-n-eq0.false c.if-curve-gt1.true

pub returns : goal.returns
returns c =
    on c.args.rec.now c.args.n c.requires.1 c.args.curve c.args.target c.if-n-eq0.false c.if-curve-gt1.false c.in-Some.index
    (placed-handed c.args.target c.ranges.target c.on_axis.result (Some c.in-Some.index) c.in-Some.is c.on_axis.ensures) c.tops_apart.result c.tops_apart.ensures

pub returns-in_default : goal.returns-in_default
returns-in_default c =
    off c.args.rec.now c.args.n c.requires.1 c.args.curve c.args.target c.if-n-eq0.false
    (placed-handed c.args.target c.ranges.target c.on_axis.result None c.in_default.is c.on_axis.ensures)
