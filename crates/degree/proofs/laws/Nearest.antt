-- Demand 2, of the degree call: each value says what document 01 says of it, over the meaning of the text's one reading.
use Rattle.std.specs.Prelude.{ℕ, suc, ◌+◌, ◌-◌, ◌≤◌, ◌<◌, ◌≡◌, refl, List, ◌∷◌, ◌++◌, Bool, true, false, cond, eqb, ltb, ℤ, pos, negsuc, Float}
use Rattle.std.proofs.Common.{arith, sym, ap, subst, ◌∙◌, ltb-true, ltb-false, eqb-true}
use Rattle.std.specs.Float.Ieee.Exact.{HasValue}
use Rattle.std.proofs.lemmas.Bool.{eqb-false}
use Rattle.number.specs.Axis.{axis, origin, whole}
use Rattle.refusal.specs.Outcome.{result}
use Rattle.recording.specs.Reading.{Reading}
use Rattle.recording.specs.Recording.{Accepted, readings, recording_lines, no_record}
use Rattle.recording.proofs.laws.Outcome.{result_none, none_append}
use Rattle.runs.specs.Distance.{distance}
use Rattle.runs.proofs.laws.Distance.{distance_least, distance-reached}
use Rattle.grammar.specs.Syntax.{Text}
use Rattle.text.specs.Told.{text_lines}
use Rattle.meaning.specs.inner.Coded.{index}
use Rattle.meaning.proofs.laws.Recorded.{accepted_recorded}
use Rattle.meaning.proofs.laws.Truth.{val_holds}
use Rattle.question.specs.Question.{read, answer, asking_lines, set_lines}
use Rattle.question.proofs.laws.Lines.{read_reads, reads_read}
use Rattle.number.proofs.laws.Boolean.{none_left}
use Rattle.binary64.specs.Apart.{apart}
use Rattle.binary64.specs.Degree.{distance_of, degree_of}
use Rattle.binary64.proofs.laws.Degree.{distance_exact}
use Rattle.targets.specs.Target.{off_axis}
use Rattle.targets.proofs.laws.Target.{sub_above, sub_below}
use Rattle.degree.specs.Degree.{away, nowhere, Value, met, short, graded, valued, value_of, target_line, nearness_of}
use Rattle.degree.specs.Nearest.{Member, Distance, TrueOf, Near}

module _ (bytes text : List ℕ) (a : Accepted bytes) (v : ℕ) (h : v < axis) where
  -- the answered set
  abbrev set : ℕ → Bool
  set = answer bytes text

  true_member : (n : ℕ) → set n ≡ true → Member (readings bytes) (read text) n
  true_member n e = (val_holds (readings bytes) (accepted_recorded bytes a).in-range n (read text) 0 (omega arith)).0 e

  member_true : (n : ℕ) → Member (readings bytes) (read text) n → set n ≡ true
  member_true n m = (val_holds (readings bytes) (accepted_recorded bytes a).in-range n (read text) 0 (omega arith)).1 m

  -- where there is a member
  graded-says : distance set v < axis → TrueOf (readings bytes) (read text) v (graded (distance set v))
  graded-says some = by (eqb (distance set v) 0) refl
    where
      near : (w : ℕ) × (w < axis) × (set w ≡ true) × (apart v w ≡ distance set v)
      near = distance-reached set v h some

      by : (b : Bool) → eqb (distance set v) 0 ≡ b → TrueOf (readings bytes) (read text) v (cond b met (short (distance_of (distance set v)) (degree_of (distance set v))))
      by true e =
          let z : distance set v ≡ 0 = eqb-true (distance set v) 0 e in
          let same : near.0 ≡ v = omega (arith, near.3, z) in
          true_member v (ap set (sym same) ∙ near.2)
      by false e = (
        distance set v,
        omega (arith, eqb-false (distance set v) 0 e),
        record {
          nearest = near.0;
          on-axis = near.1;
          member = true_member near.0 near.2;
          there = near.3;
          least = λ w hw m. distance_least set v h w hw (member_true w m);
        },
        refl,
        refl,
      )

  value-says : TrueOf (readings bytes) (read text) v (value_of set v)
  value-says = by (ltb (distance set v) axis) refl
    where
      by : (b : Bool) → ltb (distance set v) axis ≡ b → TrueOf (readings bytes) (read text) v (valued (cond b (away (distance set v)) nowhere))
      by true e = graded-says (ltb-true (distance set v) axis e)
      by false e = λ w hw m. omega (arith, ltb-false (distance set v) axis e, distance_least set v h w hw (member_true w m))

-- a target that 12 does not refuse is a number of the axis
pub on-axis : (g : ℤ) → off_axis g ≡ false → (index g < axis) × (whole (index g) ≡ g)
on-axis (pos n) h =
    let b : n ≤ origin = ltb-false origin n h in
    let e : n + origin - origin ≡ n = omega arith in
    (omega arith, sub_above (n + origin) origin (omega arith) ∙ ap pos e)
on-axis (negsuc n) h =
    let b : n ≤ 1999999999 = ltb-false 1999999999 n (none_left (ltb 1999999999 n) _ h) in
    let e : origin - suc (origin - suc n) ≡ n = omega arith in
    (omega arith, sub_below (origin - suc n) origin (omega arith) ∙ ap negsuc e)

-- DEMAND 2, of the degree call: the target is a number of the axis, and the value says what it is to say of it
pub nearness_says : (bytes text : List ℕ) (g : ℤ) (x : Value) → nearness_of bytes text g ≡ result x → (index g < axis) × (whole (index g) ≡ g) × Near bytes text (index g) x
unfolding nearness_of
nearness_says bytes text g x e =
    let k = result_none (asking_lines bytes text ++ (target_line g ∷ set_lines bytes (read text))) (value_of (answer bytes text) (index g)) x e in
    let m = none_append (asking_lines bytes text) (target_line g ∷ set_lines bytes (read text)) k.0 in
    let a = none_append (recording_lines bytes) (no_record bytes ∷ text_lines text) m.0 in
    let t = on-axis g m.1.0 in (
      t.0,
      t.1,
      record {
        tree = read text;
        reads = read_reads text a.1.1.1.0;
        only = λ u r. sym (reads_read text u r);
        says = subst (TrueOf (readings bytes) (read text) (index g)) k.1 (value-says bytes text a.0 (index g) t.0);
      },
    )

-- THE DISTANCE OF A MISSED TARGET IS EXACT: the float is the whole number
pub short_exact : (r : List Reading) (p : Text) (v : ℕ) → v < axis → (x k : Float) → TrueOf r p v (short x k) → (d : ℕ) × Distance r p v d × HasValue x false d 1
short_exact r p v h x k (d, above, far, same, of) =
    (d, far, subst (λ (y : Float). HasValue y false d 1) (sym same) (distance_exact d (omega (arith, far.on-axis, far.there))))
