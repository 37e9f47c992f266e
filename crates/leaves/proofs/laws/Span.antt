-- Spans: rays and points of the axis, and what a relation to a number selects.
use Rattle.std.specs.Prelude.{◌≡◌, ℕ, ◌+◌, ◌-◌, ◌<◌, ◌≤◌, Bool, true, ◌&&◌, eqb, ltb, leb, List, nat_le, nat_lt, Ok}
use Rattle.std.proofs.Common.{arith, ◌∙◌, le-leb, leb-true, eqb-true, eq-eqb, ltb-true, lt-ltb}
use Rattle.number.specs.Axis.{axis}
use Rattle.runs.specs.Set.{Holds, Makes}
use Rattle.runs.proofs.laws.Set.{holds_ext, holds_makes}
use Rattle.number.proofs.laws.Boolean.{same, and_left, and_right, and_make}
use Rattle.leaves.specs.declared.span.Span.{Span}
use Rattle.leaves.specs.inner.Span.{Spans}

abbrev span : ℕ → ℕ → Span
span l h = record { low = l; high = h }

-- the end of the axis
abbrev end : ℕ
end = 4000000000

pub spans_ext : (f g : ℕ → Bool) (s : Span) → ((v : ℕ) → v < axis → f v ≡ g v) → Spans f s → Spans g s
spans_ext f g s e w = record { inside = w.inside; members = λ v h. w.members v h ∙ e v h }

-- from a test on v to the two tests of a span
module _ (f : ℕ → Bool) (low high : ℕ) (h : high < axis) where
  pub spans_by : ((v : ℕ) → v < axis → f v ≡ true → (low ≤ v) × (v ≤ high)) → ((v : ℕ) → low ≤ v → v ≤ high → f v ≡ true) → Spans f (span low high)
  spans_by to from = record {
    inside = h;
    members = λ v g. same _ _
        (λ e. from v (leb-true low v (and_left (nat_le low v) (nat_le v high) e)) (leb-true v high (and_right (nat_le low v) (nat_le v high) e)))
        (λ e. and_make (nat_le low v) (nat_le v high) (le-leb low v (to v g e).0) (le-leb v high (to v g e).1));
  }

-- v ≤ x, v < x, v ≥ x (v > x is v ≥ x + 1), v = x
pub spans_upto : (x : ℕ) → x < axis → Spans (λ v. leb v x) (span 0 x)
spans_upto x h = spans_by (λ v. leb v x) 0 x h (λ v g e. (omega arith, leb-true v x e)) (λ v a b. le-leb v x b)

pub spans_below : (x : ℕ) → 0 < x → x < axis → Spans (λ v. ltb v x) (span 0 (x - 1))
spans_below x p h =
    spans_by (λ v. ltb v x) 0 (x - 1) (omega arith) (λ v g e. let l = ltb-true v x e in (omega arith, omega arith)) (λ v a b. lt-ltb v x (omega arith))

pub spans_from : (x : ℕ) → Spans (λ v. leb x v) (span x end)
spans_from x = spans_by (λ v. leb x v) x end (omega arith) (λ v g e. (leb-true x v e, omega arith)) (λ v a b. le-leb x v a)

pub above_from : (x v : ℕ) → nat_le (x + 1) v ≡ nat_lt x v
above_from x v = same _ _ (λ e. lt-ltb x v (omega (arith, leb-true (x + 1) v e))) (λ e. le-leb (x + 1) v (omega (arith, ltb-true x v e)))

pub spans_point : (x : ℕ) → x < axis → Spans (λ v. eqb v x) (span x x)
spans_point x h =
    spans_by (λ v. eqb v x) x x h (λ v g e. let l = eqb-true v x e in (omega arith, omega arith)) (λ v a b. eq-eqb v x (omega arith))

-- nothing is below the low end
pub spans_low : Spans (λ v. ltb v 0) (span 1 0)
spans_low = spans_by (λ v. ltb v 0) 1 0 (omega arith) (λ v g e. absurd (none v (ltb-true v 0 e))) (λ v a b. absurd (omega arith))
  where
    none : (v : ℕ) → v < 0 → ⊥
    none v h = omega arith

-- THE SET OF A SPAN
pub spans_make : (f : ℕ → Bool) (s : Span) (words : List ℕ) → Spans f s → Holds (λ v. nat_le s.low v && nat_le v s.high) words → {A : Type 0} {x : A} → Makes f words (Ok x)
spans_make f s words w h = holds_makes f words (holds_ext (λ v. nat_le s.low v && nat_le v s.high) f words w.members h)
