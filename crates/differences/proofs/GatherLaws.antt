-- A set gathered run by run, in ascending order: it holds the part of f below some x, and one run too many is seen when it comes.
use Prim.Native.Nat.{ℕ, ◌+◌, ◌≤◌, ◌<◌}
use native.Mathlib.Omega.{arith}
use native.Mathlib.Decide.{dec_lt, ℕ_discrete}
use mathlib.Core.Path.{◌≡◌, refl, sym, ap, ◌∙◌}
use mathlib.Core.Bool.{Bool, true, false, ◌&&◌, ◌||◌, true≢false}
use mathlib.Core.List.{List}
use lib.Dec.{leb, ltb}
use borrow.Author.Tests.{le-leb, lt-leb, lt-ltb, le-ltb, ltb-true}
use Rattle.number.specs.Axis.{axis}
use Rattle.number.proofs.laws.Boolean.{and_left}
use Rattle.runs.specs.Runs.{run_count, most_runs}
use Rattle.std.specs.Prelude.{Result, Ok}
use Rattle.std.specs.Result.{is_err}
use Rattle.runs.specs.declared.TooManyRuns.{TooManyRuns}
use Rattle.runs.specs.Set.{member, Holds, Makes}
use Rattle.runs.proofs.laws.Runs.{run_count_ext, fewer_below}
use Rattle.runs.proofs.laws.Set.{holds_ext, holds_makes}
use Rattle.differences.specs.inner.Sweep.{Least}

pub or_false : (b : Bool) → (b || false) ≡ b
or_false true = refl
or_false false = refl

-- the words hold the part of f below x
pub record Gathered (f : ℕ → Bool) (x : ℕ) (words : List ℕ) : Type 0 where
  pub end : x ≤ axis
  pub held : Holds (λ v. ltb v x && f v) words

pub gathered_none : (f : ℕ → Bool) (x : ℕ) (words : List ℕ) → x ≤ axis → ((w : ℕ) → w < x → f w ≡ false) → Holds (λ v. false) words → Gathered f x words
gathered_none f x words h none w =
    record { end = h; held = holds_ext (λ v. false) (λ v. ltb v x && f v) words (λ v k. sym (by v (dec_lt v x))) w }
  where
    off : (b : Bool) → (b && false) ≡ false
    off true = refl
    off false = refl

    by : (v : ℕ) → Dec (v < x) → (ltb v x && f v) ≡ false
    by v (yes a) = ap (λ (b : Bool). ltb v x && b) (none v a) ∙ off (ltb v x)
    by v (no a) = ap (λ (b : Bool). b && f v) (le-ltb v x (omega arith))

-- g is the part of f below e
module _ (f : ℕ → Bool) (e : ℕ) (end : e ≤ axis) (g : ℕ → Bool) (part : (v : ℕ) → v < axis → g v ≡ (ltb v e && f v)) {A : Type 0} (after : List ℕ) (r : Result A TooManyRuns) (m : Makes g after r) where
  pub gathered_more : is_err r ≡ false → Gathered f e after
  gathered_more o = record { end = end; held = holds_ext g (λ v. ltb v e && f v) after part (m.holds o) }

  -- it has no more runs than f
  pub gathered_many : is_err r ≡ true → Makes f after r
  gathered_many o =
      record {
        flag = o ∙ sym (lt-ltb most_runs (run_count f) (omega (arith, many, run_count_ext g (λ v. ltb v e && f v) part, fewer_below f e)));
        holds = λ z. absurd (true≢false (sym o ∙ z));
      }
    where
      many : most_runs < run_count g
      many = ltb-true most_runs (run_count g) (sym m.flag ∙ o)

module _ (f : ℕ → Bool) (x : ℕ) (words : List ℕ) (g : Gathered f x words) where
  -- nothing comes from x on
  pub gathered_end : ((w : ℕ) → x ≤ w → w < axis → f w ≡ false) → {A : Type 0} {a : A} → Makes f words (Ok a)
  gathered_end gap = holds_makes f words (holds_ext (λ v. ltb v x && f v) f words (λ v k. by v k (dec_lt v x)) g.held)
    where
      by : (v : ℕ) → v < axis → Dec (v < x) → (ltb v x && f v) ≡ f v
      by v k (yes a) = rw (lt-ltb v x a)
      by v k (no a) = rw (le-ltb v x (omega arith)) (sym (gap v (omega arith) k))

  -- all members lie below x
  pub gathered_below : (v : ℕ) → v < axis → member words v ≡ true → v < x
  gathered_below v h m = ltb-true v x (and_left (ltb v x) (f v) (sym (g.held.members v h) ∙ m))

  -- the number x, where it is one
  pub one-part : (k : Bool) → f x ≡ k → (v : ℕ) → v < axis → (member words v || (k && (leb x v && leb v x))) ≡ (ltb v (x + 1) && f v)
  one-part k e v h = ap (λ (b : Bool). b || (k && (leb x v && leb v x))) (g.held.members v h) ∙ by k e (dec_lt v x) (ℕ_discrete v x)
    where
      by : (k : Bool) → f x ≡ k → Dec (v < x) → Dec (v ≡ x) → ((ltb v x && f v) || (k && (leb x v && leb v x))) ≡ (ltb v (x + 1) && f v)
      by true e (yes a) b = rw (lt-ltb v x a, lt-leb x v a, lt-ltb v (x + 1) (omega arith)) (or_false (f v))
      by false e (yes a) b = rw (lt-ltb v x a, lt-ltb v (x + 1) (omega arith)) (or_false (f v))
      by true e (no a) (yes b) = rw (le-ltb v x (omega arith), le-leb x v (omega arith), le-leb v x (omega arith), lt-ltb v (x + 1) (omega arith)) (sym (ap f b ∙ e))
      by false e (no a) (yes b) = rw (le-ltb v x (omega arith), lt-ltb v (x + 1) (omega arith)) (sym (ap f b ∙ e))
      by true e (no a) (no b) = rw (le-ltb v x (omega arith), le-leb x v (omega arith), lt-leb v x (omega arith), le-ltb v (x + 1) (omega arith))
      by false e (no a) (no b) = rw (le-ltb v x (omega arith), le-ltb v (x + 1) (omega arith))

  -- a run from d up to high, d being the least from x on, and e the number behind it
  module _ (d high e : ℕ) (behind : e ≡ high + 1) (s : Least f x d) (grows : d < e) (end : e ≤ axis) (full : (v : ℕ) → d ≤ v → v < e → f v ≡ true) where
    -- all members lie below it
    pub gathered_behind : (v : ℕ) → v < axis → member words v ≡ true → v < d
    gathered_behind v h m = omega (arith, gathered_below v h m, s.low)

    run_more : (v : ℕ) → v < axis → (member words v || (leb d v && leb v high)) ≡ (ltb v e && f v)
    run_more v h = ap (λ (b : Bool). b || (leb d v && leb v high)) (g.held.members v h) ∙ by (dec_lt v x) (dec_lt v d) (dec_lt v e)
      where
        by : Dec (v < x) → Dec (v < d) → Dec (v < e) → ((ltb v x && f v) || (leb d v && leb v high)) ≡ (ltb v e && f v)
        by (yes a) b c =
            let low = s.low in rw (lt-ltb v x a, lt-leb d v (omega arith), lt-ltb v e (omega arith)) (or_false (f v))
        by (no a) (yes b) c = rw (le-ltb v x (omega arith), lt-leb d v b, lt-ltb v e (omega arith)) (sym (s.gap v (omega arith) b))
        by (no a) (no b) (yes c) =
            rw (le-ltb v x (omega arith), le-leb d v (omega arith), le-leb v high (omega arith), lt-ltb v e c) (sym (full v (omega arith) c))
        by (no a) (no b) (no c) = rw (le-ltb v x (omega arith), le-leb d v (omega arith), lt-leb v high (omega arith), le-ltb v e (omega arith))

    module _ {A : Type 0} (after : List ℕ) (r : Result A TooManyRuns) (m : Makes (λ v. member words v || (leb d v && leb v high)) after r) where
      pub gathered_run : is_err r ≡ false → Gathered f e after
      gathered_run = gathered_more f e end _ run_more after r m

      pub gathered_over : is_err r ≡ true → Makes f after r
      gathered_over = gathered_many f e end _ run_more after r m
