-- Ascending times, one after another: each is the least from the times passed on.
use Prim.Native.Nat.{ℕ, ◌+◌, ◌≤◌, ◌<◌}
use native.Mathlib.Omega.{arith}
use native.Mathlib.Nat.{eq-or-lt_of_le}
use native.Mathlib.Decide.{dec_lt}
use mathlib.Core.Path.{◌≡◌, refl, sym, ap, ◌∙◌}
use mathlib.Core.Bool.{Bool, true, false}
use mathlib.Core.Logic.{◌⊎◌, inl, inr, ⊎_elim}
use mathlib.Core.List.{List}
use lib.Dec.{eqb}
use lib.ListN.{length, get_or}
use borrow.Author.Tests.{eqb-true, eq-eqb}
use Rattle.number.specs.Axis.{axis}
use Rattle.meaning.proofs.laws.Pick.{some_at, some_find}
use Rattle.differences.specs.inner.Times.{Times, time_set}
use Rattle.differences.specs.inner.Sweep.{Least}

pub times_up : (l : List ℕ) → Times l → (i j : ℕ) → i ≤ j → j < length l → get_or l i 0 ≤ get_or l j 0
times_up l t i j h k = ⊎_elim (λ e. let q = ap (λ (i : ℕ). get_or l i 0) e in omega arith) (λ g. omega (arith, t.ascending i j g k)) (eq-or-lt_of_le h)

-- the times before place i lie below x, the others do not
pub record Parted (l : List ℕ) (i x : ℕ) : Type 0 where
  pub below : (k : ℕ) → k < i → k < length l → get_or l k 0 < x
  pub above : (k : ℕ) → i ≤ k → k < length l → x ≤ get_or l k 0

pub parted_start : (l : List ℕ) → Parted l 0 0
parted_start l = record { below = λ k a b. absurd (omega arith); above = λ k a b. omega arith }

at_place : (l : List ℕ) (k : ℕ) → k < length l → time_set l (get_or l k 0) ≡ true
at_place l k h = some_at 0 (eqb (get_or l k 0)) l k h (eq-eqb (get_or l k 0) (get_or l k 0) refl)

-- a number that no place has
not_there : (l : List ℕ) (v : ℕ) → ((k : ℕ) → k < length l → get_or l k 0 ≡ v → ⊥) → time_set l v ≡ false
not_there l v none = go (time_set l v) refl
  where
    go : (e : Bool) → time_set l v ≡ e → e ≡ false
    go false h = refl
    go true h = let f = some_find 0 (eqb v) l h in absurd (none f.0 f.1 (sym (eqb-true v (get_or l f.0 0) f.2)))

pub nothing_left : (l : List ℕ) (i x : ℕ) → Parted l i x → length l ≤ i → (v : ℕ) → x ≤ v → v < axis → time_set l v ≡ false
nothing_left l i x p h v a b = not_there l v (λ k m e. omega (arith, p.below k (omega arith) m))

module _ (l : List ℕ) (t : Times l) (i x : ℕ) (p : Parted l i x) (h : i < length l) where
  pub on-axis : get_or l i 0 < axis
  on-axis = omega (arith, t.most i h)

  pub time-least : Least (time_set l) x (get_or l i 0)
  time-least = record {
    low = p.above i (omega arith) h;
    end = omega (arith, on-axis);
    here = λ z. at_place l i h;
    gap = λ v a b. not_there l v (λ k m e. ⊎_elim
        (λ c. absurd (omega (arith, times_up l t i k c m)))
        (λ c. absurd (omega (arith, p.below k c m))) (side k (dec_lt k i)));
  }
    where
      side : (k : ℕ) → Dec (k < i) → (i ≤ k) ⊎ (k < i)
      side k (yes c) = inr c
      side k (no c) = inl (omega arith)

  -- it alone is passed
  pub alone : (v : ℕ) → get_or l i 0 ≤ v → v < get_or l i 0 + 1 → time_set l v ≡ true
  alone v a b = let e : v ≡ get_or l i 0 = omega arith in ap (time_set l) e ∙ at_place l i h

  pub parted_on : Parted l (i + 1) (get_or l i 0 + 1)
  parted_on = record {
    below = λ k a b. omega (arith, times_up l t k i (omega arith) h);
    above = λ k a b. omega (arith, t.ascending i k (omega arith) b);
  }
