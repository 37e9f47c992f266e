-- The greatest and the least value of a curve among the records after an after-time.
use Rattle.std.specs.Prelude.{◌≡◌, ℕ, ◌<◌, ◌≤◌, min, max, Bool, true, false, ◌&&◌, ◌||◌, ◌⊎◌, List, nat_le, nat_lt}
use Rattle.number.specs.Axis.{axis}
use Rattle.recording.specs.Reading.{Curve}
use Rattle.meaning.specs.inner.Coded.{Coded, coded_value, coded_after}
use Rattle.recording.specs.Condition.{some_of}

-- upwards: x is above n; downwards: x is at most n
abbrev pub beyond : Bool → ℕ → ℕ → Bool
beyond true n x = nat_lt n x
beyond false n x = nat_le x n

-- upwards the greater of two, downwards the lesser
abbrev pub farther : Bool → ℕ → ℕ → ℕ
farther true m x = max m x
farther false m x = min m x

-- m goes as far as the records after k go: it is beyond n if and only if one of them is. Where there are none, 0 upwards and the end of the axis downwards
pub record Extreme (up : Bool) (c : Curve) (k : ℕ) (r : List Coded) (m : ℕ) : Type 0 where
  pub most : m ≤ axis
  pub inside : up ≡ true → m < axis
  pub tests : (n : ℕ) → n < axis → some_of (λ x. coded_after k x && beyond up n (coded_value c x)) r ≡ beyond up n m

-- one record more: from m to m'
pub record Passes (up : Bool) (c : Curve) (k : ℕ) (x : Coded) (m m' : ℕ) : Type 0 where
  pub one : (m' ≡ m) ⊎ (m' < axis)
  pub tests : (n : ℕ) → beyond up n m' ≡ (beyond up n m || (coded_after k x && beyond up n (coded_value c x)))
