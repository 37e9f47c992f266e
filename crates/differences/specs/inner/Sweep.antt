-- What the searches for differences promise: a sweep, which sees those of a window and finds the next, and a walk, which finds the next alone.
use Rattle.std.specs.Prelude.{ℕ, ◌+◌, ◌-◌, ◌≤◌, ◌<◌, min, ◌≡◌, Bool, true, false, ◌&&◌, ◌||◌, List, leb, ltb, length, get_or, Result, IfOk}
use Rattle.number.specs.Axis.{origin, axis}
use Rattle.meaning.specs.inner.Truth.{apart}
use Rattle.recording.specs.Condition.{some_of}
use Rattle.runs.specs.declared.TooManyRuns.{TooManyRuns}
use Rattle.runs.specs.Set.{member, Makes}

-- how many numbers one sweep sees
abbrev pub window_size : ℕ
window_size = 1024

-- s is the index of a time, 0 to 2,000,000,000
abbrev pub Time : ℕ → Type 0
Time s = (origin ≤ s) × (s ≤ origin + origin)

-- ---- sets of numbers

-- n is the index of a time of b minus s
abbrev pub row_of : ℕ → List ℕ → ℕ → Bool
row_of s b n = some_of (apart n s) b

-- the part of f from `low` on
abbrev pub from : ℕ → (ℕ → Bool) → ℕ → Bool
from low f v = leb low v && f v

-- v is seen, w saying which numbers from x on are, and lies before `end`
abbrev pub shown : List Bool → ℕ → ℕ → ℕ → Bool
shown w x end v = leb x v && (ltb v end && get_or w (v - x) false)

-- d is the least member of f from x on, or the end of the axis where there is none
pub record Least (f : ℕ → Bool) (x d : ℕ) : Type 0 where
  pub low : x ≤ d
  pub end : d ≤ axis
  pub here : d < axis → f d ≡ true
  pub gap : (v : ℕ) → x ≤ v → v < d → f v ≡ false

-- ---- one row

-- the times of b before place j, minus s, are under x
abbrev pub Under : List ℕ → ℕ → ℕ → ℕ → Type 0
Under b s x j = (l : ℕ) → l < j → l < length b → get_or b l 0 + origin < s + x

-- just those are
pub record Parts (b : List ℕ) (s x j : ℕ) : Type 0 where
  pub within : j ≤ length b
  pub under : Under b s x j
  pub over : (l : ℕ) → j ≤ l → l < length b → s + x ≤ get_or b l 0 + origin

-- e lies behind the differences before place j, in the window from x on
pub record Behind (b : List ℕ) (s x j e : ℕ) : Type 0 where
  pub low : x ≤ e
  pub few : e ≤ x + window_size
  pub on-axis : e ≤ axis
  pub under : Under b s e j

-- r is the difference at place j, or the end of the axis
pub record Beyond (b : List ℕ) (s j r : ℕ) : Type 0 where
  pub there : j < length b → s + r ≡ get_or b j 0 + origin
  pub none : length b ≤ j → r ≡ axis

-- ---- a sweep

-- of the numbers from x on, w says that those are seen that v says, and the members of f
pub record Seen (f : ℕ → Bool) (x : ℕ) (v w : List Bool) : Type 0 where
  pub long : length w ≡ window_size
  pub is : (t : ℕ) → t < window_size → get_or w t false ≡ (get_or v t false || f (x + t))

-- no member of f lies from `end`, in the window from x on, up to before `next`: the first member behind that window, or the end of the axis
pub record Found (f : ℕ → Bool) (x end next : ℕ) : Type 0 where
  pub low : x ≤ end
  pub few : end ≤ x + window_size
  pub on-axis : end ≤ axis
  pub on : min (x + window_size) axis ≤ next
  pub stop : next ≤ axis
  pub here : next < axis → f next ≡ true
  pub gap : (v : ℕ) → end ≤ v → v < next → f v ≡ false

-- ---- one turn

-- the set in `words` with the members of f from x up to before `next`, which is a member or the end of the axis: it is in `after`,
-- and r is `next`; or it has too many runs
pub record Extends (f : ℕ → Bool) (x : ℕ) (words after : List ℕ) (r : Result ℕ TooManyRuns) : Type 0 where
  pub next : ℕ
  pub is : IfOk r (λ n. n ≡ next)
  pub on : x < next
  pub stop : next ≤ axis
  pub here : next < axis → f next ≡ true
  pub made : Makes (λ v. member words v || (leb x v && (ltb v next && f v))) after r

-- no member of f lies from `low` up to before x
pub record Begins (f : ℕ → Bool) (low x : ℕ) : Type 0 where
  pub begun : low ≤ x
  pub end : x ≤ axis
  pub gap : (v : ℕ) → low ≤ v → v < x → f v ≡ false
