-- Document 01, "Kept readings", and demand 3: recordings that no text without F, G, X, U, W tells apart, if its after-times are among the marks.
use Rattle.std.specs.Prelude.{ℕ, ◌+◌, ◌≡◌, false, ◌↔◌, ℤ, ◌≤ℤ◌, ◌<ℤ◌}
use mathlib.Core.List.{List, map, Memᴰ}
use Rattle.number.specs.Axis.{origin}
use Rattle.recording.specs.Condition.{Condition, pick}
use Rattle.recording.specs.Reading.{Reading, Curve, value, Event, event, added}
use Rattle.grammar.specs.Syntax.{Text}
use Rattle.meaning.specs.Listed.{SomeRecord, After}
use Rattle.meaning.specs.Meaning.{reading_at, Holds}
use Rattle.meaning.specs.Overfull.{Overfull, TooManyTops}
use Rattle.grammar.specs.Size.{temporal, after_times}

-- the index of a mark on the axis
abbrev pub mark_index : ℕ → ℕ
mark_index m = m + origin

-- a text without F, G, X, U, W, whose after-times are among the marks
pub record Plain (marks : List ℕ) (p : Text) : Type 0 where
  pub propositional : temporal p ≡ false
  pub marked : (k : ℕ) → Memᴰ k (after_times p) → Memᴰ k (map mark_index marks)

-- the times of the records of which the condition holds
abbrev pub picked_times : Condition Reading → List Reading → List ℕ
picked_times ρ r = map (λ (x : Reading). x.time) (pick ρ r)

-- THE SAME OBSERVATION: the first reading, how far each curve goes up and down, also after each mark, and the times of every event and of the additions of every pigment
pub record Alike (marks : List ℕ) (r s : List Reading) : Type 0 where
  pub first : reading_at r 0 ≡ reading_at s 0
  pub up : (c : Curve) (z : ℤ) → SomeRecord r (λ x. z ≤ℤ value c x) ↔ SomeRecord s (λ x. z ≤ℤ value c x)
  pub down : (c : Curve) (z : ℤ) → SomeRecord r (λ x. value c x ≤ℤ z) ↔ SomeRecord s (λ x. value c x ≤ℤ z)
  pub up_after : (k : ℕ) → Memᴰ k (map mark_index marks) → (c : Curve) (z : ℤ)
      → SomeRecord r (λ x. After k x × (z <ℤ value c x)) ↔ SomeRecord s (λ x. After k x × (z <ℤ value c x))
  pub down_after : (k : ℕ) → Memᴰ k (map mark_index marks) → (c : Curve) (z : ℤ)
      → SomeRecord r (λ x. After k x × (value c x ≤ℤ z)) ↔ SomeRecord s (λ x. After k x × (value c x ≤ℤ z))
  pub events : (e : Event) → picked_times (event e) r ≡ picked_times (event e) s
  pub additions : (k : ℕ) → picked_times (added k) r ≡ picked_times (added k) s

-- the same truth for every number, and the same refusals 8 and 9
pub record Same (r s : List Reading) (p : Text) : Type 0 where
  pub truth : (z : ℤ) → Holds r z p 0 ↔ Holds s z p 0
  pub eight : Overfull r p ↔ Overfull s p
  pub nine : TooManyTops r p ↔ TooManyTops s p
