-- Document 01, "Listed questions", and Papers 1 and 3: what each of them asks of a recording with the number z put in, in the words of its own sentence.
use Rattle.std.specs.Prelude.{ℕ, ◌<◌, ◌≡◌, List, length, get_or, ℤ, pos, ◌+ℤ◌, ◌-ℤ◌, ◌≤ℤ◌, ◌<ℤ◌}
use Rattle.std.proofs.Math.Bool.{So}
use Rattle.number.specs.Axis.{whole}
use Rattle.recording.specs.Condition.{Condition, holds_at}
use Rattle.recording.specs.Reading.{Reading, Curve, A, B, value, top, dip, crossing, upcrossing, added, nothing}
use Rattle.grammar.specs.Syntax.{Listed, high, low, lowafter, capafter, peaks, dips, cross, crossup, dose, ampl, gaps, steps, lag}

-- record i
abbrev pub record_at : List Reading → ℕ → Reading
record_at r i = get_or r i nothing

-- at some record
abbrev pub SomeRecord : List Reading → (Reading → Type 0) → Type 0
SomeRecord r P = (i : ℕ) × (i < length r) × P (record_at r i)

-- at each record
abbrev pub EachRecord : List Reading → (Reading → Type 0) → Type 0
EachRecord r P = (i : ℕ) → i < length r → P (record_at r i)

-- record i is one of which the condition holds
abbrev pub Meets : Condition Reading → List Reading → ℕ → Type 0
Meets ρ r i = (i < length r) × So (holds_at nothing ρ r i)

-- record i is a top of c
abbrev pub Top : Curve → List Reading → ℕ → Type 0
Top c = Meets (top c)

-- T
abbrev pub time_of : Reading → ℤ
time_of x = pos x.time

-- T > k
abbrev pub After : ℕ → Reading → Type 0
After k x = whole k <ℤ time_of x

-- z is the time of a record of which the condition holds
abbrev pub TimeOf : Condition Reading → List Reading → ℤ → Type 0
TimeOf ρ r z = (i : ℕ) × Meets ρ r i × (time_of (record_at r i) ≡ z)

-- the time of record j minus that of record i
abbrev pub between : List Reading → ℕ → ℕ → ℤ
between r i j = time_of (record_at r j) -ℤ time_of (record_at r i)

-- j comes next after i among the records that have P
abbrev pub Neighbours : (ℕ → Type 0) → ℕ → ℕ → Type 0
Neighbours P i j = (i < j) × ((k : ℕ) → i < k → k < j → ¬ P k)

unfoldable pub Says : Listed → List Reading → ℤ → Type 0
-- c ≥ v at some record; c ≤ v at some record
Says (high c) r z = SomeRecord r (λ x. z ≤ℤ value c x)
Says (low c) r z = SomeRecord r (λ x. value c x ≤ℤ z)
-- T > k and c ≤ v at some record; c ≤ v at each record with T > k
Says (lowafter c k) r z = SomeRecord r (λ x. After k x × (value c x ≤ℤ z))
Says (capafter c k) r z = EachRecord r (λ x. After k x → value c x ≤ℤ z)
-- v is the time of a top of c, of a dip of c, of a crossing, of an upward crossing
Says (peaks c) r z = TimeOf (top c) r z
Says (dips c) r z = TimeOf (dip c) r z
Says cross r z = TimeOf crossing r z
Says crossup r z = TimeOf upcrossing r z
-- v is the time of a record at which pigment k is added
Says (dose k) r z = TimeOf (added k) r z
-- some whole w has c ≤ w at a record and c ≥ w + v at a record
Says (ampl c) r z = (w : ℤ) × SomeRecord r (λ x. value c x ≤ℤ w) × SomeRecord r (λ x. (w +ℤ z) ≤ℤ value c x)
-- v is a later top's time minus an earlier top's
Says (gaps c) r z = (i : ℕ) × (j : ℕ) × (i < j) × Top c r i × Top c r j × (between r i j ≡ z)
-- the same, neighbouring tops only
Says (steps c) r z = (i : ℕ) × (j : ℕ) × Neighbours (Top c r) i j × Top c r i × Top c r j × (between r i j ≡ z)
-- v is the time of a top of B minus the time of a top of A, any pair
Says lag r z = (i : ℕ) × (j : ℕ) × Top A r i × Top B r j × (between r i j ≡ z)
