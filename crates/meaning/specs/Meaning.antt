-- Document 01, "The question text", and Paper 3: what a text says of a recording at record i, with the number z put in for v.
-- It is linear temporal logic over a finite trace whose last reading repeats for ever.
use Rattle.std.specs.Prelude.{ℕ, suc, ◌-◌, ◌≤◌, ◌<◌, min, ◌≡◌, ◌⊎◌, List, length, ℤ, ◌≤ℤ◌, ◌<ℤ◌}
use Rattle.std.proofs.Math.Bool.{So}
use Rattle.number.specs.Axis.{whole}
use Rattle.recording.specs.Reading.{Reading, value, falls, rises, adds}
use Rattle.grammar.specs.Syntax.{Field, of, T, Relation, ge, le, gt, lt, eq, Operand, v, number, Atom, compare, A-to-B, fall, rise, pigment, Text, atom, listed, or, and, neg, finally, globally, next, until, weak_until}
use Rattle.meaning.specs.Listed.{record_at, time_of, Says}

-- the index of the last record
abbrev pub last_of : List Reading → ℕ
last_of r = length r - 1

-- the reading at i; past the last record the last one, for ever
abbrev pub reading_at : List Reading → ℕ → Reading
reading_at r i = record_at r (min i (last_of r))

-- A, B or T
abbrev pub field : Field → Reading → ℤ
field (of c) x = value c x
field T x = time_of x

-- v or a number
abbrev pub operand : Operand → ℤ → ℤ
operand v z = z
operand (number k) z = whole k

-- `>=` `<=` `>` `<` `=`
abbrev pub Relates : Relation → ℤ → ℤ → Type 0
Relates ge x y = y ≤ℤ x
Relates le x y = x ≤ℤ y
Relates gt x y = y <ℤ x
Relates lt x y = x <ℤ y
Relates eq x y = x ≡ y

-- what an atom says of a reading
abbrev pub AtomSays : Atom → Reading → ℤ → Type 0
AtomSays (compare f ρ o) x z = Relates ρ (field f x) (operand o z)
AtomSays (A-to-B ρ) x z = Relates ρ x.a x.b
AtomSays (fall c) x z = So (falls c x)
AtomSays (rise c) x z = So (rises c x)
AtomSays (pigment k) x z = So (adds k x)

-- F: some record from i on
abbrev pub Finally : (ℕ → Type 0) → ℕ → Type 0
Finally P i = (j : ℕ) × (i ≤ j) × P j

-- G: all records from i on
abbrev pub Globally : (ℕ → Type 0) → ℕ → Type 0
Globally P i = (j : ℕ) → i ≤ j → P j

-- U: Q at some j ≥ i, and P from i to j − 1
abbrev pub Until : (ℕ → Type 0) → (ℕ → Type 0) → ℕ → Type 0
Until P Q i = (j : ℕ) × (i ≤ j) × Q j × ((k : ℕ) → i ≤ k → k < j → P k)

-- W: G(P) or U(P,Q)
abbrev pub WeakUntil : (ℕ → Type 0) → (ℕ → Type 0) → ℕ → Type 0
WeakUntil P Q i = Globally P i ⊎ Until P Q i

-- THE MEANING: the text holds of the recording r, with z put in for v, at record i
unfoldable pub Holds : List Reading → ℤ → Text → ℕ → Type 0
Holds r z (atom k) i = AtomSays k (reading_at r i) z
Holds r z (listed q) i = Says q r z
Holds r z (or p q) i = Holds r z p i ⊎ Holds r z q i
Holds r z (and p q) i = Holds r z p i × Holds r z q i
Holds r z (neg p) i = ¬ Holds r z p i
Holds r z (finally p) i = Finally (Holds r z p) i
Holds r z (globally p) i = Globally (Holds r z p) i
Holds r z (next p) i = Holds r z p (suc i)
Holds r z (until p q) i = Until (Holds r z p) (Holds r z q) i
Holds r z (weak_until p q) i = WeakUntil (Holds r z p) (Holds r z q) i
