-- Documents 01 and 02, Papers 3 and 7: what a text names of a reading, beside its time, and recordings that agree in what is named.
use Rattle.std.specs.Prelude.{ℕ, ◌≡◌, ◌↔◌, ℤ}
use mathlib.Core.List.{List, [], ◌∷◌, Memᴰ}
use Rattle.recording.specs.Reading.{Reading, Curve, A, B, value, slope}
use Rattle.grammar.specs.Syntax.{of, T, Atom, compare, A-to-B, fall, rise, pigment, Listed, high, low, lowafter, capafter, peaks, dips, cross, crossup, dose, ampl, gaps, steps, lag, Text, atom, listed, or, and, neg, finally, globally, next, until, weak_until}
use Rattle.meaning.specs.Meaning.{Holds}
use Rattle.meaning.specs.Overfull.{Node, Overfull, TooManyTops}

-- a channel of a recording, which a text may name: a curve, that is its values and its slopes, or the additions of pigments
pub data Channel : Type 0 where
  curve : Curve → Channel
  additions : Channel

-- what an atom names; A and B in relation are both curves
abbrev pub atom_names : Atom → List Channel
atom_names (compare (of c) ρ o) = curve c ∷ []
atom_names (compare T ρ o) = []
atom_names (A-to-B ρ) = curve A ∷ curve B ∷ []
atom_names (fall c) = curve c ∷ []
atom_names (rise c) = curve c ∷ []
atom_names (pigment k) = additions ∷ []

-- what a listed question names; `cross`, `crossup` and `lag` ask about both curves
abbrev pub listed_names : Listed → List Channel
listed_names (high c) = curve c ∷ []
listed_names (low c) = curve c ∷ []
listed_names (lowafter c k) = curve c ∷ []
listed_names (capafter c k) = curve c ∷ []
listed_names (peaks c) = curve c ∷ []
listed_names (dips c) = curve c ∷ []
listed_names cross = curve A ∷ curve B ∷ []
listed_names crossup = curve A ∷ curve B ∷ []
listed_names (dose k) = additions ∷ []
listed_names (ampl c) = curve c ∷ []
listed_names (gaps c) = curve c ∷ []
listed_names (steps c) = curve c ∷ []
listed_names lag = curve A ∷ curve B ∷ []

-- what a node names by itself; an operator nothing
abbrev pub node_names : Text → List Channel
node_names (atom k) = atom_names k
node_names (listed q) = listed_names q
node_names (or p q) = []
node_names (and p q) = []
node_names (neg p) = []
node_names (finally p) = []
node_names (globally p) = []
node_names (next p) = []
node_names (until p q) = []
node_names (weak_until p q) = []

-- THE TEXT NAMES IT: one of its nodes does
abbrev pub Names : Text → Channel → Type 0
Names p n = (q : Text) × Node q p × Memᴰ n (node_names q)

-- two readings are the same in it
abbrev pub SameChannel : Channel → Reading → Reading → Type 0
SameChannel (curve c) x y = (value c x ≡ value c y) × (slope c x ≡ slope c y)
SameChannel additions x y = x.pigment ≡ y.pigment

-- two readings at one time that are the same in each of these channels
pub record Agree (N : Channel → Type 0) (x y : Reading) : Type 0 where
  pub time : x.time ≡ y.time
  pub same : (n : Channel) → N n → SameChannel n x y

-- two recordings that agree so, record by record
pub data Agreeing (N : Channel → Type 0) : List Reading → List Reading → Type 0 where
  agree_none : Agreeing N [] []
  agree_more : {x y : Reading} {r s : List Reading} → Agree N x y → Agreeing N r s → Agreeing N (x ∷ r) (y ∷ s)

-- THE SAME MEANING of both recordings: at every record, with every number, and in 8 and 9. A text has it of recordings that agree in what it names: `agreeing_same` (laws/Named)
pub record SameMeaning (r s : List Reading) (p : Text) : Type 0 where
  pub truth : (z : ℤ) (i : ℕ) → Holds r z p i ↔ Holds s z p i
  pub eight : Overfull r p ↔ Overfull s p
  pub nine : TooManyTops r p ↔ TooManyTops s p
