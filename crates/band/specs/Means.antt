-- Document 02, Paper 9: two sets, each empty or one run, and what they say of a recording. Numbers of the axis are given by their indices.
use Rattle.std.specs.Prelude.{ℕ, ◌≤◌, ◌<◌, ◌≡◌, ◌↔◌, List}
use Rattle.number.specs.Axis.{axis, whole}
use Rattle.recording.specs.Reading.{Reading}
use Rattle.recording.specs.Recording.{readings}
use Rattle.grammar.specs.Syntax.{Listed, Text, listed}
use Rattle.grammar.specs.Grammar.{ReadsWhole}
use Rattle.band.specs.Band.{OfExtremes, Certain, Possible}

-- a set that is empty, or the run from low to high, both ends included
pub data Part : Type 0 where
  empty : Part
  run : (low high : ℕ) → Part

abbrev pub InPart : Part → ℕ → Type 0
InPart empty n = ⊥
InPart (run l h) n = (l ≤ n) × (n ≤ h)

-- the numbers true of every curve within the band, and those true of at least one
pub record Bands : Type 0 where
  pub certain : Part
  pub possible : Part

-- the first holds exactly the numbers that are certain, the second those that are possible
pub record Mean (q : Listed) (e : ℕ) (r : List Reading) (b : Bands) : Type 0 where
  pub certain : (n : ℕ) → n < axis → InPart b.certain n ↔ Certain q e r (whole n)
  pub possible : (n : ℕ) → n < axis → InPart b.possible n ↔ Possible q e r (whole n)

-- DEMAND 2, of two sets that the band call gives: the text has a reading under the printed rules, and no other; it is one of the five questions alone,
-- and the sets are those that it means
pub record Meant (bytes text : List ℕ) (e : ℕ) (b : Bands) : Type 0 where
  pub question : Listed
  pub extreme : OfExtremes question
  pub reads : ReadsWhole text (listed question)
  pub only : (t : Text) → ReadsWhole text t → t ≡ listed question
  pub means : Mean question e (readings bytes) b
