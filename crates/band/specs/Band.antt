-- Document 02, Paper 9: readings known within a band. A worn head is good to plus or minus e units: what a question says of every curve within the
-- band, and of at least one.
use Rattle.std.specs.Prelude.{ℕ, ◌≡◌, List, [], ◌∷◌, ℤ, pos, ◌+ℤ◌, ◌≤ℤ◌}
use Rattle.recording.specs.Reading.{Reading, Curve, value, slope}
use Rattle.grammar.specs.Syntax.{Listed, high, low, lowafter, capafter, ampl}
use Rattle.meaning.specs.Listed.{Says}

-- the widest band: e is 0 to 1,000,000
abbrev pub widest : ℕ
widest = 1000000

-- y is within e of x
abbrev pub NoFarther : ℕ → ℤ → ℤ → Type 0
NoFarther e x y = (x ≤ℤ (y +ℤ pos e)) × (y ≤ℤ (x +ℤ pos e))

-- a reading that moved by itself: its values to any whole numbers within e, beyond the record's limits too; its time, its slopes and its pigment stand
pub record Moved (e : ℕ) (x y : Reading) : Type 0 where
  pub same_time : y.time ≡ x.time
  pub same_slope : (c : Curve) → slope c y ≡ slope c x
  pub same_pigment : y.pigment ≡ x.pigment
  pub near : (c : Curve) → NoFarther e (value c x) (value c y)

-- A CURVE WITHIN THE BAND of the recording: one reading to a record
abbrev pub Within : ℕ → List Reading → List Reading → Type 0
Within e [] [] = Unit {0}
Within e (x ∷ r) (y ∷ s) = Moved e x y × Within e r s
Within e [] (y ∷ s) = ⊥
Within e (x ∷ r) [] = ⊥

-- the questions that are answered within a band
pub data OfExtremes : Listed → Type 0 where
  of_high : {c : Curve} → OfExtremes (high c)
  of_low : {c : Curve} → OfExtremes (low c)
  of_lowafter : {c : Curve} {k : ℕ} → OfExtremes (lowafter c k)
  of_capafter : {c : Curve} {k : ℕ} → OfExtremes (capafter c k)
  of_ampl : {c : Curve} → OfExtremes (ampl c)

module _ (q : Listed) (e : ℕ) (r : List Reading) where
  -- CERTAIN: with z put in, the question is true of every curve within the band
  abbrev pub Certain : ℤ → Type 0
  Certain z = (s : List Reading) → Within e r s → Says q s z

  -- POSSIBLE: with z put in, it is true of at least one
  abbrev pub Possible : ℤ → Type 0
  Possible z = (s : List Reading) × Within e r s × Says q s z
