-- Worked examples: R1 within a band, a single reading, and two that are alike.
use Rattle.std.specs.Prelude.{ℕ, ◌≡◌, refl, List, [], ◌∷◌, map}
use Rattle.recording.specs.Reading.{Reading, A, B}
use Rattle.grammar.specs.Syntax.{Listed, high, low, lowafter, capafter, ampl}
use Rattle.meaning.proofs.laws.R1Lines.{r1, R1}
use Rattle.meaning.proofs.laws.Lines.{at}
use Rattle.meaning.specs.inner.Coded.{code}
use Rattle.band.specs.Means.{empty, Bands}
use Rattle.band.specs.inner.Ends.{upto, from, two_sets, twice, bands_of}

-- a question within e of a recording, and its two sets
pub record Example : Type 0 where
  pub question : Listed
  pub e : ℕ
  pub of : List Reading
  pub sets : Bands

abbrev pub AllHold : List Example → Type 0
AllHold [] = Unit {0}
AllHold (x ∷ l) = (bands_of x.question x.e (map code x.of) ≡ x.sets) × AllHold l

abbrev example : Listed → ℕ → List Reading → Bands → Example
example q e r b = record { question = q; e = e; of = r; sets = b }

abbrev pub examples : List Example
examples =
    example (high A) 5 R1 (two_sets (upto (at 85)) (upto (at 95)))
    ∷ example (low A) 5 R1 (two_sets (from (at 35)) (from (at 25)))
    ∷ example (lowafter A (at 40)) 10 R1 (two_sets (from (at 55)) (from (at 35)))
    ∷ example (capafter A (at 40)) 10 R1 (two_sets (from (at 100)) (from (at 80)))
    -- no record after 70
    ∷ example (lowafter A (at 70)) 10 R1 (twice empty)
    ∷ example (capafter A (at 70)) 10 R1 (twice (from 0))
    ∷ example (ampl A) 10 R1 (two_sets (upto (at 40)) (upto (at 80)))
    -- not below 0
    ∷ example (ampl A) 31 R1 (two_sets (upto (at 0)) (upto (at 122)))
    ∷ example (ampl B) 7 R1 (two_sets (upto (at 0)) (upto (at 14)))
    -- a single record spreads by nothing; two alike may move apart
    ∷ example (ampl A) 9 (r1 0 7 1 ∷ []) (twice (upto (at 0)))
    ∷ example (ampl A) 9 (r1 0 7 1 ∷ r1 10 7 1 ∷ []) (two_sets (upto (at 0)) (upto (at 18)))
    -- beyond the record's limits
    ∷ example (high A) 1000000 (r1 0 1000000000 1 ∷ []) (two_sets (upto (at 999000000)) (upto (at 1001000000)))
    ∷ []

pub examples_hold : AllHold examples
examples_hold = (refl, (refl, (refl, (refl, (refl, (refl, (refl, (refl, (refl, (refl, (refl, (refl, tt))))))))))))
