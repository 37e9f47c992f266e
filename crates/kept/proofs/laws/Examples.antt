-- Worked lines on kept readings: of R1 (document 01, as Papers 1 and 5 change it), of R2, of R3, and of a recording that keeps as many as there can be.
use Rattle.std.specs.Prelude.{ℕ, ◌≡◌, refl, List, [], ◌∷◌, map, length, pos}
use Rattle.number.specs.Words.{offset_binary, signed}
use Rattle.recording.specs.Reading.{Reading}
use Rattle.recording.specs.Recording.{reading, readings}
use Rattle.recording.specs.R1.{R1}
use Rattle.recording.specs.R2.{R2}
use Rattle.recording.specs.R3.{R3}
use Rattle.kept.specs.Kept.{kept, most_kept}

abbrev times_of : List Reading → List ℕ
times_of r = map (λ (x : Reading). x.time) r

-- a line: a recording, marks, and the times of the readings that are kept with them
pub record KeptLine : Type 0 where
  pub bytes : List ℕ
  pub marks : List ℕ
  pub times : List ℕ

-- R1 is kept whole, without marks and with mark 40. R2 is not: it keeps the first, the last, the top at T 40 with the record before it and the rise at T 10,
-- and T 60, the last that is not flat. With mark 40 it keeps also T 50, with mark 10 also T 20, the first after them. R3 keeps T 20 for its pigment alone (Paper 3).
abbrev pub kept_lines : List KeptLine
kept_lines =
    record { bytes = R1; marks = []; times = 0 ∷ 10 ∷ 20 ∷ 30 ∷ 40 ∷ 50 ∷ 60 ∷ 70 ∷ [] }
    ∷ record { bytes = R1; marks = 40 ∷ []; times = 0 ∷ 10 ∷ 20 ∷ 30 ∷ 40 ∷ 50 ∷ 60 ∷ 70 ∷ [] }
    ∷ record { bytes = R2; marks = []; times = 0 ∷ 10 ∷ 30 ∷ 40 ∷ 60 ∷ 80 ∷ [] }
    ∷ record { bytes = R2; marks = 40 ∷ []; times = 0 ∷ 10 ∷ 30 ∷ 40 ∷ 50 ∷ 60 ∷ 80 ∷ [] }
    ∷ record { bytes = R2; marks = 10 ∷ []; times = 0 ∷ 10 ∷ 20 ∷ 30 ∷ 40 ∷ 60 ∷ 80 ∷ [] }
    ∷ record { bytes = R3; marks = []; times = 0 ∷ 10 ∷ 20 ∷ 30 ∷ 40 ∷ 60 ∷ 80 ∷ [] }
    ∷ []

pub lines-kept : map (λ (l : KeptLine). times_of (kept l.marks (readings l.bytes))) kept_lines ≡ map (λ (l : KeptLine). l.times) kept_lines
unfolding reading signed offset_binary
lines-kept = refl

-- ---- each reason keeps records of its own, so the limit is met

abbrev adding : ℕ → ℕ → ℕ → ℕ → ℕ → ℕ → Reading
adding pigment time a b slope_a slope_b = record { time = time; a = pos a; b = pos b; slope_a = slope_a; slope_b = slope_b; pigment = pigment }

abbrev at : ℕ → ℕ → ℕ → ℕ → ℕ → Reading
at = adding 0

abbrev pub fullest : List Reading
fullest =
    -- the first
    at 0 10 20 1 1
    -- a top of A with its rise and the record before it, a dip with its fall and the record before it, and the last of A that is not flat
    ∷ at 1 10 20 2 1 ∷ at 2 10 20 1 1 ∷ at 3 10 20 0 1 ∷ at 4 10 20 0 1 ∷ at 5 10 20 1 1 ∷ at 6 10 20 2 1 ∷ at 7 10 20 2 1
    -- the same of B: a dip first, then a top
    ∷ at 8 10 20 1 0 ∷ at 9 10 20 1 1 ∷ at 10 10 20 1 2 ∷ at 11 10 20 1 2 ∷ at 12 10 20 1 1 ∷ at 13 10 20 1 0 ∷ at 14 10 20 1 0
    -- an upward crossing, and a crossing
    ∷ at 15 10 20 1 1 ∷ at 16 30 20 1 1 ∷ at 17 30 20 1 1 ∷ at 18 10 20 1 1
    -- the greatest and the least of A, and of B
    ∷ at 19 40 45 1 1 ∷ at 20 1 20 1 1 ∷ at 21 10 60 1 1 ∷ at 22 2 2 1 1
    -- the same of the records after T 22
    ∷ at 23 35 36 1 1 ∷ at 24 3 20 1 1 ∷ at 25 10 50 1 1 ∷ at 26 4 4 1 1
    -- one as great in A as T 23, which is not kept; an addition; the last
    ∷ at 27 35 36 1 1 ∷ adding 3 28 10 20 1 1 ∷ at 29 10 20 1 1 ∷ []

-- all but T 27
pub fullest-kept : times_of (kept (22 ∷ []) fullest)
    ≡ 0 ∷ 1 ∷ 2 ∷ 3 ∷ 4 ∷ 5 ∷ 6 ∷ 7 ∷ 8 ∷ 9 ∷ 10 ∷ 11 ∷ 12 ∷ 13 ∷ 14 ∷ 15 ∷ 16 ∷ 17 ∷ 18 ∷ 19 ∷ 20 ∷ 21 ∷ 22 ∷ 23 ∷ 24 ∷ 25 ∷ 26 ∷ 28 ∷ 29 ∷ []
fullest-kept = refl

-- THE LIMIT IS ATTAINED, without marks and with one
pub limit_attained : (length (kept [] fullest) ≡ most_kept [] fullest) × (length (kept (22 ∷ []) fullest) ≡ most_kept (22 ∷ []) fullest)
limit_attained = (refl, refl)
