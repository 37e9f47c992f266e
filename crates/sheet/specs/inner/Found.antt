-- What the check of an order sheet finds, computed: by records, and then by lines.
use Rattle.std.specs.Prelude.{ℕ, Bool, cond, ◌&&◌, List, length, get_or, leb, ltb}
use Rattle.number.specs.Least.{least}
use Rattle.recording.specs.Reading.{Reading, adds, nothing}
use Rattle.sheet.specs.Sheet.{Precedence}
use Rattle.sheet.specs.Finding.{no_line, Finding, all_met, broken_at}

-- the index of the first addition of pigment k; where it was never added, the number of records
abbrev pub first_addition : ℕ → List Reading → ℕ
first_addition k r = least (λ i. adds k (get_or r i nothing)) (length r)

-- record i is an addition of b, at or before the first addition of a
abbrev pub breaks : List Reading → ℕ → Precedence → Bool
breaks r i l = adds l.b (get_or r i nothing) && leb i (first_addition l.a r)

-- the first line that the addition at record i breaks; where it breaks none, the number of lines
abbrev pub line_broken : List Precedence → List Reading → ℕ → ℕ
line_broken sheet r i = least (λ k. breaks r i (get_or sheet k no_line)) (length sheet)

-- the first record whose addition breaks a line; where there is none, the number of records
abbrev pub record_breaking : List Precedence → List Reading → ℕ
record_breaking sheet r = least (λ i. ltb (line_broken sheet r i) (length sheet)) (length r)

-- WHAT THE CHECK FINDS
unfoldable pub finding : List Precedence → List Reading → Finding
finding sheet r =
    cond (ltb (record_breaking sheet r) (length r))
    (broken_at (get_or r (record_breaking sheet r) nothing).time (line_broken sheet r (record_breaking sheet r))) all_met
