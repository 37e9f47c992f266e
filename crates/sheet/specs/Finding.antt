-- Document 02, Paper 6, in its words: which additions break which lines of an order sheet, and when what the check finds is true.
-- What the code finds (inner/Found) is true, and nothing else is: laws/Finding `finding_true`, `true_one`.
use Rattle.std.specs.Prelude.{ℕ, ◌≤◌, ◌<◌, ◌≡◌, true, ◌⊎◌, List, length, get_or}
use Rattle.recording.specs.Reading.{Reading, adds, nothing}
use Rattle.sheet.specs.Sheet.{Precedence}

-- record i is an addition of pigment k
pub record Addition (r : List Reading) (k i : ℕ) : Type 0 where
  pub inside : i < length r
  pub adding : adds k (get_or r i nothing) ≡ true

-- record j is the first addition of pigment k
pub record FirstAddition (r : List Reading) (k j : ℕ) : Type 0 where
  pub addition : Addition r k j
  pub none_before : (i : ℕ) → i < j → ¬ Addition r k i

-- THE ADDITION AT RECORD i BREAKS THE LINE 'a then b': it is an addition of b, and it stands at or before the first addition of a, or a was never added
pub record Breaks (r : List Reading) (l : Precedence) (i : ℕ) : Type 0 where
  pub addition : Addition r l.b i
  pub early : ((j : ℕ) × FirstAddition r l.a j × (i ≤ j)) ⊎ ((j : ℕ) → ¬ Addition r l.a j)

-- what stands past the end of a sheet
abbrev pub no_line : Precedence
no_line = record { a = 0; b = 0 }

-- the addition at record i breaks line k of the sheet, the lines counted from 0
pub record BreaksLine (r : List Reading) (sheet : List Precedence) (i k : ℕ) : Type 0 where
  pub inside : k < length sheet
  pub breaks : Breaks r (get_or sheet k no_line) i

-- what the check finds: every line met, or one broken, at the time of a record
pub data Finding : Type 0 where
  all_met : Finding
  broken_at : (time line : ℕ) → Finding

-- record i is the first whose addition breaks a line, t its time, and line k the first that this addition breaks
pub record FirstBreak (r : List Reading) (sheet : List Precedence) (t k i : ℕ) : Type 0 where
  pub time : (get_or r i nothing).time ≡ t
  pub breaks : BreaksLine r sheet i k
  pub first_record : (j m : ℕ) → BreaksLine r sheet j m → i ≤ j
  pub first-line : (m : ℕ) → BreaksLine r sheet i m → k ≤ m

-- A FINDING IS TRUE: met, where no addition breaks a line; else the time of the first record whose addition breaks one, and the first line that it breaks
abbrev pub TrueFinding : List Reading → List Precedence → Finding → Type 0
TrueFinding r sheet all_met = (i k : ℕ) → ¬ BreaksLine r sheet i k
TrueFinding r sheet (broken_at t k) = (i : ℕ) × FirstBreak r sheet t k i
