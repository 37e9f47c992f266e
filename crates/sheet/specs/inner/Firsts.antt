-- The table of first additions, and the first break that it shows.
use Rattle.std.specs.Prelude.{ℕ, suc, ◌+◌, ◌*◌, ◌≤◌, ◌<◌, ◌≡◌, List, length, get_or}
use Rattle.recording.specs.Reading.{Reading, nothing}
use Rattle.recording.specs.Recording.{most_pigments}
use Rattle.sheet.specs.Sheet.{Precedence}
use Rattle.sheet.specs.inner.Found.{first_addition}

-- at the number of each pigment stands the index of its first addition
abbrev pub Firsts : List Reading → List ℕ → Type 0
Firsts r table = (k : ℕ) → 0 < k → k ≤ most_pigments → get_or table k 0 ≡ first_addition k r

-- the table of the records from i on: of each byte up to 16 the first record from i on that has it as its pigment, or the number of records
pub record FirstsFrom (r : List Reading) (i : ℕ) (table : List ℕ) : Type 0 where
  pub long : length table ≡ suc most_pigments
  pub from : (k : ℕ) → k ≤ most_pigments → i ≤ get_or table k 0
  pub most : (k : ℕ) → k ≤ most_pigments → get_or table k 0 ≤ length r
  pub has : (k : ℕ) → k ≤ most_pigments → get_or table k 0 < length r → (get_or r (get_or table k 0) nothing).pigment ≡ k
  pub none : (k : ℕ) → k ≤ most_pigments → (j : ℕ) → i ≤ j → j < get_or table k 0 → ¬ ((get_or r j nothing).pigment ≡ k)

-- line m of the sheet, by its bytes
abbrev pub line_at : List ℕ → ℕ → Precedence
line_at sheet m = record { a = get_or sheet (m * 2) 0; b = get_or sheet (m * 2 + 1) 0 }

-- by the table of a recording of n records: b was added, at or before the first addition of a
pub record OutOfOrder (table : List ℕ) (n : ℕ) (l : Precedence) : Type 0 where
  pub added : get_or table l.b 0 < n
  pub early : get_or table l.b 0 ≤ get_or table l.a 0

-- of the first `count` lines, those out of order: `index` is the earliest first addition of their b, or n where there are none, and `line` the first line with it
pub record Earliest (table : List ℕ) (n : ℕ) (sheet : List ℕ) (count index line : ℕ) : Type 0 where
  pub most : index ≤ n
  pub earliest : (m : ℕ) → m < count → OutOfOrder table n (line_at sheet m) → index ≤ get_or table (line_at sheet m).b 0
  pub there : index < n → line < count
  pub broken : index < n → OutOfOrder table n (line_at sheet line)
  pub added : index < n → get_or table (line_at sheet line).b 0 ≡ index
  pub first : index < n → (m : ℕ) → m < count → OutOfOrder table n (line_at sheet m) → get_or table (line_at sheet m).b 0 ≡ index → line ≤ m
