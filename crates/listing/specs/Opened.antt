-- Document 02, Paper 12, of a listing: "list all recordings in which one chosen curve is somewhere at least a given level, as ascending entry numbers from 0 .. the same
-- list as opening each recording that the entries were made from".
use Rattle.std.specs.Prelude.{ℕ, ◌*◌, ◌<◌, ◌≡◌, ◌↔◌, length, get_or, ℤ, ◌≤ℤ◌}
use mathlib.Core.List.{List, [], Memᴰ}
use Rattle.number.specs.Words.{word, signed}
use Rattle.recording.specs.Reading.{Curve, value, nothing}
use Rattle.recording.specs.Recording.{readings}
use Rattle.entry.specs.Entry.{entry_bytes, greatest_at, TrueEntry}
use Rattle.listing.specs.Listing.{entry_at}

-- ns are exactly the numbers under n of which P holds, ascending
pub record Exactly (P : ℕ → Type 0) (n : ℕ) (ns : List ℕ) : Type 0 where
  pub ascending : (i j : ℕ) → i < j → j < length ns → get_or ns i 0 < get_or ns j 0
  pub members : (k : ℕ) → Memᴰ k ns ↔ ((k < n) × P k)

-- entry i of the summary gives a greatest value of at least z
abbrev pub SaidToReach : Curve → ℤ → List ℕ → ℕ → Type 0
SaidToReach c z summary i = z ≤ℤ signed (word (entry_at summary i) (greatest_at c))

-- in some record of recording i the curve is at least z
abbrev pub Reaches : Curve → ℤ → List (List ℕ) → ℕ → Type 0
Reaches c z recordings i =
    (j : ℕ) × (j < length (readings (get_or recordings i []))) × (z ≤ℤ value c (get_or (readings (get_or recordings i [])) j nothing))

-- each entry of the summary is true of the recording with its number
pub record TrueSummary (recordings : List (List ℕ)) (summary : List ℕ) : Type 0 where
  pub size : length summary ≡ length recordings * entry_bytes
  pub entries : (i : ℕ) → i < length recordings → TrueEntry (readings (get_or recordings i [])) (entry_at summary i)
