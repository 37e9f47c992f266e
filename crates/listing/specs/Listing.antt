-- Document 02, Paper 12: "From the entries alone, list all recordings in which one chosen curve is somewhere at least a given level, as ascending entry numbers
-- from 0, each an unsigned 32-bit little-endian number".
use Rattle.std.specs.Prelude.{ℕ, zero, suc, ◌*◌, ◌/◌, Bool, List, [], length, take, drop, ℤ}
use Rattle.std.specs.Int.Signed.{le_z}
use Rattle.number.specs.Words.{word, words_bytes, signed}
use Rattle.recording.specs.Condition.{when}
use Rattle.recording.specs.Reading.{Curve}
use Rattle.entry.specs.Entry.{entry_bytes, greatest_at}

-- the most entries of a summary
abbrev pub most_entries : ℕ
most_entries = 2048

-- how many entries a summary has
abbrev pub entry_count : List ℕ → ℕ
entry_count summary = length summary / entry_bytes

-- entry i, counted from 0
abbrev pub entry_at : List ℕ → ℕ → List ℕ
entry_at summary i = take entry_bytes (drop (i * entry_bytes) summary)

-- by what the entry says, the curve is somewhere at least z: its greatest value is
unfoldable pub said_to_reach : Curve → ℤ → List ℕ → Bool
said_to_reach c z entry = le_z z (signed (word entry (greatest_at c)))

-- of the n numbers from `at` on, those of which P holds, ascending
abbrev pub numbers_from : (ℕ → Bool) → ℕ → ℕ → List ℕ
numbers_from P at zero = []
numbers_from P at (suc n) = when (P at) at (numbers_from P (suc at) n)

-- of the first n entries, the numbers of those that reach z
abbrev pub numbers_to : Curve → ℤ → List ℕ → ℕ → List ℕ
numbers_to c z summary n = numbers_from (λ i. said_to_reach c z (entry_at summary i)) 0 n

-- THE LISTING, as bytes
unfoldable pub listing : Curve → ℤ → List ℕ → List ℕ
listing c z summary = words_bytes (numbers_to c z summary (entry_count summary))
