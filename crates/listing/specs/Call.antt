-- Document 02, Paper 12: the find call, from bytes to its outcome.
use Rattle.std.specs.Prelude.{ℕ, ◌%◌, ◌||◌, not, List, [], ◌∷◌, ltb, eqb, ℤ, length}
use Rattle.refusal.specs.Outcome.{Outcome, Line, line, judged}
use Rattle.recording.specs.Reading.{curve_of}
use Rattle.recording.specs.Output.{output_line}
use Rattle.targets.specs.Target.{bad_target}
use Rattle.entry.specs.Entry.{entry_bytes}
use Rattle.listing.specs.Listing.{most_entries, entry_count, listing}

-- REFUSAL 20: not in 32-byte entries, or over 2,048 of them
abbrev pub bad_summary : List ℕ → Line
bad_summary summary = line 20 (not (eqb (length summary % entry_bytes) 0) || ltb most_entries (entry_count summary))

-- 12 and 10, in order: the lines for a summary that is not refused
abbrev pub level_lines : List ℕ → ℕ → ℤ → ℕ → List Line
level_lines summary curve level room = bad_target curve level ∷ output_line room (listing (curve_of curve) level summary) ∷ []

-- THE FIND CALL: its refusals in the order 20, 12, 10; else the listing
unfoldable pub find_of : List ℕ → ℕ → ℤ → ℕ → Outcome (List ℕ)
find_of summary curve level room = judged (bad_summary summary ∷ level_lines summary curve level room) (listing (curve_of curve) level summary)
