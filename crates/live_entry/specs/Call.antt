-- Document 02, Paper 12: the entry that a run of Paper 11 carries, from the bytes of its state.
use Rattle.std.specs.Prelude.{ℕ, List, ◌∷◌}
use Rattle.refusal.specs.Outcome.{Outcome, line, judged}
use Rattle.recording.specs.Recording.{readings}
use Rattle.entry.specs.inner.Reckoned.{reckoned}
use Rattle.entry.specs.Call.{entry_lines}
use Rattle.live_state.specs.State.{held_in, no_state}

-- THE ENTRY OF THE READINGS HELD: 11; then 4 and 10; else the entry
unfoldable pub held_entry_of : List ℕ → ℕ → Outcome (List ℕ)
held_entry_of s room = judged (line 11 (no_state s) ∷ entry_lines (held_in s 0) room) (reckoned (readings (held_in s 0)))
