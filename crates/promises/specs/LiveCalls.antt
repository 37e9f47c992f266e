-- Document 02, Papers 11 and 12: THE CALLS OF A LIVE RUN, and the refusals of each in turn, beside the run's history (live/specs/History).
use Rattle.std.specs.Prelude.{ℕ, ◌≤◌, ◌<◌, ◌≡◌, false, ◌⊎◌, List, [], ◌∷◌, ◌++◌, length}
use Rattle.recording.specs.Recording.{lawful, most_records}
use Rattle.marks.specs.Marks.{marks_of}
use Rattle.entry.specs.Entry.{entry_bytes}
use Rattle.live_state.specs.Limits.{most_held, most_moments}
use Rattle.live_state.specs.State.{live_bytes}
use Rattle.live.specs.History.{History, begun, unset, last_set, kept_of, kept_run}
use Rattle.promises.specs.Conditions.{TableLine, ◌upon◌, MarksOff}

-- a run starts with its marks; a reading of any bytes arrives, a moment is set, the run goes back to one; the readings held, and the run's entry, are
-- read out
pub data LiveCall : Type 0 where
  start : (marks : List ℕ) → LiveCall
  add : (reading : List ℕ) → LiveCall
  save restore : (name : ℕ) → LiveCall
  read entry : LiveCall

-- no run, before a start and after one that is refused; or a run, by its history
pub data LiveStage : Type 0 where
  no_run : LiveStage
  running : History → LiveStage

abbrev pub run_in : LiveStage → History
run_in no_run = begun []
run_in (running h) = h

abbrev pub Name : ℕ → Type 0
Name name = (1 ≤ name) × (name ≤ most_moments)

-- THE REFUSALS of each call, in turn: "a run so refused answers 11 to every step"; the place of 3 is the reading's index in the run. 10 of a start is
-- ours: `size`, the bytes lent for the run, are fewer than it takes
abbrev pub live_refusals : (size : ℕ) → LiveStage → LiveCall → (room : ℕ) → List TableLine
live_refusals size s (start marks) room = 11 upon MarksOff marks ∷ 10 upon (size < live_bytes) ∷ []
live_refusals size s (add x) room =
    11 upon (s ≡ no_run) ∷ 1 upon (¬ (length x ≡ 16)) ∷ 2 upon (most_records < length ((run_in s).run ++ x ∷ []))
    ∷ record { number = 3; Met = λ place. (place ≡ length (run_in s).run) × (lawful ((run_in s).run ++ x ∷ []) (length (run_in s).run) ≡ false) }
    ∷ 19 upon (most_held < length (kept_of (marks_of (run_in s).marks) ((run_in s).run ++ x ∷ []))) ∷ []
live_refusals size s (save name) room = 11 upon (s ≡ no_run) ∷ 18 upon (¬ Name name) ∷ []
live_refusals size s (restore name) room = 11 upon (s ≡ no_run) ∷ 18 upon ((¬ Name name) ⊎ (last_set name (run_in s).moments ≡ unset)) ∷ []
live_refusals size s read room = 11 upon (s ≡ no_run) ∷ 10 upon (room < length (kept_run (run_in s))) ∷ []
live_refusals size s entry room = 11 upon (s ≡ no_run) ∷ 4 upon (length (run_in s).run ≡ 0) ∷ 10 upon (room < entry_bytes) ∷ []
