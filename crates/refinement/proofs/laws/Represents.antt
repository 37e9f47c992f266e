-- Document 02, Paper 11: a history as the bytes of a state. Of each run, the history's and each moment's, the state holds the number of readings and the kept ones.
use Rattle.std.specs.Prelude.{ℕ, ◌≤◌, ◌≡◌, true, ◌⊎◌, List, ◌++◌, length}
use Rattle.number.specs.Words.{word_bytes}
use Rattle.recording.specs.Recording.{Raw, concat, most_records}
use Rattle.recording.proofs.laws.Record.{Sixteens}
use Rattle.recording.proofs.laws.Acceptance.{Good}
use Rattle.marks.specs.Marks.{marks_of, marks_line, AcceptedMarks}
use Rattle.copying.specs.Put.{part}
use Rattle.live_state.specs.Limits.{most_held, most_moments}
use Rattle.live_state.specs.State.{signature, live_bytes, run_at, head_of, no_run, no_state}
use Rattle.live.specs.History.{History, Moment, unset, set, last_set, kept_of}

-- these bytes stand in s, from `at` on
abbrev pub Has : List ℕ → ℕ → List ℕ → Type 0
Has s at bytes = part at (length bytes) s ≡ bytes

-- a run: the number of its readings, the number of the kept ones, and the kept ones
abbrev pub run_of : List ℕ → List Raw → List ℕ
run_of marks run = head_of (length run) (length (kept_of marks run)) ++ concat (kept_of marks run)

-- a moment: its run, or none
abbrev pub moment_of : List ℕ → Moment → List ℕ
moment_of marks unset = head_of no_run 0
moment_of marks (set run) = run_of marks run

-- a run that was taken reading by reading: records of 16 bytes that keep to their rules, at most 4,096, of which at most 128 are kept
pub record Taken (marks : List ℕ) (run : List Raw) : Type 0 where
  pub sixteens : Sixteens run
  pub good : Good 0 run
  pub few : length run ≤ most_records
  pub held : length (kept_of marks run) ≤ most_held

abbrev pub TakenAt : List ℕ → Moment → Type 0
TakenAt marks unset = Unit {0}
TakenAt marks (set run) = Taken marks run

-- the bytes s are the state of the history h, whose marks are accepted
pub record Represents (h : History) (s : List ℕ) : Type 0 where
  pub long : live_bytes ≤ length s
  pub fine : AcceptedMarks h.marks
  pub signed : Has s 0 (word_bytes signature ++ word_bytes (length h.marks))
  pub marked : Has s 16 h.marks
  pub run : Has s (run_at 0) (run_of (marks_of h.marks) h.run)
  pub moments : (k : ℕ) → 1 ≤ k → k ≤ most_moments → Has s (run_at k) (moment_of (marks_of h.marks) (last_set k h.moments))
  pub taken : Taken (marks_of h.marks) h.run
  pub taken_at : (k : ℕ) → TakenAt (marks_of h.marks) (last_set k h.moments)

-- THE STATE FOLLOWS THE HISTORY: it is the history's, or 11 refused the marks and the bytes are no state
abbrev pub Follows : History → List ℕ → Type 0
Follows h s = Represents h s ⊎ (((marks_line h.marks).meets ≡ true) × (no_state s ≡ true))
