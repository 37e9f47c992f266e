-- A run put into its place of a state leaves all else.
use Rattle.std.specs.Prelude.{ℕ, ◌+◌, ◌≤◌, ◌≡◌, List, ◌++◌, length}
use Rattle.std.proofs.Common.{arith, inl, inr, ⊎_elim}
use Rattle.number.specs.Words.{word_bytes}
use Rattle.number.proofs.laws.Order.{less_or_not}
use Rattle.recording.specs.Recording.{Raw}
use Rattle.marks.specs.Marks.{marks_of}
use Rattle.copying.specs.Put.{put}
use Rattle.copying.proofs.laws.Put.{length-put}
use Rattle.live_state.specs.Limits.{most_moments}
use Rattle.live_state.specs.State.{signature, live_bytes, run_at}
use Rattle.live_state.proofs.laws.State.{fine_length}
use Rattle.live.specs.History.{History, Moment, unset, set}
use Rattle.refinement.proofs.laws.Represents.{Has, run_of, moment_of, Taken, TakenAt, Represents}
use Rattle.refinement.proofs.laws.Parts.{has_put, has_apart}
use Rattle.refinement.proofs.laws.Run.{run_length}

-- a run fits its room
pub run_fits : (marks : List ℕ) (run : List Raw) → Taken marks run → length (run_of marks run) ≤ 2064
run_fits marks run t =
    let l = run_length marks run t.sixteens in
    let h = t.held in
    omega arith

pub moment_fits : (marks : List ℕ) (m : Moment) → TakenAt marks m → length (moment_of marks m) ≤ 2064
moment_fits marks unset t = omega arith
moment_fits marks (set run) t = run_fits marks run t

-- a run put into the place j, in a state
module _ (h : History) (s : List ℕ) (r : Represents h s) (j : ℕ) (few : j ≤ most_moments) (run : List Raw) (t : Taken (marks_of h.marks) run) where
  v : List ℕ
  v = run_of (marks_of h.marks) run

  inside : run_at j + length (run_of (marks_of h.marks) run) ≤ length s
  inside =
      let l = r.long in
      let f = run_fits (marks_of h.marks) run t in
      omega arith

  pub placed-long : live_bytes ≤ length (put (run_at j) (run_of (marks_of h.marks) run) s)
  placed-long =
      let l = r.long in
      let e = length-put (run_at j) (run_of (marks_of h.marks) run) s inside in
      omega arith

  pub placed-signed : Has (put (run_at j) (run_of (marks_of h.marks) run) s) 0 (word_bytes signature ++ word_bytes (length h.marks))
  placed-signed =
      has_apart (run_at j) (run_of (marks_of h.marks) run) s inside 0 (word_bytes signature ++ word_bytes (length h.marks)) (inl (omega arith)) r.signed

  pub placed-marked : Has (put (run_at j) (run_of (marks_of h.marks) run) s) 16 h.marks
  placed-marked =
      let l = fine_length h.marks r.fine.0 in
      has_apart (run_at j) (run_of (marks_of h.marks) run) s inside 16 h.marks (inl (omega arith)) r.marked

  pub placed-run : Has (put (run_at j) (run_of (marks_of h.marks) run) s) (run_at j) (run_of (marks_of h.marks) run)
  placed-run = has_put (run_at j) (run_of (marks_of h.marks) run) s inside

  pub placed-other : (k : ℕ) → (k ≡ j → ⊥) → (w : List ℕ) → length w ≤ 2064 → Has s (run_at k) w → Has (put (run_at j) (run_of (marks_of h.marks) run) s) (run_at k) w
  placed-other k ne w l e =
      let f = run_fits (marks_of h.marks) run t in
      has_apart (run_at j) (run_of (marks_of h.marks) run) s inside (run_at k) w
      (⊎_elim (λ a. inl (omega arith)) (λ a. inr (omega arith)) (less_or_not k j)) e
