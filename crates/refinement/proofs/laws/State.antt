-- The state of a history is a state, and says what the history does.
use Rattle.std.specs.Prelude.{ℕ, ◌+◌, ◌*◌, ◌≡◌, Bool, true, false, ◌&&◌, List, [], length, leb}
use Rattle.std.proofs.Common.{arith, sym, ap, ap₂, ◌∙◌, le-leb, le-ltb, eq-eqb}
use Rattle.std.proofs.lemmas.Bool.{lt-leb}
use Rattle.number.specs.Words.{word}
use Rattle.recording.specs.Recording.{Raw, concat, most_records}
use Rattle.recording.proofs.laws.Record.{length-concat}
use Rattle.marks.specs.Marks.{marks_of, marks_line}
use Rattle.thin.specs.Thin.{kept_bytes}
use Rattle.copying.specs.Put.{part}
use Rattle.live_state.specs.Limits.{most_held}
use Rattle.live_state.specs.State.{signature, live_bytes, run_at, no_run, marks_in, read_count, held_count, held_in, run_in, run_stands, no_state}
use Rattle.live_state.proofs.laws.State.{fine_length, bad_marks_by, no_state_by}
use Rattle.live.specs.History.{History, Moment, unset, set, is_set, kept_of}
use Rattle.refinement.proofs.laws.Represents.{Has, run_of, moment_of, Taken, TakenAt, Represents}
use Rattle.refinement.proofs.laws.Parts.{TwoWords, two-words, head_words, behind_head}
use Rattle.refinement.proofs.laws.Run.{kept-sixteen, kept-concat, run_length}

-- ---- a run that stands at j

pub record Read (marks : List ℕ) (run : List Raw) (s : List ℕ) (j : ℕ) : Type 0 where
  pub count : read_count s j ≡ length run
  pub held-count : held_count s j ≡ length (kept_of marks run)
  pub held : held_in s j ≡ concat (kept_of marks run)
  pub bytes : run_in s j ≡ run_of marks run
  pub stands : run_stands s j ≡ true

pub run-read : (marks : List ℕ) (run : List Raw) (s : List ℕ) (j : ℕ) → Taken marks run → Has s (run_at j) (run_of marks run) → Read marks run s j
unfolding run_stands
run-read marks run s j t e =
    let ks : List Raw = kept_of marks run in
    let few = t.few in
    let held = t.held in
    let w : TwoWords s (run_at j) (length run) (length ks) = head_words s (run_at j) (length run) (length ks) (concat ks) (omega arith) (omega arith) e in
    let l = length-concat ks (kept-sixteen marks run t.sixteens) in
    let r = run_length marks run t.sixteens in
    let h : held_count s j ≡ length ks = w.second in
    let n : 16 * held_count s j ≡ length (concat ks) = omega arith in
    let m : 16 + 16 * held_count s j ≡ length (run_of marks run) = omega arith in
    record {
      count = w.first;
      held-count = h;
      held = ap (λ (k : ℕ). part (run_at j + 16) k s) n ∙ behind_head s (run_at j) (length run) (length ks) (concat ks) e;
      bytes = ap (λ (k : ℕ). part (run_at j) k s) m ∙ e;
      stands = ap₂ ◌&&◌ (le-leb (read_count s j) most_records (let c = w.first in omega arith)) (le-leb (held_count s j) most_held (omega arith));
    }

-- where no run stands
pub none_read : (marks : List ℕ) (s : List ℕ) (j : ℕ) → Has s (run_at j) (moment_of marks unset) → run_stands s j ≡ false
unfolding run_stands
none_read marks s j e =
    let w : TwoWords s (run_at j) no_run 0 = head_words s (run_at j) no_run 0 [] (omega arith) (omega arith) e in
    let c = w.first in
    ap (λ (b : Bool). b && leb (held_count s j) most_held) (lt-leb (read_count s j) most_records (omega arith))

pub moment_read : (marks : List ℕ) (m : Moment) (s : List ℕ) (j : ℕ) → TakenAt marks m → Has s (run_at j) (moment_of marks m) → run_stands s j ≡ is_set m
moment_read marks unset s j t e = none_read marks s j e
moment_read marks (set run) s j t e = (run-read marks run s j t e).stands

-- ---- the whole state

module _ (h : History) (s : List ℕ) (r : Represents h s) where
  ks : List ℕ
  ks = marks_of h.marks

  pub the_run : Read (marks_of h.marks) h.run s 0
  the_run = run-read (marks_of h.marks) h.run s 0 r.taken r.run

  header : TwoWords s 0 signature (length h.marks)
  header =
      let l = fine_length h.marks r.fine.0 in
      two-words s 0 signature (length h.marks) [] (omega arith) (omega arith) r.signed

  pub the_marks : marks_in s ≡ h.marks
  the_marks = ap (λ (n : ℕ). part 16 n s) header.second ∙ r.marked

  pub a_state : no_state s ≡ false
  a_state =
      let l = fine_length h.marks r.fine.0 in
      let n = header.second in
      no_state_by s false true false true (le-ltb (length s) live_bytes r.long) (eq-eqb (word s 0) signature header.first)
      (bad_marks_by s false false (le-ltb 32 (word s 4) (omega arith)) (ap (λ (m : List ℕ). (marks_line m).meets) the_marks ∙ r.fine.0)) the_run.stands

  -- WHAT IS HELD: the kept readings of the history's run
  pub the_held : held_in s 0 ≡ kept_bytes (marks_of h.marks) (concat h.run)
  the_held = the_run.held ∙ sym (kept-concat (marks_of h.marks) h.run r.taken.sixteens)
