-- A start: the state of an empty run, or no state.
use Rattle.std.specs.Prelude.{ℕ, zero, suc, ◌+◌, ◌≤◌, ◌≡◌, refl, Bool, true, false, List, ◌++◌, length}
use Rattle.std.proofs.Common.{arith, not-suc-le-zero, sym, ap, ◌∙◌, subst, inl, ⊎_elim, ne_eqb, le-ltb}
use Rattle.number.specs.Words.{word, word_bytes}
use Rattle.number.proofs.laws.Order.{less_or_not}
use Rattle.marks.specs.Marks.{AcceptedMarks}
use Rattle.copying.specs.Put.{put}
use Rattle.copying.proofs.laws.Put.{length-put, put-put, word-part}
use Rattle.live_state.specs.Limits.{most_moments}
use Rattle.live_state.specs.State.{signature, live_bytes, run_at, head_of, no_run, no_state, run_stands, bad_marks_in, cleared, started, ended}
use Rattle.live_state.proofs.laws.State.{fine_length, no_state_by, is_state, ended_by}
use Rattle.live.specs.History.{begun}
use Rattle.refinement.proofs.laws.Represents.{Has, Represents}
use Rattle.refinement.proofs.laws.Parts.{has_put, has_apart}

length-cleared : (k : ℕ) (s : List ℕ) → k ≤ most_moments → live_bytes ≤ length s → length (cleared k s) ≡ length s
unfolding cleared
length-cleared zero s h l = refl
length-cleared (suc k) s h l =
    let e = length-cleared k s (omega arith) l in
    length-put (run_at (suc k)) (head_of no_run 0) (cleared k s) (omega arith) ∙ e

-- what stands before the moments still stands
has_cleared : (k : ℕ) (s : List ℕ) → k ≤ most_moments → live_bytes ≤ length s → (b : ℕ) (w : List ℕ) → b + length w ≤ run_at 1 → Has s b w → Has (cleared k s) b w
unfolding cleared
has_cleared zero s h l b w f e = e
has_cleared (suc k) s h l b w f e =
    let n = length-cleared k s (omega arith) l in
    has_apart (run_at (suc k)) (head_of no_run 0) (cleared k s) (omega arith) b w (inl (omega arith)) (has_cleared k s (omega arith) l b w f e)

-- no moment is set
cleared_moments : (k : ℕ) (s : List ℕ) → k ≤ most_moments → live_bytes ≤ length s → (j : ℕ) → 1 ≤ j → j ≤ k → Has (cleared k s) (run_at j) (head_of no_run 0)
unfolding cleared
cleared_moments zero s h l j a b = absurd (not-suc-le-zero (let z : 1 ≤ 0 = omega arith in z))
cleared_moments (suc k) s h l j a b =
    let n = length-cleared k s (omega arith) l in
    ⊎_elim
    (λ c. has_apart (run_at (suc k)) (head_of no_run 0) (cleared k s) (omega arith) (run_at j) (head_of no_run 0) (inl (omega arith)) (cleared_moments k s (omega arith) l j a (omega arith)))
    (λ c. let e : suc k ≡ j = omega arith in
    subst (λ (i : ℕ). Has (put (run_at (suc k)) (head_of no_run 0) (cleared k s)) (run_at i) (head_of no_run 0)) e (has_put (run_at (suc k)) (head_of no_run 0) (cleared k s) (omega arith)))
    (less_or_not j (suc k))

-- an empty run, with its marks
pub started_represents : (marks s : List ℕ) → AcceptedMarks marks → live_bytes ≤ length s → Represents (begun marks) (started marks s)
unfolding started
started_represents marks s fine l =
    let m = fine_length marks fine.0 in
    let w : List ℕ = word_bytes signature ++ word_bytes (length marks) in
    let s1 : List ℕ = put 4 (word_bytes (length marks)) (put 0 (word_bytes signature) s) in
    let e1 : put 0 w s ≡ s1 = sym (put-put 0 (word_bytes signature) (word_bytes (length marks)) s (omega arith)) in
    let l1 : length s1 ≡ length s = sym (ap length e1) ∙ length-put 0 w s (omega arith) in
    let s2 : List ℕ = put 16 marks s1 in
    let l2 : length s2 ≡ length s1 = length-put 16 marks s1 (omega arith) in
    let s3 : List ℕ = put (run_at 0) (head_of 0 0) s2 in
    let l3 : length s3 ≡ length s2 = length-put (run_at 0) (head_of 0 0) s2 (omega arith) in
    let long : live_bytes ≤ length s3 = omega arith in
    let l4 = length-cleared most_moments s3 (omega arith) long in
    let h1 : Has s1 0 w = subst (λ (t : List ℕ). Has t 0 w) e1 (has_put 0 w s (omega arith)) in
    let h2 : Has s2 0 w = has_apart 16 marks s1 (omega arith) 0 w (inl (omega arith)) h1 in
    let h3 : Has s3 0 w = has_apart (run_at 0) (head_of 0 0) s2 (omega arith) 0 w (inl (omega arith)) h2 in
    let g2 : Has s2 16 marks = has_put 16 marks s1 (omega arith) in
    let g3 : Has s3 16 marks = has_apart (run_at 0) (head_of 0 0) s2 (omega arith) 16 marks (inl (omega arith)) g2 in
    record {
      long = omega arith;
      fine = fine;
      signed = has_cleared most_moments s3 (omega arith) long 0 w (omega arith) h3;
      marked = has_cleared most_moments s3 (omega arith) long 16 marks (omega arith) g3;
      run = has_cleared most_moments s3 (omega arith) long (run_at 0) (head_of 0 0) (omega arith) (has_put (run_at 0) (head_of 0 0) s2 (omega arith));
      moments = λ k a b. cleared_moments most_moments s3 (omega arith) long k a b;
      taken = record { sixteens = tt; good = tt; few = omega arith; held = omega arith };
      taken_at = λ k. tt;
    }

cleared_none : (s : List ℕ) → live_bytes ≤ length s → no_state (put 0 (word_bytes 0) s) ≡ true
cleared_none s l =
    let t : List ℕ = put 0 (word_bytes 0) s in
    let n = length-put 0 (word_bytes 0) s (omega arith) in
    let w : word t 0 ≡ 0 = sym (word-part 0 4 t 0 (omega arith)) ∙ ap (λ (b : List ℕ). word b 0) (has_put 0 (word_bytes 0) s (omega arith)) in
    no_state_by t false false (bad_marks_in t) (run_stands t 0) (le-ltb (length t) live_bytes (omega arith)) (ne_eqb (word t 0) signature (λ e. omega arith)) refl refl

-- no run, whatever the bytes held
pub ended_none : (s : List ℕ) → no_state (ended s) ≡ true
ended_none s = by (no_state s) refl
  where
    by : (b : Bool) → no_state s ≡ b → no_state (ended s) ≡ true
    by true e = ap no_state (ended_by s true e) ∙ e
    by false e = ap no_state (ended_by s false e) ∙ cleared_none s (is_state s e).long
