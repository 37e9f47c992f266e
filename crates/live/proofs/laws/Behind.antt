-- The bytes behind a state stay, at every step and start, whatever the bytes are.
use Prim.Native.Nat.{ℕ, zero, suc, ◌+◌, ◌*◌, ◌/◌, ◌≤◌, ◌<◌}
use Rattle.std.proofs.Common.{arith, sym, ap, ◌∙◌}
use Rattle.std.specs.Prelude.{◌≡◌, refl, Bool, true, false, not, ltb, length}
use Rattle.std.proofs.Math.Path.{subst}
use mathlib.Core.List.{List, ◌++◌}
use Rattle.std.proofs.Math.ListN.{length-append}
use borrow.Author.Tests.{lt-ltb, ltb-false, not-false}
use Rattle.number.specs.Words.{word_bytes}
use Rattle.number.proofs.laws.Boolean.{none_left, none_right}
use Rattle.refusal.specs.Outcome.{Outcome, result, refused}
use Rattle.recording.proofs.laws.Outcome.{result_none}
use Rattle.marks.specs.Marks.{marks_line}
use Rattle.copying.specs.Put.{part, put}
use Rattle.copying.proofs.laws.Put.{length_part, length-put, part_behind}
use Rattle.live_state.specs.Limits.{most_moments}
use Rattle.live_state.specs.State.{signature, live_bytes, run_at, head_of, no_run, read_count, held_count, run_in, run_stands, no_state, cleared, started, ended}
use Rattle.live_state.proofs.laws.State.{is_state, stands_few, fine_length, short_no_run, ended_by}
use Rattle.live.specs.History.{Step, add, save, restore, bad_name}
use Rattle.live.specs.Call.{kept_with, add_lines, holding, add_of, save_of, restore_of, step_of, state_after, start_after, Behind}
use Rattle.live.proofs.laws.Step.{start_by, good_name}

put-inside : (at : ℕ) (v s : List ℕ) → live_bytes ≤ length s → at + length v ≤ live_bytes → Behind s (put at v s)
put-inside at v s l h =
    record { same_length = length-put at v s (omega arith); same = λ b n k. part_behind at v s (omega arith) b n (omega arith) }

unchanged : (s : List ℕ) → Behind s s
unchanged s = record { same_length = refl; same = λ b n k. refl }

module _ (s : List ℕ) where
  taken_behind : (x : List ℕ) (t : List ℕ) → add_of s x ≡ result t → Behind s t
  unfolding add_of
  taken_behind x t e =
      let r = result_none (add_lines s x) (holding s (kept_with s x)) t e in
      let st = is_state s r.0.0 in
      let k : List ℕ = kept_with s x in
      let f = ltb-false 2048 (length k) r.0.1.1.1.1.1.0 in
      let l = length-append (head_of (read_count s 0 + 1) (length k / 16)) k in
      subst (Behind s) r.1 (put-inside (run_at 0) (head_of (read_count s 0 + 1) (length k / 16) ++ k) s st.long (omega arith))

  saved_behind : (name : ℕ) (t : List ℕ) → save_of s name ≡ result t → Behind s t
  unfolding save_of
  saved_behind name t e =
      let r = result_none _ (put (run_at name) (run_in s 0) s) t e in
      let st = is_state s r.0.0 in
      let g = good_name name r.0.1.0 in
      let f = st.few.held in
      let w = st.long in
      let l = length_part (run_at 0) (16 + 16 * held_count s 0) s (omega arith) in
      let m = g.1 in
      subst (Behind s) r.1 (put-inside (run_at name) (run_in s 0) s st.long (omega arith))

  restored_behind : (name : ℕ) (t : List ℕ) → restore_of s name ≡ result t → Behind s t
  unfolding restore_of
  restored_behind name t e =
      let r = result_none _ (put (run_at 0) (run_in s name) s) t e in
      let st = is_state s r.0.0 in
      let g = good_name name (none_left (bad_name name) (not (run_stands s name)) r.0.1.0) in
      let f = (stands_few s name (not-false (run_stands s name) (none_right (bad_name name) (not (run_stands s name)) r.0.1.0))).held in
      let w = st.long in
      let m = g.1 in
      let l = length_part (run_at name) (16 + 16 * held_count s name) s (omega arith) in
      subst (Behind s) r.1 (put-inside (run_at 0) (run_in s name) s st.long (omega arith))

  -- EVERY STEP, of any bytes
  pub step_behind : (t : Step) → Behind s (state_after (step_of s t) s)
  step_behind t = by (step_of s t) refl
    where
      by : (o : Outcome (List ℕ)) → step_of s t ≡ o → Behind s (state_after o s)
      by (refused n p) e = unchanged s
      by (result u) e = of t u e
        where
          of : (t : Step) (u : List ℕ) → step_of s t ≡ result u → Behind s u
          of (add x) u e = taken_behind x u e
          of (save name) u e = saved_behind name u e
          of (restore name) u e = restored_behind name u e

-- ---- starts

one-after_another : (s t u : List ℕ) → Behind s t → Behind t u → Behind s u
one-after_another s t u a b = record { same_length = b.same_length ∙ a.same_length; same = λ at n k. b.same at n k ∙ a.same at n k }

then_put : (s t : List ℕ) (at : ℕ) (v : List ℕ) → live_bytes ≤ length s → at + length v ≤ live_bytes → Behind s t → Behind s (put at v t)
then_put s t at v l h b = let e = b.same_length in one-after_another s t (put at v t) b (put-inside at v t (omega arith) h)

cleared_behind : (k : ℕ) (s t : List ℕ) → k ≤ most_moments → live_bytes ≤ length s → Behind s t → Behind s (cleared k t)
unfolding cleared
cleared_behind zero s t h l b = b
cleared_behind (suc k) s t h l b = then_put s (cleared k t) (run_at (suc k)) (head_of no_run 0) l (omega arith) (cleared_behind k s t (omega arith) l b)

started_behind : (marks s : List ℕ) → (marks_line marks).meets ≡ false → live_bytes ≤ length s → Behind s (started marks s)
unfolding started
started_behind marks s fine l =
    let m = fine_length marks fine in
    let s1 : List ℕ = put 0 (word_bytes signature) s in
    let s2 : List ℕ = put 4 (word_bytes (length marks)) s1 in
    let s3 : List ℕ = put 16 marks s2 in
    let b1 : Behind s s1 = then_put s s 0 (word_bytes signature) l (omega arith) (unchanged s) in
    let b2 : Behind s s2 = then_put s s1 4 (word_bytes (length marks)) l (omega arith) b1 in
    let b3 : Behind s s3 = then_put s s2 16 marks l (omega arith) b2 in
    cleared_behind most_moments s (put (run_at 0) (head_of 0 0) s3) (omega arith) l (then_put s s3 (run_at 0) (head_of 0 0) l (omega arith) b3)

-- a run that is ended: only its first four bytes change
pub ended_behind : (s : List ℕ) → (length (ended s) ≡ length s) × ((b n : ℕ) → 4 ≤ b → part b n (ended s) ≡ part b n s)
ended_behind s = by (no_state s) refl
  where
    by : (t : Bool) → no_state s ≡ t → (length (ended s) ≡ length s) × ((b n : ℕ) → 4 ≤ b → part b n (ended s) ≡ part b n s)
    by true e = let z = ended_by s true e in (ap length z, λ b n k. ap (part b n) z)
    by false e =
        let z = ended_by s false e in
        let l = (is_state s e).long in
        (ap length z ∙ length-put 0 (word_bytes 0) s (omega arith), λ b n k. ap (part b n) z ∙ part_behind 0 (word_bytes 0) s (omega arith) b n (omega arith))

-- EVERY START, of any bytes
pub start_behind : (marks s : List ℕ) → Behind s (start_after marks s)
start_behind marks s = by (marks_line marks).meets (ltb (length s) live_bytes) refl refl
  where
    by : (a b : Bool) → (marks_line marks).meets ≡ a → ltb (length s) live_bytes ≡ b → Behind s (start_after marks s)
    by true b ea eb =
        let k = ended_behind s in
        subst (Behind s) (sym (start_by s marks true b ea eb).1) (record { same_length = k.0; same = λ at n h. k.1 at n (omega arith) })
    by false true ea eb = subst (Behind s) (sym (start_by s marks false true ea eb).1) (unchanged s)
    by false false ea eb = subst (Behind s) (sym (start_by s marks false false ea eb).1) (started_behind marks s ea (ltb-false (length s) live_bytes eb))

-- one that 11 refuses leaves bytes that hold no run
pub refused_start_stays : (marks s : List ℕ) → (marks_line marks).meets ≡ true → no_state s ≡ true → start_after marks s ≡ s
refused_start_stays marks s bad h = (start_by s marks true (ltb (length s) live_bytes) bad refl).1 ∙ ended_by s true h

-- any leaves bytes that are too few
pub short-start-stays : (marks s : List ℕ) → length s < live_bytes → start_after marks s ≡ s
short-start-stays marks s h = by (marks_line marks).meets refl
  where
    by : (a : Bool) → (marks_line marks).meets ≡ a → start_after marks s ≡ s
    by true ea = refused_start_stays marks s ea (short_no_run s h)
    by false ea = (start_by s marks false true ea (lt-ltb (length s) live_bytes h)).1
