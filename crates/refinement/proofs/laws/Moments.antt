-- Moments: the state answers as the history does when one is set and when the run goes back to it, and follows it.
use Rattle.std.specs.Prelude.{ℕ, ◌≤◌, ◌≡◌, Bool, true, not, ◌||◌, List, [], ◌∷◌, eqb}
use Rattle.std.proofs.Common.{arith, sym, ◌∙◌, subst, eqb-true}
use Rattle.std.proofs.Math.Path.{refl, ap}
use Rattle.std.proofs.Math.Bool.{false, cond}
use Rattle.std.proofs.lemmas.Bool.{eqb-false, not-false}
use Rattle.number.proofs.laws.Boolean.{none_left, none_right, clash}
use Rattle.refusal.specs.Outcome.{result, refused, Line, line, judged, NoneMeets}
use Rattle.marks.specs.Marks.{marks_of}
use Rattle.copying.specs.Put.{put}
use Rattle.live_state.specs.Limits.{most_moments}
use Rattle.live_state.specs.State.{run_at, run_in, run_stands}
use Rattle.live.specs.History.{History, Moment, unset, set, is_set, back_to, save, restore, outcome, with_step, last_set, bad_name}
use Rattle.live.specs.Call.{save_of, restore_of}
use Rattle.live.proofs.laws.Step.{save_by, restore_by, good_name}
use Rattle.refinement.proofs.laws.Represents.{Has, run_of, moment_of, TakenAt, Represents}
use Rattle.refinement.proofs.laws.State.{run-read, moment_read, the_run, a_state}
use Rattle.refinement.proofs.laws.Placed.{placed-long, placed-signed, placed-marked, placed-run, placed-other, run_fits, moment_fits}

module _ (h : History) (s : List ℕ) (r : Represents h s) (name : ℕ) where
  -- ---- a moment is set

  abbrev pub name_lines : List Line
  name_lines = line 18 (bad_name name) ∷ []

  pub save_lines : save_of s name ≡ judged name_lines (put (run_at name) (run_in s 0) s)
  unfolding judged
  save_lines = save_by s name false (bad_name name) (a_state h s r) refl

  pub save_history : outcome h (save name) ≡ judged name_lines (with_step h (save name))
  unfolding outcome judged
  save_history = ap (λ (a : Bool). cond a (refused 11 0) (judged name_lines (with_step h (save name)))) r.fine.0

  pub saved_represents : NoneMeets name_lines → Represents (with_step h (save name)) (put (run_at name) (run_in s 0) s)
  saved_represents n =
      let g = good_name name n.0 in
      let ks : List ℕ = marks_of h.marks in
      let e : put (run_at name) (run_in s 0) s ≡ put (run_at name) (run_of ks h.run) s = ap (λ (b : List ℕ). put (run_at name) b s) (the_run h s r).bytes in
      subst (Represents (with_step h (save name))) (sym e)
      (record {
        long = placed-long h s r name g.1 h.run r.taken;
        fine = r.fine;
        signed = placed-signed h s r name g.1 h.run r.taken;
        marked = placed-marked h s r name g.1 h.run r.taken;
        run = let one = g.0 in placed-other h s r name g.1 h.run r.taken 0 (λ z. omega arith) (run_of ks h.run) (run_fits ks h.run r.taken) r.run;
        moments = λ k a b. at g.1 k a b (eqb k name) refl;
        taken = r.taken;
        taken_at = λ k. taken_there k (eqb k name);
      })
    where
      at : name ≤ most_moments → (k : ℕ) → 1 ≤ k → k ≤ most_moments → (d : Bool) → eqb k name ≡ d
          → Has (put (run_at name) (run_of (marks_of h.marks) h.run) s) (run_at k) (moment_of (marks_of h.marks) (cond d (set h.run) (last_set k h.moments)))
      at f k a b true e =
          let z = eqb-true k name e in
          subst (λ (j : ℕ). Has (put (run_at name) (run_of (marks_of h.marks) h.run) s) (run_at j) (run_of (marks_of h.marks) h.run)) (sym z)
          (placed-run h s r name f h.run r.taken)
      at f k a b false e =
          placed-other h s r name f h.run r.taken k (eqb-false k name e) (moment_of (marks_of h.marks) (last_set k h.moments))
          (moment_fits (marks_of h.marks) (last_set k h.moments) (r.taken_at k)) (r.moments k a b)

      taken_there : (k : ℕ) (d : Bool) → TakenAt (marks_of h.marks) (cond d (set h.run) (last_set k h.moments))
      taken_there k true = r.taken
      taken_there k false = r.taken_at k

  -- ---- the run goes back

  abbrev pub back_lines : List Line
  back_lines = line 18 (bad_name name || not (is_set (last_set name h.moments))) ∷ []

  -- a moment of a good name is set in the state where it is set in the history
  same_set : (b : Bool) → bad_name name ≡ b → (b || not (run_stands s name)) ≡ (b || not (is_set (last_set name h.moments)))
  same_set true e = refl
  same_set false e =
      let g = good_name name e in
      ap not (moment_read (marks_of h.marks) (last_set name h.moments) s name (r.taken_at name) (r.moments name g.0 g.1))

  pub restore_lines : restore_of s name ≡ judged back_lines (put (run_at 0) (run_in s name) s)
  unfolding judged
  restore_lines =
      restore_by s name false (bad_name name) (run_stands s name) (a_state h s r) refl refl
      ∙ ap (λ (b : Bool). cond b (refused 18 0) (result (put (run_at 0) (run_in s name) s))) (same_set (bad_name name) refl)

  pub restore_history : outcome h (restore name) ≡ judged back_lines (with_step h (restore name))
  unfolding outcome judged
  restore_history = ap (λ (a : Bool). cond a (refused 11 0) (judged back_lines (with_step h (restore name)))) r.fine.0

  pub restored_represents : NoneMeets back_lines → Represents (with_step h (restore name)) (put (run_at 0) (run_in s name) s)
  restored_represents n =
      let g = good_name name (none_left (bad_name name) (not (is_set (last_set name h.moments))) n.0) in
      back (last_set name h.moments) (not-false (is_set (last_set name h.moments)) (none_right (bad_name name) (not (is_set (last_set name h.moments))) n.0))
      (r.taken_at name) (r.moments name g.0 g.1)
    where
      back : (m : Moment) → is_set m ≡ true → TakenAt (marks_of h.marks) m → Has s (run_at name) (moment_of (marks_of h.marks) m)
          → Represents (record { marks = h.marks; run = back_to m h.run; moments = h.moments }) (put (run_at 0) (run_in s name) s)
      back unset i t e = absurd (let z : true ≡ false = sym i in clash refl z)
      back (set xs) i t e =
          let ks : List ℕ = marks_of h.marks in
          let f : put (run_at 0) (run_in s name) s ≡ put (run_at 0) (run_of ks xs) s = ap (λ (b : List ℕ). put (run_at 0) b s) (run-read ks xs s name t e).bytes in
          subst (Represents (record { marks = h.marks; run = xs; moments = h.moments })) (sym f)
          (record {
            long = placed-long h s r 0 (omega arith) xs t;
            fine = r.fine;
            signed = placed-signed h s r 0 (omega arith) xs t;
            marked = placed-marked h s r 0 (omega arith) xs t;
            run = placed-run h s r 0 (omega arith) xs t;
            moments = λ k a b. placed-other h s r 0 (omega arith) xs t k (λ z. omega arith) (moment_of ks (last_set k h.moments)) (moment_fits ks (last_set k h.moments) (r.taken_at k)) (r.moments k a b);
            taken = t;
            taken_at = r.taken_at;
          })
