-- A reading: the state answers as the history does, and follows it.
use Rattle.std.specs.Prelude.{ℕ, ◌+◌, ◌*◌, ◌/◌, ◌≡◌, Bool, not, List, [], ◌∷◌, ◌++◌, length, ltb, eqb}
use Rattle.std.proofs.Common.{arith, sym, ap, ◌∙◌, subst, length-append, ltb-false, eq-eqb}
use Rattle.std.proofs.Math.Path.{refl, ap₂}
use Rattle.std.proofs.Math.Bool.{true, false, cond}
use Rattle.std.proofs.lemmas.Bool.{not-false}
use Rattle.number.proofs.laws.Order.{ltb_same}
use Rattle.refusal.specs.Outcome.{result, refused, Line, line, judged, NoneMeets}
use Rattle.recording.specs.Recording.{Raw, records, concat, lawful, first_bad, most_records}
use Rattle.recording.proofs.laws.Record.{length-concat}
use Rattle.marks.specs.Marks.{marks_of}
use Rattle.thin.specs.Thin.{kept_bytes}
use Rattle.copying.specs.Put.{put}
use Rattle.live_state.specs.Limits.{most_held}
use Rattle.live_state.specs.State.{run_at, head_of, read_count, held_count, held_in}
use Rattle.live.specs.History.{History, add, outcome, with_step, last_set, kept_of}
use Rattle.live.specs.Call.{kept_with, holding, add_of}
use Rattle.live.proofs.laws.Step.{add_by}
use Rattle.refinement.proofs.laws.Represents.{run_of, moment_of, Taken, Represents}
use Rattle.refinement.proofs.laws.Run.{kept-sixteen, records_behind, kept_behind, front_good, kept_good, lawful-kept, taken_more, run_behind, grown_sixteens}
use Rattle.refinement.proofs.laws.State.{the_run, the_marks, a_state}
use Rattle.refinement.proofs.laws.Placed.{placed-long, placed-signed, placed-marked, placed-run, placed-other, moment_fits}

module _ (h : History) (s x : List ℕ) (r : Represents h s) where
  -- the lines of a reading of just 16 bytes
  abbrev pub grown_lines : List Line
  grown_lines =
      line 2 (ltb most_records (length (h.run ++ x ∷ [])))
      ∷ record { number = 3; place = length h.run; meets = not (lawful (h.run ++ x ∷ []) (length h.run)) }
      ∷ line 19 (ltb most_held (length (kept_of (marks_of h.marks) (h.run ++ x ∷ []))))
      ∷ []

  -- not just 16 bytes
  pub partial_state : eqb (length x) 16 ≡ false → add_of s x ≡ refused 1 0
  partial_state e = add_by s x false false (ltb most_records (read_count s 0 + 1)) (a_state h s r) e refl

  pub partial_history : eqb (length x) 16 ≡ false → outcome h (add x) ≡ refused 1 0
  unfolding outcome judged
  partial_history e = ap₂ (λ (a b : Bool). cond a (refused 11 0) (cond (not b) (refused 1 0) (judged grown_lines (with_step h (add x))))) r.fine.0 e

  module _ (lx : length x ≡ 16) where
    joined : held_in s 0 ++ x ≡ concat (kept_of (marks_of h.marks) h.run) ++ x
    joined = ap (λ (b : List ℕ). b ++ x) (the_run h s r).held

    as_records : records (held_in s 0 ++ x) ≡ kept_of (marks_of h.marks) h.run ++ x ∷ []
    as_records = ap records joined ∙ records_behind (marks_of h.marks) h.run x r.taken.sixteens lx

    kept-with : kept_with s x ≡ concat (kept_of (marks_of h.marks) (h.run ++ x ∷ []))
    kept-with =
        ap₂ (λ (m b : List ℕ). kept_bytes (marks_of m) b) (the_marks h s r) joined ∙ kept_behind (marks_of h.marks) h.run x r.taken.sixteens lx

    two : ltb most_records (read_count s 0 + 1) ≡ ltb most_records (length (h.run ++ x ∷ []))
    two =
        let c = (the_run h s r).count in
        let l = length-append h.run (x ∷ []) in
        let e : read_count s 0 + 1 ≡ length (h.run ++ x ∷ []) = omega arith in
        ap (ltb most_records) e

    held_fine : ltb (first_bad (records (held_in s 0 ++ x))) (held_count s 0) ≡ false
    held_fine =
        ap₂ (λ (rs : List Raw) (n : ℕ). ltb (first_bad rs) n) as_records (the_run h s r).held-count
        ∙ front_good (kept_of (marks_of h.marks) h.run) x (kept_good (marks_of h.marks) h.run r.taken.good)

    three : lawful (records (held_in s 0 ++ x)) (held_count s 0) ≡ lawful (h.run ++ x ∷ []) (length h.run)
    three = ap₂ lawful as_records (the_run h s r).held-count ∙ lawful-kept (marks_of h.marks) h.run x

    nineteen : ltb (16 * most_held) (length (kept_with s x)) ≡ ltb most_held (length (kept_of (marks_of h.marks) (h.run ++ x ∷ [])))
    nineteen =
        let ys : List Raw = kept_of (marks_of h.marks) (h.run ++ x ∷ []) in
        let e = ap length kept-with in
        let l = length-concat ys (kept-sixteen (marks_of h.marks) (h.run ++ x ∷ []) (grown_sixteens (marks_of h.marks) h.run x r.taken.sixteens lx)) in
        ltb_same (16 * most_held) (length (kept_with s x)) most_held (length ys) (λ a. omega arith) (λ a. omega arith)

    -- the state's lines are the history's
    pub state_lines : add_of s x ≡ judged grown_lines (holding s (kept_with s x))
    unfolding judged
    state_lines =
        add_by s x false true (ltb most_records (read_count s 0 + 1)) (a_state h s r) (eq-eqb (length x) 16 lx) refl
        ∙ (λ i. cond (two i) (refused 2 0) (cond (held_fine i) (refused 11 0) (cond (not (three i)) (refused 3 ((the_run h s r).count i)) (cond (nineteen i) (refused 19 0) (result (holding s (kept_with s x)))))))

    pub history_lines : outcome h (add x) ≡ judged grown_lines (with_step h (add x))
    unfolding outcome judged
    history_lines =
        ap₂ (λ (a b : Bool). cond a (refused 11 0) (cond (not b) (refused 1 0) (judged grown_lines (with_step h (add x))))) r.fine.0 (eq-eqb (length x) 16 lx)

    -- where no line meets, the state after it is the history's after it
    pub grown_represents : NoneMeets grown_lines → Represents (with_step h (add x)) (holding s (kept_with s x))
    grown_represents n =
        let ks : List ℕ = marks_of h.marks in
        let g : List Raw = h.run ++ x ∷ [] in
        let t : Taken ks g =
        taken_more ks h.run x r.taken.sixteens lx r.taken (not-false (lawful g (length h.run)) n.1.0) (ltb-false most_records (length g) n.0)
        (ltb-false most_held (length (kept_of ks g)) n.1.1.0) in
        let e : holding s (kept_with s x) ≡ put (run_at 0) (run_of ks g) s =
        ap₂ (λ (c : ℕ) (k : List ℕ). holding_as c k) (the_run h s r).count kept-with ∙ ap (λ (b : List ℕ). put (run_at 0) b s) (run_behind ks h.run x r.taken.sixteens lx) in
        subst (Represents (with_step h (add x))) (sym e)
        (record {
          long = placed-long h s r 0 (omega arith) g t;
          fine = r.fine;
          signed = placed-signed h s r 0 (omega arith) g t;
          marked = placed-marked h s r 0 (omega arith) g t;
          run = placed-run h s r 0 (omega arith) g t;
          moments = λ k a b. placed-other h s r 0 (omega arith) g t k (λ z. omega arith) (moment_of ks (last_set k h.moments)) (moment_fits ks (last_set k h.moments) (r.taken_at k)) (r.moments k a b);
          taken = t;
          taken_at = r.taken_at;
        })
      where
        holding_as : ℕ → List ℕ → List ℕ
        holding_as c k = put (run_at 0) (head_of (c + 1) (length k / 16) ++ k) s
