-- THE STATE FOLLOWS THE HISTORY: at a start, at every step, refused ones included, and at the read-out.
use Rattle.std.specs.Prelude.{ℕ, ◌+◌, ◌≤◌, ◌≡◌, refl, Bool, cond, ◌⊎◌, List, [], ◌∷◌, length, replicate, ltb, eqb}
use Rattle.std.proofs.Common.{arith, sym, ap, ◌∙◌, subst, inl, inr, ⊎_elim}
use Rattle.std.proofs.Math.Bool.{true, false}
use Rattle.std.proofs.lemmas.List.{length-replicate}
use borrow.Author.Tests.{eqb-true, ltb-false, ltb-true, ne_eqb}
use Rattle.number.proofs.laws.Boolean.{clash}
use Rattle.refusal.specs.Outcome.{Outcome, result, refused, Line, line, judged, NoneMeets}
use Rattle.recording.specs.Recording.{most_records}
use Rattle.recording.proofs.laws.Outcome.{judged-first, result_none}
use Rattle.copying.specs.Put.{put}
use Rattle.number.specs.Words.{word}
use Rattle.marks.specs.Marks.{marks_line}
use Rattle.live_state.specs.State.{signature, live_bytes, run_at, run_in, read_count, held_in, bad_marks_in, no_state, run_stands}
use Rattle.live_state.proofs.laws.State.{no_state_by}
use Rattle.live.specs.History.{History, begun, Step, add, save, restore, outcome, with_step, goes_on, after, told, step_answer, step_lines, bad_name, kept_run, read_out}
use Rattle.live.specs.Call.{holding, kept_with, held_of, step_of, state_after, start_after}
use Rattle.live.proofs.laws.Step.{add_by, save_by, restore_by, start_by, held_by}
use Rattle.refinement.proofs.laws.Represents.{Represents, Follows}
use Rattle.refinement.proofs.laws.Alike.{judged_alike}
use Rattle.refinement.proofs.laws.State.{a_state, the_held}
use Rattle.refinement.proofs.laws.Add.{grown_lines, partial_state, partial_history, state_lines, history_lines, grown_represents}
use Rattle.refinement.proofs.laws.Moments.{name_lines, back_lines, save_lines, save_history, saved_represents, restore_lines, restore_history, restored_represents}
use Rattle.refinement.proofs.laws.Start.{started_represents, ended_none}

-- a step is answered as the history answers it, and the state follows
pub record Followed (h : History) (s : List ℕ) (t : Step) : Type 0 where
  pub answers : told (step_of s t) ≡ step_answer h t
  pub follows : Follows (after h t) (state_after (step_of s t) s)

-- ---- a state of the history

module _ (h : History) (s : List ℕ) (r : Represents h s) where
  -- refused alike, or taken alike
  alike_followed : (t : Step) (ls : List Line) (g : History) (u : List ℕ) → step_of s t ≡ judged ls u → outcome h t ≡ judged ls g → (NoneMeets ls → Represents g u) → Followed h s t
  alike_followed t ls g u e f k =
      ⊎_elim
      (λ b.
      let e' : step_of s t ≡ result u = e ∙ b.first in
      let f' : outcome h t ≡ result g = f ∙ b.second in
      record { answers = ap told e' ∙ sym (ap told f'); follows = subst (λ (p : History). Follows p (state_after (step_of s t) s)) (sym (ap (goes_on h) f')) (subst (Follows g) (sym (ap (λ (o : Outcome (List ℕ)). state_after o s) e')) (inl (k b.none))) })
      (λ b.
      let e' : step_of s t ≡ refused b.number b.place = e ∙ b.first in
      let f' : outcome h t ≡ refused b.number b.place = f ∙ b.second in
      record { answers = ap told e' ∙ sym (ap told f'); follows = subst (λ (p : History). Follows p (state_after (step_of s t) s)) (sym (ap (goes_on h) f')) (subst (Follows h) (sym (ap (λ (o : Outcome (List ℕ)). state_after o s) e')) (inl r)) })
      (judged_alike ls u g)

  -- a reading
  add_followed : (x : List ℕ) (b : Bool) → eqb (length x) 16 ≡ b → Followed h s (add x)
  unfolding judged
  add_followed x true e =
      let lx = eqb-true (length x) 16 e in
      alike_followed (add x) (grown_lines h s x r) (with_step h (add x)) (holding s (kept_with s x)) (state_lines h s x r lx) (history_lines h s x r lx)
      (grown_represents h s x r lx)
  add_followed x false e = alike_followed (add x) (line 1 true ∷ []) h s (partial_state h s x r e) (partial_history h s x r e) (λ n. r)

  step_represented : (t : Step) → Followed h s t
  step_represented (add x) = add_followed x (eqb (length x) 16) refl
  step_represented (save name) =
      alike_followed (save name) (name_lines h s r name) (with_step h (save name)) (put (run_at name) (run_in s 0) s) (save_lines h s r name) (save_history h s r name)
      (saved_represents h s r name)
  step_represented (restore name) =
      alike_followed (restore name) (back_lines h s r name) (with_step h (restore name)) (put (run_at 0) (run_in s name) s) (restore_lines h s r name)
      (restore_history h s r name) (restored_represents h s r name)

-- ---- bytes that are no state

-- a buffer that is too short is no state
pub short_none : (s : List ℕ) → ltb (length s) live_bytes ≡ true → no_state s ≡ true
short_none s e = no_state_by s true (eqb (word s 0) signature) (bad_marks_in s) (run_stands s 0) e refl refl refl

-- bytes that begin otherwise, as all zero or all 255 do, are no state
pub other_none : (s : List ℕ) → ¬ (word s 0 ≡ signature) → no_state s ≡ true
other_none s k = by (ltb (length s) live_bytes) refl
  where
    by : (b : Bool) → ltb (length s) live_bytes ≡ b → no_state s ≡ true
    by true e = short_none s e
    by false e = no_state_by s false false (bad_marks_in s) (run_stands s 0) e (ne_eqb (word s 0) signature k) refl refl

-- no state answers 11 to every step and to the read-out
pub none_answers : (s : List ℕ) → no_state s ≡ true → (t : Step) → step_of s t ≡ refused 11 0
none_answers s none (add x) = add_by s x true (eqb (length x) 16) (ltb most_records (read_count s 0 + 1)) none refl refl
none_answers s none (save name) = save_by s name true (bad_name name) none refl
none_answers s none (restore name) = restore_by s name true (bad_name name) (run_stands s name) none refl refl

pub none_read_out : (s : List ℕ) → no_state s ≡ true → (room : ℕ) → held_of s room ≡ refused 11 0
none_read_out s none room = held_by s room true (ltb room (length (held_in s 0))) none refl

-- ---- marks that 11 refused: every step answers 11

module _ (h : History) (s : List ℕ) (bad : (marks_line h.marks).meets ≡ true) (none : no_state s ≡ true) where
  bad_outcome : (t : Step) → outcome h t ≡ refused 11 0
  unfolding outcome
  bad_outcome (add x) = judged-first (marks_line h.marks) _ (with_step h (add x)) bad
  bad_outcome (save name) = judged-first (marks_line h.marks) _ (with_step h (save name)) bad
  bad_outcome (restore name) = judged-first (marks_line h.marks) _ (with_step h (restore name)) bad

  step_refused : (t : Step) → Followed h s t
  step_refused t =
      record {
        answers = ap told (none_answers s none t) ∙ sym (ap told (bad_outcome t));
        follows =
            subst (λ (p : History). Follows p (state_after (step_of s t) s)) (sym (ap (goes_on h) (bad_outcome t)))
            (subst (Follows h) (sym (ap (λ (o : Outcome (List ℕ)). state_after o s) (none_answers s none t))) (inr (bad, none)));
      }

-- EVERY STEP
pub step_followed : (h : History) (s : List ℕ) → Follows h s → (t : Step) → Followed h s t
step_followed h s f t = ⊎_elim (λ r. step_represented h s r t) (λ b. step_refused h s b.0 b.1 t) f

-- THE READ-OUT
pub read-followed : (h : History) (s : List ℕ) → Follows h s → (room : ℕ) → held_of s room ≡ read_out h room
unfolding read_out judged
read-followed h s f room =
    ⊎_elim
    (λ r. held_by s room false (ltb room (length (held_in s 0))) (a_state h s r) refl
    ∙ ap (λ (k : List ℕ). cond (ltb room (length k)) (refused 10 0) (result k)) (the_held h s r)
    ∙ sym (ap (λ (a : Bool). cond a (refused 11 0) (cond (ltb room (length (kept_run h))) (refused 10 0) (result (kept_run h)))) r.fine.0))
    (λ b. held_by s room true (ltb room (length (held_in s 0))) b.1 refl
    ∙ sym (ap (λ (a : Bool). cond a (refused 11 0) (cond (ltb room (length (kept_run h))) (refused 10 0) (result (kept_run h)))) b.0)) f

-- EVERY START that is not refused for a buffer that is too short: a long one, or any with marks that 11 refuses
pub start-followed : (marks s : List ℕ) → (live_bytes ≤ length s) ⊎ ((marks_line marks).meets ≡ true) → Follows (begun marks) (start_after marks s)
start-followed marks s w = by (marks_line marks).meets (ltb (length s) live_bytes) refl refl
  where
    by : (a b : Bool) → (marks_line marks).meets ≡ a → ltb (length s) live_bytes ≡ b → Follows (begun marks) (start_after marks s)
    by false false ea eb =
        subst (Follows (begun marks)) (sym (start_by s marks false false ea eb).1) (inl (started_represents marks s (ea, tt) (ltb-false (length s) live_bytes eb)))
    by true b ea eb = subst (Follows (begun marks)) (sym (start_by s marks true b ea eb).1) (inr (ea, ended_none s))
    by false true ea eb =
        ⊎_elim (λ l. absurd (let z = ltb-true (length s) live_bytes eb in omega arith)) (λ c. absurd (clash c ea)) w

-- the marks stay, at every step
pub same_marks : (h : History) (t : Step) → (after h t).marks ≡ h.marks
unfolding outcome
same_marks h t = by (outcome h t) refl
  where
    kept_marks : (t : Step) → (with_step h t).marks ≡ h.marks
    kept_marks (add x) = refl
    kept_marks (save name) = refl
    kept_marks (restore name) = refl

    by : (o : Outcome History) → outcome h t ≡ o → (goes_on h o).marks ≡ h.marks
    by (refused n p) e = refl
    by (result g) e = ap (λ (k : History). k.marks) (sym (result_none (step_lines h t) (with_step h t) g e).1) ∙ kept_marks t

-- bytes of any number
pub some_bytes : (n : ℕ) → (s : List ℕ) × (length s ≡ n)
some_bytes n = (replicate n 0, length-replicate n 0)
