-- A LIVE RUN tells by its history.
use Rattle.std.specs.Prelude.{ℕ, ◌*◌, ◌+◌, ◌≤◌, ◌<◌, ◌≡◌, Bool, true, false, not, cond, ◌⊎◌, ◌↔◌, eqb, ltb, length, drop, get_or}
use Rattle.std.proofs.Common.{arith, sym, ap, ap₂, ◌∙◌, true≢false, inl, inr, ⊎_elim, take_all, length-drop, eqb-true, ltb-false, ne_eqb, le-ltb}
use Rattle.std.proofs.Math.Path.{refl, subst}
use Rattle.std.proofs.Math.Bool.{So}
use mathlib.Core.List.Memᴰ
use mathlib.Core.List.{List, [], ◌∷◌, ◌++◌, map, Memᴰ}
use Rattle.std.proofs.lemmas.Bool.{eqb-false, not-true, not-false}
use Rattle.number.specs.Words.{word, word_bytes}
use Rattle.number.proofs.laws.Boolean.{clash, by_test, none_left, none_right, or_none, then, either, so_or}
use Rattle.number.proofs.laws.Order.{less_or_not}
use Rattle.refusal.specs.Outcome.{Outcome, result, refused, Line, line, judged}
use Rattle.recording.specs.Recording.{Raw, concat, most_records}
use Rattle.recording.specs.Output.{output_line}
use Rattle.recording.proofs.laws.Record.{length-concat}
use Rattle.recording.proofs.laws.Outcome.{no_result, result_none}
use Rattle.marks.specs.Marks.{marks_of, marks_line, AcceptedMarks}
use Rattle.copying.specs.Put.{put}
use Rattle.entry.specs.Entry.{entry_bytes}
use Rattle.entry.specs.Call.{entry_lines}
use Rattle.entry.proofs.laws.Reckoned.{length-reckoned}
use Rattle.degree.specs.inner.Reach.{mapped}
use Rattle.live_state.specs.Limits.{most_held, most_moments}
use Rattle.live_state.specs.State.{signature, live_bytes, held_in, no_state, started, ended}
use Rattle.live_state.proofs.laws.State.{ended_by, short_no_run}
use Rattle.live.specs.History.{History, begun, Moment, unset, set, last_set, kept_of, kept_run, bad_name, is_set, back_to, with_step, step_lines, outcome, goes_on, after, told, read_out}
use Rattle.live.specs.History as step
use Rattle.live.specs.Call.{add_of, save_of, restore_of, step_of, state_after, start_of, start_after, held_of, add_lines, Behind}
use Rattle.live.proofs.laws.Step.{start_by, save_by}
use Rattle.live.proofs.laws.Behind.{step_behind, start_behind}
use Rattle.live_entry.specs.Call.{held_entry_of}
use Rattle.live_entry.specs.History.{fresh_entry, run_entry}
use Rattle.live_entry.proofs.laws.Follow.{fresh-entry, entry-followed}
use Rattle.live_entry.proofs.laws.Call.{none_entry}
use Rattle.refinement.proofs.laws.Represents.{Represents, Follows}
use Rattle.refinement.proofs.laws.Run.{kept-concat, kept-sixteen, taken_accepted}
use Rattle.refinement.proofs.laws.State.{a_state}
use Rattle.refinement.proofs.laws.Start.{started_represents, ended_none}
use Rattle.refinement.proofs.laws.Follow.{step_followed, read-followed, short_none, other_none, none_answers, none_read_out, same_marks}
use Rattle.promises.specs.Conditions.{TableLine, ◌upon◌, NoneMet, FirstMet}
use Rattle.promises.proofs.laws.Conditions.{AsTable, Agree, Agrees, agrees, ◌⊳◌, done, judged-told, first-met, so_eq, so_lt, so_none}
use Rattle.promises.proofs.laws.Rows.{off_marks}
use Rattle.promises.specs.Page.{Effect, effect, writing, behind}
use Rattle.promises.proofs.laws.Acceptance.{accepted_table}
use Rattle.promises.proofs.laws.Computed.{entry_answers}
use Rattle.promises.proofs.laws.Page.{one_answer, same_refusal, at_0, Single}
use Rattle.promises.proofs.laws.Reports.{judged-numbered}
use Rattle.promises.specs.InTurn.{Exchange, InTurn, no_call, and_then, ByHistory, told_none, told_then, Transition, Carries, HoldsNone}
use Rattle.promises.specs.LiveCalls.{LiveCall, start, add, save, restore, read, entry, LiveStage, no_run, running, Name, live_refusals}
use Rattle.promises.specs.LiveRuns.{IsStart, a_start, LiveStep, begins, not_begun, arrives, is-set, goes_back, read-out, run-entry, refused_step, LiveLent, SoundRun, LiveRuns}
use Rattle.promises.specs.inner.Machines.{silent, stepping, reading_out, live_machine}

-- ---- the lines

a_name : (k : ℕ) → (bad_name k ≡ false) ↔ Name k
a_name k = (
  λ e. (some k (eqb-false k 0 (none_left (eqb k 0) (ltb most_moments k) e)), ltb-false most_moments k (none_right (eqb k 0) (ltb most_moments k) e)),
  λ h. or_none (ne_eqb k 0 (λ z. let l = h.0 in omega arith)) (le-ltb most_moments k h.1),
)
  where
    some : (k : ℕ) → ¬ (k ≡ 0) → 1 ≤ k
    some k n = ⊎_elim (λ h. absurd (n (omega arith))) (λ h. h) (less_or_not k 1)

no_name : (k : ℕ) → So (bad_name k) ↔ (¬ Name k)
no_name k = (λ e h. clash e ((a_name k).1 h), λ h. by_test (bad_name k) (λ e. h ((a_name k).0 e)))

not_set : (m : Moment) → So (not (is_set m)) ↔ (m ≡ unset)
not_set unset = (λ e. refl, λ e. refl)
not_set (set run) = (λ e. absurd (true≢false (sym e)), λ e. absurd (other run e))
  where
    other : (run : List Raw) → set run ≡ unset → ⊥
    other run e = let z : ◌≡◌ {A = ℕ} 0 1 = cc in bad z
      where
        bad : ◌≡◌ {A = ℕ} 0 1 → ⊥
        bad z = omega arith

not_running : (h : History) → running h ≡ no_run → ⊥
not_running h e = let z : ◌≡◌ {A = ℕ} 0 1 = cc in bad z
  where
    bad : ◌≡◌ {A = ℕ} 0 1 → ⊥
    bad z = omega arith

-- 11, of a run that goes on
eleven : (h : History) → AcceptedMarks h.marks → Agrees (marks_line h.marks) (11 upon (running h ≡ no_run))
eleven h fine = record { number = refl; known = (omega arith, omega arith); met = λ e. absurd (clash e fine.0); unmet = λ e p m. not_running h m.1 }

-- which calls are starts
abbrev starts : LiveCall → Bool
starts (start marks) = true
starts (add x) = false
starts (save name) = false
starts (restore name) = false
starts read = false
starts entry = false

no_start : (c : LiveCall) → starts c ≡ false → ¬ IsStart c
no_start c e i = clash (start_true c i) e
  where
    start_true : (c : LiveCall) → IsStart c → starts c ≡ true
    start_true c a_start = refl

-- the steps as the history counts them
data IsStep : LiveCall → step.Step → Type 0 where
  an_add : {x : List ℕ} → IsStep (add x) (step.add x)
  a_save : {name : ℕ} → IsStep (save name) (step.save name)
  a_restore : {name : ℕ} → IsStep (restore name) (step.restore name)

module _ (size : ℕ) (h : History) (fine : AcceptedMarks h.marks) (room : ℕ) where
  agree_step : {c : LiveCall} {s : step.Step} → IsStep c s → Agree (step_lines h s) (live_refusals size (running h) c room)
  agree_step (an_add {x = x}) =
      eleven h fine
      ⊳ agrees 1 refl (so_none (so_eq (length x) 16))
      ⊳ agrees 2 refl (so_lt most_records (length (h.run ++ x ∷ [])))
      ⊳ record {
        number = refl;
        known = (omega arith, omega arith);
        met = λ e. (refl, not-true _ e);
        unmet = λ e p m. clash (not-false _ e) m.1;
      }
      ⊳ agrees 19 refl (so_lt most_held (length (kept_of (marks_of h.marks) (h.run ++ x ∷ []))))
      ⊳ done
  agree_step (a_save {name = name}) = eleven h fine ⊳ agrees 18 refl (no_name name) ⊳ done
  agree_step (a_restore {name = name}) =
      eleven h fine ⊳ agrees 18 refl (then (so_or (bad_name name) (not (is_set (last_set name h.moments)))) (either (no_name name) (not_set (last_set name h.moments)))) ⊳ done

  -- no line is met, so a moment to which the run goes back is set
  went_back : (name : ℕ) → NoneMet (live_refusals size (running h) (restore name) room)
      → LiveStep size (running h) (restore name) room (result (effect 0 [])) (running (with_step h (step.restore name)))
  went_back name n = by (last_set name h.moments) refl
    where
      by : (m : Moment) → last_set name h.moments ≡ m
          → LiveStep size (running h) (restore name) room (result (effect 0 [])) (running (record { marks = h.marks; run = back_to m h.run; moments = h.moments }))
      by unset e = absurd (n.1.0 0 (refl, inr e))
      by (set run) e = goes_back n e

  step-of : {c : LiveCall} {s : step.Step} → IsStep c s → LiveStep size (running h) c room (silent (told (outcome h s))) (running (after h s))
  unfolding outcome
  step-of {c} {s} i = by (outcome h s) refl (judged-told (agree_step i) (with_step h s))
    where
      done_by : {c : LiveCall} {s : step.Step} → IsStep c s → NoneMet (live_refusals size (running h) c room) → LiveStep size (running h) c room (result (effect 0 [])) (running (with_step h s))
      done_by an_add n = arrives n
      done_by a_save n = is-set n
      done_by (a_restore {name = name}) n = went_back name n

      a_step : {c : LiveCall} {s : step.Step} → IsStep c s → starts c ≡ false
      a_step an_add = refl
      a_step a_save = refl
      a_step a_restore = refl

      by : (o : Outcome History) → outcome h s ≡ o → AsTable (live_refusals size (running h) c room) o → LiveStep size (running h) c room (silent (told o)) (running (goes_on h o))
      by (refused n p) e t = refused_step (no_start c (a_step i)) t.0
      by (result g) e t = subst (λ (k : History). LiveStep size (running h) c room (result (effect 0 [])) (running k)) (result_none (step_lines h s) (with_step h s) g e).1 (done_by i t)

  read_right : LiveStep size (running h) read room (mapped writing (read_out h room)) (running h)
  unfolding read_out
  read_right = by (read_out h room) refl (judged-told (eleven h fine ⊳ agrees 10 refl (so_lt room (length (kept_run h))) ⊳ done) (kept_run h))
    where
      by : (o : Outcome (List ℕ)) → read_out h room ≡ o → AsTable (live_refusals size (running h) read room) o → LiveStep size (running h) read room (mapped writing o) (running h)
      by (refused n p) e t = refused_step (no_start read refl) t.0
      by (result b) e t =
          subst (λ (b : List ℕ). LiveStep size (running h) read room (result (writing b)) (running h)) (result_none (marks_line h.marks ∷ output_line room (kept_run h) ∷ []) (kept_run h) b e).1 (read-out t)

  entry_right : (live : List ℕ) → Represents h live → LiveStep size (running h) entry room (mapped writing (run_entry h room)) (running h)
  unfolding run_entry
  entry_right live r =
      by (run_entry h room) refl
      (judged-told (eleven h fine ⊳ agrees 4 refl (so_eq (length h.run) 0) ⊳ agrees 10 refl (subst (λ (n : ℕ). So (ltb room n) ↔ (room < entry_bytes)) (sym (length-reckoned _)) (so_lt room entry_bytes)) ⊳ done) (fresh_entry h))
    where
      by : (o : Outcome (List ℕ)) → run_entry h room ≡ o → AsTable (live_refusals size (running h) entry room) o → LiveStep size (running h) entry room (mapped writing o) (running h)
      by (refused n p) e t = refused_step (no_start entry refl) t.0
      by (result b) e t = run-entry t (entry_answers (concat h.run) room b (sym (fresh-entry h live r room) ∙ e))

-- ---- what the bytes hold

abbrev Holding : List ℕ → LiveStage → Type 0
Holding b no_run = no_state b ≡ true
Holding b (running h) = Represents h b

record Next (s : LiveStage) (b : List ℕ) (c : LiveCall) (room : ℕ) : Type 0 where
  pub stage : LiveStage
  pub by : LiveStep (length b) s c room (live_machine b c room).outcome stage
  pub holds : Holding (live_machine b c room).state stage

-- a start, whatever the bytes held
start-next : (s : LiveStage) (b marks : List ℕ) (room : ℕ) → Next s b (start marks) room
start-next s b marks room = by (marks_line marks).meets (ltb (length b) live_bytes) refl refl
  where
    said : (x y : Bool) → (marks_line marks).meets ≡ x → ltb (length b) live_bytes ≡ y
        → (live_machine b (start marks) room).outcome ≡ silent (told (cond x (refused 11 0) (cond y (refused 10 0) (result (started marks b)))))
    said x y ex ey = ap (λ (o : Outcome (List ℕ)). silent (told o)) (start_by b marks x y ex ey).0

    by : (x y : Bool) → (marks_line marks).meets ≡ x → ltb (length b) live_bytes ≡ y → Next s b (start marks) room
    by true y ex ey =
        record {
          stage = no_run;
          by = subst (λ (o : Outcome Effect). LiveStep (length b) s (start marks) room o no_run) (sym (said true y ex ey)) (not_begun (inl (refl, (refl, (off_marks marks).0 ex))));
          holds = ap no_state (start_by b marks true y ex ey).1 ∙ ended_none b;
        }
    by false true ex ey =
        record {
          stage = no_run;
          by = subst (λ (o : Outcome Effect). LiveStep (length b) s (start marks) room o no_run) (sym (said false true ex ey))
              (not_begun (inr (λ p m. clash ((off_marks marks).1 m.1) ex, inl (refl, (refl, (so_lt (length b) live_bytes).0 ey)))));
          holds = ap no_state (start_by b marks false true ex ey).1 ∙ short_none b ey;
        }
    by false false ex ey =
        record {
          stage = running (begun marks);
          by = subst (λ (o : Outcome Effect). LiveStep (length b) s (start marks) room o (running (begun marks))) (sym (said false false ex ey))
              (begins (λ p m. clash ((off_marks marks).1 m.1) ex, (λ p m. clash ((so_lt (length b) live_bytes).1 m.1) ey, tt)));
          holds = subst (Represents (begun marks)) (sym (start_by b marks false false ex ey).1) (started_represents marks b (ex, tt) (ltb-false (length b) live_bytes ey));
        }

first_next : (b : List ℕ) (c : LiveCall) → IsStart c → (room : ℕ) → Next no_run b c room
first_next b c (a_start {marks = marks}) room = start-next no_run b marks room

-- bytes that hold no run
none_holds : (b : List ℕ) → no_state b ≡ true → HoldsNone live_machine IsStart 11 b
none_holds b none (start marks) k room = absurd (k a_start)
none_holds b none (add x) k room = ap (stepping b) (none_answers b none (step.add x))
none_holds b none (save name) k room = ap (stepping b) (none_answers b none (step.save name))
none_holds b none (restore name) k room = ap (stepping b) (none_answers b none (step.restore name))
none_holds b none read k room = ap (reading_out b) (none_read_out b none room)
none_holds b none entry k room = ap (reading_out b) (none_entry b none room)

none_step : (size : ℕ) (c : LiveCall) → starts c ≡ false → (room : ℕ) → LiveStep size no_run c room (refused 11 0) no_run
none_step size c e room = refused_step (no_start c e) (first c e)
  where
    first : (c : LiveCall) → starts c ≡ false → FirstMet (live_refusals size no_run c room) 11 0
    first (start marks) e = absurd (true≢false e)
    first (add x) e = inl (refl, (refl, refl))
    first (save name) e = inl (refl, (refl, refl))
    first (restore name) e = inl (refl, (refl, refl))
    first read e = inl (refl, (refl, refl))
    first entry e = inl (refl, (refl, refl))

none_next : (b : List ℕ) → no_state b ≡ true → (c : LiveCall) → starts c ≡ false → (room : ℕ) → Next no_run b c room
none_next b none c e room =
    let k = none_holds b none c (no_start c e) room in
    record {
      stage = no_run;
      by = subst (λ (x : Transition). LiveStep (length b) no_run c room x.outcome no_run) (sym k) (none_step (length b) c e room);
      holds = ap (λ (x : Transition). no_state x.state) k ∙ none;
    }

-- a run
module _ (h : History) (b : List ℕ) (r : Represents h b) (room : ℕ) where
  still : (g : History) (t : List ℕ) → g.marks ≡ h.marks → Follows g t → Represents g t
  still g t e f = ⊎_elim (λ x. x) (λ x. absurd (clash (ap (λ (m : List ℕ). (marks_line m).meets) (sym e) ∙ x.0) r.fine.0)) f

  step_next : {c : LiveCall} {s : step.Step} → IsStep c s → live_machine b c room ≡ stepping b (step_of b s) → Next (running h) b c room
  step_next {c} {s} i m =
      let k = step_followed h b (inl r) s in
      record {
        stage = running (after h s);
        by = subst (λ (o : Outcome Effect). LiveStep (length b) (running h) c room o (running (after h s))) (sym (ap (λ (x : Transition). x.outcome) m ∙ ap silent k.answers)) (step-of (length b) h r.fine room i);
        holds = subst (Represents (after h s)) (sym (ap (λ (x : Transition). x.state) m)) (still (after h s) (state_after (step_of b s) b) (same_marks h s) k.follows);
      }

  run-next : (c : LiveCall) → Next (running h) b c room
  run-next (start marks) = start-next (running h) b marks room
  run-next (add x) = step_next an_add refl
  run-next (save name) = step_next a_save refl
  run-next (restore name) = step_next a_restore refl
  run-next read =
      record {
        stage = running h;
        by = subst (λ (o : Outcome (List ℕ)). LiveStep (length b) (running h) read room (mapped writing o) (running h)) (sym (read-followed h b (inl r) room)) (read_right (length b) h r.fine room);
        holds = r;
      }
  run-next entry =
      record {
        stage = running h;
        by = subst (λ (o : Outcome (List ℕ)). LiveStep (length b) (running h) entry room (mapped writing o) (running h)) (sym (entry-followed h b (inl r) room)) (entry_right (length b) h r.fine room b r);
        holds = r;
      }

next : (s : LiveStage) (b : List ℕ) → Holding b s → (c : LiveCall) (room : ℕ) → Next s b c room
next (running h) b r c room = run-next h b r room c
next no_run b none (start marks) room = start-next no_run b marks room
next no_run b none (add x) room = none_next b none (add x) refl room
next no_run b none (save name) room = none_next b none (save name) refl room
next no_run b none (restore name) room = none_next b none (restore name) refl room
next no_run b none read room = none_next b none read refl room
next no_run b none entry room = none_next b none entry refl room

-- ---- the bytes behind, and their number

left : (b : List ℕ) (c : LiveCall) (room : ℕ) → Behind b (live_machine b c room).state
left b (start marks) room = start_behind marks b
left b (add x) room = step_behind b (step.add x)
left b (save name) room = step_behind b (step.save name)
left b (restore name) room = step_behind b (step.restore name)
left b read room = record { same_length = refl; same = λ at n k. refl }
left b entry room = record { same_length = refl; same = λ at n k. refl }

all_behind : (s t : List ℕ) → Behind s t → drop live_bytes t ≡ drop live_bytes s
all_behind s t w =
    let e = w.same_length in
    let l = length-drop live_bytes s in
    let m = length-drop live_bytes t in
    sym (take_all (length s) (drop live_bytes t) (omega arith)) ∙ w.same live_bytes (length s) (omega arith) ∙ take_all (length s) (drop live_bytes s) (omega arith)

-- ---- every list

record Followed (size : ℕ) (s : LiveStage) (xs : List (Exchange LiveCall)) (b'' : List ℕ) : Type 0 where
  pub stage : LiveStage
  pub history : ByHistory (LiveStep size) s xs stage
  pub holds : Holding b'' stage

joined : (size : ℕ) {b b' b'' : List ℕ} {x : Exchange LiveCall} {xs : List (Exchange LiveCall)} (s : LiveStage) → length b ≡ size → (n : Next s b x.call (length x.before))
    → Carries live_machine LiveLent b x b' → Followed size n.stage xs b'' → Followed size s (x ∷ xs) b''
joined size {b} {x = x} s z n t k =
    let o : Outcome Effect = (live_machine b x.call (length x.before)).outcome in
    record {
      stage = k.stage;
      history = told_then o (subst (λ (i : ℕ). LiveStep i s x.call (length x.before) o n.stage) z n.by) t.returns k.history;
      holds = k.holds;
    }

by_history : (size : ℕ) {b b'' : List ℕ} {xs : List (Exchange LiveCall)} (s : LiveStage) → length b ≡ size → Holding b s → InTurn (Carries live_machine LiveLent) b xs b'' → Followed size s xs b''
by_history size s z h no_call = record { stage = s; history = told_none; holds = h }
by_history size {b} s z h (and_then {x = x} t ts) =
    let n = next s b h x.call (length x.before) in
    let e = t.hands_on in
    joined size s z n t (by_history size n.stage (ap length e ∙ (left b x.call (length x.before)).same_length ∙ z) (subst (λ (c : List ℕ). Holding c n.stage) (sym e) n.holds) ts)

from_start : {b b'' : List ℕ} {x : Exchange LiveCall} {xs : List (Exchange LiveCall)} → IsStart x.call → InTurn (Carries live_machine LiveLent) b (x ∷ xs) b'' → Followed (length b) no_run (x ∷ xs) b''
from_start i (and_then {b = b} {x = x} t ts) =
    let n = first_next b x.call i (length x.before) in
    let e = t.hands_on in
    joined (length b) no_run refl n t (by_history (length b) n.stage (ap length e ∙ (left b x.call (length x.before)).same_length) (subst (λ (c : List ℕ). Holding c n.stage) (sym e) n.holds) ts)

sound_run : (b : List ℕ) (s : LiveStage) → Holding b s → SoundRun s
sound_run b no_run h = tt
sound_run b (running h) r =
    let ks : List ℕ = marks_of h.marks in
    let t = r.taken in
    let e = ap length (kept-concat ks h.run t.sixteens) in
    let l = length-concat (kept_of ks h.run) (kept-sixteen ks h.run t.sixteens) in
    let m = t.held in
    (accepted_table (concat h.run) (taken_accepted ks h.run t), (λ k. clash ((off_marks h.marks).1 k) r.fine.0), omega arith)

-- ---- no choice

singles : (size : ℕ) (s : LiveStage) (c : LiveCall) (room : ℕ) → Single (live_refusals size s c room)
singles size s (start marks) room = (at_0, (at_0, tt))
singles size s (add x) room = (at_0, (at_0, (at_0, ((λ p q a b. a.0 ∙ sym b.0), (at_0, tt)))))
singles size s (save name) room = (at_0, (at_0, tt))
singles size s (restore name) room = (at_0, (at_0, tt))
singles size s read room = (at_0, (at_0, tt))
singles size s entry room = (at_0, (at_0, (at_0, tt)))

same_set : (x y : List Raw) → set x ≡ set y → x ≡ y
same_set x y e = cc

clashing : {C : Type 0} (size : ℕ) (s : LiveStage) (c : LiveCall) (room n p : ℕ) → NoneMet (live_refusals size s c room) → FirstMet (live_refusals size s c room) n p → C
clashing size s c room n p none f = absurd (first-met (live_refusals size s c room) n p f none)

module _ {size room : ℕ} where
  one_step : {s s' s'' : LiveStage} {c : LiveCall} {o o' : Outcome Effect} → LiveStep size s c room o s' → LiveStep size s c room o' s'' → (o ≡ o') × (s' ≡ s'')
  one_step (begins n) (begins n') = (refl, refl)
  one_step {s} {c = c} (begins n) (not_begun {n = k} {p = p} f) = clashing size s c room k p n f
  one_step (begins n) (refused_step i f) = absurd (i a_start)
  one_step {s} {c = c} (not_begun {n = k} {p = p} f) (begins n) = clashing size s c room k p n f
  one_step {s} {c = c} (not_begun {n = k} {p = p} f) (not_begun {n = m} {p = q} g) =
      let e = same_refusal (live_refusals size s c room) (singles size s c room) k p m q f g in
      (ap₂ refused e.0 e.1, refl)
  one_step (not_begun f) (refused_step i g) = absurd (i a_start)
  one_step (arrives n) (arrives n') = (refl, refl)
  one_step {s} {c = c} (arrives n) (refused_step {n = k} {p = p} i f) = clashing size s c room k p n f
  one_step (is-set n) (is-set n') = (refl, refl)
  one_step {s} {c = c} (is-set n) (refused_step {n = k} {p = p} i f) = clashing size s c room k p n f
  one_step (goes_back {h = h} {run = x} n e) (goes_back {run = y} n' e') =
      (refl, ap (λ (z : List Raw). running (record { marks = h.marks; run = z; moments = h.moments })) (same_set x y (sym e ∙ e')))
  one_step {s} {c = c} (goes_back n e) (refused_step {n = k} {p = p} i f) = clashing size s c room k p n f
  one_step (read-out n) (read-out n') = (refl, refl)
  one_step {s} {c = c} (read-out n) (refused_step {n = k} {p = p} i f) = clashing size s c room k p n f
  one_step (run-entry n a) (run-entry n' a') = (ap result (one_answer a a'), refl)
  one_step {s} {c = c} (run-entry n a) (refused_step {n = k} {p = p} i f) = clashing size s c room k p n f
  one_step (refused_step i f) (begins n) = absurd (i a_start)
  one_step (refused_step i f) (not_begun g) = absurd (i a_start)
  one_step {s} {c = c} (refused_step {n = k} {p = p} i f) (arrives n) = clashing size s c room k p n f
  one_step {s} {c = c} (refused_step {n = k} {p = p} i f) (is-set n) = clashing size s c room k p n f
  one_step {s} {c = c} (refused_step {n = k} {p = p} i f) (goes_back n e) = clashing size s c room k p n f
  one_step {s} {c = c} (refused_step {n = k} {p = p} i f) (read-out n) = clashing size s c room k p n f
  one_step {s} {c = c} (refused_step {n = k} {p = p} i f) (run-entry n a) = clashing size s c room k p n f
  one_step {s} {c = c} (refused_step {n = k} {p = p} i f) (refused_step {n = m} {p = q} j g) =
      let e = same_refusal (live_refusals size s c room) (singles size s c room) k p m q f g in
      (ap₂ refused e.0 e.1, refl)

-- ---- any bytes

abbrev number : Outcome Effect → ℕ
number (result x) = 0
number (refused n p) = n

-- bytes that hold a run answer 18 to the name 9
holds_none : (b : List ℕ) → HoldsNone live_machine IsStart 11 b → no_state b ≡ true
holds_none b k = by (no_state b) refl
  where
    by : (t : Bool) → no_state b ≡ t → no_state b ≡ true
    by true e = e
    by false e =
        let z : ◌≡◌ {A = ℕ} 18 11 =
        ap (λ (o : Outcome (List ℕ)). number (silent (told o))) (sym (save_by b 9 false true e refl)) ∙ ap (λ (x : Transition). number x.outcome) (k (save 9) (no_start (save 9) refl) 0) in
        absurd (bad z)
      where
        bad : ◌≡◌ {A = ℕ} 18 11 → ⊥
        bad z = omega arith

-- a run begins with the signature
signature_of : (b : List ℕ) → no_state b ≡ false → word b 0 ≡ signature
signature_of b h = by (eqb (word b 0) signature) refl
  where
    by : (t : Bool) → eqb (word b 0) signature ≡ t → word b 0 ≡ signature
    by true e = eqb-true (word b 0) signature e
    by false e = absurd (clash (other_none b (eqb-false (word b 0) signature e)) h)

started_head : (marks b : List ℕ) (room : ℕ) (x : Effect) → (live_machine b (start marks) room).outcome ≡ result x → word (live_machine b (start marks) room).state 0 ≡ signature
started_head marks b room x e = by (marks_line marks).meets (ltb (length b) live_bytes) refl refl
  where
    by : (a c : Bool) → (marks_line marks).meets ≡ a → ltb (length b) live_bytes ≡ c → word (start_after marks b) 0 ≡ signature
    by true c ea ec = no_result 11 0 x (sym (ap (λ (o : Outcome (List ℕ)). silent (told o)) (start_by b marks true c ea ec).0) ∙ e)
    by false true ea ec = no_result 10 0 x (sym (ap (λ (o : Outcome (List ℕ)). silent (told o)) (start_by b marks false true ea ec).0) ∙ e)
    by false false ea ec =
        signature_of (start_after marks b)
        (a_state (begun marks) (start_after marks b) (subst (Represents (begun marks)) (sym (start_by b marks false false ea ec).1) (started_represents marks b (ea, tt) (ltb-false (length b) live_bytes ec))))

no_head : (p q r s x : ℕ) → p ≡ x → q ≡ x → r ≡ x → s ≡ x → (x ≡ 0) ⊎ (x ≡ 255) → p + 256 * q + 65536 * r + 16777216 * s ≡ signature → ⊥
no_head p q r s x a b c d h e = ⊎_elim (λ z. omega arith) (λ z. omega arith) h

all_alike : (b : List ℕ) (x : ℕ) → (x ≡ 0) ⊎ (x ≡ 255) → ((i : ℕ) → i < length b → get_or b i 0 ≡ x) → no_state b ≡ true
all_alike b x h a =
    ⊎_elim (λ l. short_no_run b l)
    (λ l. other_none b (no_head (get_or b 0 0) (get_or b 1 0) (get_or b 2 0) (get_or b 3 0) x (a 0 (omega arith)) (a 1 (omega arith)) (a 2 (omega arith)) (a 3 (omega arith)) h)) (less_or_not (length b) live_bytes)

-- what a refusal leaves
abbrev Ends : (b b' : List ℕ) → Type 0
Ends b b' = (b' ≡ b) ⊎ ((¬ HoldsNone live_machine IsStart 11 b) × HoldsNone live_machine IsStart 11 b' × (drop 4 b' ≡ drop 4 b))

put_front : (v b : List ℕ) → length v ≡ 4 → drop 4 (put 0 v b) ≡ drop 4 b
unfolding put
put_front [] b e = absurd (omega arith)
put_front (x ∷ []) b e = absurd (omega arith)
put_front (x ∷ (y ∷ [])) b e = absurd (omega arith)
put_front (x ∷ (y ∷ (z ∷ []))) b e = absurd (omega arith)
put_front (x ∷ (y ∷ (z ∷ (w ∷ [])))) b e = refl
put_front (x ∷ (y ∷ (z ∷ (w ∷ (u ∷ v))))) b e = absurd (omega arith)

ended-ends : (b : List ℕ) → Ends b (ended b)
ended-ends b = by (no_state b) refl
  where
    by : (t : Bool) → no_state b ≡ t → Ends b (ended b)
    by true e = inl (ended_by b true e)
    by false e = inr (λ k. clash (holds_none b k) e, none_holds (ended b) (ended_none b), ap (drop 4) (ended_by b false e) ∙ put_front (word_bytes 0) b refl)

start-ends : (marks b : List ℕ) (n p : ℕ) → silent (told (start_of marks b)) ≡ refused n p → Ends b (start_after marks b)
start-ends marks b n p e = by (marks_line marks).meets (ltb (length b) live_bytes) refl refl
  where
    by : (a c : Bool) → (marks_line marks).meets ≡ a → ltb (length b) live_bytes ≡ c → Ends b (start_after marks b)
    by true c ea ec = subst (Ends b) (sym (start_by b marks true c ea ec).1) (ended-ends b)
    by false true ea ec = inl (start_by b marks false true ea ec).1
    by false false ea ec = no_result n p (effect 0 []) (sym e ∙ ap (λ (o : Outcome (List ℕ)). silent (told o)) (start_by b marks false false ea ec).0)

step_stays : (b : List ℕ) (o : Outcome (List ℕ)) (n p : ℕ) → silent (told o) ≡ refused n p → state_after o b ≡ b
step_stays b (refused k j) n p e = refl
step_stays b (result t) n p e = no_result n p (effect 0 []) (sym e)

refused_stays : (b : List ℕ) (c : LiveCall) (room n p : ℕ) → ¬ IsStart c → (live_machine b c room).outcome ≡ refused n p → (live_machine b c room).state ≡ b
refused_stays b (start marks) room n p i e = absurd (i a_start)
refused_stays b (add x) room n p i e = step_stays b (add_of b x) n p e
refused_stays b (save name) room n p i e = step_stays b (save_of b name) n p e
refused_stays b (restore name) room n p i e = step_stays b (restore_of b name) n p e
refused_stays b read room n p i e = refl
refused_stays b entry room n p i e = refl

any-ends : (b : List ℕ) (c : LiveCall) (room n p : ℕ) → (live_machine b c room).outcome ≡ refused n p → Ends b (live_machine b c room).state
any-ends b (start marks) room n p e = start-ends marks b n p e
any-ends b (add x) room n p e = inl (step_stays b (add_of b x) n p e)
any-ends b (save name) room n p e = inl (step_stays b (save_of b name) n p e)
any-ends b (restore name) room n p e = inl (step_stays b (restore_of b name) n p e)
any-ends b read room n p e = inl refl
any-ends b entry room n p e = inl refl

-- the numbers
abbrev numbers : List Line → List ℕ
numbers ls = map (λ (l : Line). l.number) ls

module _ (ns : List ℕ) (n p : ℕ) where
  told-number : {R : Type 0} (ls : List Line) (r : R) (o : Outcome R) → o ≡ judged ls r → silent (told o) ≡ refused n p → ((k : ℕ) → Memᴰ k (numbers ls) → Memᴰ k ns) → Memᴰ n ns
  told-number ls r (result x) h e f = no_result n p (effect 0 []) (sym e)
  told-number ls r (refused k j) h e f = subst (λ (i : ℕ). Memᴰ i ns) (ap number e) (f k (judged-numbered ls r k j (sym h)))

  out_number : (ls : List Line) (r : List ℕ) (o : Outcome (List ℕ)) → o ≡ judged ls r → mapped writing o ≡ refused n p → ((k : ℕ) → Memᴰ k (numbers ls) → Memᴰ k ns) → Memᴰ n ns
  out_number ls r (result x) h e f = no_result n p (writing x) (sym e)
  out_number ls r (refused k j) h e f = subst (λ (i : ℕ). Memᴰ i ns) (ap number e) (f k (judged-numbered ls r k j (sym h)))

-- 11 stands twice among the lines of a reading
add_numbers : (k : ℕ) → Memᴰ k (11 ∷ 1 ∷ 2 ∷ 11 ∷ 3 ∷ 19 ∷ []) → Memᴰ k (11 ∷ 1 ∷ 2 ∷ 3 ∷ 19 ∷ [])
add_numbers k m =
    ⊎_elim (λ e. Memᴰ.head e)
    (λ m. ⊎_elim (λ e. Memᴰ.tail (Memᴰ.head e))
    (λ m. ⊎_elim (λ e. Memᴰ.tail (Memᴰ.tail (Memᴰ.head e)))
    (λ m. ⊎_elim (λ e. Memᴰ.head e) (λ m. Memᴰ.tail (Memᴰ.tail (Memᴰ.tail m))) (Memᴰ.cases_cons m)) (Memᴰ.cases_cons m)) (Memᴰ.cases_cons m)) (Memᴰ.cases_cons m)

listed-number : (b : List ℕ) (c : LiveCall) (room n p : ℕ) → (live_machine b c room).outcome ≡ refused n p
    → (s : LiveStage) → Memᴰ n (map (λ (l : TableLine). l.number) (live_refusals (length b) s c room))
unfolding start_of add_of save_of restore_of held_of held_entry_of
listed-number b (start marks) room n p e s = told-number (11 ∷ 10 ∷ []) n p (marks_line marks ∷ line 10 (ltb (length b) live_bytes) ∷ []) (started marks b) (start_of marks b) refl e (λ k m. m)
listed-number b (add x) room n p e s = told-number (11 ∷ 1 ∷ 2 ∷ 3 ∷ 19 ∷ []) n p (add_lines b x) _ (add_of b x) refl e add_numbers
listed-number b (save name) room n p e s = told-number (11 ∷ 18 ∷ []) n p (line 11 (no_state b) ∷ line 18 (bad_name name) ∷ []) _ (save_of b name) refl e (λ k m. m)
listed-number b (restore name) room n p e s = told-number (11 ∷ 18 ∷ []) n p (line 11 (no_state b) ∷ line 18 _ ∷ []) _ (restore_of b name) refl e (λ k m. m)
listed-number b read room n p e s = out_number (11 ∷ 10 ∷ []) n p (line 11 (no_state b) ∷ output_line room (held_in b 0) ∷ []) _ (held_of b room) refl e (λ k m. m)
listed-number b entry room n p e s = out_number (11 ∷ 4 ∷ 10 ∷ []) n p (line 11 (no_state b) ∷ entry_lines (held_in b 0) room) _ (held_entry_of b room) refl e (λ k m. m)

-- ---- LIVE RUNS
pub live_runs : LiveRuns live_machine
live_runs = record {
  every_list = λ {b'' = b''} i t. let f = from_start i t in (f.stage, f.history, sound_run b'' f.stage f.holds);
  from_none = λ {b} {b''} h t. let f = by_history (length b) no_run refl (holds_none b h) t in (f.stage, f.history, sound_run b'' f.stage f.holds);
  step_once = one_step;
  any-bytes = record {
    short = λ b l. none_holds b (short_no_run b l);
    other_format = λ b b' c room x i e k. format b b' c room x i e k;
    alike = λ b x h a. none_holds b (all_alike b x h a);
    same_length = λ b c room. (left b c room).same_length;
    behind = λ b c room. all_behind b (live_machine b c room).state (left b c room);
    refusal_ends = any-ends;
  };
  refused_stays = refused_stays;
  listed = listed-number;
}
  where
    format : (b b' : List ℕ) (c : LiveCall) (room : ℕ) (x : Effect) → IsStart c → (live_machine b' c room).outcome ≡ result x
        → ¬ (word b 0 ≡ word (live_machine b' c room).state 0) → HoldsNone live_machine IsStart 11 b
    format b b' c room x (a_start {marks = marks}) e k = none_holds b (other_none b (λ h. k (h ∙ sym (started_head marks b' room x e))))
