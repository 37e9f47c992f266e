-- Document 02, Papers 11 and 12: A LIVE RUN, call by call, beside its history: "plain lists of readings, the run's and each set moment's". That all of
-- it holds of the live calls is `live_runs` (laws/LiveRuns).
use Rattle.std.specs.Prelude.{ℕ, ◌*◌, ◌≤◌, ◌≡◌, length}
use mathlib.Core.List.{List, [], ◌∷◌, ◌++◌, map, Memᴰ}
use Rattle.refusal.specs.Outcome.{Outcome, result, refused}
use Rattle.recording.specs.Recording.{Raw, concat}
use Rattle.live_state.specs.Limits.{most_held}
use Rattle.live_state.specs.State.{live_bytes}
use Rattle.live.specs.History.{History, begun, set, last_set, kept_run}
use Rattle.promises.specs.Conditions.{TableLine, MarksOff, NoneMet, FirstMet}
use Rattle.promises.specs.Page as call
use Rattle.promises.specs.Page.{Effect, effect, writing, IsAnswer}
use Rattle.promises.specs.KeptAsFull.{AcceptedRecording}
use Rattle.promises.specs.LiveCalls.{LiveCall, start, add, save, restore, read, entry, LiveStage, no_run, running, live_refusals}
use Rattle.promises.specs.InTurn.{Exchange, InTurn, ByHistory, Machine, Carries, HoldsNone, OfAnyBytes}

pub data IsStart : LiveCall → Type 0 where
  a_start : {marks : List ℕ} → IsStart (start marks)

-- WHAT EACH CALL ANSWERS, and the stage after it
pub data LiveStep (size : ℕ) : LiveStage → LiveCall → (room : ℕ) → Outcome Effect → LiveStage → Type 0 where
  -- "A run starts empty with its marks"
  begins : {s : LiveStage} {marks : List ℕ} {room : ℕ} → NoneMet (live_refusals size s (start marks) room)
      → LiveStep size s (start marks) room (result (effect 0 [])) (running (begun marks))
  not_begun : {s : LiveStage} {marks : List ℕ} {room n p : ℕ} → FirstMet (live_refusals size s (start marks) room) n p
      → LiveStep size s (start marks) room (refused n p) no_run
  arrives : {h : History} {x : List ℕ} {room : ℕ} → NoneMet (live_refusals size (running h) (add x) room)
      → LiveStep size (running h) (add x) room (result (effect 0 [])) (running (record { marks = h.marks; run = h.run ++ x ∷ []; moments = h.moments }))
  is-set : {h : History} {name room : ℕ} → NoneMet (live_refusals size (running h) (save name) room)
      → LiveStep size (running h) (save name) room (result (effect 0 []))
      (running (record { marks = h.marks; run = h.run; moments = record { name = name; readings = h.run } ∷ h.moments }))
  -- "Going back gives the kept readings of the run as it was at that moment .. All named moments, that one too, stay set as they were"
  goes_back : {h : History} {name room : ℕ} {run : List Raw} → NoneMet (live_refusals size (running h) (restore name) room) → last_set name h.moments ≡ set run
      → LiveStep size (running h) (restore name) room (result (effect 0 [])) (running (record { marks = h.marks; run = run; moments = h.moments }))
  -- "after each the kept readings are those of the run so far under these marks"; "what a fresh reckoning of the run would give" (Paper 12)
  read-out : {h : History} {room : ℕ} → NoneMet (live_refusals size (running h) read room)
      → LiveStep size (running h) read room (result (writing (kept_run h))) (running h)
  run-entry : {h : History} {room : ℕ} {x : Effect} → NoneMet (live_refusals size (running h) entry room) → IsAnswer (concat h.run) call.entry x
      → LiveStep size (running h) entry room (result x) (running h)
  -- "A refused step changes nothing"
  refused_step : {s : LiveStage} {c : LiveCall} {room n p : ℕ} → ¬ IsStart c → FirstMet (live_refusals size s c room) n p → LiveStep size s c room (refused n p) s

-- a start and a step have no place to write; a read_out has an output, however long
abbrev pub LiveLent : LiveCall → (before : List ℕ) → Type 0
LiveLent (start marks) before = length before ≡ 0
LiveLent (add x) before = length before ≡ 0
LiveLent (save name) before = length before ≡ 0
LiveLent (restore name) before = length before ≡ 0
LiveLent read before = Unit {0}
LiveLent entry before = Unit {0}

-- the run is an accepted recording under accepted marks, of which at most 128 readings are held. So what is read out is in its place (KeptAsFull
-- `in_place`), and is cut on as the run itself (Thinning `Going-on`): "Going back makes the discarded readings no part of the run, for cutting as well
-- as for questions"
abbrev pub SoundRun : LiveStage → Type 0
SoundRun no_run = Unit {0}
SoundRun (running h) = AcceptedRecording (concat h.run) × (¬ MarksOff h.marks) × (length (kept_run h) ≤ 16 * most_held)

pub record LiveRuns (m : Machine LiveCall) : Type 0 where
  -- every list of calls that begins with a start, whatever the bytes held, or with bytes that hold no run, refused calls included
  pub every_list : {b b'' : List ℕ} {x : Exchange LiveCall} {xs : List (Exchange LiveCall)} → IsStart x.call
      → InTurn (Carries m LiveLent) b (x ∷ xs) b'' → (s : LiveStage) × ByHistory (LiveStep (length b)) no_run (x ∷ xs) s × SoundRun s
  pub from_none : {b b'' : List ℕ} {xs : List (Exchange LiveCall)} → HoldsNone m IsStart 11 b
      → InTurn (Carries m LiveLent) b xs b'' → (s : LiveStage) × ByHistory (LiveStep (length b)) no_run xs s × SoundRun s
  pub step_once : {size room : ℕ} {s s' s'' : LiveStage} {c : LiveCall} {o o' : Outcome Effect}
      → LiveStep size s c room o s' → LiveStep size s c room o' s'' → (o ≡ o') × (s' ≡ s'')
  -- any bytes: which hold a run, what a refusal leaves, and by which numbers
  pub any-bytes : OfAnyBytes m IsStart live_bytes 11
  pub refused_stays : (b : List ℕ) (c : LiveCall) (room n p : ℕ) → ¬ IsStart c → (m b c room).outcome ≡ refused n p → (m b c room).state ≡ b
  pub listed : (b : List ℕ) (c : LiveCall) (room n p : ℕ) → (m b c room).outcome ≡ refused n p
      → (s : LiveStage) → Memᴰ n (map (λ (l : TableLine). l.number) (live_refusals (length b) s c room))
