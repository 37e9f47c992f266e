-- Document 02, Paper 8: A REPORT, call by call. Its history is what was named, and how far the set of each recording taken so far is from the target.
-- That all of it holds of the report calls is `reports` (laws/Reports).
use Rattle.std.specs.Prelude.{ℕ, suc, ◌<◌, ◌≡◌, ℤ, length}
use mathlib.Core.List.{List, [], ◌∷◌, ◌++◌, map, Memᴰ}
use Rattle.std.specs.Float.{binary64}
use Rattle.std.specs.Float.Ieee.{to_bits}
use Rattle.number.specs.Axis.{axis}
use Rattle.refusal.specs.Outcome.{Outcome, result, refused}
use Rattle.recording.specs.Recording.{readings}
use Rattle.grammar.specs.Syntax.{Text}
use Rattle.grammar.specs.Grammar.{ReadsWhole}
use Rattle.degree.specs.Degree.{Reach, away, nowhere}
use Rattle.degree.specs.Nearest.{Member, Distance}
use Rattle.mean.specs.Mean.{mean_of, exact_mean, WithinBillionth}
use Rattle.report.specs.Report.{met_in, empty_in, distances_in, sum_in, Naming, report_bytes, Stage, closed, under_way, ReportCall, start_report, add_batch}
use Rattle.marks.specs.Marks.{marks_of}
use Rattle.thin.specs.Selection.{Selection}
use Rattle.promises.specs.Conditions.{TableLine, ◌upon◌, text_table, CountBad, TargetOff, NoneMet, FirstMet}
use Rattle.promises.specs.Page.{degree, put, unchanged, Effect, effect, AtIndex, Right}
use Rattle.promises.specs.KeptAsFull.{AcceptedRecording, Askable}
use Rattle.promises.specs.InTurn.{Exchange, InTurn, ByHistory, Machine, Carries, HoldsNone, OfAnyBytes}

-- how far the target is from the set of the text, of the recording g: the distance of the nearest member, 0 for a member; or there is none
pub data FarFrom (text : List ℕ) (target : ℤ) (g : List ℕ) : Reach → Type 0 where
  at_distance : {t : Text} (v d : ℕ) → AtIndex v target → ReadsWhole text t → Distance (readings g) t v d → FarFrom text target g (away d)
  no_member : {t : Text} → ReadsWhole text t → ((w : ℕ) → w < axis → ¬ Member (readings g) t w) → FarFrom text target g nowhere

-- how many met it, how many had an empty set, the exact sum of the other distances, and the mean degree by its bits; 1 with a mean, 2 without
abbrev pub report_of : List Reach → (distances : List ℕ) → Effect
report_of xs [] = effect 2 (put (met_in xs) ∷ put (empty_in xs) ∷ put 0 ∷ unchanged ∷ [])
report_of xs (d ∷ ds) = effect 1 (put (met_in xs) ∷ put (empty_in xs) ∷ put (sum_in (d ∷ ds)) ∷ put (to_bits binary64 (mean_of (d ∷ ds))) ∷ [])

-- "The mean lies within one part in 1,000,000,000 of the exact fraction", of the batches that were handed in
abbrev pub MeanWithin : (distances : List ℕ) → Type 0
MeanWithin [] = Unit {0}
MeanWithin (d ∷ ds) = WithinBillionth (mean_of (d ∷ ds)) (exact_mean (d ∷ ds))

-- "Naming is refused by 15, then 5, 6, 7 and 12"; and by 10, ours, where the bytes lent are fewer than a report takes
abbrev pub naming_refusals : Naming → (size : ℕ) → List TableLine
naming_refusals n size = 15 upon CountBad n.count ∷ text_table n.text ++ 12 upon TargetOff n.target ∷ 10 upon (size < report_bytes) ∷ []

-- WHAT EACH CALL ANSWERS, and the history after it; `size` bytes are lent for the report
pub data ReportStep (size : ℕ) : Stage → ReportCall → (room : ℕ) → Outcome Effect → Stage → Type 0 where
  -- a naming; one that is refused leaves no report
  named : {s : Stage} {n : Naming} {room : ℕ} → NoneMet (naming_refusals n size)
      → ReportStep size s (start_report n) room (result (effect 0 [])) (under_way n [])
  not_named : {s : Stage} {n : Naming} {room k p : ℕ} → FirstMet (naming_refusals n size) k p → ReportStep size s (start_report n) room (refused k p) closed
  -- 15 "for a recording handed in after the named count or after a refusal"
  no-report : {g : List ℕ} {room : ℕ} → ReportStep size closed (add_batch g) room (refused 15 0) closed
  -- "A recording that the degree call would refuse stops the report with that refusal"
  stopped : {n : Naming} {xs : List Reach} {g : List ℕ} {room k p : ℕ} → Right (degree n.text n.target) g 2 (refused k p)
      → ReportStep size (under_way n xs) (add_batch g) room (refused k p) closed
  -- "an earlier one that is not refused is answered only as taken"; "The report comes with the last recording of the named count"
  taken : {n : Naming} {xs : List Reach} {g : List ℕ} {room : ℕ} {e : Effect} (x : Reach) → Right (degree n.text n.target) g 2 (result e)
      → FarFrom n.text n.target g x → ¬ (suc (length xs) ≡ n.count)
      → ReportStep size (under_way n xs) (add_batch g) room (result (effect 0 [])) (under_way n (xs ++ x ∷ []))
  given : {n : Naming} {xs : List Reach} {g : List ℕ} {room : ℕ} {e : Effect} (x : Reach) → Right (degree n.text n.target) g 2 (result e)
      → FarFrom n.text n.target g x → suc (length xs) ≡ n.count → MeanWithin (distances_in (xs ++ x ∷ []))
      → ReportStep size (under_way n xs) (add_batch g) room (result (report_of (xs ++ x ∷ []) (distances_in (xs ++ x ∷ [])))) closed

-- a naming has no place to write; a recording that is handed in four: met, empty, distances and mean
abbrev pub ReportLent : ReportCall → (before : List ℕ) → Type 0
ReportLent (start_report n) before = length before ≡ 0
ReportLent (add_batch g) before = length before ≡ 4

pub data IsNaming : ReportCall → Type 0 where
  a_naming : {n : Naming} → IsNaming (start_report n)

-- the numbers of a call's refusals
abbrev pub report_numbers : ReportCall → List ℕ
report_numbers (start_report n) = map (λ (l : TableLine). l.number) (naming_refusals n 0)
report_numbers (add_batch g) = 15 ∷ 1 ∷ 2 ∷ 3 ∷ 4 ∷ 9 ∷ 8 ∷ []

-- where a report is under way, its text may be asked of kept readings
abbrev pub AskedIn : (marks : List ℕ) → Stage → Type 0
AskedIn marks closed = Unit {0}
AskedIn marks (under_way n xs) = Askable marks n.text

pub record Reports (m : Machine ReportCall) : Type 0 where
  -- every list of calls that begins with a naming, whatever the bytes held, or with bytes that hold no report, refused calls included
  pub every_list : {b b'' : List ℕ} {x : Exchange ReportCall} {xs : List (Exchange ReportCall)} → IsNaming x.call
      → InTurn (Carries m ReportLent) b (x ∷ xs) b'' → (s : Stage) × ByHistory (ReportStep (length b)) closed (x ∷ xs) s
  pub from_none : {b b'' : List ℕ} {xs : List (Exchange ReportCall)} → HoldsNone m IsNaming 15 b
      → InTurn (Carries m ReportLent) b xs b'' → (s : Stage) × ByHistory (ReportStep (length b)) closed xs s
  pub step_once : {size room : ℕ} {s s' s'' : Stage} {c : ReportCall} {o o' : Outcome Effect}
      → ReportStep size s c room o s' → ReportStep size s c room o' s'' → (o ≡ o') × (s' ≡ s'')
  -- from kept readings the same is answered and handed on, byte by byte
  pub from-kept : (marks : List ℕ) {recording held : List ℕ} → AcceptedRecording recording → Selection (marks_of marks) recording held
      → {b b'' : List ℕ} {x : Exchange ReportCall} {xs : List (Exchange ReportCall)} {s : Stage} → IsNaming x.call
      → InTurn (Carries m ReportLent) b (x ∷ xs) b'' → ByHistory (ReportStep (length b)) closed (x ∷ xs) s → AskedIn marks s
      → (room : ℕ) → m b'' (add_batch held) room ≡ m b'' (add_batch recording) room
  -- any bytes: which hold a report, what a refusal leaves, and by which numbers
  pub any-bytes : OfAnyBytes m IsNaming report_bytes 15
  pub no_report_stays : (b g : List ℕ) (room p : ℕ) → (m b (add_batch g) room).outcome ≡ refused 15 p → (m b (add_batch g) room).state ≡ b
  pub listed : (b : List ℕ) (c : ReportCall) (room n p : ℕ) → (m b c room).outcome ≡ refused n p → Memᴰ n (report_numbers c)
