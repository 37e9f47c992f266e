-- Figures of small lists, and a report that is stopped.
use Rattle.std.specs.Prelude.{ℕ, ◌≡◌, refl, false, List, [], ◌∷◌, ℤ, negsuc}
use Rattle.std.proofs.Common.{ap, ◌∙◌}
use Rattle.std.specs.Float.{fin}
use Rattle.std.specs.Float.Ieee.{add, div, of_int, round}
use Rattle.refusal.specs.Outcome.{Outcome, result, refused}
use Rattle.binary64.specs.Degree.{degree_of}
use Rattle.degree.specs.Degree.{Reach, away, nowhere, reach_of}
use Rattle.report.specs.Report.{figures_of, no_mean, mean_degree, Naming, Answer, taken, batch_answer, onward, closed, under_way, start_report, add_batch, named, opened_by, report_answers}
use Rattle.report.specs.inner.Naming.{naming}

-- one met, one at 1, one with an empty set and two at 3: the degrees 1, 1/2, 1/4 and 1/4 have the mean 1/2
mixed : figures_of (away 0 ∷ away 1 ∷ nowhere ∷ away 3 ∷ away 3 ∷ []) ≡ record { met = 1; empty = 1; distances = 7; mean = mean_degree (fin false 1 (negsuc 0)) }
unfolding degree_of add div of_int round
mixed = refl

-- with none left there is no mean
all_empty : figures_of (nowhere ∷ nowhere ∷ []) ≡ record { met = 0; empty = 2; distances = 0; mean = no_mean }
all_empty = refl

-- of three recordings the second is refused by 1: the third is 15, whatever it holds
module _ (room : ℕ) (text : List ℕ) (g : ℤ) (first second third : List ℕ) (x : Reach) where
  abbrev n : Naming
  n = naming 3 text g

  after-second : (o : Outcome Reach) → o ≡ refused 1 0 → batch_answer n (x ∷ []) o ∷ report_answers room (onward n (x ∷ []) o) (add_batch third ∷ []) ≡ refused 1 0 ∷ refused 15 0 ∷ []
  after-second o e = ap (λ (p : Outcome Reach). batch_answer n (x ∷ []) p ∷ report_answers room (onward n (x ∷ []) p) (add_batch third ∷ [])) e

  after_first : (o : Outcome Reach) → o ≡ result x
      → batch_answer n [] o ∷ report_answers room (onward n [] o) (add_batch second ∷ add_batch third ∷ []) ≡ result taken ∷ report_answers room (under_way n (x ∷ [])) (add_batch second ∷ add_batch third ∷ [])
  after_first o e = ap (λ (p : Outcome Reach). batch_answer n [] p ∷ report_answers room (onward n [] p) (add_batch second ∷ add_batch third ∷ [])) e

  stopped_by_1 : named room n ≡ result taken → reach_of first text g ≡ result x → reach_of second text g ≡ refused 1 0
      → report_answers room closed (start_report n ∷ add_batch first ∷ add_batch second ∷ add_batch third ∷ []) ≡ result taken ∷ result taken ∷ refused 1 0 ∷ refused 15 0 ∷ []
  stopped_by_1 a b c =
      ap (λ (o : Outcome Answer). o ∷ report_answers room (opened_by n o) (add_batch first ∷ add_batch second ∷ add_batch third ∷ [])) a
      ∙ ap (λ (l : List (Outcome Answer)). result taken ∷ l) (after_first (reach_of first text g) b ∙ ap (λ (l : List (Outcome Answer)). result taken ∷ l) (after-second (reach_of second text g) c))
