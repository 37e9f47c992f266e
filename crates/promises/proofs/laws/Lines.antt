-- THE LINES HOLD: formulas, the marked lines of R1, R2 and R3, and the band of width 0.
use Rattle.std.specs.Prelude.{ℕ, ◌+◌, ◌*◌, ◌≤◌, ◌≡◌, refl, Bool, true, false, cond, ◌↔◌, List, ◌++◌, ltb, ℤ, pos, length}
use Rattle.std.proofs.Common.{arith, sym, ap, subst, ◌∙◌}
use mathlib.Core.List.Memᴰ
use Rattle.number.specs.Axis.{whole}
use Rattle.number.specs.Words.{words_bytes}
use Rattle.number.proofs.laws.Boolean.{clash, then}
use Rattle.refusal.specs.Outcome.{Outcome, result, refused, judged}
use Rattle.recording.specs.Reading.{Reading, Curve}
use Rattle.recording.specs.Recording.{readings}
use Rattle.recording.specs.R1.{R1}
use Rattle.recording.specs.R2.{R2}
use Rattle.recording.specs.R3.{R3}
use Rattle.grammar.specs.Syntax.{Text, Listed, listed, high, low, lowafter, capafter, peaks, dips, cross, crossup, ampl, gaps, steps, lag, dose}
use Rattle.grammar.specs.Grammar.{ReadsWhole}
use Rattle.text.specs.Told.{text_lines}
use Rattle.meaning.specs.Listed.{Says}
use Rattle.meaning.specs.Meaning.{Holds}
use Rattle.meaning.specs.Overfull.{Node, itself, of_child, Differences, of_gaps, of_steps, of_lag, TooManyTops}
use Rattle.meaning.proofs.laws.Recorded.{accepted_recorded}
use Rattle.degree.specs.inner.Reach.{mapped}
use Rattle.band.specs.Band.{OfExtremes, of_high, of_low, of_lowafter, of_capafter, of_ampl}
use Rattle.band.proofs.laws.Widths.{certain_exact, possible_exact}
use Rattle.thin.specs.Thin.{kept_bytes}
use Rattle.promises.specs.MaximalRuns.{Interval, MaximalRuns, runs_bytes}
use Rattle.promises.proofs.laws.MaximalRuns.{one_runs, runs_for}
use Rattle.promises.specs.Conditions.{text_table, TooManyRuns, OneExtreme, NoneMet}
use Rattle.promises.proofs.laws.Conditions.{done, none_meets}
use Rattle.promises.proofs.laws.Rows.{agree_text}
use Rattle.promises.proofs.laws.Acceptance.{accepted-lines}
use Rattle.promises.specs.Page.{question, degree, thin, band, Effect, effect, writing, ends, two-sets, the_set, Right, answers}
use Rattle.promises.proofs.laws.Computed.{of_value, right_computed}
use Rattle.promises.proofs.laws.Page.{is_computed, same_text}
use Rattle.promises.specs.Lines.{MarkedLine, asks, keeps, bytes_of_runs, written_in, Line, Lines}
use Rattle.promises.specs.inner.LinesComputed as computed
use Rattle.promises.specs.inner.LinesComputed.{SameOutcome, ReadsAs, LineHolds}
use Rattle.promises.proofs.laws.OldRecordings.{none_old}
use Rattle.promises.proofs.laws.FormulasAsked.{formulas_asked}
use Rattle.promises.proofs.laws.MarkedLines.{marked_hold, R2-hold, R3-hold}

-- ---- formulas

reads_as : (text : List ℕ) (p : Text) → ReadsWhole text p → NoneMet (text_table text) → ReadsAs text p
reads_as text p r n = record { reads = r; sized = none_meets (text_lines text) (text_table text) (agree_text text (λ k. done)) n }

same_asked : (s t : List ℕ) → SameOutcome s t → {g : List ℕ} {room : ℕ} {o : Outcome Effect} → Right (question s) g room o → Right (question t) g room o
same_asked s t e {g} {room} h = subst (Right (question t) g room) (sym (is_computed h ∙ ap (mapped writing) (e.question g room))) (right_computed (question t) g room)

same_near : (s t : List ℕ) → SameOutcome s t → {target : ℤ} {g : List ℕ} {room : ℕ} {o : Outcome Effect} → Right (degree s target) g room o → Right (degree t target) g room o
same_near s t e {target} {g} {room} h =
    subst (Right (degree t target) g room) (sym (is_computed h ∙ ap (mapped of_value) (e.degree g target))) (right_computed (degree t target) g room)

-- ---- marked lines

written_too : (room : ℕ) (b : List ℕ) → mapped writing (computed.written_in room b) ≡ written_in room b
unfolding judged
written_too room b = by (ltb room (length b))
  where
    by : (t : Bool) → mapped writing (cond t (refused 10 0) (result b)) ≡ cond t (refused 10 0) (result (writing b))
    by true = refl
    by false = refl

line_of : (g : List ℕ) (l : MarkedLine) → LineHolds g l → Line g l
line_of g (asks text runs) a = λ room.
    subst (Right (question text) g room) (ap (mapped writing) (a.call room) ∙ written_too room (bytes_of_runs runs)) (right_computed (question text) g room)
line_of g (keeps marks times) a = (
  a.kept,
  λ room. subst (Right (thin (words_bytes marks)) g room) (ap (mapped writing) (a.call room) ∙ written_too room (kept_bytes marks g)) (right_computed (thin (words_bytes marks)) g room),
)

-- ---- the band of width 0

node_alone : {p : Text} {q : Listed} → Node p (listed q) → p ≡ listed q
node_alone itself = refl
node_alone (of_child m n) = absurd (Memᴰ.not-nil m)

-- which questions take differences between tops
abbrev differs : Listed → Bool
differs (high c) = false
differs (low c) = false
differs (lowafter c k) = false
differs (capafter c k) = false
differs (peaks c) = false
differs (dips c) = false
differs cross = false
differs crossup = false
differs (ampl c) = false
differs (gaps c) = true
differs (steps c) = true
differs lag = true
differs (dose k) = false

extreme_same : {q : Listed} → OfExtremes q → differs q ≡ false
extreme_same of_high = refl
extreme_same of_low = refl
extreme_same of_lowafter = refl
extreme_same of_capafter = refl
extreme_same of_ampl = refl

difference_differs : {q : Listed} {c : Curve} → Differences q c → differs q ≡ true
difference_differs of_gaps = refl
difference_differs of_steps = refl
difference_differs of_lag = refl

same_listed : (q q' : Listed) → listed q ≡ listed q' → q ≡ q'
same_listed q q' e = cc

no_nine : (r : List Reading) (q : Listed) → OneExtreme (listed q) → TooManyTops r (listed q) → ⊥
no_nine r q o t =
    let e : q ≡ o.0 = same_listed q o.0 o.1 in
    let f : t.question ≡ q = same_listed t.question q (node_alone t.of_text) in
    clash (ap differs (sym (f ∙ e)) ∙ difference_differs t.over) (extreme_same o.2)

module _ (g text : List ℕ) (q : Listed) (rs : List Interval) (reads : ReadsWhole text (listed q)) (set : MaximalRuns (λ z. Holds (readings g) z (listed q) 0) rs) (few : length rs ≤ 1) where
  one_set : (t : Text) → ReadsWhole text t → (ss : List Interval) → MaximalRuns (λ z. Holds (readings g) z t 0) ss → length ss ≤ 1
  one_set t r ss m =
      subst (λ (l : List Interval). length l ≤ 1) (one_runs set (subst (λ (p : Text). MaximalRuns (λ z. Holds (readings g) z p 0) ss) (same_text text t (listed q) r reads) m)) few

  no_eight : (t : Text) → ReadsWhole text t → TooManyRuns (readings g) t → ⊥
  no_eight t r o = by (subst (TooManyRuns (readings g)) (same_text text t (listed q) r reads) o)
    where
      by : TooManyRuns (readings g) (listed q) → ⊥
      by o =
          let m = subst (λ (i : ℕ). MaximalRuns (λ z. Holds (readings g) z o.node i) o.runs) (o.first refl) o.maximal in
          let l = one_set (listed q) reads o.runs (subst (λ (p : Text). MaximalRuns (λ z. Holds (readings g) z p 0) o.runs) (node_alone o.of_text) m) in
          let k = o.many in
          omega arith

-- a listed question holds where it says so
says_holds : (q : Listed) (r : List Reading) (z : ℤ) → Says q r z ↔ Holds r z (listed q) 0
unfolding Holds
says_holds q r z = (λ h. h, λ h. h)

band_today : {text g : List ℕ} {x : Effect} → Right (band text (pos 0)) g 4 (result x)
    → (rs : List Interval) × (length rs ≤ 1) × (x ≡ effect (length rs + 2 * length rs) (ends rs ++ ends rs))
    × ((room : ℕ) → 8 ≤ room → Right (question text) g room (result (writing (runs_bytes rs))))
band_today {text} {g} (answers n (two-sets q certain possible reads mc mp lc lp)) =
    let range = (accepted_recorded g (accepted-lines g (n.0, (n.1.0, (n.1.1.0, tt))))).in-range in
    let set : MaximalRuns (λ z. Holds (readings g) z (listed q) 0) certain = runs_for (λ i h. then (certain_exact q (readings g) (whole i) range) (says_holds q (readings g) (whole i))) mc in
    let same : possible ≡ certain = one_runs (runs_for (λ i h. then (possible_exact q (readings g) (whole i) range) (says_holds q (readings g) (whole i))) mp) set in (
      certain,
      lc,
      ap (λ (p : List Interval). effect (length certain + 2 * length p) (ends certain ++ ends p)) same,
      λ room h. answers (
        n.0,
        (
          n.1.0,
          (
            n.1.1.0,
            (
              n.1.1.1.0,
              (
                n.1.1.1.1.0,
                (
                  n.1.1.1.1.1.0,
                  (
                    n.1.1.1.1.1.1.0,
                    (
                      (λ p k. n.1.1.1.1.1.1.1.1.0 0 (refl, (listed q, reads, λ o. no_nine (readings g) q o (subst (TooManyTops (readings g)) (same_text text k.1.0 (listed q) k.1.1 reads) k.1.2)))),
                      (
                        (λ p k. no_eight g text q certain reads set lc k.1.0 k.1.1 k.1.2),
                        ((λ p k. let l = one_set g text q certain reads set lc k.1.0 k.1.1 k.1.2.0 k.1.2.1 in let m = k.1.2.2 in omega arith), tt),
                      ),
                    ),
                  ),
                ),
              ),
            ),
          ),
        ),
      ) (the_set certain reads set),
    )

-- ---- LINES
pub lines : Lines
lines = record {
  as_formula = λ q p f s t r r' n n' h. same_asked s t (formulas_asked q p f s t (reads_as s (listed q) r n) (reads_as t p r' n')) h;
  degree_as_formula = λ q p f s t r r' n n' h. same_near s t (formulas_asked q p f s t (reads_as s (listed q) r n) (reads_as t p r' n')) h;
  marked = λ l m. line_of R1 l (marked_hold l m);
  marked_R2 = λ l m. line_of R2 l (R2-hold l m);
  marked_R3 = λ l m. line_of R3 l (R3-hold l m);
  today = band_today;
  old = none_old;
}
