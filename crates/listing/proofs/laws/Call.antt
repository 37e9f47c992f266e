-- The find call, line by line.
use Rattle.refusal.specs.declared.Refusal.{Refusal}
use Rattle.std.specs.Prelude.{ℕ, ◌*◌, ◌%◌, ◌<◌, ◌≤◌, ◌≡◌, true, false, List, [], ◌∷◌, ◌++◌, ltb, eqb, ℤ, Result, Ok, Err, Some, None}
use native.Mathlib.Omega.{arith}
use Rattle.std.proofs.Math.Path.{sym, ap, ap₂, subst}
use Rattle.std.proofs.Common.{◌∙◌, lt-ltb, le-ltb, ltb-false, eq-eqb, ne_eqb}
use Rattle.std.proofs.Math.Bool.{not}
use Rattle.std.proofs.Math.ListN.{length, drop}
use Rattle.number.specs.Axis.{whole}
use Rattle.number.specs.Words.{words_bytes}
use Rattle.number.proofs.laws.Boolean.{or_left, or_right, or_none, none_right}
use Rattle.number.proofs.laws.Words.{length-row}
use Rattle.refusal.specs.Outcome.{Outcome, judged}
use Rattle.refusal.specs.declared.Refusal.TheVariants.{ShortOutput, BadTarget, BadSummary}
use Rattle.recording.specs.Reading.{Curve, curve_of}
use Rattle.recording.specs.Output.{Answers, output_line}
use Rattle.recording.proofs.laws.Outcome.{judged-first, judged_pass, judged_none, answers_refused, answers_written}
use Rattle.targets.specs.Target.{off_axis, Placed, bad_target}
use Rattle.entry.specs.Entry.{entry_bytes}
use Rattle.listing.specs.Listing.{most_entries, entry_count, entry_at, said_to_reach, numbers_to, listing}
use Rattle.listing.proofs.laws.Listing.{count_few}
use Rattle.listing.specs.Call.{bad_summary, level_lines, find_of}

module _ (summary : List ℕ) (curve : ℕ) (out : List ℕ) where
  -- the listing at a level, and what the output line makes of it
  abbrev listed : ℤ → List ℕ
  listed z = listing (curve_of curve) z summary

  abbrev written : ℤ → Outcome (List ℕ)
  written z = judged (output_line (length out) (listed z) ∷ []) (listed z)

  module _ (n : ℕ) (whole-entries : length summary ≡ n * entry_bytes) where
    -- 4 bytes for each number
    size_listed : (z : ℤ) (k : ℕ) → k ≡ length (numbers_to (curve_of curve) z summary n) → 4 * k ≡ length (listed z)
    unfolding listing
    size_listed z k e =
        let d : n ≡ entry_count summary = omega arith in
        ap (λ (m : ℕ). 4 * m) (e ∙ ap (λ (m : ℕ). length (numbers_to (curve_of curve) z summary m)) d) ∙ sym (length-row (numbers_to (curve_of curve) z summary (entry_count summary)))

    module _ (z : ℤ) (k : ℕ) (counted : k ≡ length (numbers_to (curve_of curve) z summary n)) where
      -- 10
      pub of_short : length out < 4 * k → Answers (written z) out (Err ShortOutput) out
      of_short h =
          answers_refused (written z) out ShortOutput
          (judged-first (output_line (length out) (listed z)) [] (listed z) (lt-ltb (length out) (length (listed z)) (omega (arith, size_listed z k counted))))

      -- the numbers are written
      pub of_written : 4 * k ≤ length out → (new : List ℕ)
          → new ≡ words_bytes (numbers_to (curve_of curve) z summary n) ++ drop (4 * length (numbers_to (curve_of curve) z summary n)) out → Answers (written z) out (Ok (4 * k)) new
      unfolding listing
      of_written h new w =
          let d : n ≡ entry_count summary = omega arith in
          answers_written (written z) out (listed z) new (4 * k)
          (judged_none (output_line (length out) (listed z) ∷ []) (listed z) (le-ltb (length out) (length (listed z)) (omega (arith, size_listed z k counted)), tt)) (size_listed z k counted)
          (w ∙ ap₂ (λ (m j : ℕ). words_bytes (numbers_to (curve_of curve) z summary m) ++ drop (4 * j) out) d (sym counted))

  module _ (level : ℤ) where
    abbrev judged_level : Outcome (List ℕ)
    judged_level = judged (level_lines summary curve level (length out)) (listed level)

    -- 12
    bad : (bad_target curve level).meets ≡ true → Answers judged_level out (Err BadTarget) out
    bad m = answers_refused judged_level out BadTarget (judged-first (bad_target curve level) (output_line (length out) (listed level) ∷ []) (listed level) m)

    pub of_no_curve : 1 < curve → Answers judged_level out (Err BadTarget) out
    of_no_curve h = bad (or_left (ltb 1 curve) (off_axis level) (lt-ltb 1 curve h))

    pub of_off_axis : Placed level None → Answers judged_level out (Err BadTarget) out
    of_off_axis h = bad (or_right (ltb 1 curve) (off_axis level) h)

    -- on the axis
    pub of_index : curve ≤ 1 → (index : ℕ) → Placed level (Some index) → (r : Result ℕ Refusal) (new : List ℕ) → Answers (written (whole index)) out r new → Answers judged_level out r new
    of_index h index p r new w =
        subst (λ (o : Outcome (List ℕ)). Answers o out r new)
        (ap written p.2 ∙ sym (judged_pass (bad_target curve level ∷ []) (output_line (length out) (listed level) ∷ []) (listed level) (or_none (le-ltb 1 curve h) p.0, tt))) w

    -- 20
    bad-summary : (bad_summary summary).meets ≡ true → Answers (find_of summary curve level (length out)) out (Err BadSummary) out
    unfolding find_of
    bad-summary m =
        answers_refused (find_of summary curve level (length out)) out BadSummary
        (judged-first (bad_summary summary) (level_lines summary curve level (length out)) (listed level) m)

    pub of_partial : (length summary % entry_bytes ≡ 0 → ⊥) → Answers (find_of summary curve level (length out)) out (Err BadSummary) out
    of_partial h = bad-summary (or_left (not (eqb (length summary % entry_bytes) 0)) (ltb most_entries (entry_count summary)) (ap not (ne_eqb (length summary % entry_bytes) 0 h)))

    pub of_many : most_entries < entry_count summary → Answers (find_of summary curve level (length out)) out (Err BadSummary) out
    of_many h = bad-summary (or_right (not (eqb (length summary % entry_bytes) 0)) (ltb most_entries (entry_count summary)) (lt-ltb most_entries (entry_count summary) h))

    -- a summary in entries, few enough
    pub of_entries : length summary % entry_bytes ≡ 0 → entry_count summary ≤ most_entries → (r : Result ℕ Refusal) (new : List ℕ) → Answers judged_level out r new
        → Answers (find_of summary curve level (length out)) out r new
    unfolding find_of
    of_entries e h r new w =
        subst (λ (o : Outcome (List ℕ)). Answers o out r new)
        (sym (judged_pass (bad_summary summary ∷ []) (level_lines summary curve level (length out)) (listed level)
        (or_none (ap not (eq-eqb (length summary % entry_bytes) 0 e)) (le-ltb most_entries (entry_count summary) h), tt))) w

-- a listing takes at most 4 bytes for each entry
pub listing-short : (c : Curve) (z : ℤ) (summary : List ℕ) → length (listing c z summary) ≤ 4 * entry_count summary
unfolding listing
listing-short c z summary =
    let count = count_few (λ i. said_to_reach c z (entry_at summary i)) 0 (entry_count summary) in
    omega (arith, length-row (numbers_to c z summary (entry_count summary)))

-- so at most 8,192, where 20 does not refuse the summary
pub listing_few : (c : Curve) (z : ℤ) (summary : List ℕ) → (bad_summary summary).meets ≡ false → length (listing c z summary) ≤ 4 * most_entries
listing_few c z summary m =
    let few = ltb-false most_entries (entry_count summary) (none_right (not (eqb (length summary % entry_bytes) 0)) (ltb most_entries (entry_count summary)) m) in
    omega (arith, listing-short c z summary)
