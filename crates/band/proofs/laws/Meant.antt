-- DEMAND 2, of the band call: the two sets that it gives are those that the text's one reading means.
use Rattle.std.specs.Prelude.{ℕ, ◌≡◌, refl, true, List, pos}
use Rattle.std.proofs.Common.{arith, sym, subst, ◌∙◌}
use Rattle.std.proofs.lemmas.Bool.{false≢true, not-false}
use Rattle.refusal.specs.Outcome.{result}
use Rattle.recording.specs.Recording.{readings}
use Rattle.grammar.specs.Syntax.{Listed, high, low, lowafter, capafter, peaks, dips, cross, crossup, dose, ampl, gaps, steps, lag, Text, atom, listed, or, and, neg, finally, globally, next, until, weak_until}
use Rattle.grammar.specs.Grammar.{ReadsWhole}
use Rattle.meaning.proofs.laws.Recorded.{accepted_recorded}
use Rattle.question.specs.Question.{read}
use Rattle.question.proofs.laws.Lines.{read_reads, reads_read}
use Rattle.band.specs.Band.{OfExtremes, of_high, of_low, of_lowafter, of_capafter, of_ampl}
use Rattle.band.specs.Means.{Bands}
use Rattle.band.specs.Means.{Mean, Meant}
use Rattle.band.specs.Call.{of_extremes, one_extreme, the_question, band_of}
use Rattle.band.proofs.laws.Meaning.{bands_mean}
use Rattle.band.proofs.laws.OnAxis.{shown, width_narrow}

-- ---- the five, as a test

pub extreme_test : (q : Listed) → of_extremes q ≡ true → OfExtremes q
extreme_test (high c) h = of_high
extreme_test (low c) h = of_low
extreme_test (lowafter c k) h = of_lowafter
extreme_test (capafter c k) h = of_capafter
extreme_test (ampl c) h = of_ampl
extreme_test (peaks c) h = absurd (false≢true h)
extreme_test (dips c) h = absurd (false≢true h)
extreme_test cross h = absurd (false≢true h)
extreme_test crossup h = absurd (false≢true h)
extreme_test (dose k) h = absurd (false≢true h)
extreme_test (gaps c) h = absurd (false≢true h)
extreme_test (steps c) h = absurd (false≢true h)
extreme_test lag h = absurd (false≢true h)

pub test_extreme : (q : Listed) → OfExtremes q → of_extremes q ≡ true
test_extreme q (of_high {c}) = refl
test_extreme q (of_low {c}) = refl
test_extreme q (of_lowafter {c} {k}) = refl
test_extreme q (of_capafter {c} {k}) = refl
test_extreme q (of_ampl {c}) = refl

-- a text that is one such question alone
pub record OneAlone (p : Text) : Type 0 where
  pub is : p ≡ listed (the_question p)
  pub extreme : OfExtremes (the_question p)

pub one_alone : (p : Text) → one_extreme p ≡ true → OneAlone p
one_alone (listed q) h = record { is = refl; extreme = extreme_test q h }
one_alone (atom k) h = absurd (false≢true h)
one_alone (or p q) h = absurd (false≢true h)
one_alone (and p q) h = absurd (false≢true h)
one_alone (neg p) h = absurd (false≢true h)
one_alone (finally p) h = absurd (false≢true h)
one_alone (globally p) h = absurd (false≢true h)
one_alone (next p) h = absurd (false≢true h)
one_alone (until p q) h = absurd (false≢true h)
one_alone (weak_until p q) h = absurd (false≢true h)

-- ---- the call

pub band_meant : (bytes text : List ℕ) (e : ℕ) (b : Bands) → band_of bytes text (pos e) ≡ result b → Meant bytes text e b
band_meant bytes text e b h =
    let g = shown bytes text (pos e) b h in
    let one : OneAlone (read text) = one_alone (read text) (not-false (one_extreme (read text)) g.one) in
    let narrow = width_narrow (pos e) g.width in
    record {
      question = the_question (read text);
      extreme = one.extreme;
      reads = subst (ReadsWhole text) one.is (read_reads text g.asked.1.1.0);
      only = λ t r. sym (reads_read text t r) ∙ one.is;
      means = subst (Mean (the_question (read text)) e (readings bytes)) g.sets
          (bands_mean (readings bytes) (accepted_recorded bytes g.accepted).in-range e (omega arith) (the_question (read text)) one.extreme);
    }
