-- In a text with a reading, the k of each `P=k` and of each `dose(k)` is 1 to 16.
use Rattle.std.specs.Prelude.{List, ℕ, ◌≤◌}
use Rattle.recording.specs.Recording.{most_pigments}
use Rattle.grammar.specs.Syntax.{Atom, compare, A-to-B, fall, rise, pigment, Listed, high, low, lowafter, capafter, peaks, dips, cross, crossup, dose, ampl, gaps, steps, lag, Text, atom, listed, or, and, neg, finally, globally, next, until, weak_until}
use Rattle.grammar.specs.Grammar.{AtomWord, compared, curves, falling, rising, pigment_is, ListedWord, a_high, a_low, a_lowafter, a_capafter, a_peaks, a_dips, a_cross, a_crossup, a_dose, an_ampl, a_gaps, a_steps, a_lag, Level, Reads, one_conjunction, bar, one_negation, ampersand, one_primary, bang, bracketed, an_F, a_G, an_X, a_U, a_W, an_atom, a_listed, ReadsWhole}
use Rattle.grammar.proofs.laws.Number.{labelled, pigment_range}

abbrev pub OnLabel : ℕ → Type 0
OnLabel k = (1 ≤ k) × (k ≤ most_pigments)

abbrev AtomLabels : Atom → Type 0
AtomLabels (compare f r o) = Unit {0}
AtomLabels (A-to-B r) = Unit {0}
AtomLabels (fall c) = Unit {0}
AtomLabels (rise c) = Unit {0}
AtomLabels (pigment k) = OnLabel k

abbrev ListedLabels : Listed → Type 0
ListedLabels (high c) = Unit {0}
ListedLabels (low c) = Unit {0}
ListedLabels (lowafter c k) = Unit {0}
ListedLabels (capafter c k) = Unit {0}
ListedLabels (peaks c) = Unit {0}
ListedLabels (dips c) = Unit {0}
ListedLabels cross = Unit {0}
ListedLabels crossup = Unit {0}
ListedLabels (dose k) = OnLabel k
ListedLabels (ampl c) = Unit {0}
ListedLabels (gaps c) = Unit {0}
ListedLabels (steps c) = Unit {0}
ListedLabels lag = Unit {0}

-- each pigment that the text writes has a number from 1 to 16
abbrev pub Labels : Text → Type 0
Labels (atom a) = AtomLabels a
Labels (listed q) = ListedLabels q
Labels (or p q) = Labels p × Labels q
Labels (and p q) = Labels p × Labels q
Labels (neg p) = Labels p
Labels (finally p) = Labels p
Labels (globally p) = Labels p
Labels (next p) = Labels p
Labels (until p q) = Labels p × Labels q
Labels (weak_until p q) = Labels p × Labels q

atom_labels : {w : List ℕ} {a : Atom} → AtomWord w a → AtomLabels a
atom_labels (compared f r o) = tt
atom_labels (curves r) = tt
atom_labels (falling c) = tt
atom_labels (rising c) = tt
atom_labels (pigment_is p) = pigment_range (labelled p)

listed_labels : {w : List ℕ} {q : Listed} → ListedWord w q → ListedLabels q
listed_labels (a_high c) = tt
listed_labels (a_low c) = tt
listed_labels (a_lowafter c m) = tt
listed_labels (a_capafter c m) = tt
listed_labels (a_peaks c) = tt
listed_labels (a_dips c) = tt
listed_labels a_cross = tt
listed_labels a_crossup = tt
listed_labels (a_dose p) = pigment_range (labelled p)
listed_labels (an_ampl c) = tt
listed_labels (a_gaps c) = tt
listed_labels (a_steps c) = tt
listed_labels a_lag = tt

reads_labels : {l : Level} {w : List ℕ} {t : Text} → Reads l w t → Labels t
reads_labels (one_conjunction r) = reads_labels r
reads_labels (bar r q) = (reads_labels r, reads_labels q)
reads_labels (one_negation r) = reads_labels r
reads_labels (ampersand r q) = (reads_labels r, reads_labels q)
reads_labels (one_primary r) = reads_labels r
reads_labels (bang r) = reads_labels r
reads_labels (bracketed r) = reads_labels r
reads_labels (an_F r) = reads_labels r
reads_labels (a_G r) = reads_labels r
reads_labels (an_X r) = reads_labels r
reads_labels (a_U r q) = (reads_labels r, reads_labels q)
reads_labels (a_W r q) = (reads_labels r, reads_labels q)
reads_labels (an_atom a) = atom_labels a
reads_labels (a_listed q) = listed_labels q

-- ANY OTHER k HAS NO READING
pub pigments_labelled : (s : List ℕ) (t : Text) → ReadsWhole s t → Labels t
pigments_labelled s t r = reads_labels r.0
