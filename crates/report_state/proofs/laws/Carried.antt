-- The bytes carry the report under way: read back, they are what the fold holds.
use Rattle.std.specs.Prelude.{ℕ, ◌+◌, ◌*◌, ◌/◌, ◌%◌, ◌≤◌, ◌<◌, ◌≡◌, refl, Bool, true, false, cond, T, eqb, length, get_or, take, drop, Float}
use Rattle.std.proofs.Common.{arith, div-add-mod', sym, ◌∙◌, subst, take_at, ltb-false}
use Rattle.std.proofs.Math.Path.{ap}
use mathlib.Core.List.{List, [], ◌∷◌, ◌++◌}
use Rattle.std.specs.Float.{binary64}
use Rattle.std.specs.Float.Ieee.{to_bits, of_bits, fits, is_nan}
use Rattle.std.specs.Float.Ieee.Bits.{of_bits-to_bits, to_bits-lt, nan_bits_is}
use Rattle.std.proofs.lemmas.Bool.{lt-leb}
use Rattle.number.specs.Axis.{axis}
use Rattle.number.specs.Words.{word, words_bytes}
use Rattle.number.proofs.laws.Words.{word-front}
use Rattle.number.proofs.laws.Boolean.{none_right, or_none}
use Rattle.refusal.specs.Outcome.{NoneMeets}
use Rattle.recording.proofs.laws.Outcome.{none_append}
use Rattle.grammar.specs.Size.{most_bytes}
use Rattle.text.specs.Told.{text_lines}
use Rattle.meaning.specs.inner.Coded.{index}
use Rattle.degree.specs.Degree.{Reach, reach_of}
use Rattle.degree.specs.inner.Reach.{reach_at}
use Rattle.degree.proofs.laws.Nearest.{on-axis}
use Rattle.degree.proofs.laws.Reach.{reach_index}
use Rattle.mean.proofs.laws.Number.{running_fitting}
use Rattle.targets.specs.Target.{off_axis}
use Rattle.report.specs.Report.{Naming, most_batches, report_bytes, naming_lines, distances_in, Stage, closed, under_way}
use Rattle.report.specs.inner.Running.{running_of, Sound, none, added_to, unread, absent}
use Rattle.report.specs.inner.Naming.{target_lines}
use Rattle.report.proofs.laws.Running.{sound_not, some_none}
use Rattle.report.proofs.laws.Steps.{AllSmall, running_sound}
use Rattle.report.specs.declared.Report.{Report}
use Rattle.report_state.specs.State.{report_signature, low, high, long, figure_words, report_in, index_in, size_in, report_text, stateless, no_report, closed_bytes, addition_in}
use Rattle.report_state.specs.inner.Kept.{Held}
use Rattle.report_state.proofs.laws.Words.{Words, word_in}
use Rattle.report_state.proofs.laws.Read.{same_mean, same_report, other_head, held_not, stateless_none, held_none, none_in}

-- ---- the words of a state

-- all words, with the target's index and the length of the text
abbrev pub state_words : Report → ℕ → ℕ → List ℕ
state_words r v n = figure_words r ++ (v ∷ n ∷ [])

long-back : (n : ℕ) → low n + 4294967296 * high n ≡ n
long-back n = let e : n / 4294967296 * 4294967296 + n % 4294967296 ≡ n = div-add-mod' n 4294967296 in omega arith

bits_small : (x : Float) → T (fits binary64 x) → to_bits binary64 x < 18446744073709551616
bits_small x h = to_bits-lt binary64 x h

-- a report whose numbers fit their words
pub record Wordly (r : Report) (v n : ℕ) : Type 0 where
  pub count : r.count < 4294967296
  pub taken : r.taken < 4294967296
  pub met : r.met < 4294967296
  pub empty : r.empty < 4294967296
  pub distances : r.distances < 18446744073709551616
  pub sum : T (fits binary64 r.mean.sum)
  pub mean : T (fits binary64 r.mean.mean)
  pub place : v < 4294967296
  pub size : n < 4294967296

low_small : (n : ℕ) → low n < 4294967296
low_small n = omega arith

high_small : (n : ℕ) → n < 18446744073709551616 → high n < 4294967296
high_small n h = omega arith

words_small : (r : Report) (v n : ℕ) → Wordly r v n → Words (state_words r v n)
words_small r v n w =
    (omega arith, (w.count, (w.taken, (w.met, (w.empty, (low_small r.distances, (high_small r.distances w.distances, (low_small (to_bits binary64 r.mean.sum), (high_small (to_bits binary64 r.mean.sum) (bits_small r.mean.sum w.sum), (low_small (to_bits binary64 r.mean.mean), (high_small (to_bits binary64 r.mean.mean) (bits_small r.mean.mean w.mean), (w.place, (w.size, tt)))))))))))))

-- ---- read back

module _ (r : Report) (v n : ℕ) (w : Wordly r v n) (rest b : List ℕ) (e : b ≡ words_bytes (state_words r v n) ++ rest) where
  at : (i : ℕ) → i < 13 → word b (4 * i) ≡ get_or (state_words r v n) i 0
  at i h = ap (λ (c : List ℕ). word c (4 * i)) e ∙ word_in (state_words r v n) rest i (words_small r v n w) h

  head_back : word b 0 ≡ report_signature
  head_back = at 0 (omega arith)

  count-back : word b 4 ≡ r.count
  count-back = at 1 (omega arith)

  taken_back : word b 8 ≡ r.taken
  taken_back = at 2 (omega arith)

  met_back : word b 12 ≡ r.met
  met_back = at 3 (omega arith)

  empty_back : word b 16 ≡ r.empty
  empty_back = at 4 (omega arith)

  two_back : (i m : ℕ) (l : word b (4 * i) ≡ low m) (h : word b (4 * i + 4) ≡ high m) → long b (4 * i) ≡ m
  two_back i m l h = ap (λ (k : ℕ). k + 4294967296 * word b (4 * i + 4)) l ∙ ap (λ (k : ℕ). low m + 4294967296 * k) h ∙ long-back m

  distances_back : long b 20 ≡ r.distances
  distances_back =
      two_back 5 r.distances (at 5 (omega arith))
      (at 6 (omega arith))

  sum-bits : long b 28 ≡ to_bits binary64 r.mean.sum
  sum-bits =
      two_back 7 (to_bits binary64 r.mean.sum) (at 7 (omega arith))
      (at 8 (omega arith))

  mean_bits : long b 36 ≡ to_bits binary64 r.mean.mean
  mean_bits =
      two_back 9 (to_bits binary64 r.mean.mean) (at 9 (omega arith))
      (at 10 (omega arith))

  sum_back : of_bits binary64 (long b 28) ≡ r.mean.sum
  sum_back = ap (of_bits binary64) sum-bits ∙ of_bits-to_bits binary64 r.mean.sum w.sum

  mean_back : of_bits binary64 (long b 36) ≡ r.mean.mean
  mean_back = ap (of_bits binary64) mean_bits ∙ of_bits-to_bits binary64 r.mean.mean w.mean

  pub report_back : report_in b ≡ r
  report_back = same_report _ _ _ _ _ _ _ _ _ _ _ _ count-back taken_back met_back empty_back distances_back (same_mean _ _ _ _ sum_back mean_back)

  pub index_back : index_in b ≡ v
  index_back = at 11 (omega arith)

  pub size_back : size_in b ≡ n
  size_back = at 12 (omega arith)

  pub held_back : report_bytes ≤ length b → n ≤ most_bytes → is_nan r.mean.sum ≡ false → is_nan r.mean.mean ≡ false → Held b
  held_back l k s m = record {
    long_enough = l;
    head = head_back;
    size = subst (λ (j : ℕ). j ≤ most_bytes) (sym size_back) k;
    sum_number = nan_bits_is binary64 (long b 28) ∙ ap is_nan sum_back ∙ s;
    mean_number = nan_bits_is binary64 (long b 36) ∙ ap is_nan mean_back ∙ m;
  }

pub text-back : (r : Report) (v : ℕ) (text rest b : List ℕ) → Wordly r v (length text) → b ≡ words_bytes (state_words r v (length text)) ++ (text ++ rest) → report_text b ≡ text
text-back r v text rest b w e =
    ap (λ (j : ℕ). take j (drop 52 b)) (size_back r v (length text) w (text ++ rest) b e) ∙ ap (λ (c : List ℕ). take (length text) (drop 52 c)) e
    ∙ take_at text rest (length text) refl

-- ---- the stage that the bytes carry

-- a naming that was accepted, with the recordings taken so far, and its bytes
pub record Under (b : List ℕ) (n : Naming) (xs : List Reach) : Type 0 where
  pub accepted : NoneMeets (naming_lines n (length b))
  pub more : length xs < n.count
  pub small : AllSmall xs
  pub rest : List ℕ
  pub state : b ≡ words_bytes (state_words (running_of n.count xs) (index n.target) (length n.text)) ++ (n.text ++ rest)

abbrev pub Carries : List ℕ → Stage → Type 0
Carries b closed = (recording : List ℕ) → addition_in b recording ≡ none
Carries b (under_way n xs) = Under b n xs

pub no-report : (b : List ℕ) → no_report b ≡ true → Carries b closed
no-report b h recording = sym (none_in b recording h)

-- a report that was given or stopped
pub closed_none : (b : List ℕ) → no_report (closed_bytes b) ≡ true
closed_none b = stateless_none (closed_bytes b) (sym (other_head (closed_bytes b) (λ e. bad (sym (word-front 0 (drop 4 b) (omega arith)) ∙ e))))
  where
    bad : 0 ≡ report_signature → ⊥
    bad e = omega arith

pub closed_carries : (b : List ℕ) → Carries (closed_bytes b) closed
closed_carries b = no-report (closed_bytes b) (closed_none b)

module _ (b : List ℕ) (n : Naming) (xs : List Reach) (u : Under b n xs) where
  abbrev r : Report
  r = running_of n.count xs

  lines : NoneMeets (text_lines n.text) × NoneMeets (target_lines n.target (length b))
  lines = none_append (text_lines n.text) (target_lines n.target (length b)) u.accepted.1

  few : n.count ≤ most_batches
  few = ltb-false most_batches n.count (none_right (eqb n.count 0) _ u.accepted.0)

  pub room_enough : report_bytes ≤ length b
  room_enough = ltb-false (length b) report_bytes lines.1.1.0

  text_size : length n.text ≤ most_bytes
  text_size = ltb-false most_bytes (length n.text) (none_right (eqb (length n.text) 0) _ lines.0.0)

  on : off_axis n.target ≡ false
  on = lines.1.0

  sound : Sound r
  sound = running_sound n.count xs u.small u.more few

  wordly : Wordly r (index n.target) (length n.text)
  wordly =
      let s = sound in
      let a = s.more in
      let c = s.few in
      let p = s.parts in
      let q = s.small in
      let k = (on-axis n.target on).0 in
      let t = text_size in
      let f = running_fitting (distances_in xs) in
      record { count = omega arith; taken = omega arith; met = omega arith; empty = omega arith; distances = omega arith; sum = f.sum; mean = f.mean; place = omega arith; size = omega arith }

  under_state : stateless b ≡ false
  under_state = held_not b (held_back r (index n.target) (length n.text) wordly (n.text ++ u.rest) b u.state room_enough text_size sound.sum_number sound.mean_number)

  same_figures : report_in b ≡ r
  same_figures = report_back r (index n.target) (length n.text) wordly (n.text ++ u.rest) b u.state

  same_text : report_text b ≡ n.text
  same_text = text-back r (index n.target) n.text u.rest b wordly u.state

  same_index : index_in b ≡ index n.target
  same_index = index_back r (index n.target) (length n.text) wordly (n.text ++ u.rest) b u.state

  -- they hold a report
  pub under-held : no_report b ≡ false
  unfolding unread
  under-held =
      held_none b under_state ∙ ap (λ (x : Report). absent x (report_text b) (index_in b)) same_figures ∙ ap (λ (t : List ℕ). absent r t (index_in b)) same_text
      ∙ ap (absent r n.text) same_index
      ∙ or_none (or_none (lt-leb axis (index n.target) (on-axis n.target on).0) (sound_not r sound)) (some_none (text_lines n.text) lines.0)

  -- A RECORDING HANDED IN is put to the text and the target that were named
  pub under-added : (recording : List ℕ) → addition_in b recording ≡ added_to r (reach_of recording n.text n.target)
  under-added recording =
      ap (λ (t : Bool). cond t none (added_to (report_in b) (reach_at recording (report_text b) (index_in b)))) under-held
      ∙ ap (λ (x : Report). added_to x (reach_at recording (report_text b) (index_in b))) same_figures ∙ ap (λ (t : List ℕ). added_to r (reach_at recording t (index_in b))) same_text
      ∙ ap (λ (v : ℕ). added_to r (reach_at recording n.text v)) same_index ∙ ap (added_to r) (sym (reach_index recording n.text n.target on))
