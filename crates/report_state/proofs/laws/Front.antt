-- The bytes of a report with others, t, behind them: every call answers as without those, and leaves them.
use Prim.Native.Nat.{ℕ, ◌+◌, ◌*◌, ◌≤◌}
use Rattle.std.proofs.Common.{arith, sym, ap, ◌∙◌, length-append, ltb-true, ltb-false}
use Rattle.std.specs.Prelude.{◌≡◌, true, false, ◌||◌, not, cond, ltb, eqb, length, drop}
use Rattle.std.proofs.Math.Path.{refl}
use Rattle.std.proofs.Math.Bool.{Bool}
use mathlib.Core.List.{List, [], ◌∷◌, ◌++◌, append_assoc}
use Rattle.std.proofs.lemmas.List.{drop-append-le}
use Rattle.std.specs.Float.{binary64}
use Rattle.std.specs.Float.Ieee.{of_bits, nan_bits}
use Rattle.number.specs.Words.{word, word_bytes, words_bytes}
use Rattle.number.proofs.laws.Boolean.{none_left, none_right}
use Rattle.refusal.specs.Outcome.{Outcome, result, refused, Line, line, judged}
use Rattle.recording.proofs.laws.Outcome.{result_none, none_append}
use Rattle.grammar.specs.Size.{most_bytes}
use Rattle.text.specs.Told.{text_lines}
use Rattle.copying.specs.Put.{part}
use Rattle.copying.proofs.laws.Within.{part-within, word-within}
use Rattle.meaning.specs.inner.Coded.{index}
use Rattle.degree.specs.Degree.{target_line}
use Rattle.degree.specs.inner.Reach.{reach_at}
use Rattle.report.specs.Report.{Naming, report_bytes, bad_count, naming_lines, taken, named}
use Rattle.report.specs.inner.Running.{running_of, absent, added_to, Addition, none, stopped, further, last}
use Rattle.report.specs.inner.Naming.{target_lines}
use Rattle.report_state.specs.State.{report_signature, long, figure_words, report_in, index_in, size_in, report_text, stateless, no_report, closed_bytes, ended_bytes, naming_after, addition_in, add_after}
use Rattle.report_state.specs.Call.{named_index}

module _ (b t : List ℕ) (whole : length b ≡ report_bytes) where
  -- what is written to the front
  written-front : (front : List ℕ) (n : ℕ) → n ≤ report_bytes → front ++ drop n (b ++ t) ≡ (front ++ drop n b) ++ t
  written-front front n h = ap (λ (x : List ℕ). front ++ x) (drop-append-le n b t (omega arith)) ∙ sym (append_assoc front (drop n b) t)

  -- what is read
  word-front : (at : ℕ) → at + 4 ≤ report_bytes → word (b ++ t) at ≡ word b at
  word-front at h = word-within b t at (omega arith)

  long-front : (at : ℕ) → at + 8 ≤ report_bytes → long (b ++ t) at ≡ long b at
  long-front at h = λ i. word-front at (omega arith) i + 4294967296 * word-front (at + 4) (omega arith) i

  report_front : report_in (b ++ t) ≡ report_in b
  report_front = λ i. record {
    count = word-front 4 (omega arith) i;
    taken = word-front 8 (omega arith) i;
    met = word-front 12 (omega arith) i;
    empty = word-front 16 (omega arith) i;
    distances = long-front 20 (omega arith) i;
    mean = record { sum = of_bits binary64 (long-front 28 (omega arith) i); mean = of_bits binary64 (long-front 36 (omega arith) i) };
  }

  text-front : size_in b ≤ most_bytes → report_text (b ++ t) ≡ report_text b
  text-front h =
      ap (λ (n : ℕ). part 52 n (b ++ t)) (word-front 48 (omega arith)) ∙ part-within b t 52 (size_in b) (omega arith)

  room-front : ltb (length (b ++ t)) report_bytes ≡ ltb (length b) report_bytes
  room-front = by (ltb (length (b ++ t)) report_bytes) (ltb (length b) report_bytes) refl refl
    where
      l : length (b ++ t) ≡ length b + length t
      l = length-append b t

      by : (x y : Bool) → ltb (length (b ++ t)) report_bytes ≡ x → ltb (length b) report_bytes ≡ y → ltb (length (b ++ t)) report_bytes ≡ ltb (length b) report_bytes
      by true y ex ey = let k = l in absurd (omega (arith, ltb-true (length (b ++ t)) report_bytes ex))
      by false true ex ey = absurd (omega (arith, ltb-true (length b) report_bytes ey))
      by false false ex ey = ex ∙ sym ey

  stateless-front : stateless (b ++ t) ≡ stateless b
  stateless-front =
      λ i. room-front i || (not (eqb (word-front 0 (omega arith) i) report_signature) || (ltb most_bytes (word-front 48 (omega arith) i)
      || (nan_bits binary64 (long-front 28 (omega arith) i) || nan_bits binary64 (long-front 36 (omega arith) i))))

  fine_size : stateless b ≡ false → size_in b ≤ most_bytes
  fine_size e =
      let nans : Bool = nan_bits binary64 (long b 28) || nan_bits binary64 (long b 36) in
      let sized : Bool = ltb most_bytes (size_in b) || nans in
      let other : Bool = not (eqb (word b 0) report_signature) in
      ltb-false most_bytes (size_in b) (none_left (ltb most_bytes (size_in b)) nans (none_right other sized (none_right (ltb (length b) report_bytes) (other || sized) e)))

  pub no_report_front : no_report (b ++ t) ≡ no_report b
  unfolding no_report
  no_report_front = by (stateless b) refl
    where
      judgement : List ℕ → Bool
      judgement c = absent (report_in c) (report_text c) (index_in c)

      by : (x : Bool) → stateless b ≡ x → (stateless (b ++ t) || judgement (b ++ t)) ≡ (stateless b || judgement b)
      by true e = ap (λ (y : Bool). y || judgement (b ++ t)) (stateless-front ∙ e) ∙ sym (ap (λ (y : Bool). y || judgement b) e)
      by false e = λ i. stateless-front i || absent (report_front i) (text-front (fine_size e) i) (word-front 44 (omega arith) i)

  state-of : no_report b ≡ false → stateless b ≡ false
  unfolding no_report
  state-of e = none_left (stateless b) (absent (report_in b) (report_text b) (index_in b)) e

  -- A RECORDING
  pub addition_front : (g : List ℕ) → addition_in (b ++ t) g ≡ addition_in b g
  addition_front g = by (no_report b) refl
    where
      added : List ℕ → Addition
      added c = added_to (report_in c) (reach_at g (report_text c) (index_in c))

      by : (x : Bool) → no_report b ≡ x → cond (no_report (b ++ t)) none (added (b ++ t)) ≡ cond (no_report b) none (added b)
      by true e = ap (λ (y : Bool). cond y none (added (b ++ t))) (no_report_front ∙ e) ∙ sym (ap (λ (y : Bool). cond y none (added b)) e)
      by false e =
          λ i. cond (no_report_front i) none
          (added_to (report_front i) (reach_at g (text-front (fine_size (state-of e)) i) (word-front 44 (omega arith) i)))

  after_front : (a : Addition) → add_after a (b ++ t) ≡ add_after a b ++ t
  after_front none = refl
  after_front (stopped n p) = written-front (word_bytes 0) 4 (omega arith)
  after_front (further r) = written-front (words_bytes (figure_words r)) 44 (omega arith)
  after_front (last r) = written-front (word_bytes 0) 4 (omega arith)

  pub add_front : (g : List ℕ) → add_after (addition_in (b ++ t) g) (b ++ t) ≡ add_after (addition_in b g) b ++ t
  add_front g = ap (λ (a : Addition). add_after a (b ++ t)) (addition_front g) ∙ after_front (addition_in b g)

  -- A NAMING
  lines-front : (n : Naming) → naming_lines n (length (b ++ t)) ≡ naming_lines n (length b)
  lines-front n = λ i. line 15 (bad_count n.count) ∷ (text_lines n.text ++ (target_line n.target ∷ line 10 (room-front i) ∷ []))

  pub named-front : (n : Naming) → named (length (b ++ t)) n ≡ named (length b) n
  named-front n = ap (λ (ls : List Line). judged ls taken) (lines-front n)

  ended-front : ended_bytes (b ++ t) ≡ ended_bytes b ++ t
  ended-front = ap (λ (x : Bool). cond x (b ++ t) (closed_bytes (b ++ t))) no_report_front ∙ by (no_report b)
    where
      by : (x : Bool) → cond x (b ++ t) (closed_bytes (b ++ t)) ≡ cond x b (closed_bytes b) ++ t
      by true = refl
      by false = written-front (word_bytes 0) 4 (omega arith)

  pub name_front : (n : Naming) → naming_after n (named_index n (length (b ++ t))) (b ++ t) ≡ naming_after n (named_index n (length b)) b ++ t
  name_front n =
      ap (λ (ls : List Line). naming_after n (judged ls (index n.target)) (b ++ t)) (lines-front n) ∙ by (named_index n (length b)) refl
    where
      by : (o : Outcome ℕ) → named_index n (length b) ≡ o → naming_after n o (b ++ t) ≡ naming_after n o b ++ t
      by (refused k p) e = ended-front
      by (result v) e =
          let k = (result_none (naming_lines n (length b)) (index n.target) v e).0 in
          let m = none_append (text_lines n.text) (target_lines n.target (length b)) k.1 in
          let h = ltb-false most_bytes (length n.text) (none_right (eqb (length n.text) 0) _ m.0.0) in
          written-front (words_bytes (figure_words (running_of n.count [])) ++ word_bytes v ++ word_bytes (length n.text) ++ n.text) (52 + length n.text) (omega arith)
