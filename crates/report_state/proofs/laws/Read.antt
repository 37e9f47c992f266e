-- What the bytes hold, part by part.
use Rattle.std.specs.Prelude.{ℕ, ◌+◌, ◌-◌, ◌%◌, ◌≤◌, ◌<◌, ◌≡◌, Bool, true, false, not, ◌||◌, T, eqb, ltb, length, take, drop, Float}
use Rattle.std.proofs.Common.{arith, ◌∙◌, lt-ltb, le-ltb, ltb-false, eq-eqb, ne_eqb, eqb-true}
use Rattle.std.proofs.Math.Path.{sym, ap}
use Rattle.std.proofs.Math.Bool.{cond}
use mathlib.Core.List.{List}
use Rattle.std.specs.Float.{binary64}
use Rattle.std.specs.Float.Ieee.{nan_bits}
use Rattle.std.specs.Float.Ieee.Bits.{nan_bits_above}
use Rattle.std.proofs.lemmas.Bool.{not-false}
use Rattle.number.specs.Words.{word}
use Rattle.number.proofs.laws.Boolean.{or_left, or_right, none_left, none_right, T_not, or_pass}
use Rattle.grammar.specs.Size.{most_bytes}
use Rattle.mean.specs.declared.Mean.{Mean}
use Rattle.report.specs.Report.{report_bytes}
use Rattle.degree.specs.inner.Reach.{reach_at}
use Rattle.report.specs.inner.Running.{Addition, none, added_to, absent, addition_to}
use Rattle.report.specs.declared.Report.{Report}
use Rattle.report_state.specs.inner.Kept.{Held}
use Rattle.report_state.specs.State.{report_signature, long, report_in, index_in, size_in, report_text, stateless, no_report, addition_in}

pub same_mean : (s s' m m' : Float) → s ≡ s' → m ≡ m' → ◌≡◌ {A = Mean} (record { sum = s; mean = m }) (record { sum = s'; mean = m' })
same_mean s s' m m' p q = λ i. record { sum = p i; mean = q i }

pub same_report : (n n' t t' m m' e e' d d' : ℕ) (f f' : Mean) → n ≡ n' → t ≡ t' → m ≡ m' → e ≡ e' → d ≡ d' → f ≡ f'
    → ◌≡◌ {A = Report} (record { count = n; taken = t; met = m; empty = e; distances = d; mean = f }) (record { count = n'; taken = t'; met = m'; empty = e'; distances = d'; mean = f' })
same_report n n' t t' m m' e e' d d' f f' o a b c g h = λ i. record { count = o i; taken = a i; met = b i; empty = c i; distances = g i; mean = h i }

-- ---- bytes that are plainly no state, test by test

module _ (b : List ℕ) where
  abbrev short : Bool
  short = ltb (length b) report_bytes

  abbrev other : Bool
  other = not (eqb (word b 0) report_signature)

  abbrev large : Bool
  large = ltb most_bytes (size_in b)

  abbrev no_sum : Bool
  no_sum = nan_bits binary64 (long b 28)

  abbrev no-mean : Bool
  no-mean = nan_bits binary64 (long b 36)

  pub too_short : length b < report_bytes → true ≡ stateless b
  too_short h = sym (or_left short _ (lt-ltb _ _ h))

  pub other_head : (word b 0 ≡ report_signature → ⊥) → true ≡ stateless b
  other_head h = sym (or_right short _ (or_left other _ (ap not (ne_eqb (word b 0) report_signature h))))

  pub too-large : most_bytes < size_in b → true ≡ stateless b
  too-large h = sym (or_right short _ (or_right other _ (or_left large _ (lt-ltb _ _ h))))

  pub sum_nan : no_sum ≡ true → true ≡ stateless b
  sum_nan h = sym (or_right short _ (or_right other _ (or_right large _ (or_left no_sum no-mean h))))

  pub mean_nan : report_bytes ≤ length b → word b 0 ≡ report_signature → size_in b ≤ most_bytes → no_sum ≡ false → no-mean ≡ stateless b
  mean_nan h e l n =
      let f : (short || (other || (large || (no_sum || no-mean)))) ≡ no-mean =
      or_pass short _ (le-ltb _ _ h) ∙ or_pass other _ (ap not (eq-eqb (word b 0) report_signature e)) ∙ or_pass large _ (le-ltb _ _ l) ∙ or_pass no_sum no-mean n in
      sym f

  pub held_of : stateless b ≡ false → Held b
  held_of h =
      let r = none_right short _ h in
      let q = none_right other _ r in
      let t = none_right large _ q in
      record {
        long_enough = ltb-false (length b) report_bytes (none_left short _ h);
        head = eqb-true (word b 0) report_signature (not-false (eqb (word b 0) report_signature) (none_left other _ r));
        size = ltb-false most_bytes (size_in b) (none_left large _ q);
        sum_number = none_left no_sum no-mean t;
        mean_number = none_right no_sum no-mean t;
      }

  pub held_not : Held b → stateless b ≡ false
  held_not h = sym (mean_nan h.long_enough h.head h.size h.sum_number) ∙ h.mean_number

  -- ---- a recording handed in with them

  -- plainly no state, or none under way by what stands there
  pub stateless_none : stateless b ≡ true → no_report b ≡ true
  unfolding no_report
  stateless_none h = or_left (stateless b) _ h

  pub held_none : stateless b ≡ false → no_report b ≡ absent (report_in b) (report_text b) (index_in b)
  unfolding no_report
  held_none h = or_pass (stateless b) _ h

  pub none_by : stateless b ≡ false → (r : Report) (text : List ℕ) (v : ℕ) → r ≡ report_in b → text ≡ report_text b → v ≡ index_in b → (t : Bool) → t ≡ absent r text v
      → t ≡ no_report b
  none_by h r text v e u i t q =
      q ∙ ap (λ (x : Report). absent x text v) e ∙ ap (λ (x : List ℕ). absent (report_in b) x v) u ∙ ap (absent (report_in b) (report_text b)) i ∙ sym (held_none h)

  pub some_state : no_report b ≡ false → stateless b ≡ false
  unfolding no_report
  some_state h = none_left (stateless b) _ h

  module _ (recording : List ℕ) where
    pub none_in : no_report b ≡ true → none ≡ addition_in b recording
    none_in h = sym (ap (λ (t : Bool). cond t none (added_to (report_in b) (reach_at recording (report_text b) (index_in b)))) h)

    pub some_in : stateless b ≡ false → (r : Report) (text : List ℕ) (v : ℕ) → r ≡ report_in b → text ≡ report_text b → v ≡ index_in b → (a : Addition)
        → a ≡ addition_to r recording text v → a ≡ addition_in b recording
    unfolding addition_to
    some_in h r text v e t i a q =
        q ∙ ap (λ (x : Report). addition_to x recording text v) e ∙ ap (λ (x : List ℕ). addition_to (report_in b) recording x v) t
        ∙ ap (addition_to (report_in b) recording (report_text b)) i
        ∙ sym (ap (λ (s : Bool). cond s none (added_to (report_in b) (reach_at recording (report_text b) (index_in b)))) (held_none h))

-- ---- the bits of a number

pub nan_test : (n : ℕ) → ltb 9218868437227405312 (n % 9223372036854775808) ≡ nan_bits binary64 n
nan_test n = sym (nan_bits_above binary64 n)

pub number-bits : (n m : ℕ) → n ≡ m → nan_bits binary64 m ≡ false → T (not (nan_bits binary64 n))
number-bits n m e h = T_not (nan_bits binary64 n) (ap (nan_bits binary64) e ∙ h)

-- the part of the bytes that holds the text
pub text-part : (b : List ℕ) (n : ℕ) → n ≡ size_in b → take (52 + n - 52) (drop 52 b) ≡ report_text b
text-part b n e =
    let k : 52 + n - 52 ≡ n = omega arith in
    ap (λ (j : ℕ). take j (drop 52 b)) (k ∙ e)
