-- The lines of a naming, one by one.
use Rattle.std.specs.Prelude.{ℕ, ◌≤◌, ◌<◌, ◌≡◌, true, false, List, [], ◌∷◌, ◌++◌, ltb, ℤ, Result, Ok, Err, Some, None}
use Rattle.std.proofs.Common.{arith, sym, ap, ◌∙◌, ne_eqb, lt-ltb, le-ltb}
use Rattle.number.proofs.laws.Boolean.{or_none}
use Rattle.refusal.specs.Outcome.{Outcome, result, refused, Line, line, judged, NoneMeets, reported}
use Rattle.refusal.specs.Numbers.{number_of, place_of}
use Rattle.refusal.specs.declared.Refusal.{Refusal}
use Rattle.recording.proofs.laws.Outcome.{judged-first, judged_skip, judged_pass, judged_none, refusal_stands, result_none}
use Rattle.grammar.specs.inner.Parse.{parsed}
use Rattle.text.specs.Told.{Told, text_lines, nodes_of}
use Rattle.meaning.specs.inner.Coded.{index}
use Rattle.targets.specs.Target.{Placed}
use Rattle.degree.specs.Degree.{target_line}
use Rattle.meaning.proofs.laws.Whole.{index-whole}
use Rattle.report.specs.Report.{most_batches, report_bytes, bad_count, naming_lines}
use Rattle.report.specs.inner.Naming.{naming, target_lines}
use Rattle.report.specs.inner.Running.{unread}
use Rattle.report.proofs.laws.Running.{some_none, some_refused}

-- ---- the target

module _ (g : ℤ) (room : ℕ) where
  pub target_off : Placed g None → refused 12 0 ≡ judged (target_lines g room) (index g)
  target_off h = sym (judged-first (target_line g) (line 10 (ltb room report_bytes) ∷ []) (index g) h)

  pub target_short : (v : ℕ) → Placed g (Some v) → room < report_bytes → refused 10 0 ≡ judged (target_lines g room) (index g)
  target_short v h s =
      sym (judged_skip [] (target_line g) (line 10 (ltb room report_bytes) ∷ []) (index g) h.0 ∙ judged-first (line 10 (ltb room report_bytes)) [] (index g) (lt-ltb room report_bytes s))

  pub target_on : (v : ℕ) → Placed g (Some v) → report_bytes ≤ room → result v ≡ judged (target_lines g room) (index g)
  target_on v h s = ap result (sym (ap index (sym h.2) ∙ index-whole v)) ∙ sym (judged_none (target_lines g room) (index g) (h.0, (le-ltb room report_bytes s, tt)))

-- ---- the naming

module _ (n : ℕ) (text : List ℕ) (g : ℤ) (room : ℕ) where
  abbrev rest : List Line
  rest = text_lines text ++ target_lines g room

  pub count_bad : bad_count n ≡ true → refused 15 0 ≡ judged (naming_lines (naming n text g) room) (index g)
  count_bad h = sym (judged-first (line 15 (bad_count n)) rest (index g) h)

  pub count_good : 0 < n → n ≤ most_batches → bad_count n ≡ false
  count_good h k = or_none (ne_eqb n 0 (λ e. omega arith)) (le-ltb most_batches n k)

  pub text_bad : bad_count n ≡ false → (table : List ℕ) (a : Result ℕ Refusal) → Told text table a → (x : Refusal) → a ≡ Err x
      → refused (number_of x) (place_of x) ≡ judged (naming_lines (naming n text g) room) (index g)
  text_bad h table a t x e =
      sym (judged_skip [] (line 15 (bad_count n)) rest (index g) h
      ∙ refusal_stands (text_lines text) (target_lines g room) (nodes_of (parsed text)) (index g) (number_of x) (place_of x) (sym t.outcome ∙ ap reported e))

  pub text_good : bad_count n ≡ false → (table : List ℕ) (a : Result ℕ Refusal) → Told text table a → (k : ℕ) → a ≡ Ok k → (o : Outcome ℕ) → o ≡ judged (target_lines g room) (index g)
      → o ≡ judged (naming_lines (naming n text g) room) (index g)
  text_good h table a t k e o q =
      let passed : NoneMeets (text_lines text) = (result_none (text_lines text) (nodes_of (parsed text)) k (sym t.outcome ∙ ap reported e)).0 in
      q ∙ sym (judged_skip [] (line 15 (bad_count n)) rest (index g) h ∙ judged_pass (text_lines text) (target_lines g room) (index g) passed)

-- ---- a text by itself

pub unread_refused : (text table : List ℕ) (a : Result ℕ Refusal) → Told text table a → (x : Refusal) → a ≡ Err x → true ≡ unread text
unfolding unread
unread_refused text table a t x e = sym (some_refused (text_lines text) (nodes_of (parsed text)) (number_of x) (place_of x) (sym t.outcome ∙ ap reported e))

pub unread-read : (text table : List ℕ) (a : Result ℕ Refusal) → Told text table a → (k : ℕ) → a ≡ Ok k → false ≡ unread text
unfolding unread
unread-read text table a t k e = sym (some_none (text_lines text) (result_none (text_lines text) (nodes_of (parsed text)) k (sym t.outcome ∙ ap reported e)).0)
