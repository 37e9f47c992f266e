-- The bytes behind a report stay, at every call, whatever the bytes are.
use Rattle.std.specs.Prelude.{ℕ, ◌+◌, ◌-◌, ◌≤◌, ◌≡◌, refl, Bool, true, false, cond, List, [], ◌++◌, eqb, length, drop}
use Rattle.std.proofs.Common.{arith, ap, ◌∙◌, length-append, drop-drop, ltb-false}
use Rattle.std.proofs.Math.Seq.{drop-append-add}
use Rattle.number.specs.Words.{word_bytes, words_bytes}
use Rattle.number.proofs.laws.Boolean.{none_right}
use Rattle.refusal.specs.Outcome.{Outcome, result, refused}
use Rattle.recording.proofs.laws.Outcome.{result_none, none_append}
use Rattle.grammar.specs.Size.{most_bytes}
use Rattle.text.specs.Told.{text_lines}
use Rattle.meaning.specs.inner.Coded.{index}
use Rattle.report.specs.Report.{Naming, report_bytes, naming_lines}
use Rattle.report.specs.inner.Running.{running_of, Addition, none, stopped, further, last}
use Rattle.report.specs.inner.Naming.{target_lines}
use Rattle.report.specs.declared.Report.{Report}
use Rattle.report_state.specs.State.{figure_words, named_bytes, no_report, closed_bytes, naming_after, addition_in, add_after}
use Rattle.report_state.specs.Call.{named_index, Behind}
use Rattle.report_state.proofs.laws.Add.{Fine, in_fine}
use Rattle.report_state.proofs.laws.Calls.{length-closed, length-put, start-onward}

-- bytes of which the first are written anew
front_behind : (front b : List ℕ) (n k : ℕ) → length front ≡ n → n ≤ k → drop k (front ++ drop n b) ≡ drop k b
front_behind front b n k l h =
    let j : ℕ = k - n in
    let e : k ≡ length front + j = omega arith in
    let f : n + j ≡ k = omega arith in
    ap (λ (i : ℕ). drop i (front ++ drop n b)) e ∙ drop-append-add front (drop n b) j ∙ drop-drop j n b ∙ ap (λ (i : ℕ). drop i b) f

closed_behind : (b : List ℕ) → 4 ≤ length b → Behind b (closed_bytes b)
closed_behind b h = record { same_length = length-closed b h; same = front_behind (word_bytes 0) b 4 report_bytes refl (omega arith) }

named_behind : (n : ℕ) (text : List ℕ) (v : ℕ) (b : List ℕ) → length text ≤ most_bytes → drop report_bytes (named_bytes n text v b) ≡ drop report_bytes b
named_behind n text v b h =
    let heads : List ℕ = words_bytes (figure_words (running_of n [])) ++ word_bytes v ++ word_bytes (length text) in
    let l : length (heads ++ text) ≡ 52 + length text = length-append heads text in
    front_behind (heads ++ text) b (52 + length text) report_bytes l (omega arith)

-- A NAMING
pub start_behind : (n : Naming) (b : List ℕ) → Behind b (naming_after n (named_index n (length b)) b)
start_behind n b = record { same_length = (start-onward n b).same_length; same = by (named_index n (length b)) refl }
  where
    ended : (t : Bool) → drop report_bytes (cond t b (closed_bytes b)) ≡ drop report_bytes b
    ended true = refl
    ended false = front_behind (word_bytes 0) b 4 report_bytes refl (omega arith)

    by : (o : Outcome ℕ) → named_index n (length b) ≡ o → drop report_bytes (naming_after n o b) ≡ drop report_bytes b
    by (refused k p) e = ended (no_report b)
    by (result v) e =
        let k = (result_none (naming_lines n (length b)) (index n.target) v e).0 in
        let m = none_append (text_lines n.text) (target_lines n.target (length b)) k.1 in
        named_behind n.count n.text v b (ltb-false most_bytes (length n.text) (none_right (eqb (length n.text) 0) _ m.0.0))

further_behind : (r : Report) (b : List ℕ) → 44 ≤ length b → Behind b (add_after (further r) b)
further_behind r b h =
    record { same_length = length-put (figure_words r) b refl h; same = front_behind (words_bytes (figure_words r)) b 44 report_bytes refl (omega arith) }

-- A RECORDING
pub add_behind : (b recording : List ℕ) → Behind b (add_after (addition_in b recording) b)
add_behind b recording = by (addition_in b recording) (in_fine b recording)
  where
    by : (a : Addition) → Fine a b → Behind b (add_after a b)
    by none f = record { same_length = refl; same = refl }
    by (stopped n p) f = let h = f.writable in closed_behind b (omega arith)
    by (further r) f = further_behind r b f.writable.0
    by (last r) f = let h = f.writable in closed_behind b (omega arith)
