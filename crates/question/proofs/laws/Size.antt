-- An answered set has no more runs than a set may have: with more, its own node would be refused by 8.
use Rattle.std.specs.Prelude.{ℕ, ◌*◌, ◌≤◌, ◌<◌, ◌≡◌, List, [], ◌∷◌, ◌++◌, Bool, true, false, cond, length}
use Rattle.std.proofs.Common.{arith, sym, ap, ◌∙◌, true≢false, ltb-false, eq-eqb}
use Rattle.std.proofs.Math.Decide.{ℕ_discrete}
use Rattle.number.proofs.laws.Boolean.{off, none_left}
use Rattle.refusal.specs.Outcome.{result}
use Rattle.recording.specs.Recording.{records, recording_lines, no_record}
use Rattle.recording.specs.Output.{output_line}
use Rattle.recording.proofs.laws.Outcome.{result_none, none_append}
use Rattle.recording.proofs.laws.Record.{length-records}
use Rattle.runs.specs.Runs.{run_count, most_runs, set_bytes}
use Rattle.runs.proofs.laws.Runs.{set_bytes-length}
use Rattle.grammar.specs.Syntax.{Text, atom, listed, or, and, neg, finally, globally, next, until, weak_until}
use Rattle.text.specs.Told.{text_lines}
use Rattle.meaning.specs.inner.Coded.{Coded, coded}
use Rattle.grammar.specs.Size.{temporal}
use Rattle.meaning.specs.inner.Truth.{some_node, over_at, some_below, large_at, refused8}
use Rattle.meaning.proofs.laws.Overfull.{below_at}
use Rattle.leaves.proofs.laws.Coding.{length-coded}
use Rattle.question.specs.Question.{read, answer, asking_lines, set_lines, question_of}

-- a node is a node of its text
root_off : (G : Text → Bool) (p : Text) → some_node G p ≡ false → G p ≡ false
unfolding some_node
root_off G (atom k) e = e
root_off G (listed q) e = e
root_off G (or p q) e = none_left (G (or p q)) _ e
root_off G (and p q) e = none_left (G (and p q)) _ e
root_off G (neg p) e = none_left (G (neg p)) _ e
root_off G (finally p) e = none_left (G (finally p)) _ e
root_off G (globally p) e = none_left (G (globally p)) _ e
root_off G (next p) e = none_left (G (next p)) _ e
root_off G (until p q) e = none_left (G (until p q)) _ e
root_off G (weak_until p q) e = none_left (G (weak_until p q)) _ e

-- not refused by 8, a text has few runs at the first record
pub few_first : (r : List Coded) (p : Text) → 0 < length r → refused8 r p ≡ false → large_at r p 0 ≡ false
unfolding refused8
few_first r p h e = root_off (λ q. large_at r q 0) p (by (temporal p) e)
  where
    by : (b : Bool) → cond b (some_below (over_at r p) (length r)) (over_at r p 0) ≡ false → over_at r p 0 ≡ false
    by true e = off (below_at (over_at r p) (length r) 0 h) e
    by false e = e

pub some_record : (bytes : List ℕ) → (no_record bytes).meets ≡ false → 0 < length (coded bytes)
some_record bytes e = by (ℕ_discrete (length (records bytes)) 0)
  where
    by : Dec (length (records bytes) ≡ 0) → 0 < length (coded bytes)
    by (yes z) = absurd (true≢false (sym (eq-eqb (length (records bytes)) 0 z) ∙ e))
    by (no z) = omega (arith, length-coded bytes, length-records bytes)

-- THE SIZE OF AN ANSWER: at most 256 runs of 8 bytes
pub answered_few : (bytes text : List ℕ) (room : ℕ) (written : List ℕ) → question_of bytes text room ≡ result written → length written ≤ 8 * most_runs
unfolding question_of
answered_few bytes text room written e =
    let k = result_none (asking_lines bytes text ++ (set_lines bytes (read text) ++ (output_line room (set_bytes (answer bytes text)) ∷ []))) (set_bytes (answer bytes text)) written e in
    let a = none_append (asking_lines bytes text) (set_lines bytes (read text) ++ (output_line room (set_bytes (answer bytes text)) ∷ [])) k.0 in
    let some : 0 < length (coded bytes) = some_record bytes (none_append (recording_lines bytes) (no_record bytes ∷ text_lines text) a.0).1.0 in
    let few : run_count (answer bytes text) ≤ most_runs = ltb-false most_runs (run_count (answer bytes text)) (few_first (coded bytes) (read text) some a.1.1.0) in
    omega (arith, few, set_bytes-length (answer bytes text), ap length k.1)
