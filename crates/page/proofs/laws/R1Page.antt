-- Document 01: R1 and `peaks(A)` print three lines, from the definitions alone.
use Rattle.std.specs.Prelude.{ℕ, ◌*◌, ◌<◌, ◌≡◌, refl, Bool, true, false, ◌||◌, List, [], ◌∷◌, ◌++◌, leb, ltb, eqb, length}
use Rattle.std.proofs.Common.{arith, sym, ap, ◌∙◌, ⊎_elim, le-leb, eq-eqb, ne_eqb, le-ltb}
use Rattle.std.proofs.lemmas.Bool.{lt-leb}
use Rattle.number.specs.Axis.{axis}
use Rattle.number.specs.Least.{least}
use Rattle.number.proofs.laws.Order.{less-more_equal}
use Rattle.number.specs.Words.{offset_binary, signed, word_bytes}
use Rattle.refusal.specs.Outcome.{result, NoneMeets}
use Rattle.recording.specs.Reading.{A}
use Rattle.recording.specs.Recording as recording
use Rattle.recording.proofs.laws.Outcome.{judged_none, append_none}
use Rattle.recording.specs.Output.{output_line}
use Rattle.recording.specs.R1.{R1}
use Rattle.runs.specs.Runs.{most_runs, run_count, set_bytes}
use Rattle.runs.specs.Set.{xor, inside, Canonical}
use Rattle.runs.proofs.laws.Cuts.{low_cuts, high_cuts}
use Rattle.runs.proofs.laws.Runs.{cuts-bytes, cuts-count}
use Rattle.grammar.specs.Bytes.{bytes}
use Rattle.grammar.specs.inner.Lexer.{unsigned_at, number_at, operand_at, comparison_at, timed_at, arguments_at, named_at, headed_at, leaf_at}
use Rattle.grammar.specs.inner.Parse.{parse, parsed}
use Rattle.grammar.specs.Size.{too_deep}
use Rattle.grammar.specs.Syntax.{Text, listed, peaks}
use Rattle.meaning.specs.inner.Coded.{coded}
use Rattle.meaning.specs.inner.Truth.{val, truth, some_node, refused8, refused9}
use Rattle.question.specs.Question.{read, answer, asking_lines, set_lines, question_of}
use Rattle.page.specs.Page.{newline, page}
use Rattle.page.proofs.laws.Typed.{newline_dropped}
use Rattle.page.specs.Printed.{set_room, printed}
use Rattle.page.proofs.laws.Examples.{two_runs}

abbrev asked : List ℕ
asked = bytes "peaks(A)"

reads : read asked ≡ listed (peaks A)
unfolding parsed parse unsigned_at number_at operand_at comparison_at timed_at arguments_at named_at headed_at leaf_at
reads = refl

-- ---- the set: 30 and 70, by their indices on the axis

abbrev cuts : List ℕ
cuts = 2000000030 ∷ 2000000031 ∷ 2000000070 ∷ 2000000071 ∷ []

canonical : Canonical cuts
unfolding inside
canonical = record { ascending = (omega arith, omega arith, (omega arith, omega arith, (omega arith, omega arith, (omega arith, omega arith, tt)))); ended = refl }

abbrev either : ℕ → Bool
either n = eqb n 2000000030 || (eqb n 2000000070 || false)

tops_are : (n : ℕ) → val (coded R1) n (listed (peaks A)) 0 ≡ either n
unfolding val truth recording.reading signed offset_binary
tops_are n = refl

-- by the four cuts
by_cuts : (n : ℕ) (a b c d x y : Bool) → leb 2000000030 n ≡ a → leb 2000000031 n ≡ b → leb 2000000070 n ≡ c → leb 2000000071 n ≡ d → eqb n 2000000030 ≡ x → eqb n 2000000070 ≡ y
    → xor a (xor b (xor c (xor d false))) ≡ (x || (y || false)) → inside cuts n ≡ either n
unfolding inside
by_cuts n a b c d x y p q r s t u w = rw (p, q, r, s, t, u) w

members : (n : ℕ) → n < axis → inside cuts n ≡ either n
members n h =
    ⊎_elim
    (λ l. by_cuts n false false false false false false (lt-leb _ n l) (lt-leb _ n (omega arith)) (lt-leb _ n (omega arith)) (lt-leb _ n (omega arith)) (ne_eqb n _ (λ e. omega arith)) (ne_eqb n _ (λ e. omega arith)) refl)
    (⊎_elim
    (λ g.
    ⊎_elim
    (λ l. by_cuts n true true false false false false (le-leb _ n (omega arith)) (le-leb _ n (omega arith)) (lt-leb _ n l) (lt-leb _ n (omega arith)) (ne_eqb n _ (λ e. omega arith)) (ne_eqb n _ (λ e. omega arith)) refl)
    (⊎_elim
    (λ k. by_cuts n true true true true false false (le-leb _ n (omega arith)) (le-leb _ n (omega arith)) (le-leb _ n (omega arith)) (le-leb _ n (omega arith)) (ne_eqb n _ (λ e. omega arith)) (ne_eqb n _ (λ e. omega arith)) refl)
    (λ e. by_cuts n true true true false false true (le-leb _ n (omega arith)) (le-leb _ n (omega arith)) (le-leb _ n (omega arith)) (lt-leb _ n (omega arith)) (ne_eqb n _ (λ e. omega arith)) (eq-eqb n _ e) refl))
    (less-more_equal n 2000000070))
    (λ e. by_cuts n true false false false true false (le-leb _ n (omega arith)) (lt-leb _ n (omega arith)) (lt-leb _ n (omega arith)) (lt-leb _ n (omega arith)) (eq-eqb n _ e) (ne_eqb n _ (λ z. omega arith)) refl))
    (less-more_equal n 2000000030)

set : (n : ℕ) → n < axis → inside cuts n ≡ answer R1 asked n
set n h = members n h ∙ sym (tops_are n) ∙ ap (λ (p : Text). val (coded R1) n p 0) (sym reads)

abbrev written : List ℕ
written = word_bytes 30 ++ word_bytes 30 ++ word_bytes 70 ++ word_bytes 70

set-bytes : set_bytes (answer R1 asked) ≡ written
unfolding low_cuts high_cuts
set-bytes = cuts-bytes (answer R1 asked) cuts canonical set

two : run_count (answer R1 asked) ≡ 2
two = let e : 4 ≡ 2 * run_count (answer R1 asked) = cuts-count (answer R1 asked) cuts canonical set in omega arith

-- ---- no refusal meets

nine : refused9 (coded R1) (read asked) ≡ false
unfolding refused9 some_node
nine = ap (refused9 (coded R1)) reads

eight : refused8 (coded R1) (read asked) ≡ false
unfolding refused8 some_node
eight =
    ap (refused8 (coded R1)) reads
    ∙ le-ltb most_runs (run_count (λ n. val (coded R1) n (listed (peaks A)) 0)) (omega (arith, two, ap (λ (p : Text). run_count (λ n. val (coded R1) n p 0)) reads))

none_asking : NoneMeets (asking_lines R1 asked)
unfolding recording.reading signed offset_binary recording.fields_of recording.fields recording.lawful recording.first_bad least too_deep parsed parse unsigned_at number_at operand_at comparison_at timed_at arguments_at named_at headed_at leaf_at
none_asking = (refl, (refl, (refl, (refl, (refl, (refl, (refl, tt)))))))

ten : ltb set_room (length (set_bytes (answer R1 asked))) ≡ false
ten = le-ltb set_room (length (set_bytes (answer R1 asked))) (omega (arith, ap length set-bytes))

answered : question_of R1 asked set_room ≡ result written
unfolding question_of
answered =
    judged_none (asking_lines R1 asked ++ (set_lines R1 (read asked) ++ (output_line set_room (set_bytes (answer R1 asked)) ∷ []))) (set_bytes (answer R1 asked))
    (append_none (asking_lines R1 asked) (set_lines R1 (read asked) ++ (output_line set_room (set_bytes (answer R1 asked)) ∷ [])) none_asking (nine, (eight, (ten, tt))))
    ∙ ap result set-bytes

-- R1 AND `peaks(A)` PRINT THREE LINES
pub r1_prints : printed R1 (bytes "peaks(A)" ++ newline) ≡ bytes "runs 2" ++ newline ++ bytes "30 30" ++ newline ++ bytes "70 70" ++ newline
r1_prints = ap (λ (t : List ℕ). page (question_of R1 t set_room)) (newline_dropped asked) ∙ ap page answered ∙ two_runs
