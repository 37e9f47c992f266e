-- Inputs past their limits: the refusal that their true length fixes.
use Rattle.std.specs.Prelude.{ℕ, ◌+◌, ◌*◌, ◌/◌, ◌%◌, ◌<◌, ◌≡◌, Bool, true, cond, eqb, ltb, length, take}
use Rattle.std.proofs.Common.{sym, ap, ◌∙◌, ⊎_elim, arith, length-take-le, eq-eqb, ne_eqb, lt-ltb}
use Rattle.std.proofs.Math.Bool.{not}
use mathlib.Core.List.{List, [], ◌∷◌, ◌++◌}
use Rattle.std.proofs.Math.Decide.{ℕ_discrete}
use Rattle.refusal.specs.Outcome.{Outcome, refused, Line, line, judged}
use Rattle.recording.specs.Recording.{most_records, recording_lines, no_record}
use Rattle.recording.specs.Output.{output_line}
use Rattle.recording.proofs.laws.Outcome.{judged-first, judged_skip}
use Rattle.number.proofs.laws.Order.{less_or_not}
use Rattle.number.proofs.laws.Boolean.{or_right}
use Rattle.runs.specs.Runs.{set_bytes}
use Rattle.grammar.specs.inner.Parse.{parsed}
use Rattle.grammar.specs.Size.{most_bytes}
use Rattle.text.specs.Told.{bad_length, no_reading, too_large}
use Rattle.question.specs.Question.{read, answer, set_lines, question_of}
use Rattle.page.specs.Typed.{without_newline}
use Rattle.page.proofs.laws.Typed.{typed_length}
use Rattle.page.specs.Intake.{spare, text_blocks, StandsFor}
use Rattle.page.proofs.laws.Intake.{kept-over, kept-fits}
use Rattle.page.specs.Printed.{set_room, printed}
use Rattle.page.specs.Page.{page}

-- what stands behind a line that meets does not count
pub line_stands : {R : Type 0} (ls : List Line) (n : ℕ) (a b : Bool) (ms ns : List Line) (r q : R) → a ≡ true → b ≡ true
    → judged (ls ++ line n a ∷ ms) r ≡ judged (ls ++ line n b ∷ ns) q
unfolding judged
line_stands [] n a b ms ns r q e f = judged-first (line n a) ms r e ∙ sym (judged-first (line n b) ns q f)
line_stands {R} (l ∷ ls) n a b ms ns r q e f = ap (λ (o : Outcome R). cond l.meets (refused l.number l.place) o) (line_stands ls n a b ms ns r q e f)

-- ---- recordings

module _ (rec text : List ℕ) (room : ℕ) where
  pub partial_refused : (length rec % 16 ≡ 0 → ⊥) → question_of rec text room ≡ refused 1 0
  unfolding question_of
  partial_refused h = judged-first (line 1 (not (eqb (length rec % 16) 0))) _ _ (ap not (ne_eqb (length rec % 16) 0 h))

  pub long_refused : length rec % 16 ≡ 0 → 16 * most_records < length rec → question_of rec text room ≡ refused 2 0
  unfolding question_of
  long_refused e h =
      judged_skip [] (line 1 (not (eqb (length rec % 16) 0))) _ _ (ap not (eq-eqb (length rec % 16) 0 e))
      ∙ judged-first (line 2 (ltb most_records (length rec / 16))) _ _ (lt-ltb most_records (length rec / 16) (omega arith))

-- OVER-LONG RECORDINGS WITH THE SAME REMAINDER ARE REFUSED ALIKE
pub long_alike : (a b text : List ℕ) (room : ℕ) → 16 * most_records < length a → 16 * most_records < length b → length a % 16 ≡ length b % 16
    → question_of a text room ≡ question_of b text room
long_alike a b text room h g e = by (ℕ_discrete (length a % 16) 0)
  where
    by : Dec (length a % 16 ≡ 0) → question_of a text room ≡ question_of b text room
    by (yes z) = long_refused a text room z h ∙ sym (long_refused b text room (sym e ∙ z) g)
    by (no n) = partial_refused a text room n ∙ sym (partial_refused b text room (λ z. n (e ∙ z)))

-- ---- texts

too_long : (s : List ℕ) → most_bytes < length s → bad_length s ≡ true
too_long s h = or_right (eqb (length s) 0) (ltb most_bytes (length s)) (lt-ltb most_bytes (length s) h)

-- OVER-LONG TEXTS ARE REFUSED ALIKE
pub texts_alike : (rec s t : List ℕ) (room : ℕ) → most_bytes < length s → most_bytes < length t → question_of rec s room ≡ question_of rec t room
unfolding question_of
texts_alike rec s t room h g =
    line_stands (recording_lines rec ++ (no_record rec ∷ [])) 5 (bad_length s) (bad_length t)
    (line 6 (no_reading (parsed s)) ∷ line 7 (too_large s) ∷ (set_lines rec (read s) ++ (output_line room (set_bytes (answer rec s)) ∷ [])))
    (line 6 (no_reading (parsed t)) ∷ line 7 (too_large t) ∷ (set_lines rec (read t) ++ (output_line room (set_bytes (answer rec t)) ∷ [])))
    (set_bytes (answer rec s)) (set_bytes (answer rec t)) (too_long s h) (too_long t g)

-- ---- WHAT IS KEPT IS ANSWERED AS WHAT WAS SEEN

module _ (blocks : ℕ) (seen store : List ℕ) (n : ℕ) (room : 16 * blocks + spare ≡ length store) (stands : StandsFor blocks seen store n) where
  kept-length : length (take n store) ≡ n
  kept-length = length-take-le n store (omega (arith, stands.count, kept-fits blocks (length seen)))

pub recording_stands : (seen store text : List ℕ) (n room : ℕ) → 16 * most_records + spare ≡ length store → StandsFor most_records seen store n
    → question_of (take n store) text room ≡ question_of seen text room
recording_stands seen store text n room r s =
    ⊎_elim
    (λ h.
    let over = kept-over most_records (length seen) h in
    let l = kept-length most_records seen store n r s in
    long_alike (take n store) seen text room (omega (arith, l, over, s.count)) h (omega (arith, l, over, s.count)))
    (λ h. ap (λ (rec : List ℕ). question_of rec text room) (s.same h))
    (less_or_not (16 * most_records) (length seen))

pub text_stands : (rec seen store : List ℕ) (n room : ℕ) → 16 * text_blocks + spare ≡ length store → StandsFor text_blocks seen store n
    → question_of rec (without_newline (take n store)) room ≡ question_of rec (without_newline seen) room
text_stands rec seen store n room r s =
    ⊎_elim
    (λ h.
    let over = kept-over text_blocks (length seen) h in
    let l = kept-length text_blocks seen store n r s in
    texts_alike rec (without_newline (take n store)) (without_newline seen) room (omega (arith, l, over, s.count, typed_length (take n store))) (omega (arith, typed_length seen)))
    (λ h. ap (λ (t : List ℕ). question_of rec (without_newline t) room) (s.same h))
    (less_or_not (16 * text_blocks) (length seen))

-- THE PAGE OF WHAT IS KEPT is the page of what was seen
pub printed_stands : (rec recs : List ℕ) (n : ℕ) (typed texts : List ℕ) (m : ℕ) → 16 * most_records + spare ≡ length recs → 16 * text_blocks + spare ≡ length texts
    → StandsFor most_records rec recs n → StandsFor text_blocks typed texts m → printed (take n recs) (take m texts) ≡ printed rec typed
printed_stands rec recs n typed texts m r t s u =
    ap page (recording_stands rec recs (without_newline (take m texts)) n set_room r s ∙ text_stands rec typed texts m set_room t u)
