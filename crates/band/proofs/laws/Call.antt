-- The band call from its parts: a text that was read, a width, and the refusals before them.
use Rattle.std.specs.Prelude.{ℕ, zero, suc, ◌+◌, ◌-◌, ◌≤◌, ◌<◌, ◌≡◌, refl, Bool, true, false, not, ◌||◌, ◌&&◌, List, [], ◌∷◌, ◌++◌, eqb, ℤ, pos, negsuc, get_or, length, Result, Ok, Err, Some, None}
use Rattle.std.proofs.Common.{not-suc-le-zero, le_of_suc-le-suc, arith, ◌∙◌, subst, true≢false, lt-ltb, le-ltb, ltb-true, ne_eqb}
use Rattle.std.proofs.Math.Path.{sym, ap}
use Rattle.std.proofs.lemmas.Bool.{not-true}
use Rattle.number.specs.Axis.{origin, whole}
use Rattle.number.proofs.laws.Boolean.{or_cases, or_none, and_left, and_right}
use Rattle.refusal.specs.Outcome.{Outcome, result, refused, judged, reported}
use Rattle.refusal.specs.Numbers.{number_of, place_of}
use Rattle.refusal.specs.declared.Refusal.{Refusal}
use Rattle.recording.specs.Reading.{Curve, curve_of}
use Rattle.recording.proofs.laws.Outcome.{judged_pass, judged_skip, judged-first, judged_none, refusal_stands}
use Rattle.grammar.specs.Syntax.{Listed, high, low, lowafter, capafter, ampl, Text, listed}
use Rattle.grammar.specs.declared.Row.{Row}
use Rattle.grammar.specs.inner.Kinds.{HIGH, LOW, LOWAFTER, CAPAFTER, AMPL}
use Rattle.grammar.specs.inner.Parse.{parsed}
use Rattle.grammar.specs.inner.Table.{leaf_texts, unaries, binaries, row_at, tree_at, kinds}
use Rattle.text.specs.Told.{nodes_of}
use Rattle.meaning.specs.inner.Coded.{Coded, coded}
use Rattle.evaluation.specs.inner.Evaluation.{text_of}
use Rattle.text.proofs.laws.Table.{tree_step}
use Rattle.evaluation.proofs.laws.Tree.{kind-known}
use Rattle.question.specs.Question.{the_text, read, asking_lines}
use Rattle.question.specs.inner.Answered.{Answerable}
use Rattle.question.specs.inner.Prepare.{Prepares}
use Rattle.question.proofs.laws.Prepare.{prepared_passes}
use Rattle.targets.specs.Target.{off_axis, Placed}
use Rattle.targets.proofs.laws.Target.{sub_above, sub_below}
use Rattle.band.specs.Band.{widest}
use Rattle.band.specs.Means.{Bands}
use Rattle.band.specs.inner.Ends.{bands_of}
use Rattle.band.specs.Call.{bad_band, width_of, of_extremes, one_extreme, the_question, width_line, extreme_line, band_of}

-- ---- the question of a text that was read

-- what is judged of a text p, within e
abbrev pub Judged : Text → ℕ → List Coded → Outcome Bands
Judged p e r = judged (extreme_line p ∷ []) (bands_of (the_question p) e r)

-- the two sets of the question that the text is
pub asked : (p : Text) (q : Listed) (e : ℕ) (r : List Coded) → p ≡ listed q → of_extremes q ≡ true → (b : Bands) → b ≡ bands_of q e r → result b ≡ Judged p e r
asked p q e r is one b h =
    ap result h ∙ sym (judged_none (extreme_line (listed q) ∷ []) (bands_of q e r) (ap not one, tt)) ∙ ap (λ (t : Text). Judged t e r) (sym is)

-- the kinds of the five questions
abbrev is_five : ℕ → Bool
is_five k = eqb k HIGH || (eqb k LOW || (eqb k LOWAFTER || (eqb k CAPAFTER || eqb k AMPL)))

-- P holds only at places of these kinds, from place n on
abbrev only_at : (Text → Bool) → ℕ → List Text → Bool
only_at P n [] = true
only_at P n (x ∷ l) = (is_five n || not (P x)) && only_at P (suc n) l

only-at : (P : Text → Bool) (n : ℕ) (l : List Text) (k : ℕ) (d : Text) → only_at P n l ≡ true → k < length l → is_five (n + k) ≡ false → P (get_or l k d) ≡ false
only-at P n [] k d o h f = absurd (not-suc-le-zero h)
only-at P n (x ∷ l) zero d o h f =
    or_cases (is_five n) (not (P x)) (and_left (is_five n || not (P x)) _ o)
    (λ y. let e : n + zero ≡ n = omega arith in absurd (true≢false (sym y ∙ ap is_five (sym e) ∙ f))) (λ y. not-true (P x) y)
only-at P n (x ∷ l) (suc k) d o h f =
    only-at P (suc n) l k d (and_right (is_five n || not (P x)) _ o) (le_of_suc-le-suc h) (let e : suc n + k ≡ n + suc k = omega arith in ap is_five e ∙ f)

-- no kind but those of the five questions is that of one
module _ (r : Row) (p q : Text) where
  abbrev at : ℕ → Text
  at k = get_or (leaf_texts r ++ (unaries p ++ binaries p q)) k p

  abbrev Other : ℕ → Type 0
  Other k = (k ≡ HIGH → ⊥) → (k ≡ LOW → ⊥) → (k ≡ LOWAFTER → ⊥) → (k ≡ CAPAFTER → ⊥) → (k ≡ AMPL → ⊥) → one_extreme (at k) ≡ false

  other : (k : ℕ) → k < kinds → Other k
  other k h a b c d e =
      only-at one_extreme 0 (leaf_texts r ++ (unaries p ++ binaries p q)) k p refl h
      (let z : 0 + k ≡ k = omega arith in ap is_five z ∙ or_none (ne_eqb k HIGH a) (or_none (ne_eqb k LOW b) (or_none (ne_eqb k LOWAFTER c) (or_none (ne_eqb k CAPAFTER d) (ne_eqb k AMPL e)))))

module _ (table : List ℕ) (count : ℕ) (bytes : List ℕ) (ready : Answerable table count bytes) (row : Row) (is_row : row ≡ row_at table (count - 1)) where
  last : count - 1 < count
  last = omega (arith, ready.some)

  abbrev first : Text
  first = tree_at table (row_at table (count - 1)).first

  abbrev second : Text
  second = tree_at table (row_at table (count - 1)).second

  -- the text, from its row
  text_is : text_of table count ≡ at row first second row.kind
  text_is = tree_step table count ready.falling (count - 1) last ∙ ap (λ (y : Row). at y first second y.kind) (sym is_row)

  text_at : (k : ℕ) → row.kind ≡ k → text_of table count ≡ at row first second k
  text_at k h = text_is ∙ ap (at row first second) h

  module _ (c : Curve) (is-curve : c ≡ curve_of row.first) where
    pub text-high : row.kind ≡ HIGH → text_of table count ≡ listed (high c)
    text-high h = text_at HIGH h ∙ ap (λ (d : Curve). listed (high d)) (sym is-curve)

    pub text-low : row.kind ≡ LOW → text_of table count ≡ listed (low c)
    text-low h = text_at LOW h ∙ ap (λ (d : Curve). listed (low d)) (sym is-curve)

    pub text_lowafter : row.kind ≡ LOWAFTER → text_of table count ≡ listed (lowafter c row.number)
    text_lowafter h = text_at LOWAFTER h ∙ ap (λ (d : Curve). listed (lowafter d row.number)) (sym is-curve)

    pub text_capafter : row.kind ≡ CAPAFTER → text_of table count ≡ listed (capafter c row.number)
    text_capafter h = text_at CAPAFTER h ∙ ap (λ (d : Curve). listed (capafter d row.number)) (sym is-curve)

    pub text_ampl : row.kind ≡ AMPL → text_of table count ≡ listed (ampl c)
    text_ampl h = text_at AMPL h ∙ ap (λ (d : Curve). listed (ampl d)) (sym is-curve)

  -- REFUSAL 17
  pub text-other : (row.kind ≡ HIGH → ⊥) → (row.kind ≡ LOW → ⊥) → (row.kind ≡ LOWAFTER → ⊥) → (row.kind ≡ CAPAFTER → ⊥) → (row.kind ≡ AMPL → ⊥)
      → (e : ℕ) (r : List Coded) → refused 17 0 ≡ Judged (text_of table count) e r
  text-other a b c d f e r =
      let known : row.kind < kinds = subst (λ (y : Row). y.kind < kinds) (sym is_row) (kind-known table count ready.falling (count - 1) last) in
      sym (judged-first (extreme_line (text_of table count)) [] (bands_of (the_question (text_of table count)) e r)
      (ap (λ (t : Text). not (one_extreme t)) text_is ∙ ap not (other row first second row.kind known a b c d f)))

-- ---- the width

-- what is judged of a text p, within z
abbrev pub JudgedIn : Text → ℤ → List Coded → Outcome Bands
JudgedIn p z r = judged (width_line z ∷ extreme_line p ∷ []) (bands_of (the_question p) (width_of z) r)

module _ (p : Text) (r : List Coded) where
  bad_width : (z : ℤ) → bad_band z ≡ true → refused 16 0 ≡ JudgedIn p z r
  bad_width z h = sym (judged-first (width_line z) (extreme_line p ∷ []) (bands_of (the_question p) (width_of z) r) h)

  pub width_below : (n : ℕ) → n < origin → refused 16 0 ≡ JudgedIn p (whole n) r
  width_below n h = bad_width (whole n) (ap bad_band (sub_below n origin h))

  pub width_over : (n : ℕ) → origin ≤ n → widest < n - origin → refused 16 0 ≡ JudgedIn p (whole n) r
  width_over n h k = bad_width (whole n) (ap bad_band (sub_above n origin h) ∙ lt-ltb widest (n - origin) k)

  pub width_good : (n : ℕ) → origin ≤ n → n - origin ≤ widest → (o : Outcome Bands) → o ≡ Judged p (n - origin) r → o ≡ JudgedIn p (whole n) r
  width_good n h k o q =
      q ∙ sym (judged_skip [] (width_line (pos (n - origin))) (extreme_line p ∷ []) (bands_of (the_question p) (n - origin) r) (le-ltb widest (n - origin) k))
      ∙ ap (λ (z : ℤ). JudgedIn p z r) (sym (sub_above n origin h))

  pub width_off : (z : ℤ) → Placed z None → refused 16 0 ≡ JudgedIn p z r
  width_off z h = bad_width z (bad z h)
    where
      bad : (z : ℤ) → off_axis z ≡ true → bad_band z ≡ true
      bad (pos n) h = lt-ltb widest n (omega (arith, ltb-true 2000000000 n h))
      bad (negsuc n) h = refl

  pub width_on : (z : ℤ) (n : ℕ) → Placed z (Some n) → (o : Outcome Bands) → o ≡ JudgedIn p (whole n) r → o ≡ JudgedIn p z r
  width_on z n h o q = q ∙ ap (λ (y : ℤ). JudgedIn p y r) h.2

-- ---- the call

module _ (bytes text table : List ℕ) (e : ℤ) (q : Result ℕ Refusal) (h : Prepares bytes text table q) where
  pub band_refused : (x : Refusal) → q ≡ Err x → refused (number_of x) (place_of x) ≡ band_of bytes text e
  unfolding band_of
  band_refused x w =
      sym (refusal_stands (asking_lines bytes text) (width_line e ∷ extreme_line (read text) ∷ []) (nodes_of (parsed text)) (bands_of (the_question (read text)) (width_of e) (coded bytes)) (number_of x) (place_of x)
      (sym h.outcome ∙ ap reported w))

  -- e is handed on as z
  pub band_answered : (n : ℕ) → q ≡ Ok n → (z : ℤ) → z ≡ e → (o : Outcome Bands) → o ≡ JudgedIn (text_of table n) z (coded bytes) → o ≡ band_of bytes text e
  unfolding band_of
  band_answered n w z same o u =
      let is : text_of table n ≡ read text = ap the_text (sym (h.tabled n w).reads) in
      u ∙ ap (λ (t : ℤ). JudgedIn (text_of table n) t (coded bytes)) same
      ∙ ap (λ (p : Text). JudgedIn p e (coded bytes)) is
      ∙ sym (judged_pass (asking_lines bytes text) (width_line e ∷ extreme_line (read text) ∷ []) (bands_of (the_question (read text)) (width_of e) (coded bytes)) (prepared_passes h n w).0)
