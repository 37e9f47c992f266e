-- The leaf or the opening that computing finds at a position is the one that the rules have there.
use Rattle.std.proofs.Math.Path.{◌≡◌, refl, sym, subst}
use Rattle.std.proofs.Common.{ap, ◌∙◌}
use Rattle.std.specs.Prelude.{Bool, ◌&&◌, Option, Some, None, List, [], ◌∷◌, ◌++◌, ltb}
use Rattle.std.proofs.Math.Bool.{true, false, cond}
use Prim.Native.Nat.{ℕ, ◌+◌, ◌≤◌, ◌<◌}
use native.Mathlib.Omega.{arith}
use Rattle.std.proofs.Math.Dec.{eqb, lit<}
use Rattle.std.proofs.Math.ListN.{length, length-append}
use borrow.Author.Tests.{eq-eqb, ne_eqb, eqb-true, lt-ltb, le-ltb, ltb-true}
use Rattle.number.proofs.laws.Boolean.{none_left}
use Rattle.recording.specs.Reading.{Curve, A, B, curve_of}
use Rattle.grammar.specs.declared.Row.{Row}
use Rattle.grammar.specs.declared.Found.{Found}
use Rattle.grammar.specs.declared.Leaf.{Leaf}
use Rattle.grammar.specs.declared.Leaf.TheVariants.{Node, Open}
use Rattle.grammar.specs.Bytes.{bytes}
use Rattle.grammar.specs.Classes.{is_digit, is_letter}
use Rattle.grammar.specs.Syntax.{Field, of, T, Relation, ge, le, gt, lt, eq, Operand, v, number, Atom, compare, A-to-B, fall, rise, Listed, high, low, lowafter, capafter, peaks, dips, ampl, gaps, steps, Text, atom, listed}
use Rattle.grammar.specs.Grammar.{Numeral, curve_word, field_word, relation_word, OperandWord, the_v, a_number, AtomWord, compared, curves as A-with-B, falling, rising, pigment_is, ListedWord, a_high, a_low, a_lowafter, a_capafter, a_peaks, a_dips, a_cross, a_crossup, a_dose, an_ampl, a_gaps, a_steps, a_lag, Level, alternation, primary, Reads, an_F, a_G, an_X, a_U, a_W, an_atom, a_listed}
use Rattle.grammar.specs.inner.Kinds.{COMPARE-V, COMPARE, A-TO-B, FALL, RISE, PIGMENT, HIGH, LOW, LOWAFTER, CAPAFTER, PEAKS, DIPS, CROSS, CROSSUP, DOSE, AMPL, GAPS, STEPS, LAG, NEXT, FINALLY, GLOBALLY, UNTIL, WEAK-UNTIL, BRACKET}
use Rattle.grammar.specs.inner.Table.{row, field_of, relation_of, unary_from, binary_from, kinds}
use Rattle.grammar.specs.inner.Lexer.{byte, found_upto, first_of, curves, relations, fields, level_names, top_names, difference_names, pigment_names, openings, heads, number_at, pigment_at, when_found, closed_by, operand_at, comparison_at, timed_at, is_timed, arguments_at, takes_pigment, pigment_leaf_at, is_bare, named_at, headed_at, leaf_at}
use Rattle.grammar.specs.inner.Parse.{row_text, node}
use Rattle.grammar.proofs.laws.Word.{Stands, Spelt, Each, each_of_both, no_byte, equals_sign, letter_or_digit, tellable, before, behind, together, one_byte, found, found_is}
use Rattle.grammar.proofs.laws.Number.{number_sound, number_complete, numeral_first, PigmentWord, labelled, pigment_sound, pigment_complete}

-- the word w stands in s from i up to j
pub record Run (s : List ℕ) (i j : ℕ) (w : List ℕ) : Type 0 where
  pub here : Stands s i w
  pub upto : j ≡ i + length w

pub run_then : (s : List ℕ) {i j k : ℕ} (x y : List ℕ) → Run s i j x → Run s j k y → Run s i k (x ++ y)
run_then s {i} {j} {k} x y a b =
    record { here = together s x y i j a.upto a.here b.here; upto = let p = a.upto in let q = b.upto in let l = length-append x y in omega arith }

pub run-byte : (s : List ℕ) (i b : ℕ) → 0 < b → byte s i ≡ b → Run s i (i + 1) (b ∷ [])
run-byte s i b h e = record { here = one_byte s i b h e; upto = refl }

-- the bytes from i up to j read as t
pub record Held (s : List ℕ) (l : Level) (i j : ℕ) (t : Text) : Type 0 where
  pub spelling : List ℕ
  pub run : Run s i j spelling
  pub reads : Reads l spelling t

-- SOUNDNESS. What the code of a head stands for
pub data Opening : ℕ → List ℕ → Type 0 where
  round : Opening BRACKET (bytes "(")
  single : {k : ℕ} {w : List ℕ} → unary_from ≤ k → k < binary_from → 0 < length w → ((x : List ℕ) (p : Text) → Reads alternation x p → Reads primary (w ++ x ++ bytes ")") (node k p p)) → Opening k w
  double : {k : ℕ} {w : List ℕ} → binary_from ≤ k → k < kinds → 0 < length w
      → ((x y : List ℕ) (p q : Text) → Reads alternation x p → Reads alternation y q → Reads primary (w ++ x ++ bytes "," ++ y ++ bytes ")") (node k p q)) → Opening k w

data Head : ℕ → List ℕ → Type 0 where
  field : {k : ℕ} → k < FALL → Head k (field_word (field_of k))
  with_curve : {k : ℕ} {w : List ℕ} → FALL ≤ k → k < unary_from → is_bare k ≡ false → takes_pigment k ≡ false → is_timed k ≡ false
      → ((c : ℕ) → Reads primary (w ++ curve_word (curve_of c) ++ bytes ")") (row_text (row k c 0 0))) → Head k w
  with-time : {k : ℕ} {w : List ℕ} → FALL ≤ k → k < unary_from → is_bare k ≡ false → takes_pigment k ≡ false → is_timed k ≡ true
      → ((c n : ℕ) (x : List ℕ) → Numeral x n → Reads primary (w ++ curve_word (curve_of c) ++ bytes "," ++ x ++ bytes ")") (row_text (row k c 0 n))) → Head k w
  with_pigment : {k : ℕ} {w : List ℕ} → FALL ≤ k → k < unary_from → is_bare k ≡ false → takes_pigment k ≡ true → eqb k DOSE ≡ false
      → ((n : ℕ) (x : List ℕ) → PigmentWord x n → Reads primary (w ++ x) (row_text (row k 0 0 n))) → Head k w
  with_pigment_closed : {k : ℕ} {w : List ℕ} → FALL ≤ k → k < unary_from → is_bare k ≡ false → takes_pigment k ≡ true → eqb k DOSE ≡ true
      → ((n : ℕ) (x : List ℕ) → PigmentWord x n → Reads primary (w ++ x ++ bytes ")") (row_text (row k 0 0 n))) → Head k w
  bare : {k : ℕ} {w : List ℕ} → FALL ≤ k → k < unary_from → is_bare k ≡ true → Reads primary w (row_text (row k 0 0 0)) → Head k w
  opening : {k : ℕ} {w : List ℕ} → unary_from ≤ k → Opening k w → Head k w

fields_mean : Each Head fields
fields_mean = (field (lit< tt), refl, (field (lit< tt), refl, (field (lit< tt), refl, tt)))

level_names_mean : Each Head level_names
level_names_mean = (with_curve (lit< tt) (lit< tt) refl refl refl (λ c. an_atom (falling (curve_of c))), refl, (with_curve (lit< tt) (lit< tt) refl refl refl (λ c. an_atom (rising (curve_of c))), refl, (with_curve (lit< tt) (lit< tt) refl refl refl (λ c. a_listed (a_high (curve_of c))), refl, (with_curve (lit< tt) (lit< tt) refl refl refl (λ c. a_listed (a_low (curve_of c))), refl, (with-time (lit< tt) (lit< tt) refl refl refl (λ c n x m. a_listed (a_lowafter (curve_of c) m)), refl, (with-time (lit< tt) (lit< tt) refl refl refl (λ c n x m. a_listed (a_capafter (curve_of c) m)), refl, tt))))))

top_names_mean : Each Head top_names
top_names_mean = (with_curve (lit< tt) (lit< tt) refl refl refl (λ c. a_listed (a_peaks (curve_of c))), refl, (with_curve (lit< tt) (lit< tt) refl refl refl (λ c. a_listed (a_dips (curve_of c))), refl, (bare (lit< tt) (lit< tt) refl (a_listed a_crossup), refl, (bare (lit< tt) (lit< tt) refl (a_listed a_cross), refl, tt))))

difference_names_mean : Each Head difference_names
difference_names_mean = (with_curve (lit< tt) (lit< tt) refl refl refl (λ c. a_listed (an_ampl (curve_of c))), refl, (with_curve (lit< tt) (lit< tt) refl refl refl (λ c. a_listed (a_gaps (curve_of c))), refl, (with_curve (lit< tt) (lit< tt) refl refl refl (λ c. a_listed (a_steps (curve_of c))), refl, (bare (lit< tt) (lit< tt) refl (a_listed a_lag), refl, tt))))

pigment_reads : (n : ℕ) (x : List ℕ) → PigmentWord x n → Reads primary (bytes "P=" ++ x) (row_text (row PIGMENT 0 0 n))
pigment_reads n x (labelled p) = an_atom (pigment_is p)

dose_reads : (n : ℕ) (x : List ℕ) → PigmentWord x n → Reads primary (bytes "dose(" ++ x ++ bytes ")") (row_text (row DOSE 0 0 n))
dose_reads n x (labelled p) = a_listed (a_dose p)

pigment_names_mean : Each Head pigment_names
pigment_names_mean = (with_pigment (lit< tt) (lit< tt) refl refl refl pigment_reads, refl, (with_pigment_closed (lit< tt) (lit< tt) refl refl refl dose_reads, refl, tt))

openings_mean : Each Head openings
openings_mean = (opening (lit< tt) (single (lit< tt) (lit< tt) (lit< tt) (λ x p r. an_X r)), refl, (opening (lit< tt) (single (lit< tt) (lit< tt) (lit< tt) (λ x p r. an_F r)), refl, (opening (lit< tt) (single (lit< tt) (lit< tt) (lit< tt) (λ x p r. a_G r)), refl, (opening (lit< tt) (double (lit< tt) (lit< tt) (lit< tt) (λ x y p q r t. a_U r t)), refl, (opening (lit< tt) (double (lit< tt) (lit< tt) (lit< tt) (λ x y p q r t. a_W r t)), refl, (opening (lit< tt) round, refl, tt))))))

heads_mean : Each Head heads
heads_mean =
    each_of_both Head fields (level_names ++ (top_names ++ (difference_names ++ (pigment_names ++ openings)))) fields_mean
    (each_of_both Head level_names (top_names ++ (difference_names ++ (pigment_names ++ openings))) level_names_mean
    (each_of_both Head top_names (difference_names ++ (pigment_names ++ openings)) top_names_mean
    (each_of_both Head difference_names (pigment_names ++ openings) difference_names_mean
    (each_of_both Head pigment_names openings pigment_names_mean openings_mean))))

abbrev Relating : ℕ → List ℕ → Type 0
Relating n w = relation_word (relation_of n) ≡ w

relations_mean : Each Relating relations
relations_mean = (refl, refl, (refl, refl, (refl, refl, (refl, refl, (refl, refl, tt)))))

abbrev Curving : ℕ → List ℕ → Type 0
Curving n w = curve_word (curve_of n) ≡ w

curves_mean : Each Curving curves
curves_mean = (refl, refl, (refl, refl, tt))

module _ (s : List ℕ) where
  relation_run : (i n j : ℕ) → first_of relations s i ≡ found_upto n j → Run s i j (relation_word (relation_of n))
  relation_run i n j e =
      let f = found_is s Relating relations i n j relations_mean e in
      record { here = rw f.holds f.here; upto = rw f.holds f.upto }

  curve_run : (i n j : ℕ) → first_of curves s i ≡ found_upto n j → Run s i j (curve_word (curve_of n))
  curve_run i n j e =
      let f = found_is s Curving curves i n j curves_mean e in
      record { here = rw f.holds f.here; upto = rw f.holds f.upto }

  -- a run that is taken for another end and another tree
  held : {i : ℕ} {w : List ℕ} (j e : ℕ) (r q : Row) → Some (Node r j) ≡ Some (Node q e) → Run s i j w → Reads primary w (row_text r) → Held s primary i e (row_text q)
  held {i} {w} j e r q h a b =
      let x : r ≡ q = cc in
      let y : j ≡ e = cc in
      record { spelling = w; run = subst (λ (k : ℕ). Run s i k w) y a; reads = subst (λ (t : Row). Reads primary w (row_text t)) x b }

  closed-held : {i : ℕ} {w : List ℕ} (j e : ℕ) (r q : Row) → closed_by s 41 r j ≡ Some (Node q e) → Run s i j w → Reads primary (w ++ bytes ")") (row_text r) → Held s primary i e (row_text q)
  closed-held {i} {w} j e r q h a b = go (eqb (byte s j) 41) refl h
    where
      go : (t : Bool) → eqb (byte s j) 41 ≡ t → cond t (Some (Node r (j + 1))) None ≡ Some (Node q e) → Held s primary i e (row_text q)
      go true p g = held (j + 1) e r q g (run_then s w (bytes ")") a (run-byte s j 41 (omega arith) (eqb-true (byte s j) 41 p))) b
      go false p g = cc

  operand-held : {i : ℕ} (f n j e : ℕ) (q : Row) → operand_at s f n j ≡ Some (Node q e) → Run s i j (field_word (field_of f) ++ relation_word (relation_of n)) → Held s primary i e (row_text q)
  unfolding operand_at
  operand-held {i} f n j e q h a = go (eqb (byte s j) 118) (eqb (byte s j) 66) (eqb f 0) (number_at s j) refl refl refl refl h
    where
      go : (x y z : Bool) (u : Option Found) → eqb (byte s j) 118 ≡ x → eqb (byte s j) 66 ≡ y → eqb f 0 ≡ z → number_at s j ≡ u
          → cond x (Some (Node (row COMPARE-V f n 0) (j + 1))) (cond (y && z) (Some (Node (row A-TO-B 0 n 0) (j + 1))) (when_found u (λ m k. Some (Node (row COMPARE f n m) k)))) ≡ Some (Node q e) → Held s primary i e (row_text q)
      go true y z u ex ey ez eu g =
          held (j + 1) e (row COMPARE-V f n 0) q g (run_then s (field_word (field_of f) ++ relation_word (relation_of n)) (bytes "v") a (run-byte s j 118 (omega arith) (eqb-true (byte s j) 118 ex)))
          (an_atom (compared (field_of f) (relation_of n) the_v))
      go false true true u ex ey ez eu g =
          let b : Run s i j (bytes "A" ++ relation_word (relation_of n)) = subst (λ (m : ℕ). Run s i j (field_word (field_of m) ++ relation_word (relation_of n))) (eqb-true f 0 ez) a in
          held (j + 1) e (row A-TO-B 0 n 0) q g (run_then s (bytes "A" ++ relation_word (relation_of n)) (bytes "B") b (run-byte s j 66 (omega arith) (eqb-true (byte s j) 66 ey)))
          (an_atom (A-with-B (relation_of n)))
      go false true false (Some u) ex ey ez eu g =
          let c = number_sound s j u.code u.end eu in
          held u.end e (row COMPARE f n u.code) q g (run_then s (field_word (field_of f) ++ relation_word (relation_of n)) c.spelling a (record { here = c.here; upto = c.upto }))
          (an_atom (compared (field_of f) (relation_of n) (a_number c.holds)))
      go false false z (Some u) ex ey ez eu g =
          let c = number_sound s j u.code u.end eu in
          held u.end e (row COMPARE f n u.code) q g (run_then s (field_word (field_of f) ++ relation_word (relation_of n)) c.spelling a (record { here = c.here; upto = c.upto }))
          (an_atom (compared (field_of f) (relation_of n) (a_number c.holds)))
      go false true false None ex ey ez eu g = cc
      go false false z None ex ey ez eu g = cc

  comparison_held : {i : ℕ} (f j e : ℕ) (q : Row) → comparison_at s f j ≡ Some (Node q e) → Run s i j (field_word (field_of f)) → Held s primary i e (row_text q)
  unfolding comparison_at
  comparison_held {i} f j e q h a = go (first_of relations s j) refl h
    where
      go : (u : Option Found) → first_of relations s j ≡ u → when_found u (operand_at s f) ≡ Some (Node q e) → Held s primary i e (row_text q)
      go (Some u) eu g = operand-held f u.code u.end e q g (run_then s (field_word (field_of f)) (relation_word (relation_of u.code)) a (relation_run j u.code u.end eu))
      go None eu g = cc

  timed_held : {i : ℕ} {w : List ℕ} (k c j e : ℕ) (q : Row) → timed_at s k c j ≡ Some (Node q e) → Run s i j w
      → ((n : ℕ) (x : List ℕ) → Numeral x n → Reads primary (w ++ bytes "," ++ x ++ bytes ")") (row_text (row k c 0 n))) → Held s primary i e (row_text q)
  unfolding timed_at
  timed_held {i} {w} k c j e q h a b = go (eqb (byte s j) 44) (number_at s (j + 1)) refl refl h
    where
      go : (x : Bool) (u : Option Found) → eqb (byte s j) 44 ≡ x → number_at s (j + 1) ≡ u
          → cond x (when_found u (λ n m. closed_by s 41 (row k c 0 n) m)) None ≡ Some (Node q e) → Held s primary i e (row_text q)
      go true (Some u) ex eu g =
          let d = number_sound s (j + 1) u.code u.end eu in
          closed-held u.end e (row k c 0 u.code) q g
          (run_then s (w ++ bytes ",") d.spelling (run_then s w (bytes ",") a (run-byte s j 44 (omega arith) (eqb-true (byte s j) 44 ex))) (record { here = d.here; upto = d.upto }))
          (b u.code d.spelling d.holds)
      go true None ex eu g = cc
      go false u ex eu g = cc

  curved_held : {i : ℕ} {w : List ℕ} (k j e : ℕ) (q : Row) → arguments_at s k j ≡ Some (Node q e) → Run s i j w → is_timed k ≡ false
      → ((c : ℕ) → Reads primary (w ++ curve_word (curve_of c) ++ bytes ")") (row_text (row k c 0 0))) → Held s primary i e (row_text q)
  unfolding arguments_at
  curved_held {i} {w} k j e q h a t b = go (first_of curves s j) refl (rw t at h)
    where
      go : (u : Option Found) → first_of curves s j ≡ u → when_found u (λ c m. closed_by s 41 (row k c 0 0) m) ≡ Some (Node q e) → Held s primary i e (row_text q)
      go (Some u) eu g = closed-held u.end e (row k u.code 0 0) q g (run_then s w (curve_word (curve_of u.code)) a (curve_run j u.code u.end eu)) (b u.code)
      go None eu g = cc

  aftertime_held : {i : ℕ} {w : List ℕ} (k j e : ℕ) (q : Row) → arguments_at s k j ≡ Some (Node q e) → Run s i j w → is_timed k ≡ true
      → ((c n : ℕ) (x : List ℕ) → Numeral x n → Reads primary (w ++ curve_word (curve_of c) ++ bytes "," ++ x ++ bytes ")") (row_text (row k c 0 n))) → Held s primary i e (row_text q)
  unfolding arguments_at
  aftertime_held {i} {w} k j e q h a t b = go (first_of curves s j) refl (rw t at h)
    where
      go : (u : Option Found) → first_of curves s j ≡ u → when_found u (λ c m. timed_at s k c m) ≡ Some (Node q e) → Held s primary i e (row_text q)
      go (Some u) eu g = timed_held k u.code u.end e q g (run_then s w (curve_word (curve_of u.code)) a (curve_run j u.code u.end eu)) (b u.code)
      go None eu g = cc

  labelled_held : {i : ℕ} {w : List ℕ} (k j e : ℕ) (q : Row) → pigment_leaf_at s k j ≡ Some (Node q e) → Run s i j w → eqb k DOSE ≡ false
      → ((n : ℕ) (x : List ℕ) → PigmentWord x n → Reads primary (w ++ x) (row_text (row k 0 0 n))) → Held s primary i e (row_text q)
  unfolding pigment_leaf_at
  labelled_held {i} {w} k j e q h a t b = go (pigment_at s j) refl (rw t at h)
    where
      go : (u : Option Found) → pigment_at s j ≡ u → when_found u (λ n m. Some (Node (row k 0 0 n) m)) ≡ Some (Node q e) → Held s primary i e (row_text q)
      go (Some u) eu g =
          let d = pigment_sound s j u.code u.end eu in
          held u.end e (row k 0 0 u.code) q g (run_then s w d.spelling a (record { here = d.here; upto = d.upto })) (b u.code d.spelling d.holds)
      go None eu g = cc

  labelled_closed_held : {i : ℕ} {w : List ℕ} (k j e : ℕ) (q : Row) → pigment_leaf_at s k j ≡ Some (Node q e) → Run s i j w → eqb k DOSE ≡ true
      → ((n : ℕ) (x : List ℕ) → PigmentWord x n → Reads primary (w ++ x ++ bytes ")") (row_text (row k 0 0 n))) → Held s primary i e (row_text q)
  unfolding pigment_leaf_at
  labelled_closed_held {i} {w} k j e q h a t b = go (pigment_at s j) refl (rw t at h)
    where
      go : (u : Option Found) → pigment_at s j ≡ u → when_found u (λ n m. closed_by s 41 (row k 0 0 n) m) ≡ Some (Node q e) → Held s primary i e (row_text q)
      go (Some u) eu g =
          let d = pigment_sound s j u.code u.end eu in
          closed-held u.end e (row k 0 0 u.code) q g (run_then s w d.spelling a (record { here = d.here; upto = d.upto })) (b u.code d.spelling d.holds)
      go None eu g = cc

  headed_held : {i : ℕ} {w : List ℕ} (k j e : ℕ) (q : Row) → Head k w → Run s i j w → headed_at s k j ≡ Some (Node q e) → Held s primary i e (row_text q)
  unfolding headed_at named_at
  headed_held k j e q (field l) a h = comparison_held k j e q (rw (lt-ltb k FALL l) at h) a
  headed_held k j e q (with_curve l m x p y b) a h = curved_held k j e q (rw (le-ltb k FALL l, lt-ltb k unary_from m, x, p) at h) a y b
  headed_held k j e q (with-time l m x p y b) a h = aftertime_held k j e q (rw (le-ltb k FALL l, lt-ltb k unary_from m, x, p) at h) a y b
  headed_held k j e q (with_pigment l m x p y b) a h = labelled_held k j e q (rw (le-ltb k FALL l, lt-ltb k unary_from m, x, p) at h) a y b
  headed_held k j e q (with_pigment_closed l m x p y b) a h = labelled_closed_held k j e q (rw (le-ltb k FALL l, lt-ltb k unary_from m, x, p) at h) a y b
  headed_held k j e q (bare l m x b) a h = held j e (row k 0 0 0) q (rw (le-ltb k FALL l, lt-ltb k unary_from m, x) at h) a b
  headed_held k j e q (opening l o) a h =
      let g = rw (le-ltb k FALL (omega arith), le-ltb k unary_from l) at h in
      cc

  pub leaf_held : (i j : ℕ) (q : Row) → leaf_at s i ≡ Some (Node q j) → Held s primary i j (row_text q)
  unfolding leaf_at
  leaf_held i j q h = go (first_of heads s i) refl h
    where
      go : (u : Option Found) → first_of heads s i ≡ u → when_found u (headed_at s) ≡ Some (Node q j) → Held s primary i j (row_text q)
      go (Some u) eu g = let f = found_is s Head heads i u.code u.end heads_mean eu in headed_held u.code u.end j q f.holds (record { here = f.here; upto = f.upto }) g
      go None eu g = cc

-- only an opening is an opening
abbrev Shut : Option Leaf → Type 0
Shut (Some (Node r j)) = Unit {0}
Shut (Some (Open k j)) = ⊥
Shut None = Unit {0}

cond_shut : (b : Bool) (x y : Option Leaf) → Shut x → Shut y → Shut (cond b x y)
cond_shut true x y h g = h
cond_shut false x y h g = g

when_shut : (u : Option Found) (k : ℕ → ℕ → Option Leaf) → ((n j : ℕ) → Shut (k n j)) → Shut (when_found u k)
when_shut (Some f) k h = h f.code f.end
when_shut None k h = tt

module _ (s : List ℕ) where
  closed_shut : (r : Row) (j : ℕ) → Shut (closed_by s 41 r j)
  closed_shut r j = cond_shut (eqb (byte s j) 41) (Some (Node r (j + 1))) None tt tt

  operand_shut : (f n j : ℕ) → Shut (operand_at s f n j)
  unfolding operand_at
  operand_shut f n j =
      cond_shut (eqb (byte s j) 118) (Some (Node (row COMPARE-V f n 0) (j + 1))) _ tt
      (cond_shut (eqb (byte s j) 66 && eqb f 0) (Some (Node (row A-TO-B 0 n 0) (j + 1))) _ tt
      (when_shut (number_at s j) (λ m k. Some (Node (row COMPARE f n m) k)) (λ m k. tt)))

  comparison_shut : (f j : ℕ) → Shut (comparison_at s f j)
  unfolding comparison_at
  comparison_shut f j = when_shut (first_of relations s j) (operand_at s f) (operand_shut f)

  timed_shut : (k c j : ℕ) → Shut (timed_at s k c j)
  unfolding timed_at
  timed_shut k c j =
      cond_shut (eqb (byte s j) 44) _ None
      (when_shut (number_at s (j + 1)) (λ n e. closed_by s 41 (row k c 0 n) e) (λ n e. closed_shut (row k c 0 n) e)) tt

  arguments_shut : (k j : ℕ) → Shut (arguments_at s k j)
  unfolding arguments_at
  arguments_shut k j =
      when_shut (first_of curves s j) (λ c m. cond (is_timed k) (timed_at s k c m) (closed_by s 41 (row k c 0 0) m))
      (λ c m. cond_shut (is_timed k) (timed_at s k c m) (closed_by s 41 (row k c 0 0) m) (timed_shut k c m) (closed_shut (row k c 0 0) m))

  pigment_shut : (k j : ℕ) → Shut (pigment_leaf_at s k j)
  unfolding pigment_leaf_at
  pigment_shut k j =
      when_shut (pigment_at s j) (λ n m. cond (eqb k DOSE) (closed_by s 41 (row k 0 0 n) m) (Some (Node (row k 0 0 n) m)))
      (λ n m. cond_shut (eqb k DOSE) (closed_by s 41 (row k 0 0 n) m) (Some (Node (row k 0 0 n) m)) (closed_shut (row k 0 0 n) m) tt)

  named_shut : (k j : ℕ) → Shut (named_at s k j)
  unfolding named_at
  named_shut k j =
      cond_shut (is_bare k) (Some (Node (row k 0 0 0) j)) _ tt
      (cond_shut (takes_pigment k) (pigment_leaf_at s k j) (arguments_at s k j) (pigment_shut k j) (arguments_shut k j))

  headed_open : {i : ℕ} {w : List ℕ} (k j n e : ℕ) → Head k w → Run s i j w → headed_at s k j ≡ Some (Open n e) → Spelt s Opening i n e
  unfolding headed_at
  headed_open k j n e (field l) a h = absurd (subst Shut (rw (lt-ltb k FALL l) at h) (comparison_shut k j))
  headed_open k j n e (with_curve l m x p y b) a h = absurd (subst Shut (rw (le-ltb k FALL l, lt-ltb k unary_from m) at h) (named_shut k j))
  headed_open k j n e (with-time l m x p y b) a h = absurd (subst Shut (rw (le-ltb k FALL l, lt-ltb k unary_from m) at h) (named_shut k j))
  headed_open k j n e (with_pigment l m x p y b) a h = absurd (subst Shut (rw (le-ltb k FALL l, lt-ltb k unary_from m) at h) (named_shut k j))
  headed_open k j n e (with_pigment_closed l m x p y b) a h = absurd (subst Shut (rw (le-ltb k FALL l, lt-ltb k unary_from m) at h) (named_shut k j))
  headed_open k j n e (bare l m x b) a h = absurd (subst Shut (rw (le-ltb k FALL l, lt-ltb k unary_from m) at h) (named_shut k j))
  headed_open {i} {w} k j n e (opening l o) a h =
      let g = rw (le-ltb k FALL (omega arith), le-ltb k unary_from l) at h in
      let x : k ≡ n = cc in
      let y : j ≡ e = cc in
      record { spelling = w; holds = subst (λ (m : ℕ). Opening m w) x o; here = a.here; upto = sym y ∙ a.upto }

  pub open_held : (i n e : ℕ) → leaf_at s i ≡ Some (Open n e) → Spelt s Opening i n e
  unfolding leaf_at
  open_held i n e h = go (first_of heads s i) refl h
    where
      go : (u : Option Found) → first_of heads s i ≡ u → when_found u (headed_at s) ≡ Some (Open n e) → Spelt s Opening i n e
      go (Some u) eu g = let f = found_is s Head heads i u.code u.end heads_mean eu in headed_open u.code u.end n e f.holds (record { here = f.here; upto = f.upto }) g
      go None eu g = cc

-- COMPLETENESS. The codes of what is written
abbrev pub curve_code : Curve → ℕ
curve_code A = 0
curve_code B = 1

abbrev pub field_code : Field → ℕ
field_code (of c) = curve_code c
field_code T = 2

abbrev pub relation_code : Relation → ℕ
relation_code ge = 0
relation_code le = 1
relation_code gt = 2
relation_code lt = 3
relation_code eq = 4

curve-code : (c : Curve) → curve_of (curve_code c) ≡ c
curve-code A = refl
curve-code B = refl

field-code : (f : Field) → field_of (field_code f) ≡ f
field-code (of A) = refl
field-code (of B) = refl
field-code T = refl

relation-code : (r : Relation) → relation_of (relation_code r) ≡ r
relation-code ge = refl
relation-code le = refl
relation-code gt = refl
relation-code lt = refl
relation-code eq = refl

-- a name or a number ends there: no letter and no digit follows that would carry it on
abbrev pub WordEnds : List ℕ → ℕ → Type 0
WordEnds s j = letter_or_digit (byte s j) ≡ false

-- the leaf that is found at i, and where it stops
pub record Lexed (s : List ℕ) (i j : ℕ) (t : Text) : Type 0 where
  pub made : Row
  pub at_once : leaf_at s i ≡ Some (Node made j)
  pub stands_for : row_text made ≡ t

module _ (s : List ℕ) where
  curve_found : (i : ℕ) (c : Curve) → Stands s i (curve_word c) → first_of curves s i ≡ found_upto (curve_code c) (i + 1)
  curve_found i A st = found s no_byte curves 0 (bytes "A") i refl st refl
  curve_found i B st = found s no_byte curves 1 (bytes "B") i refl st refl

  field_found : (i : ℕ) (f : Field) → Stands s i (field_word f) → first_of heads s i ≡ found_upto (field_code f) (i + 1)
  field_found i (of A) st = found s no_byte heads 0 (bytes "A") i refl st refl
  field_found i (of B) st = found s no_byte heads 1 (bytes "B") i refl st refl
  field_found i T st = found s no_byte heads 2 (bytes "T") i refl st refl

  relation_found : (i : ℕ) (r : Relation) → Stands s i (relation_word r) → (byte s (i + length (relation_word r)) ≡ 61 → ⊥) → first_of relations s i ≡ found_upto (relation_code r) (i + length (relation_word r))
  relation_found i r st n = found s equals_sign relations (relation_code r) (relation_word r) i (relation_tellable r) st (ne_eqb (byte s (i + length (relation_word r))) 61 n)
    where
      relation_tellable : (r : Relation) → tellable equals_sign relations (relation_code r) (relation_word r) ≡ true
      relation_tellable ge = refl
      relation_tellable le = refl
      relation_tellable gt = refl
      relation_tellable lt = refl
      relation_tellable eq = refl

  field-low : (f : Field) → field_code f < FALL
  field-low (of A) = lit< tt
  field-low (of B) = lit< tt
  field-low T = lit< tt

  -- a comparison is found by its field and its relation
  comparison-at : (i j : ℕ) (f : Field) (r : Relation) → Stands s i (field_word f) → Stands s (i + 1) (relation_word r) → j ≡ i + 1 + length (relation_word r) → (byte s j ≡ 61 → ⊥) → leaf_at s i ≡ operand_at s (field_code f) (relation_code r) j
  unfolding leaf_at headed_at comparison_at
  comparison-at i j f r a b e n =
      rw (field_found i f a, lt-ltb (field_code f) FALL (field-low f), relation_found (i + 1) r b (λ q. n (ap (byte s) e ∙ q)))
      (ap (operand_at s (field_code f) (relation_code r)) (sym e))

  field-length : (f : Field) → length (field_word f) ≡ 1
  field-length (of A) = refl
  field-length (of B) = refl
  field-length T = refl

  curve_length : (c : Curve) → length (curve_word c) ≡ 1
  curve_length A = refl
  curve_length B = refl

  -- the operand that is written is found
  operand-first : {w : List ℕ} {o : Operand} (j : ℕ) → OperandWord w o → Stands s j w → byte s j ≡ 61 → ⊥
  operand-first j the_v st e = omega (arith, st.0)
  operand-first j (a_number m) st e = omega (arith, numeral_first s j m st)

  abbrev operand_row : ℕ → ℕ → Operand → Row
  operand_row f r v = row COMPARE-V f r 0
  operand_row f r (number n) = row COMPARE f r n

  operand-found : {w : List ℕ} {o : Operand} (f r j : ℕ) → OperandWord w o → Stands s j w → is_digit (byte s (j + length w)) ≡ false → operand_at s f r j ≡ Some (Node (operand_row f r o) (j + length w))
  unfolding operand_at
  operand-found f r j the_v st e = rw st.0
  operand-found f r j (a_number m) st e =
      let l = numeral_first s j m st in
      rw (ne_eqb (byte s j) 118 (omega arith), ne_eqb (byte s j) 66 (omega arith), number_complete s j m st e)

  operand_is : (f : Field) (r : Relation) (o : Operand) → row_text (operand_row (field_code f) (relation_code r) o) ≡ atom (compare f r o)
  operand_is f r v = let x = field-code f in let y = relation-code r in cc
  operand_is f r (number n) = let x = field-code f in let y = relation-code r in cc

  lexed : {i : ℕ} {t : Text} (j k : ℕ) (q : Row) → leaf_at s i ≡ Some (Node q j) → row_text q ≡ t → j ≡ k → Lexed s i k t
  lexed j k q e h l = record { made = q; at_once = e ∙ ap (λ (n : ℕ). Some (Node q n)) l; stands_for = h }

  compared_lexed : {w : List ℕ} {o : Operand} (i : ℕ) (f : Field) (r : Relation) → OperandWord w o → Stands s i (field_word f ++ relation_word r ++ w)
      → is_digit (byte s (i + length (field_word f ++ relation_word r ++ w))) ≡ false → Lexed s i (i + length (field_word f ++ relation_word r ++ w)) (atom (compare f r o))
  compared_lexed {w} {o} i f r h st e =
      let a = length-append (field_word f) (relation_word r) in
      let b = length-append (field_word f ++ relation_word r) w in
      let c = field-length f in
      let j : ℕ = i + 1 + length (relation_word r) in
      let front = before s (field_word f ++ relation_word r) w i st in
      let back : Stands s j w = subst (λ (k : ℕ). Stands s k w) (omega arith) (behind s (field_word f ++ relation_word r) w i st) in
      let end : j + length w ≡ i + length (field_word f ++ relation_word r ++ w) = omega arith in
      let rel : Stands s (i + 1) (relation_word r) = subst (λ (k : ℕ). Stands s (i + k) (relation_word r)) c (behind s (field_word f) (relation_word r) i front) in
      lexed (j + length w) _ (operand_row (field_code f) (relation_code r) o)
      (comparison-at i j f r (before s (field_word f) (relation_word r) i front) rel refl (operand-first j h back)
      ∙ operand-found (field_code f) (relation_code r) j h back (subst (λ (k : ℕ). is_digit (byte s k) ≡ false) (sym end) e))
      (operand_is f r o) end

  curves_lexed : (i : ℕ) (r : Relation) → Stands s i (bytes "A" ++ relation_word r ++ bytes "B") → Lexed s i (i + length (bytes "A" ++ relation_word r ++ bytes "B")) (atom (A-to-B r))
  unfolding operand_at
  curves_lexed i r st =
      let b = length-append (bytes "A" ++ relation_word r) (bytes "B") in
      let j : ℕ = i + 1 + length (relation_word r) in
      let front = before s (bytes "A" ++ relation_word r) (bytes "B") i st in
      let back : Stands s j (bytes "B") = subst (λ (k : ℕ). Stands s k (bytes "B")) (omega arith) (behind s (bytes "A" ++ relation_word r) (bytes "B") i st) in
      let x = back.0 in
      lexed (j + 1) _ (row A-TO-B 0 (relation_code r) 0)
      (comparison-at i j (of A) r (before s (bytes "A") (relation_word r) i front) (behind s (bytes "A") (relation_word r) i front) refl (λ q. omega arith)
      ∙ rw (ne_eqb (byte s j) 118 (omega arith), eq-eqb (byte s j) 66 x))
      (ap (λ (q : Relation). atom (A-to-B q)) (relation-code r)) (omega arith)

  -- a name is found by its place in the table
  closed_at : (r : Row) (j : ℕ) → byte s j ≡ 41 → closed_by s 41 r j ≡ Some (Node r (j + 1))
  closed_at r j e = rw (eq-eqb (byte s j) 41 e)

  curved_lexed : {t : Text} (k : ℕ) (w : List ℕ) (c : Curve) (i : ℕ) → tellable no_byte heads k w ≡ true → FALL ≤ k → k < unary_from
      → is_bare k ≡ false → takes_pigment k ≡ false → is_timed k ≡ false → row_text (row k (curve_code c) 0 0) ≡ t
      → Stands s i (w ++ curve_word c ++ bytes ")") → Lexed s i (i + length (w ++ curve_word c ++ bytes ")")) t
  unfolding leaf_at headed_at named_at arguments_at
  curved_lexed k w c i find l m x p y t st =
      let a = length-append w (curve_word c) in
      let b = length-append (w ++ curve_word c) (bytes ")") in
      let d = curve_length c in
      let j : ℕ = i + length w in
      let front = before s (w ++ curve_word c) (bytes ")") i st in
      let back : Stands s (j + 1) (bytes ")") = subst (λ (n : ℕ). Stands s n (bytes ")")) (omega arith) (behind s (w ++ curve_word c) (bytes ")") i st) in
      lexed (j + 1 + 1) _ (row k (curve_code c) 0 0)
      (rw (found s no_byte heads k w i find (before s w (curve_word c) i front) refl, le-ltb k FALL l, lt-ltb k unary_from m, x, p, curve_found j c (behind s w (curve_word c) i front), y) (closed_at (row k (curve_code c) 0 0) (j + 1) back.0))
      t (omega arith)

  timed_lexed : {t : Text} {u : List ℕ} {n : ℕ} (k : ℕ) (w : List ℕ) (c : Curve) (i : ℕ) → tellable no_byte heads k w ≡ true → FALL ≤ k → k < unary_from
      → is_bare k ≡ false → takes_pigment k ≡ false → is_timed k ≡ true → row_text (row k (curve_code c) 0 n) ≡ t → Numeral u n
      → Stands s i (w ++ curve_word c ++ bytes "," ++ u ++ bytes ")") → Lexed s i (i + length (w ++ curve_word c ++ bytes "," ++ u ++ bytes ")")) t
  unfolding leaf_at headed_at named_at arguments_at timed_at
  timed_lexed {t} {u} {n} k w c i find l m x p y t' num st =
      let a1 = length-append w (curve_word c) in
      let a2 = length-append (w ++ curve_word c) (bytes ",") in
      let a3 = length-append (w ++ curve_word c ++ bytes ",") u in
      let a4 = length-append (w ++ curve_word c ++ bytes "," ++ u) (bytes ")") in
      let d = curve_length c in
      let j : ℕ = i + length w in
      let s3 = before s (w ++ curve_word c ++ bytes "," ++ u) (bytes ")") i st in
      let s2 = before s (w ++ curve_word c ++ bytes ",") u i s3 in
      let s1 = before s (w ++ curve_word c) (bytes ",") i s2 in
      let comma : Stands s (j + 1) (bytes ",") = subst (λ (q : ℕ). Stands s q (bytes ",")) (omega arith) (behind s (w ++ curve_word c) (bytes ",") i s2) in
      let digits : Stands s (j + 1 + 1) u = subst (λ (q : ℕ). Stands s q u) (omega arith) (behind s (w ++ curve_word c ++ bytes ",") u i s3) in
      let close : Stands s (j + 1 + 1 + length u) (bytes ")") = subst (λ (q : ℕ). Stands s q (bytes ")")) (omega arith) (behind s (w ++ curve_word c ++ bytes "," ++ u) (bytes ")") i st) in
      let stop : is_digit (byte s (j + 1 + 1 + length u)) ≡ false = rw close.0 refl in
      lexed (j + 1 + 1 + length u + 1) _ (row k (curve_code c) 0 n)
      (rw (found s no_byte heads k w i find (before s w (curve_word c) i s1) refl, le-ltb k FALL l, lt-ltb k unary_from m, x, p, curve_found j c (behind s w (curve_word c) i s1), y, eq-eqb (byte s (j + 1)) 44 comma.0, number_complete s (j + 1 + 1) num digits stop)
      (closed_at (row k (curve_code c) 0 n) (j + 1 + 1 + length u) close.0))
      t' (omega arith)

  -- `P=` and `dose(` with the number that is written
  labelled_lexed : {t : Text} {u : List ℕ} {n : ℕ} (k : ℕ) (w : List ℕ) (i : ℕ) → tellable no_byte heads k w ≡ true → FALL ≤ k → k < unary_from
      → is_bare k ≡ false → takes_pigment k ≡ true → eqb k DOSE ≡ false → row_text (row k 0 0 n) ≡ t → PigmentWord u n
      → Stands s i (w ++ u) → is_digit (byte s (i + length (w ++ u))) ≡ false → Lexed s i (i + length (w ++ u)) t
  unfolding leaf_at headed_at named_at pigment_leaf_at
  labelled_lexed {t} {u} {n} k w i find l m x p y t' num st e =
      let a = length-append w u in
      let j : ℕ = i + length w in
      let end : j + length u ≡ i + length (w ++ u) = omega arith in
      let stop : is_digit (byte s (j + length u)) ≡ false = subst (λ (q : ℕ). is_digit (byte s q) ≡ false) (sym end) e in
      lexed (j + length u) _ (row k 0 0 n)
      (rw (found s no_byte heads k w i find (before s w u i st) refl, le-ltb k FALL l, lt-ltb k unary_from m, x, p, pigment_complete s j num (behind s w u i st) stop, y))
      t' end

  labelled_closed_lexed : {t : Text} {u : List ℕ} {n : ℕ} (k : ℕ) (w : List ℕ) (i : ℕ) → tellable no_byte heads k w ≡ true → FALL ≤ k → k < unary_from
      → is_bare k ≡ false → takes_pigment k ≡ true → eqb k DOSE ≡ true → row_text (row k 0 0 n) ≡ t → PigmentWord u n
      → Stands s i (w ++ u ++ bytes ")") → Lexed s i (i + length (w ++ u ++ bytes ")")) t
  unfolding leaf_at headed_at named_at pigment_leaf_at
  labelled_closed_lexed {t} {u} {n} k w i find l m x p y t' num st =
      let a = length-append w u in
      let b = length-append (w ++ u) (bytes ")") in
      let j : ℕ = i + length w in
      let front = before s (w ++ u) (bytes ")") i st in
      let close : Stands s (j + length u) (bytes ")") = subst (λ (q : ℕ). Stands s q (bytes ")")) (omega arith) (behind s (w ++ u) (bytes ")") i st) in
      let stop : is_digit (byte s (j + length u)) ≡ false = rw close.0 refl in
      lexed (j + length u + 1) _ (row k 0 0 n)
      (rw (found s no_byte heads k w i find (before s w u i front) refl, le-ltb k FALL l, lt-ltb k unary_from m, x, p, pigment_complete s j num (behind s w u i front) stop, y)
      (closed_at (row k 0 0 n) (j + length u) close.0))
      t' (omega arith)

  bare_lexed : {t : Text} (k : ℕ) (w : List ℕ) (i : ℕ) → tellable letter_or_digit heads k w ≡ true → FALL ≤ k → k < unary_from
      → is_bare k ≡ true → row_text (row k 0 0 0) ≡ t → Stands s i w → WordEnds s (i + length w) → Lexed s i (i + length w) t
  unfolding leaf_at headed_at named_at
  bare_lexed k w i find l m x t st e = lexed (i + length w) _ (row k 0 0 0) (rw (found s letter_or_digit heads k w i find st e, le-ltb k FALL l, lt-ltb k unary_from m, x)) t refl

  pub atom_lexed : {w : List ℕ} {a : Atom} (i : ℕ) → AtomWord w a → Stands s i w → WordEnds s (i + length w) → Lexed s i (i + length w) (atom a)
  atom_lexed {w} i (compared f r o) st e = compared_lexed i f r o st (none_left (is_digit (byte s (i + length w))) (is_letter (byte s (i + length w))) e)
  atom_lexed i (A-with-B r) st e = curves_lexed i r st
  atom_lexed i (falling c) st e = curved_lexed FALL (bytes "fall(") c i refl (lit< tt) (lit< tt) refl refl refl (ap (λ (x : Curve). atom (fall x)) (curve-code c)) st
  atom_lexed i (rising c) st e = curved_lexed RISE (bytes "rise(") c i refl (lit< tt) (lit< tt) refl refl refl (ap (λ (x : Curve). atom (rise x)) (curve-code c)) st
  atom_lexed {w} i (pigment_is p) st e =
      labelled_lexed PIGMENT (bytes "P=") i refl (lit< tt) (lit< tt) refl refl refl refl (labelled p) st (none_left (is_digit (byte s (i + length w))) (is_letter (byte s (i + length w))) e)

  pub listed_lexed : {w : List ℕ} {q : Listed} (i : ℕ) → ListedWord w q → Stands s i w → WordEnds s (i + length w) → Lexed s i (i + length w) (listed q)
  listed_lexed i (a_high c) st e = curved_lexed HIGH (bytes "high(") c i refl (lit< tt) (lit< tt) refl refl refl (ap (λ (x : Curve). listed (high x)) (curve-code c)) st
  listed_lexed i (a_low c) st e = curved_lexed LOW (bytes "low(") c i refl (lit< tt) (lit< tt) refl refl refl (ap (λ (x : Curve). listed (low x)) (curve-code c)) st
  listed_lexed i (a_lowafter {k = n} c m) st e = timed_lexed LOWAFTER (bytes "lowafter(") c i refl (lit< tt) (lit< tt) refl refl refl (ap (λ (x : Curve). listed (lowafter x n)) (curve-code c)) m st
  listed_lexed i (a_capafter {k = n} c m) st e = timed_lexed CAPAFTER (bytes "capafter(") c i refl (lit< tt) (lit< tt) refl refl refl (ap (λ (x : Curve). listed (capafter x n)) (curve-code c)) m st
  listed_lexed i (a_peaks c) st e = curved_lexed PEAKS (bytes "peaks(") c i refl (lit< tt) (lit< tt) refl refl refl (ap (λ (x : Curve). listed (peaks x)) (curve-code c)) st
  listed_lexed i (a_dips c) st e = curved_lexed DIPS (bytes "dips(") c i refl (lit< tt) (lit< tt) refl refl refl (ap (λ (x : Curve). listed (dips x)) (curve-code c)) st
  listed_lexed i a_cross st e = bare_lexed CROSS (bytes "cross") i refl (lit< tt) (lit< tt) refl refl st e
  listed_lexed i a_crossup st e = bare_lexed CROSSUP (bytes "crossup") i refl (lit< tt) (lit< tt) refl refl st e
  listed_lexed i (a_dose p) st e = labelled_closed_lexed DOSE (bytes "dose(") i refl (lit< tt) (lit< tt) refl refl refl refl (labelled p) st
  listed_lexed i (an_ampl c) st e = curved_lexed AMPL (bytes "ampl(") c i refl (lit< tt) (lit< tt) refl refl refl (ap (λ (x : Curve). listed (ampl x)) (curve-code c)) st
  listed_lexed i (a_gaps c) st e = curved_lexed GAPS (bytes "gaps(") c i refl (lit< tt) (lit< tt) refl refl refl (ap (λ (x : Curve). listed (gaps x)) (curve-code c)) st
  listed_lexed i (a_steps c) st e = curved_lexed STEPS (bytes "steps(") c i refl (lit< tt) (lit< tt) refl refl refl (ap (λ (x : Curve). listed (steps x)) (curve-code c)) st
  listed_lexed i a_lag st e = bare_lexed LAG (bytes "lag") i refl (lit< tt) (lit< tt) refl refl st e

  -- `crossup` IS NEVER READ AS `cross`, wherever it stands and whatever follows
  pub crossup_whole : (i : ℕ) → Stands s i (bytes "crossup") → leaf_at s i ≡ Some (Node (row CROSSUP 0 0 0) (i + 7))
  unfolding leaf_at headed_at named_at
  crossup_whole i st = rw (found s no_byte heads CROSSUP (bytes "crossup") i refl st refl)

  -- the openings
  opened_at : (k : ℕ) (w : List ℕ) (i : ℕ) → tellable no_byte heads k w ≡ true → unary_from ≤ k → Stands s i w → leaf_at s i ≡ Some (Open k (i + length w))
  unfolding leaf_at headed_at
  opened_at k w i find l st = rw (found s no_byte heads k w i find st refl, le-ltb k FALL (omega arith), le-ltb k unary_from l)

  pub X-opens : (i : ℕ) → Stands s i (bytes "X(") → leaf_at s i ≡ Some (Open NEXT (i + 2))
  X-opens i st = opened_at NEXT (bytes "X(") i refl (lit< tt) st

  pub F-opens : (i : ℕ) → Stands s i (bytes "F(") → leaf_at s i ≡ Some (Open FINALLY (i + 2))
  F-opens i st = opened_at FINALLY (bytes "F(") i refl (lit< tt) st

  pub G-opens : (i : ℕ) → Stands s i (bytes "G(") → leaf_at s i ≡ Some (Open GLOBALLY (i + 2))
  G-opens i st = opened_at GLOBALLY (bytes "G(") i refl (lit< tt) st

  pub U-opens : (i : ℕ) → Stands s i (bytes "U(") → leaf_at s i ≡ Some (Open UNTIL (i + 2))
  U-opens i st = opened_at UNTIL (bytes "U(") i refl (lit< tt) st

  pub W-opens : (i : ℕ) → Stands s i (bytes "W(") → leaf_at s i ≡ Some (Open WEAK-UNTIL (i + 2))
  W-opens i st = opened_at WEAK-UNTIL (bytes "W(") i refl (lit< tt) st

  pub round_opens : (i : ℕ) → Stands s i (bytes "(") → leaf_at s i ≡ Some (Open BRACKET (i + 1))
  round_opens i st = opened_at BRACKET (bytes "(") i refl (lit< tt) st

-- the kind of a leaf is one of the kinds of leaves
abbrev Low : Option Leaf → Type 0
Low (Some (Node r j)) = r.kind < unary_from
Low (Some (Open k j)) = Unit {0}
Low None = Unit {0}

cond_low : (b : Bool) (x y : Option Leaf) → (b ≡ true → Low x) → (b ≡ false → Low y) → Low (cond b x y)
cond_low true x y h g = h refl
cond_low false x y h g = g refl

when-low : (u : Option Found) (k : ℕ → ℕ → Option Leaf) → ((n j : ℕ) → Low (k n j)) → Low (when_found u k)
when-low (Some f) k h = h f.code f.end
when-low None k h = tt

module _ (s : List ℕ) where
  closed-low : (r : Row) (j : ℕ) → r.kind < unary_from → Low (closed_by s 41 r j)
  closed-low r j h = cond_low (eqb (byte s j) 41) (Some (Node r (j + 1))) None (λ e. h) (λ e. tt)

  operand_low : (f n j : ℕ) → Low (operand_at s f n j)
  unfolding operand_at
  operand_low f n j =
      cond_low (eqb (byte s j) 118) (Some (Node (row COMPARE-V f n 0) (j + 1))) _ (λ e. lit< tt)
      (λ e. cond_low (eqb (byte s j) 66 && eqb f 0) (Some (Node (row A-TO-B 0 n 0) (j + 1))) _ (λ q. lit< tt)
      (λ q. when-low (number_at s j) (λ m k. Some (Node (row COMPARE f n m) k)) (λ m k. lit< tt)))

  timed_low : (k c j : ℕ) → k < unary_from → Low (timed_at s k c j)
  unfolding timed_at
  timed_low k c j h =
      cond_low (eqb (byte s j) 44) _ None
      (λ e. when-low (number_at s (j + 1)) (λ n m. closed_by s 41 (row k c 0 n) m) (λ n m. closed-low (row k c 0 n) m h)) (λ e. tt)

  arguments_low : (k j : ℕ) → k < unary_from → Low (arguments_at s k j)
  unfolding arguments_at
  arguments_low k j h =
      when-low (first_of curves s j) (λ c m. cond (is_timed k) (timed_at s k c m) (closed_by s 41 (row k c 0 0) m))
      (λ c m. cond_low (is_timed k) (timed_at s k c m) (closed_by s 41 (row k c 0 0) m) (λ q. timed_low k c m h) (λ q. closed-low (row k c 0 0) m h))

  pigment_low : (k j : ℕ) → k < unary_from → Low (pigment_leaf_at s k j)
  unfolding pigment_leaf_at
  pigment_low k j h =
      when-low (pigment_at s j) (λ n m. cond (eqb k DOSE) (closed_by s 41 (row k 0 0 n) m) (Some (Node (row k 0 0 n) m)))
      (λ n m. cond_low (eqb k DOSE) (closed_by s 41 (row k 0 0 n) m) (Some (Node (row k 0 0 n) m)) (λ q. closed-low (row k 0 0 n) m h) (λ q. h))

  named-low : (k j : ℕ) → k < unary_from → Low (named_at s k j)
  unfolding named_at
  named-low k j h =
      cond_low (is_bare k) (Some (Node (row k 0 0 0) j)) _ (λ e. h)
      (λ e. cond_low (takes_pigment k) (pigment_leaf_at s k j) (arguments_at s k j) (λ q. pigment_low k j h) (λ q. arguments_low k j h))

  headed_low : (k j : ℕ) → Low (headed_at s k j)
  unfolding headed_at comparison_at
  headed_low k j =
      cond_low (ltb k FALL) _ _ (λ e. when-low (first_of relations s j) (operand_at s k) (operand_low k))
      (λ e. cond_low (ltb k unary_from) (named_at s k j) (Some (Open k j)) (λ q. named-low k j (ltb-true k unary_from q)) (λ q. tt))

  pub leaf_low : (i j : ℕ) (r : Row) → leaf_at s i ≡ Some (Node r j) → r.kind < unary_from
  unfolding leaf_at
  leaf_low i j r e = subst Low e (when-low (first_of heads s i) (headed_at s) headed_low)
