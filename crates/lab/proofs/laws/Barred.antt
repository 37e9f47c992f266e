-- The rows of the node table say which nodes are barred, and so whether 14 meets the text.
use Rattle.std.specs.Prelude.{ℕ, zero, suc, ◌≡◌, Bool, true, false, cond, not, ◌||◌, List, eqb, ltb}
use Rattle.std.proofs.Common.{arith, sym, ap, ◌∙◌, ne_eqb, lt-ltb}
use Rattle.std.proofs.Math.Path.{refl}
use Rattle.std.proofs.Math.Bool.{or-false, or-true}
use Rattle.number.proofs.laws.Boolean.{or_left}
use Rattle.grammar.specs.Syntax.{Text}
use Rattle.grammar.specs.Size.{nodes}
use Rattle.grammar.specs.inner.Table.{row, some_row, unary_from}
use Rattle.grammar.specs.inner.Parse.{row_text, node}
use Rattle.parser.specs.inner.Rows.{Laid}
use Rattle.text.proofs.laws.Table.{Each, each, unary_kinds, binary_kinds, ByRow, held-nodes, held_some}
use Rattle.marks.specs.Marks.{is_mark_index}
use Rattle.meaning.specs.inner.Truth.{some_node}
use Rattle.lab.specs.inner.Barred.{barred, not_for_laboratory, row_names_b, row_barred}

-- ---- tests one after the other

pub here : (e x : Bool) → e ≡ true → true ≡ (e || x)
here e x h = sym (or_left e x h)

pub past : (e x : Bool) {y : Bool} → e ≡ false → y ≡ x → y ≡ (e || x)
past e x h g = g ∙ sym (ap (λ (b : Bool). b || x) h)

pub chosen : (e x z : Bool) {y : Bool} → e ≡ true → y ≡ x → y ≡ cond e x z
chosen e x z h g = g ∙ sym (ap (λ (b : Bool). cond b x z) h)

pub other : (e x z : Bool) {y : Bool} → e ≡ false → y ≡ z → y ≡ cond e x z
other e x z h g = g ∙ sym (ap (λ (b : Bool). cond b x z) h)

-- ---- leaves

-- the code of B as a curve, and a code that is not that of B as a field
is_b : (a : ℕ) (x : Bool) → true ≡ (ltb 0 (suc a) || x)
is_b a x = sym (ap (λ (t : Bool). t || x) (lt-ltb 0 (suc a) (omega arith)))

no_b : (a : ℕ) → false ≡ (eqb (suc (suc (suc a))) 1 || false)
no_b a = sym (ap (λ (t : Bool). t || false) (ne_eqb (suc (suc (suc a))) 1 (λ e. omega arith)))

module _ (marks : List ℕ) (b n : ℕ) where
  abbrev Right : ℕ → ℕ → Type 0
  Right k a = not_for_laboratory marks (row_text (row k a b n)) ≡ row_barred marks (row k a b n)

  -- a node about a curve, A or B; about a field, A, B or T
  of-curve : (k : ℕ) → Right k 0 → ((a : ℕ) → Right k (suc a)) → (a : ℕ) → Right k a
  of-curve k p q zero = p
  of-curve k p q (suc a) = q a

  of_field : (k : ℕ) → Right k 0 → Right k 1 → Right k 2 → ((a : ℕ) → Right k (suc (suc (suc a)))) → (a : ℕ) → Right k a
  of_field k p q r s zero = p
  of_field k p q r s (suc zero) = q
  of_field k p q r s (suc (suc zero)) = r
  of_field k p q r s (suc (suc (suc a))) = s a

  leaf_rows : (a : ℕ) → Each unary_from (λ k. Right k a)
  unfolding not_for_laboratory some_node row_barred row_names_b
  leaf_rows a = (
    of_field 0 refl refl refl (λ a. no_b a) a,
    (
      of_field 1 refl refl refl (λ a. no_b a) a,
      (
        refl,
        (
          of-curve 3 refl (λ a. is_b a false) a,
          (
            of-curve 4 refl (λ a. is_b a false) a,
            (
              refl,
              (
                of-curve 6 refl (λ a. is_b a false) a,
                (
                  of-curve 7 refl (λ a. is_b a false) a,
                  (
                    of-curve 8 (or-false (not (is_mark_index marks n))) (λ a. is_b a (not (is_mark_index marks n))) a,
                    (
                      of-curve 9 (or-false (not (is_mark_index marks n))) (λ a. is_b a (not (is_mark_index marks n))) a,
                      (
                        of-curve 10 refl (λ a. is_b a false) a,
                        (
                          of-curve 11 refl (λ a. is_b a false) a,
                          (
                            refl,
                            (
                              refl,
                              (
                                refl,
                                (
                                  of-curve 15 refl (λ a. is_b a false) a,
                                  (
                                    of-curve 16 refl (λ a. is_b a false) a,
                                    (
                                      of-curve 17 refl (λ a. is_b a false) a,
                                      (
                                        refl,
                                        tt,
                                      ),
                                    ),
                                  ),
                                ),
                              ),
                            ),
                          ),
                        ),
                      ),
                    ),
                  ),
                ),
              ),
            ),
          ),
        ),
      ),
    ),
  )

-- ---- 14 GOES BY THE ROWS

pub barred_by_row : (marks : List ℕ) → ByRow (row_barred marks) (not_for_laboratory marks)
unfolding not_for_laboratory some_node row_barred row_names_b
barred_by_row marks = record {
  of_leaf = λ r h. each unary_from (λ k. Right marks r.second r.number k r.first) (leaf_rows marks r.second r.number r.first) r.kind h;
  of_unary = λ k a b n p. unary_kinds (λ j. not_for_laboratory marks (node j p p) ≡ (not_for_laboratory marks p || row_barred marks (row j a b n)))
      (sym (or-false (some_node (barred marks) p))) (sym (or-true (some_node (barred marks) p))) (sym (or-true (some_node (barred marks) p))) (sym (or-true (some_node (barred marks) p))) k;
  of_binary = λ k a b n p q. binary_kinds (λ j. not_for_laboratory marks (node j p q) ≡ (not_for_laboratory marks p || not_for_laboratory marks q || row_barred marks (row j a b n)))
      (sym (or-false (some_node (barred marks) p || some_node (barred marks) q))) (sym (or-false (some_node (barred marks) p || some_node (barred marks) q)))
      (sym (or-true (some_node (barred marks) p || some_node (barred marks) q))) (sym (or-true (some_node (barred marks) p || some_node (barred marks) q))) k;
}

-- a scan over the rows that hold a text
pub barred_scan : (marks T : List ℕ) (n : ℕ) (r : Bool) → r ≡ some_row (row_barred marks) T 0 n → (t : Text) → Laid T 0 n t → r ≡ not_for_laboratory marks t
barred_scan marks T n r e t h =
    let x = held-nodes h in
    let z : n ≡ nodes t = omega arith in
    e ∙ ap (some_row (row_barred marks) T 0) z ∙ sym (held_some (row_barred marks) (not_for_laboratory marks) (barred_by_row marks) h)
