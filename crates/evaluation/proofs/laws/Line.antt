-- One node is evaluated, for the row and the children as the code has read them.
use Rattle.std.specs.Prelude.{ℕ, ◌+◌, ◌-◌, ◌/◌, ◌<◌, ◌≤◌, ◌≡◌, refl, true, false, ◌||◌, List, length, eqb}
use Rattle.std.specs.Prelude.{Result}
use Rattle.std.specs.Result.{is_err}
use Rattle.runs.specs.declared.TooManyRuns.{TooManyRuns}
use native.Mathlib.Omega.{arith}
use Rattle.std.proofs.Math.Path.{sym, ap, subst}
use Rattle.std.proofs.Common.{◌∙◌}
use Rattle.std.proofs.lemmas.Bool.{false≢true}
use Rattle.number.proofs.laws.Boolean.{or_left, or_right}
use Rattle.runs.specs.Set.{member, Valid}
use Rattle.grammar.specs.Syntax.{Text}
use Rattle.grammar.specs.declared.Row.{Row}
use Rattle.grammar.specs.inner.Kinds.{AND}
use Rattle.grammar.specs.inner.Table.{row, row_at, unary_from, binary_from, kinds}
use Rattle.grammar.specs.inner.Parse.{node}
use Rattle.parser.specs.inner.Rows.{Laid, leaf, unary, binary}
use Rattle.parser.proofs.laws.Rows.{laid_above}
use Rattle.meaning.specs.inner.Coded.{Coded, coded}
use Rattle.meaning.specs.inner.Truth.{val, large_at, over_at, refused9}
use Rattle.leaves.specs.inner.Leaf.{leaf_of, Asked}
use Rattle.evaluation.specs.inner.Slots.{slot, Puts}
use Rattle.evaluation.specs.inner.Step.{unary_of, binary_of}
use Rattle.evaluation.specs.inner.Evaluate.{SlotHolds, Stand, Fit, Evaluable, NodePromise}
use Rattle.evaluation.proofs.laws.Node.{some_leaf, some_one, some_two}
use Rattle.evaluation.proofs.laws.Laid.{line_is, laid_kind, leaf_kind, leaf_text}
use Rattle.evaluation.proofs.laws.Evaluate.{fit_child, fit_first, fit_second, one_valid, child_valid, one_done, two_valid, first_valid, second_valid, two_done}

module _ (table : List ℕ) (rec : List ℕ) (i n : ℕ) (line : Row) (is-line : line ≡ row_at table n) where
  abbrev r : List Coded
  r = coded rec

  -- ---- a leaf

  pub line-asked : {b m : ℕ} {t : Text} (laid : Laid table b m t) → m ≡ n + 1 → {own other : List ℕ} → Fit rec i laid own other → line.kind < unary_from → Asked rec i line
  line-asked laid is fit h =
      record {
        accepted = fit.accepted;
        index = fit.index;
        leaf = h;
        few_tops = ap (refused9 r) (leaf_text table n line is-line laid is h) ∙ fit.few_tops;
      }

  pub line_leaf : (own other own' : List ℕ) (over : Result (Unit {0}) TooManyRuns) → line.kind < unary_from → Puts (λ v. val r v (leaf_of line) i) own own' n over → NodePromise table rec i n own other own' other over
  unfolding Stand
  line_leaf own other own' over h puts b m t (leaf l e) is fit =
      let x : n ≡ b = omega arith in
      let text = leaf_text table n line is-line (leaf l e) is h in
      let some : over_at r t i ≡ is_err over = ap (λ (u : Text). over_at r u i) (sym text) ∙ some_leaf (λ u. large_at r u i) line ∙ sym puts.flag in
      record {
        good = λ z. record {
          stand = subst (λ (j : ℕ). SlotHolds r i t j own') x (subst (λ (u : Text). SlotHolds r i u n own') text (puts.here z));
          small = some ∙ z;
          own_kept = λ k w. puts.elsewhere z k (λ y. absurd (let g = w (omega arith) in omega arith));
          other-kept = λ k w. refl;
        };
        bad = λ z. some ∙ z;
      }
  line_leaf own other own' over h puts b m t (unary {m = j} k l c child e) is fit = let x = laid_kind table n line is-line j k (j - 1) 0 is e in absurd (omega (arith, x, l, h))
  line_leaf own other own' over h puts b m t (binary {m = d} {n = j} k l c first second e) is fit = let x = laid_kind table n line is-line j k (d - 1) (j - 1) is e in absurd (omega (arith, x, l, h))

  -- ---- the first child

  module _ (a : ℕ) (is-a : a ≡ line.first) (l : unary_from ≤ line.kind) where
    -- where it is laid
    at_first : (m k c d : ℕ) → m + 1 ≡ n + 1 → row_at table m ≡ row k c d 0 → a ≡ c
    at_first m k c d is e = is-a ∙ ap (λ (x : Row). x.first) (line_is table n line is-line m k c d is e)

    pub first-node : {b m : ℕ} {t : Text} (laid : Laid table b m t) → m ≡ n + 1 → {own other : List ℕ} → Fit rec i laid own other → Evaluable table rec i a other own
    first-node (leaf {b} u e) is fit = let x = leaf_kind table n line is-line b is u in absurd (omega arith)
    first-node (unary {b} {m} {p} k u h child e) is fit =
        let o = laid_above child in
        let x = at_first m k (m - 1) 0 is e in
        record { base = b; end = m; text = p; laid = child; root = omega arith; fit = fit_child table rec i k u h child e fit }
    first-node (binary {b} {m} {n = j} {p} k u h first second e) is fit =
        let o = laid_above first in
        let x = at_first j k (m - 1) (j - 1) is e in
        record { base = b; end = m; text = p; laid = first; root = omega arith; fit = fit_first table rec i k u h first second e fit }

    pub first-falls : {b m : ℕ} {t : Text} → Laid table b m t → m ≡ n + 1 → a < n
    first-falls (leaf {b} u e) is = let x = leaf_kind table n line is-line b is u in absurd (omega arith)
    first-falls (unary {b} {m} k u h child e) is = let o = laid_above child in let x = at_first m k (m - 1) 0 is e in omega arith
    first-falls (binary {b} {m} {n = j} k u h first second e) is = let o = laid_above first in let w = laid_above second in let x = at_first j k (m - 1) (j - 1) is e in omega arith

    pub kind_fits : {b m : ℕ} {t : Text} → Laid table b m t → m ≡ n + 1 → line.kind < kinds
    kind_fits (leaf {b} u e) is = let x = leaf_kind table n line is-line b is u in omega arith
    kind_fits (unary {b} {m} k u h child e) is = let x = laid_kind table n line is-line m k (m - 1) 0 is e in omega arith
    kind_fits (binary {b} {m} {n = j} k u h first second e) is = let x = laid_kind table n line is-line j k (m - 1) (j - 1) is e in omega arith

    module _ (own other own₁ other₁ : List ℕ) (over : Result (Unit {0}) TooManyRuns) (o : NodePromise table rec i a other own other₁ own₁ over) where
      pub first-over : (own₂ other₂ : List ℕ) → is_err over ≡ true → (res : Result (Unit {0}) TooManyRuns) → is_err res ≡ true → NodePromise table rec i n own other own₂ other₂ res
      first-over own₂ other₂ z res over₀ b m t (leaf u e) is fit = let x = leaf_kind table n line is-line b is u in absurd (omega arith)
      first-over own₂ other₂ z res over₀ b m t (unary {m = j} {p} k u h child e) is fit =
          let w = laid_above child in
          let x = at_first j k (j - 1) 0 is e in
          record {
            good = λ y. absurd (false≢true (sym y ∙ over₀));
            bad = λ y. some_one (λ s. large_at r s i) k 0 0 0 p p u h ∙ or_right (large_at r (node k p p) i) (over_at r p i) ((o b j p child (omega arith) (fit_child table rec i k u h child e fit)).bad z);
          }
      first-over own₂ other₂ z res over₀ b m t (binary {m = d} {n = j} {p} {q} k u h first second e) is fit =
          let w = laid_above first in
          let x = at_first j k (d - 1) (j - 1) is e in
          record {
            good = λ y. absurd (false≢true (sym y ∙ over₀));
            bad = λ y. some_two (λ s. large_at r s i) k 0 0 0 p q u h ∙ or_right (large_at r (node k p q) i) (over_at r p i || over_at r q i) (or_left (over_at r p i) (over_at r q i) ((o b d p first (omega arith) (fit_first table rec i k u h first second e fit)).bad z));
          }

      module _ (z : is_err over ≡ false) where
        -- ---- one child

        module _ (g : line.kind < binary_from) where
          abbrev Child : Type 0
          Child = Valid (slot other₁ a) × (eqb (i + 1) (length rec / 16) ≡ false → unary_from < line.kind → Valid (slot other₁ n) × Valid (slot own₁ a))

          pub line-one_valid : {b m : ℕ} {t : Text} (laid : Laid table b m t) → m ≡ n + 1 → Fit rec i laid own other → Child
          line-one_valid (leaf {b} u e) is fit = let x = leaf_kind table n line is-line b is u in absurd (omega arith)
          line-one_valid (unary {b} {m} {p} k u h child e) is fit =
              let w = laid_above child in
              let x = at_first m k (m - 1) 0 is e in
              let y : m ≡ n = omega arith in
              let done = (o b m p child (omega arith) (fit_child table rec i k u h child e fit)).good z in
              let same = laid_kind table n line is-line m k (m - 1) 0 is e in (
                subst (λ (j : ℕ). Valid (slot other₁ j)) (sym x) (child_valid table rec i k u h child e fit done),
                (λ q d.
                    let v = one_valid table rec i k u h child e fit done q (omega (arith, same, d)) in
                    (subst (λ (j : ℕ). Valid (slot other₁ j)) y v.0, subst (λ (j : ℕ). Valid (slot own₁ j)) (sym x) v.1)),
              )
          line-one_valid (binary {b} {m} {n = j} k u h first second e) is fit =
              let x = laid_kind table n line is-line j k (m - 1) (j - 1) is e in absurd (omega (arith, x, u, g))

          pub line-one : (own₂ : List ℕ) (out : Result (Unit {0}) TooManyRuns)
              → Puts (λ v. unary_of line.kind (eqb (i + 1) (length rec / 16)) (member (slot other₁ a) v) (member (slot other₁ n) v) (member (slot own₁ a) v)) own₁ own₂ n out
              → NodePromise table rec i n own other own₂ other₁ out
          line-one own₂ out puts b m t (leaf u e) is fit = let x = leaf_kind table n line is-line b is u in absurd (omega arith)
          line-one own₂ out puts b m t (unary {m = j} {p} k u h child e) is fit =
              let w = laid_above child in
              let x = at_first j k (j - 1) 0 is e in
              let y : n ≡ j = omega arith in
              let same = laid_kind table n line is-line j k (j - 1) 0 is e in
              let done = (o b j p child (omega arith) (fit_child table rec i k u h child e fit)).good z in
              one_done table rec i k u h child e fit done own₂ out
              (subst (λ (c : ℕ). Puts (λ v. unary_of k (eqb (i + 1) (length rec / 16)) (member (slot other₁ (j - 1)) v) (member (slot other₁ c) v) (member (slot own₁ (j - 1)) v)) own₁ own₂ c out) y
              (subst (λ (c : ℕ). Puts (λ v. unary_of k (eqb (i + 1) (length rec / 16)) (member (slot other₁ c) v) (member (slot other₁ n) v) (member (slot own₁ c) v)) own₁ own₂ n out) x
              (subst (λ (c : ℕ). Puts (λ v. unary_of c (eqb (i + 1) (length rec / 16)) (member (slot other₁ a) v) (member (slot other₁ n) v) (member (slot own₁ a) v)) own₁ own₂ n out) same puts)))
          line-one own₂ out puts b m t (binary {m = d} {n = j} k u h first second e) is fit =
              let x = laid_kind table n line is-line j k (d - 1) (j - 1) is e in absurd (omega (arith, x, u, g))

        -- ---- two children

        module _ (g : binary_from ≤ line.kind) (c : ℕ) (is_c : c ≡ line.second) (eo : length own₁ ≡ length own) (et : length other₁ ≡ length other) where
          at_second : (m k d s : ℕ) → m + 1 ≡ n + 1 → row_at table m ≡ row k d s 0 → c ≡ s
          at_second m k d s is e = is_c ∙ ap (λ (x : Row). x.second) (line_is table n line is-line m k d s is e)

          pub second-node : {b m : ℕ} {t : Text} (laid : Laid table b m t) → m ≡ n + 1 → Fit rec i laid own other → Evaluable table rec i c other₁ own₁
          second-node (leaf {b} u e) is fit = let x = leaf_kind table n line is-line b is u in absurd (omega arith)
          second-node (unary {b} {m} k u h child e) is fit = let x = laid_kind table n line is-line m k (m - 1) 0 is e in absurd (omega (arith, x, h, g))
          second-node (binary {b} {m} {n = j} {p} {q} k u h first second e) is fit =
              let w = laid_above first in
              let v = laid_above second in
              let x = at_first j k (m - 1) (j - 1) is e in
              let y = at_second j k (m - 1) (j - 1) is e in
              let done = (o b m p first (omega arith) (fit_first table rec i k u h first second e fit)).good z in
              record { base = m; end = j; text = q; laid = second; root = omega arith; fit = fit_second table rec i k u h first second e fit eo et done }

          pub second-falls : {b m : ℕ} {t : Text} → Laid table b m t → m ≡ n + 1 → c < n
          second-falls (leaf {b} u e) is = let x = leaf_kind table n line is-line b is u in absurd (omega arith)
          second-falls (unary {b} {m} k u h child e) is = let x = laid_kind table n line is-line m k (m - 1) 0 is e in absurd (omega (arith, x, h, g))
          second-falls (binary {b} {m} {n = j} k u h first second e) is = let w = laid_above first in let v = laid_above second in let y = at_second j k (m - 1) (j - 1) is e in omega arith

          module _ (own₂ other₂ : List ℕ) (over₂ : Result (Unit {0}) TooManyRuns) (o₂ : NodePromise table rec i c other₁ own₁ other₂ own₂ over₂) where
            pub second-over : (own₃ other₃ : List ℕ) → is_err over₂ ≡ true → (res : Result (Unit {0}) TooManyRuns) → is_err res ≡ true → NodePromise table rec i n own other own₃ other₃ res
            second-over own₃ other₃ y res over₀ b m t (leaf u e) is fit = let x = leaf_kind table n line is-line b is u in absurd (omega arith)
            second-over own₃ other₃ y res over₀ b m t (unary {m = j} k u h child e) is fit = let x = laid_kind table n line is-line j k (j - 1) 0 is e in absurd (omega (arith, x, h, g))
            second-over own₃ other₃ y res over₀ b m t (binary {m = d} {n = j} {p} {q} k u h first second e) is fit =
                let w = laid_above first in
                let v = laid_above second in
                let x = at_first j k (d - 1) (j - 1) is e in
                let s = at_second j k (d - 1) (j - 1) is e in
                let done = (o b d p first (omega arith) (fit_first table rec i k u h first second e fit)).good z in
                record {
                  good = λ f. absurd (false≢true (sym f ∙ over₀));
                  bad = λ f. some_two (λ s. large_at r s i) k 0 0 0 p q u h
                      ∙ or_right (large_at r (node k p q) i) (over_at r p i || over_at r q i) (or_right (over_at r p i) (over_at r q i) ((o₂ d j q second (omega arith) (fit_second table rec i k u h first second e fit eo et done)).bad y));
                }

            module _ (z₂ : is_err over₂ ≡ false) where
              abbrev Children : Type 0
              Children = Valid (slot other₂ a) × Valid (slot other₂ c) × (eqb (i + 1) (length rec / 16) ≡ false → AND < line.kind → Valid (slot other₂ n))

              pub line-two_valid : {b m : ℕ} {t : Text} (laid : Laid table b m t) → m ≡ n + 1 → Fit rec i laid own other → Children
              line-two_valid (leaf {b} u e) is fit = let x = leaf_kind table n line is-line b is u in absurd (omega arith)
              line-two_valid (unary {b} {m} k u h child e) is fit = let x = laid_kind table n line is-line m k (m - 1) 0 is e in absurd (omega (arith, x, h, g))
              line-two_valid (binary {b} {m} {n = j} {p} {q} k u h first second e) is fit =
                  let w = laid_above first in
                  let v = laid_above second in
                  let x = at_first j k (m - 1) (j - 1) is e in
                  let s = at_second j k (m - 1) (j - 1) is e in
                  let y : j ≡ n = omega arith in
                  let same = laid_kind table n line is-line j k (m - 1) (j - 1) is e in
                  let done₁ = (o b m p first (omega arith) (fit_first table rec i k u h first second e fit)).good z in
                  let done₂ = (o₂ m j q second (omega arith) (fit_second table rec i k u h first second e fit eo et done₁)).good z₂ in (
                    subst (λ (f : ℕ). Valid (slot other₂ f)) (sym x) (first_valid table rec i k u h first second e fit done₁ done₂),
                    subst (λ (f : ℕ). Valid (slot other₂ f)) (sym s) (second_valid table rec i k u h first second e fit done₁ done₂),
                    (λ f d. subst (λ (f : ℕ). Valid (slot other₂ f)) y (two_valid table rec i k u h first second e fit done₁ done₂ f (omega (arith, same, d)))),
                  )

              pub line-two : (own₃ : List ℕ) (out : Result (Unit {0}) TooManyRuns)
                  → Puts (λ v. binary_of line.kind (eqb (i + 1) (length rec / 16)) (member (slot other₂ a) v) (member (slot other₂ c) v) (member (slot other₂ n) v)) own₂ own₃ n out
                  → NodePromise table rec i n own other own₃ other₂ out
              line-two own₃ out puts b m t (leaf u e) is fit = let x = leaf_kind table n line is-line b is u in absurd (omega arith)
              line-two own₃ out puts b m t (unary {m = j} k u h child e) is fit = let x = laid_kind table n line is-line j k (j - 1) 0 is e in absurd (omega (arith, x, h, g))
              line-two own₃ out puts b m t (binary {m = d} {n = j} {p} {q} k u h first second e) is fit =
                  let w = laid_above first in
                  let v = laid_above second in
                  let x = at_first j k (d - 1) (j - 1) is e in
                  let s = at_second j k (d - 1) (j - 1) is e in
                  let y : n ≡ j = omega arith in
                  let same = laid_kind table n line is-line j k (d - 1) (j - 1) is e in
                  let done₁ = (o b d p first (omega arith) (fit_first table rec i k u h first second e fit)).good z in
                  let done₂ = (o₂ d j q second (omega arith) (fit_second table rec i k u h first second e fit eo et done₁)).good z₂ in
                  two_done table rec i k u h first second e fit done₁ done₂ own₃ out
                  (subst (λ (f : ℕ). Puts (λ v. binary_of k (eqb (i + 1) (length rec / 16)) (member (slot other₂ (d - 1)) v) (member (slot other₂ (j - 1)) v) (member (slot other₂ f) v)) own₂ own₃ f out) y
                  (subst (λ (f : ℕ). Puts (λ v. binary_of k (eqb (i + 1) (length rec / 16)) (member (slot other₂ (d - 1)) v) (member (slot other₂ f) v) (member (slot other₂ n) v)) own₂ own₃ n out) s
                  (subst (λ (f : ℕ). Puts (λ v. binary_of k (eqb (i + 1) (length rec / 16)) (member (slot other₂ f) v) (member (slot other₂ c) v) (member (slot other₂ n) v)) own₂ own₃ n out) x
                  (subst (λ (f : ℕ). Puts (λ v. binary_of f (eqb (i + 1) (length rec / 16)) (member (slot other₂ a) v) (member (slot other₂ c) v) (member (slot other₂ n) v)) own₂ own₃ n out) same puts))))
