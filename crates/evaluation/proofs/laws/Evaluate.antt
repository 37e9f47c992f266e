-- One node is evaluated: from the sets of its children, and the sets of the next record.
use Rattle.std.specs.Prelude.{ℕ, suc, ◌+◌, ◌-◌, ◌/◌, ◌<◌, ◌≤◌, ◌≡◌, Bool, ◌||◌, List, length, eqb, ltb}
use Rattle.std.specs.Prelude.{Result}
use Rattle.std.specs.Result.{is_err}
use Rattle.runs.specs.declared.TooManyRuns.{TooManyRuns}
use Rattle.std.proofs.Common.{arith, ◌∙◌, eqb-true}
use Rattle.std.proofs.Math.Decide.{ℕ_discrete, dec_lt}
use Rattle.std.proofs.Math.Path.{refl, sym, ap, subst}
use Rattle.std.proofs.Math.Bool.{true, false, not}
use Rattle.std.proofs.lemmas.Bool.{eqb-false}
use Rattle.number.specs.Axis.{axis}
use Rattle.number.proofs.laws.Boolean.{or_left, or_right, or_none, none_left, none_right}
use Rattle.runs.specs.Runs.{most_runs, run_count}
use Rattle.runs.specs.Set.{member, Valid, Holds}
use Rattle.runs.proofs.laws.Runs.{run_count_ext}
use Rattle.runs.proofs.laws.Set.{holds_ext}
use Rattle.grammar.specs.Syntax.{Text}
use Rattle.grammar.specs.Size.{temporal}
use Rattle.grammar.specs.inner.Kinds.{AND, UNTIL}
use Rattle.grammar.specs.inner.Table.{row, row_at, unary_from, binary_from, kinds}
use Rattle.grammar.specs.inner.Parse.{node}
use Rattle.parser.specs.inner.Rows.{Laid, unary, binary}
use Rattle.parser.proofs.laws.Rows.{laid_above}
use Rattle.meaning.specs.inner.Coded.{Coded, coded}
use Rattle.meaning.specs.inner.Truth.{val, large_at, over_at, last_coded, refused9, of_listed, asks_too_many}
use Rattle.leaves.proofs.laws.Coding.{length-coded}
use Rattle.evaluation.specs.inner.Slots.{slot, Puts}
use Rattle.evaluation.specs.inner.Step.{unary_of, binary_of}
use Rattle.evaluation.specs.inner.Evaluate.{SlotHolds, Stand, Fit, Evaluated, NodeOutcome}
use Rattle.evaluation.proofs.laws.Step.{four, unary_last, unary_inner, binary_last, binary_inner}
use Rattle.evaluation.proofs.laws.Node.{some_one, some_two}
use Rattle.evaluation.proofs.laws.Stand.{stand_root, stand_same}

-- ---- a text that looks ahead

temporal_child : (k : ℕ) (p : Text) → unary_from ≤ k → k < binary_from → temporal p ≡ true → temporal (node k p p) ≡ true
temporal_child k p l h e = four (λ (k : ℕ). temporal (node k p p) ≡ true) unary_from k l h e refl refl refl

temporal-first : (k : ℕ) (p q : Text) → binary_from ≤ k → k < kinds → temporal p ≡ true → temporal (node k p q) ≡ true
temporal-first k p q l h e =
    four (λ (k : ℕ). temporal (node k p q) ≡ true) binary_from k l h (or_left (temporal p) (temporal q) e) (or_left (temporal p) (temporal q) e) refl refl

temporal-second : (k : ℕ) (p q : Text) → binary_from ≤ k → k < kinds → temporal q ≡ true → temporal (node k p q) ≡ true
temporal-second k p q l h e =
    four (λ (k : ℕ). temporal (node k p q) ≡ true) binary_from k l h (or_right (temporal p) (temporal q) e) (or_right (temporal p) (temporal q) e) refl refl

-- X, F and G look ahead, and so do U and W
temporal-one : (k : ℕ) (p : Text) → unary_from < k → k < binary_from → temporal (node k p p) ≡ true
temporal-one k p l h =
    four (λ (k : ℕ). unary_from < k → temporal (node k p p) ≡ true) unary_from k (omega arith) h (λ z. absurd (omega arith)) (λ z. refl) (λ z. refl) (λ z. refl) l

temporal-two : (k : ℕ) (p q : Text) → AND < k → k < kinds → temporal (node k p q) ≡ true
temporal-two k p q l h =
    four (λ (k : ℕ). AND < k → temporal (node k p q) ≡ true) binary_from k (omega arith) h (λ z. absurd (omega arith)) (λ z. absurd (omega arith)) (λ z. refl) (λ z. refl) l

-- ---- the children of a text fit where it fits

module _ (table : List ℕ) (rec : List ℕ) (i : ℕ) where
  abbrev r : List Coded
  r = coded rec

  module _ {b m : ℕ} {p : Text} (k : ℕ) (l : unary_from ≤ k) (h : k < binary_from) (child : Laid table b m p) (e : row_at table m ≡ row k (m - 1) 0 0) {own other : List ℕ} where
    pub fit_child : Fit rec i (unary k l h child e) own other → Fit rec i child other own
    unfolding refused9 Stand
    fit_child fit =
        record {
          rows = omega (arith, fit.rows);
          few = omega (arith, fit.few);
          own_sized = fit.other_sized;
          other_sized = fit.own_sized;
          accepted = fit.accepted;
          index = fit.index;
          few_tops = none_right (of_listed (asks_too_many r) (node k p p)) (refused9 r p) (sym (some_one (of_listed (asks_too_many r)) k 0 0 0 p p l h) ∙ fit.few_tops);
          ready = λ j t. (fit.ready j (temporal_child k p l h t)).1;
        }

  none-of : (k : ℕ) (p q : Text) → binary_from ≤ k → k < kinds → refused9 r (node k p q) ≡ false → (refused9 r p || refused9 r q) ≡ false
  unfolding refused9
  none-of k p q l h t = none_right (of_listed (asks_too_many r) (node k p q)) (refused9 r p || refused9 r q) (sym (some_two (of_listed (asks_too_many r)) k 0 0 0 p q l h) ∙ t)

  module _ {b m n : ℕ} {p q : Text} (k : ℕ) (l : binary_from ≤ k) (h : k < kinds) (first : Laid table b m p) (second : Laid table m n q) (e : row_at table n ≡ row k (m - 1) (n - 1) 0) {own other : List ℕ} where
    pub fit_first : Fit rec i (binary k l h first second e) own other → Fit rec i first other own
    unfolding Stand
    fit_first fit =
        let u = laid_above second in
        record {
          rows = omega (arith, fit.rows);
          few = omega (arith, fit.few);
          own_sized = fit.other_sized;
          other_sized = fit.own_sized;
          accepted = fit.accepted;
          index = fit.index;
          few_tops = none_left (refused9 r p) (refused9 r q) (none-of k p q l h fit.few_tops);
          ready = λ j t. (fit.ready j (temporal-first k p q l h t)).1;
        }

    -- after the first child: what it left of the second child's sets of the next record is as it was
    pub fit_second : Fit rec i (binary k l h first second e) own other → {own₁ other₁ : List ℕ} → length own₁ ≡ length own → length other₁ ≡ length other
        → Evaluated r i first other own other₁ own₁ → Fit rec i second other₁ own₁
    unfolding Stand
    fit_second fit {own₁} {other₁} eo et done =
        let u = laid_above second in
        record {
          rows = omega (arith, fit.rows);
          few = omega (arith, fit.few);
          own_sized = et ∙ fit.other_sized;
          other_sized = eo ∙ fit.own_sized;
          accepted = fit.accepted;
          index = fit.index;
          few_tops = none_right (refused9 r p) (refused9 r q) (none-of k p q l h fit.few_tops);
          ready = λ j t.
              stand_same r (suc i) second own other own₁ other₁
              (λ d low high. done.other-kept d (λ w. omega arith))
              (λ d low high. done.own_kept d (λ w. omega arith))
              (fit.ready j (temporal-second k p q l h t)).2;
        }

  -- ---- the step is the meaning

  -- this is the last record
  abbrev pub is_last : Bool
  is_last = eqb (i + 1) (length rec / 16)

  last_is : is_last ≡ true → i ≡ last_coded r
  last_is e = let h = eqb-true (i + 1) (length rec / 16) e in omega (arith, length-coded rec)

  inner_is : i < length r → is_last ≡ false → i < last_coded r
  inner_is j e = let h = eqb-false (i + 1) (length rec / 16) e in omega (arith, length-coded rec)

  -- a node with one child: x is the child's value, own the node's and old the child's at the next record
  step_one : (k : ℕ) (p : Text) (v : ℕ) (x own old : Bool) → unary_from ≤ k → k < binary_from → i < length r → x ≡ val r v p i
      → (is_last ≡ false → unary_from < k → (own ≡ val r v (node k p p) (suc i)) × (old ≡ val r v p (suc i)))
      → unary_of k is_last x own old ≡ val r v (node k p p) i
  unfolding val
  step_one k p v x own old l h j e next = by (ℕ_discrete k unary_from) is_last refl
    where
      by : Dec (k ≡ unary_from) → (b : Bool) → is_last ≡ b → unary_of k b x own old ≡ val r v (node k p p) i
      by (yes z) b eb = ap (λ (k : ℕ). unary_of k b x own old) z ∙ ap not e ∙ ap (λ (k : ℕ). val r v (node k p p) i) (sym z)
      by (no ne) true eb = ap (λ (y : Bool). unary_of k true y own old) e ∙ sym (unary_last r v i 0 0 0 p p k l h own old (last_is eb))
      by (no ne) false eb =
          let o = next eb (omega arith) in
          rw (e, o.0, o.1) (sym (unary_inner r v i 0 0 0 p p k l h (inner_is j eb)))

  -- a node with two children
  step_two : (k : ℕ) (p q : Text) (v : ℕ) (x y own : Bool) → binary_from ≤ k → k < kinds → i < length r → x ≡ val r v p i → y ≡ val r v q i
      → (is_last ≡ false → AND < k → own ≡ val r v (node k p q) (suc i))
      → binary_of k is_last x y own ≡ val r v (node k p q) i
  unfolding val
  step_two k p q v x y own l h j e f next = by (dec_lt k UNTIL) is_last refl
    where
      by : Dec (k < UNTIL) → (b : Bool) → is_last ≡ b → binary_of k b x y own ≡ val r v (node k p q) i
      by (yes z) b eb =
          four (λ (k : ℕ). k < UNTIL → binary_of k b x y own ≡ val r v (node k p q) i) binary_from k l h
          (λ w. rw (e, f)) (λ w. rw (e, f)) (λ w. absurd (omega arith)) (λ w. absurd (omega arith)) z
      by (no ne) true eb = rw (e, f) (sym (binary_last r v i 0 0 0 p q k l h own (last_is eb)))
      by (no ne) false eb =
          let o = next eb (omega arith) in
          rw (e, f, o) (sym (binary_inner r v i 0 0 0 p q k l h (inner_is j eb)))

  -- ---- the outcome

  over_is : (t : Text) (f : ℕ → Bool) → ((v : ℕ) → v < axis → f v ≡ val r v t i) → (over : Result (Unit {0}) TooManyRuns) → is_err over ≡ ltb most_runs (run_count f) → is_err over ≡ large_at r t i
  over_is t f e over h = h ∙ ap (ltb most_runs) (run_count_ext f (λ v. val r v t i) e)

  right_is : (t : Text) (f : ℕ → Bool) (n : ℕ) (sets : List ℕ) → ((v : ℕ) → v < axis → f v ≡ val r v t i) → Holds f (slot sets n) → SlotHolds r i t n sets
  right_is t f n sets e h = holds_ext f (λ v. val r v t i) (slot sets n) e h

  module _ {b m : ℕ} {p : Text} (k : ℕ) (l : unary_from ≤ k) (h : k < binary_from) (child : Laid table b m p) (e : row_at table m ≡ row k (m - 1) 0 0)
      {own other own₁ other₁ : List ℕ} (fit : Fit rec i (unary k l h child e) own other) (done : Evaluated r i child other own other₁ own₁) where
    -- the node's set and its child's at the next record are where they were
    child_next : is_last ≡ false → unary_from < k → SlotHolds r (suc i) (node k p p) m other₁ × SlotHolds r (suc i) p (m - 1) own₁
    unfolding Stand
    child_next z g =
        let o = laid_above child in
        let s = fit.ready (inner_is fit.index z) (temporal-one k p g h) in (
          subst (Holds (λ v. val r v (node k p p) (suc i))) (sym (done.own_kept m (λ w. omega arith))) s.0,
          subst (Holds (λ v. val r v p (suc i))) (sym (done.other-kept (m - 1) (λ w. omega arith))) (stand_root r (suc i) child own other s.1),
        )

    pub one_valid : is_last ≡ false → unary_from < k → Valid (slot other₁ m) × Valid (slot own₁ (m - 1))
    one_valid z g = let s = child_next z g in (s.0.valid, s.1.valid)

    pub child_valid : Valid (slot other₁ (m - 1))
    child_valid = (stand_root r i child other₁ own₁ done.stand).valid

    module _ (own₂ : List ℕ) (over : Result (Unit {0}) TooManyRuns)
        (puts : Puts (λ v. unary_of k is_last (member (slot other₁ (m - 1)) v) (member (slot other₁ m) v) (member (slot own₁ (m - 1)) v)) own₁ own₂ m over) where
      one_step : (v : ℕ) → v < axis → unary_of k is_last (member (slot other₁ (m - 1)) v) (member (slot other₁ m) v) (member (slot own₁ (m - 1)) v) ≡ val r v (node k p p) i
      one_step v a =
          step_one k p v _ _ _ l h fit.index ((stand_root r i child other₁ own₁ done.stand).members v a)
          (λ z g. let s = child_next z g in (s.0.members v a, s.1.members v a))

      one_flag : is_err over ≡ large_at r (node k p p) i
      one_flag = over_is (node k p p) _ one_step over puts.flag

      one_some : over_at r (node k p p) i ≡ (large_at r (node k p p) i || over_at r p i)
      one_some = some_one (λ t. large_at r t i) k 0 0 0 p p l h

      pub one_done : NodeOutcome r i (unary k l h child e) own other own₂ other₁ over
      unfolding Stand
      one_done =
          let o = laid_above child in
          record {
            good = λ z. record {
              stand = (right_is (node k p p) _ m own₂ one_step (puts.here z), stand_same r i child other₁ own₁ other₁ own₂ (λ d low high. refl) (λ d low high. puts.elsewhere z d (λ w. omega arith)) done.stand);
              small = one_some ∙ or_none (sym one_flag ∙ z) done.small;
              own_kept = λ d w. puts.elsewhere z d (λ u. absurd (let g = w (omega arith) in omega arith)) ∙ done.other-kept d (λ u. let g = w u in omega arith);
              other-kept = λ d w. done.own_kept d (λ u. let g = w u in omega arith);
            };
            bad = λ z. one_some ∙ or_left (large_at r (node k p p) i) (over_at r p i) (sym one_flag ∙ z);
          }

  module _ {b m n : ℕ} {p q : Text} (k : ℕ) (l : binary_from ≤ k) (h : k < kinds) (first : Laid table b m p) (second : Laid table m n q) (e : row_at table n ≡ row k (m - 1) (n - 1) 0)
      {own other own₁ other₁ own₂ other₂ : List ℕ} (fit : Fit rec i (binary k l h first second e) own other)
      (done₁ : Evaluated r i first other own other₁ own₁) (done₂ : Evaluated r i second other₁ own₁ other₂ own₂) where
    -- the node's set at the next record is where it was
    own_next : is_last ≡ false → AND < k → SlotHolds r (suc i) (node k p q) n other₂
    unfolding Stand
    own_next z g =
        let o = laid_above first in
        let u = laid_above second in
        subst (Holds (λ v. val r v (node k p q) (suc i))) (sym (done₂.own_kept n (λ w. omega arith) ∙ done₁.own_kept n (λ w. omega arith)))
        (fit.ready (inner_is fit.index z) (temporal-two k p q g h)).0

    -- and the first child's sets at this record
    first_still : Stand r i first other₂ own₂
    first_still =
        let u = laid_above second in
        stand_same r i first other₁ own₁ other₂ own₂ (λ d low high. done₂.own_kept d (λ w. omega arith)) (λ d low high. done₂.other-kept d (λ w. omega arith)) done₁.stand

    pub two_valid : is_last ≡ false → AND < k → Valid (slot other₂ n)
    two_valid z g = (own_next z g).valid

    pub first_valid : Valid (slot other₂ (m - 1))
    first_valid = (stand_root r i first other₂ own₂ first_still).valid

    pub second_valid : Valid (slot other₂ (n - 1))
    second_valid = (stand_root r i second other₂ own₂ done₂.stand).valid

    module _ (own₃ : List ℕ) (over : Result (Unit {0}) TooManyRuns)
        (puts : Puts (λ v. binary_of k is_last (member (slot other₂ (m - 1)) v) (member (slot other₂ (n - 1)) v) (member (slot other₂ n) v)) own₂ own₃ n over) where
      two_step : (v : ℕ) → v < axis → binary_of k is_last (member (slot other₂ (m - 1)) v) (member (slot other₂ (n - 1)) v) (member (slot other₂ n) v) ≡ val r v (node k p q) i
      two_step v a =
          step_two k p q v _ _ _ l h fit.index ((stand_root r i first other₂ own₂ first_still).members v a) ((stand_root r i second other₂ own₂ done₂.stand).members v a)
          (λ z g. (own_next z g).members v a)

      two_flag : is_err over ≡ large_at r (node k p q) i
      two_flag = over_is (node k p q) _ two_step over puts.flag

      two_some : over_at r (node k p q) i ≡ (large_at r (node k p q) i || (over_at r p i || over_at r q i))
      two_some = some_two (λ t. large_at r t i) k 0 0 0 p q l h

      pub two_done : NodeOutcome r i (binary k l h first second e) own other own₃ other₂ over
      unfolding Stand
      two_done =
          let o = laid_above first in
          let u = laid_above second in
          record {
            good = λ z. record {
              stand = (
                right_is (node k p q) _ n own₃ two_step (puts.here z),
                stand_same r i first other₂ own₂ other₂ own₃ (λ d low high. refl) (λ d low high. puts.elsewhere z d (λ w. omega arith)) first_still,
                stand_same r i second other₂ own₂ other₂ own₃ (λ d low high. refl) (λ d low high. puts.elsewhere z d (λ w. omega arith)) done₂.stand,
              );
              small = two_some ∙ or_none (sym two_flag ∙ z) (or_none done₁.small done₂.small);
              own_kept = λ d w.
                  puts.elsewhere z d (λ y. absurd (let g = w (omega arith) in omega arith))
                  ∙ done₂.other-kept d (λ y. let g = w (omega arith) in omega arith) ∙ done₁.other-kept d (λ y. let g = w y in omega arith);
              other-kept = λ d w. done₂.own_kept d (λ y. let g = w (omega arith) in omega arith) ∙ done₁.own_kept d (λ y. let g = w y in omega arith);
            };
            bad = λ z. two_some ∙ or_left (large_at r (node k p q) i) (over_at r p i || over_at r q i) (sym two_flag ∙ z);
          }
