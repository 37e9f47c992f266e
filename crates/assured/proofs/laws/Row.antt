-- The traits of a node, from its row and those of its children.
use Rattle.std.specs.Prelude.{ℕ, ◌+◌, ◌-◌, ◌≤◌, ◌<◌, ◌≡◌, refl, Bool, true, false, cond, ◌||◌, List, eqb, leb, ltb}
use Rattle.std.proofs.Common.{arith, sym, ap, ap₂, subst, ◌∙◌, true≢false, eq-eqb, ne_eqb, lt-ltb, le-ltb, leb-true}
use Rattle.std.proofs.Math.Decide.{dec_lt}
use Rattle.std.proofs.Math.Bool.{and-true}
use Rattle.number.proofs.laws.Boolean.{or_none, and_left, and_right}
use Rattle.grammar.specs.Classes.{within}
use Rattle.grammar.specs.Syntax.{Relation, eq, Text}
use Rattle.grammar.specs.declared.Row.{Row}
use Rattle.grammar.specs.inner.Kinds.{HIGH, LOWAFTER, CAPAFTER, NOT, OR, BRACKET}
use Rattle.grammar.specs.inner.Table.{field_of, relation_of, row, build, row_at, tree_at, Falling}
use Rattle.text.proofs.laws.Table.{Each, each, unary_kinds, binary_kinds, tree_step}
use Rattle.leaves.specs.inner.Leaf.{leaf_of}
use Rattle.leaves.proofs.laws.Code.{field_else, relation_else}
use Rattle.evaluation.proofs.laws.Tree.{build_leaf, falls-first, falls-second, kind-known}
use Rattle.marks.specs.Marks.{is_mark_index}
use Rattle.assured.specs.Assured.{of_curve, of_side, of_time, is_eq, is_gt}
use Rattle.assured.specs.declared.traits.Traits.{Traits}
use Rattle.assured.specs.inner.Traits.{kind_of, atom_traits, listed_traits, unary_traits, binary_traits, traits}

-- ---- codes of fields and relations

pub curve-code : (n : ℕ) → ltb n 2 ≡ of_curve (field_of n)
curve-code n = by (dec_lt n 2)
  where
    by : Dec (n < 2) → ltb n 2 ≡ of_curve (field_of n)
    by (yes l) = each 2 (λ n. ltb n 2 ≡ of_curve (field_of n)) (refl, (refl, tt)) n l
    by (no k) = le-ltb n 2 (omega arith) ∙ sym (ap of_curve (field_else n (λ e. absurd (omega arith)) (λ e. absurd (omega arith))))

-- a test of the code is one of the relation, if it is of the first four codes, and past them one of `=`
by_code : (f : ℕ → Bool) (g : Relation → Bool) → Each 4 (λ n. f n ≡ g (relation_of n)) → ((n : ℕ) → 4 ≤ n → f n ≡ g eq) → (n : ℕ) → f n ≡ g (relation_of n)
by_code f g e h n = by (dec_lt n 4)
  where
    by : Dec (n < 4) → f n ≡ g (relation_of n)
    by (yes l) = each 4 (λ n. f n ≡ g (relation_of n)) e n l
    by (no k) = h n (omega arith) ∙ sym (ap g (relation_else n (omega arith)))

neither : (a b n : ℕ) → a < n → b < n → (eqb n a || eqb n b) ≡ false
neither a b n h k = or_none (ne_eqb n a (λ e. omega arith)) (ne_eqb n b (λ e. omega arith))

pub side-code : (n : ℕ) → (eqb n 1 || eqb n 2) ≡ of_side (relation_of n)
side-code = by_code (λ n. eqb n 1 || eqb n 2) of_side (refl, (refl, (refl, (refl, tt)))) (λ n l. neither 1 2 n (omega arith) (omega arith))

pub later-code : (n : ℕ) → (eqb n 0 || eqb n 2) ≡ of_time (relation_of n) true
later-code = by_code (λ n. eqb n 0 || eqb n 2) (λ ρ. of_time ρ true) (refl, (refl, (refl, (refl, tt)))) (λ n l. neither 0 2 n (omega arith) (omega arith))

pub earlier_code : (n : ℕ) → (eqb n 1 || eqb n 3) ≡ of_time (relation_of n) false
earlier_code = by_code (λ n. eqb n 1 || eqb n 3) (λ ρ. of_time ρ false) (refl, (refl, (refl, (refl, tt)))) (λ n l. neither 1 3 n (omega arith) (omega arith))

pub eq_code : (n : ℕ) → ltb 3 n ≡ is_eq (relation_of n)
eq_code = by_code (ltb 3) is_eq (refl, (refl, (refl, (refl, tt)))) (λ n l. lt-ltb 3 n (omega arith))

pub gt_code : (n : ℕ) → eqb n 2 ≡ is_gt (relation_of n)
gt_code = by_code (λ n. eqb n 2) is_gt (refl, (refl, (refl, (refl, tt)))) (λ n l. ne_eqb n 2 (λ e. omega arith))

-- ---- leaves

module _ (marks : List ℕ) (a b n : ℕ) where
  atom_kind : (k : ℕ) → k < HIGH → atom_traits (kind_of marks (row k a b n)) ≡ traits marks (leaf_of (row k a b n))
  atom_kind = each HIGH (λ k. atom_traits (kind_of marks (row k a b n)) ≡ traits marks (leaf_of (row k a b n))) (refl, (refl, (refl, (refl, (refl, (refl, tt))))))

  -- `lowafter` and `capafter`
  timed_kind : (k : ℕ) → LOWAFTER ≤ k → k ≤ CAPAFTER → listed_traits (is_mark_index marks n) ≡ traits marks (leaf_of (row k a b n))
  timed_kind k l h = subst P (let z : LOWAFTER + (k - LOWAFTER) ≡ k = omega arith in z) (each 2 (λ i. P (LOWAFTER + i)) (here, (here, tt)) (k - LOWAFTER) (omega arith))
    where
      P : ℕ → Type 0
      P k = listed_traits (is_mark_index marks n) ≡ traits marks (leaf_of (row k a b n))

      here : listed_traits (is_mark_index marks n) ≡ traits marks (leaf_of (row LOWAFTER a b n))
      here = ap listed_traits (sym (and-true (is_mark_index marks n)))

  listed-kind : (k : ℕ) → HIGH ≤ k → k < NOT → within LOWAFTER CAPAFTER k ≡ false → listed_traits true ≡ traits marks (leaf_of (row k a b n))
  listed-kind k l h = subst P (let z : HIGH + (k - HIGH) ≡ k = omega arith in z) (each 13 (λ i. P (HIGH + i)) (
    λ e. refl,
    (λ e. refl, (λ e. absurd (true≢false e), (λ e. absurd (true≢false e), (λ e. refl, (λ e. refl, (λ e. refl, (λ e. refl, (λ e. refl, (λ e. refl, (λ e. refl, (λ e. refl, (λ e. refl, tt)))))))))))),
  ) (k - HIGH) (omega arith))
    where
      P : ℕ → Type 0
      P k = within LOWAFTER CAPAFTER k ≡ false → listed_traits true ≡ traits marks (leaf_of (row k a b n))

module _ (marks : List ℕ) (r : Row) where
  pub atom_row : r.kind < HIGH → atom_traits (kind_of marks r) ≡ traits marks (leaf_of r)
  atom_row = atom_kind marks r.first r.second r.number r.kind

  pub timed_row : within LOWAFTER CAPAFTER r.kind ≡ true → listed_traits (is_mark_index marks r.number) ≡ traits marks (leaf_of r)
  timed_row h = timed_kind marks r.first r.second r.number r.kind
      (leb-true LOWAFTER r.kind (and_left (leb LOWAFTER r.kind) (leb r.kind CAPAFTER) h))
      (leb-true r.kind CAPAFTER (and_right (leb LOWAFTER r.kind) (leb r.kind CAPAFTER) h))

  pub listed-row : HIGH ≤ r.kind → r.kind < NOT → within LOWAFTER CAPAFTER r.kind ≡ false → listed_traits true ≡ traits marks (leaf_of r)
  listed-row = listed-kind marks r.first r.second r.number r.kind

-- ---- operators

module _ (marks : List ℕ) (r : Row) (p q : Text) where
  unary_row : NOT ≤ r.kind → r.kind < OR → traits marks (build r p q) ≡ unary_traits r.kind (traits marks p)
  unary_row = unary_kinds (λ k. traits marks (build (row k r.first r.second r.number) p q) ≡ unary_traits k (traits marks p)) refl refl refl refl r.kind

  binary_row : OR ≤ r.kind → r.kind < BRACKET → traits marks (build r p q) ≡ binary_traits r.kind (traits marks p) (traits marks q)
  binary_row = binary_kinds (λ k. traits marks (build (row k r.first r.second r.number) p q) ≡ binary_traits k (traits marks p) (traits marks q)) refl refl refl refl r.kind

-- ---- a node of the table

module _ (table : List ℕ) (count : ℕ) (marks : List ℕ) (falling : Falling table count) (n : ℕ) (inn : n < count) (line : Row) (is-line : line ≡ row_at table n) where
  self : tree_at table n ≡ build line (tree_at table line.first) (tree_at table line.second)
  self = subst (λ (r : Row). tree_at table n ≡ build r (tree_at table r.first) (tree_at table r.second)) (sym is-line) (tree_step table count falling n inn)

  pub node_leaf : line.kind < NOT → (x : Traits) → x ≡ traits marks (leaf_of line) → x ≡ traits marks (tree_at table n)
  node_leaf h x e = e ∙ sym (ap (traits marks) (self ∙ build_leaf line (tree_at table line.first) (tree_at table line.second) h))

  module _ (l : NOT ≤ line.kind) (a : ℕ) (is-a : a ≡ line.first) where
    pub first-falls : a < n
    first-falls = subst (λ (m : ℕ). m < n) (sym (is-a ∙ ap (λ (r : Row). r.first) is-line)) (falls-first table count falling n inn (subst (λ (r : Row). NOT ≤ r.kind) is-line l))

    module _ (x : Traits) (ex : x ≡ traits marks (tree_at table a)) where
      child : x ≡ traits marks (tree_at table line.first)
      child = ex ∙ ap (λ (m : ℕ). traits marks (tree_at table m)) is-a

      pub node_unary : line.kind < OR → (y : Traits) → y ≡ unary_traits line.kind x → y ≡ traits marks (tree_at table n)
      node_unary h y e =
          e ∙ ap (unary_traits line.kind) child
          ∙ sym (ap (traits marks) self ∙ unary_row marks line (tree_at table line.first) (tree_at table line.second) l h)

      module _ (h : OR ≤ line.kind) (b : ℕ) (is_b : b ≡ line.second) where
        pub second-falls : b < n
        second-falls = subst (λ (m : ℕ). m < n) (sym (is_b ∙ ap (λ (r : Row). r.second) is-line)) (falls-second table count falling n inn (subst (λ (r : Row). OR ≤ r.kind) is-line h))

        pub node_binary : (y : Traits) → y ≡ traits marks (tree_at table b) → (z : Traits) → z ≡ binary_traits line.kind x y → z ≡ traits marks (tree_at table n)
        node_binary y ey z e =
            e ∙ ap₂ (binary_traits line.kind) child (ey ∙ ap (λ (m : ℕ). traits marks (tree_at table m)) is_b)
            ∙ sym (ap (traits marks) self ∙ binary_row marks line (tree_at table line.first) (tree_at table line.second) h
            (subst (λ (r : Row). r.kind < BRACKET) (sym is-line) (kind-known table count falling n inn)))

-- ---- by the kind of an operator

pub chosen : {A : Type 0} (k m : ℕ) (x y : A) → k ≡ m → x ≡ cond (eqb k m) x y
chosen k m x y e = ap (λ (b : Bool). cond b x y) (sym (eq-eqb k m e))

pub passed : {A : Type 0} (k m : ℕ) (x y : A) → (k ≡ m → ⊥) → y ≡ cond (eqb k m) x y
passed k m x y n = ap (λ (b : Bool). cond b x y) (sym (ne_eqb k m n))
