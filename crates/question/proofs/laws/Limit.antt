-- Refusal 9 of a node, from its row and its children.
use Rattle.std.specs.Prelude.{ℕ, zero, suc, ◌<◌, ◌≤◌, ◌≡◌, refl, Bool, true, false, not, ◌&&◌, ◌||◌, List, [], ◌∷◌, length, get_or}
use Rattle.std.proofs.Common.{arith, ◌∙◌, not-suc-le-zero, le_of_suc-le-suc, true≢false}
use Rattle.std.proofs.Math.Decide.{dec_lt, ℕ_discrete}
use Rattle.std.proofs.Math.Path.{sym, ap, subst}
use Rattle.std.proofs.lemmas.Bool.{not-true}
use Rattle.std.proofs.lemmas.List.{length-map}
use Rattle.recording.specs.Recording.{Accepted, readings}
use Rattle.recording.specs.Reading.{Curve, A, B, curve_of, a_top}
use Rattle.tops.specs.Tops as tops
use Rattle.grammar.specs.Syntax.{Text, Listed, listed, lag}
use Rattle.grammar.specs.declared.Row.{Row}
use Rattle.grammar.specs.inner.Kinds.{GAPS, STEPS, LAG, NOT, OR, BRACKET}
use Rattle.grammar.specs.inner.Table.{row, leaf_texts, build, row_at, tree_at, Falling}
use Rattle.meaning.specs.inner.Coded.{Coded, coded, coded_times}
use Rattle.meaning.specs.inner.Truth.{many_tops, asks_too_many, of_listed, refused9, some_node}
use Rattle.leaves.specs.inner.Leaf.{leaf_of}
use Rattle.leaves.proofs.laws.Indices.{event_indices}
use Rattle.number.proofs.laws.Boolean.{and_left, and_right, or_left}
use Rattle.evaluation.proofs.laws.Step.{four}
use Rattle.text.proofs.laws.Table.{tree_step}
use Rattle.evaluation.proofs.laws.Tree.{build_leaf, falls-first, falls-second, kind-known}
use Rattle.evaluation.proofs.laws.Node.{here_leaf, here_one, here_two}

-- the number of tops
pub tops-count : (rec : List ℕ) → Accepted rec → (c : Curve) → length (coded_times (a_top c) (coded rec)) ≡ length (tops.top_times c (readings rec))
tops-count rec a c = ap length (event_indices rec a (a_top c)) ∙ length-map (tops.top_times c (readings rec)) _

-- P holds of none of the first m
abbrev none_of : (Text → Bool) → ℕ → List Text → Bool
none_of P zero l = true
none_of P (suc m) [] = false
none_of P (suc m) (x ∷ l) = not (P x) && none_of P m l

none_below : (P : Text → Bool) (m : ℕ) (l : List Text) (k : ℕ) → none_of P m l ≡ true → k < m → P (get_or l k (listed lag)) ≡ false
none_below P zero l k e h = absurd (not-suc-le-zero h)
none_below P (suc m) [] k e h = absurd (true≢false (sym e))
none_below P (suc m) (x ∷ l) zero e h = not-true (P x) (and_left (not (P x)) _ e)
none_below P (suc m) (x ∷ l) (suc k) e h = none_below P m l k (and_right (not (P x)) _ e) (le_of_suc-le-suc h)

module _ (r : List Coded) (a b n : ℕ) where
  -- leaves that take no differences
  pub leaf_none : (k : ℕ) → k < GAPS → of_listed (asks_too_many r) (leaf_of (row k a b n)) ≡ false
  leaf_none k h = none_below (of_listed (asks_too_many r)) GAPS (leaf_texts (row k a b n)) k refl h

  pub leaf_one : (k : ℕ) → GAPS ≤ k → k < NOT → (k ≡ LAG → ⊥) → of_listed (asks_too_many r) (leaf_of (row k a b n)) ≡ many_tops (curve_of a) r
  leaf_one k l h ne = by (ℕ_discrete k GAPS)
    where
      by : Dec (k ≡ GAPS) → of_listed (asks_too_many r) (leaf_of (row k a b n)) ≡ many_tops (curve_of a) r
      by (yes e) = ap (λ (k : ℕ). of_listed (asks_too_many r) (leaf_of (row k a b n))) e
      by (no m) = let e : k ≡ STEPS = omega arith in ap (λ (k : ℕ). of_listed (asks_too_many r) (leaf_of (row k a b n))) e

  pub leaf_both : (k : ℕ) → k ≡ LAG → of_listed (asks_too_many r) (leaf_of (row k a b n)) ≡ (many_tops A r || many_tops B r)
  leaf_both k e = ap (λ (k : ℕ). of_listed (asks_too_many r) (leaf_of (row k a b n))) e

-- an operator asks nothing itself
op_one : (G : Listed → Bool) (k a b n : ℕ) (p q : Text) → NOT ≤ k → k < OR → of_listed G (build (row k a b n) p q) ≡ false
op_one G k a b n p q l h = four (λ (k : ℕ). of_listed G (build (row k a b n) p q) ≡ false) NOT k l h refl refl refl refl

op_two : (G : Listed → Bool) (k a b n : ℕ) (p q : Text) → OR ≤ k → k < BRACKET → of_listed G (build (row k a b n) p q) ≡ false
op_two G k a b n p q l h = four (λ (k : ℕ). of_listed G (build (row k a b n) p q) ≡ false) OR k l h refl refl refl refl

module _ (table : List ℕ) (count : ℕ) (rec : List ℕ) (falling : Falling table count) (n : ℕ) (inn : n < count) (line : Row) (is-line : line ≡ row_at table n) where
  abbrev G : Text → Bool
  G = of_listed (asks_too_many (coded rec))

  k : ℕ
  k = (row_at table n).kind

  kind_is : line.kind ≡ (row_at table n).kind
  kind_is = ap (λ (x : Row). x.kind) is-line

  self : tree_at table n ≡ build (row_at table n) (tree_at table (row_at table n).first) (tree_at table (row_at table n).second)
  self = tree_step table count falling n inn

  pub asks_leaf : line.kind < NOT → (x : Bool) → x ≡ of_listed (asks_too_many (coded rec)) (leaf_of line) → x ≡ refused9 (coded rec) (tree_at table n)
  unfolding refused9
  asks_leaf h x e =
      let h' : (row_at table n).kind < NOT = subst (λ (j : ℕ). j < NOT) kind_is h in
      let t : tree_at table n ≡ leaf_of (row_at table n) = self ∙ build_leaf (row_at table n) (tree_at table (row_at table n).first) (tree_at table (row_at table n).second) h' in
      e ∙ ap (λ (y : Row). G (leaf_of y)) is-line ∙ sym (here_leaf G table count falling n inn h' ∙ ap G t)

  module _ (a : ℕ) (is-a : a ≡ line.first) (l : NOT ≤ line.kind) (x : Bool) (ex : x ≡ refused9 (coded rec) (tree_at table a)) where
    l' : NOT ≤ (row_at table n).kind
    l' = subst (λ (j : ℕ). NOT ≤ j) kind_is l

    child : x ≡ refused9 (coded rec) (tree_at table (row_at table n).first)
    child = ex ∙ ap (λ (m : ℕ). refused9 (coded rec) (tree_at table m)) (is-a ∙ ap (λ (y : Row). y.first) is-line)

    pub asks_first_falls : a < n
    asks_first_falls = subst (λ (m : ℕ). m < n) (sym (is-a ∙ ap (λ (y : Row). y.first) is-line)) (falls-first table count falling n inn l')

    -- the node asks what its children ask
    of_one : (row_at table n).kind < OR → refused9 (coded rec) (tree_at table n) ≡ x
    unfolding refused9
    of_one h =
        here_one G table count falling n inn l' h
        ∙ ap (λ (b : Bool). b || some_node G (tree_at table (row_at table n).first)) (ap G self ∙ op_one (asks_too_many (coded rec)) (row_at table n).kind (row_at table n).first (row_at table n).second (row_at table n).number (tree_at table (row_at table n).first) (tree_at table (row_at table n).second) l' h)
        ∙ sym child

    of_two : OR ≤ (row_at table n).kind → refused9 (coded rec) (tree_at table n) ≡ (x || refused9 (coded rec) (tree_at table (row_at table n).second))
    unfolding refused9
    of_two h =
        here_two G table count falling n inn h
        ∙ ap (λ (b : Bool). b || (some_node G (tree_at table (row_at table n).first) || some_node G (tree_at table (row_at table n).second))) (ap G self ∙ op_two (asks_too_many (coded rec)) (row_at table n).kind (row_at table n).first (row_at table n).second (row_at table n).number (tree_at table (row_at table n).first) (tree_at table (row_at table n).second) h (kind-known table count falling n inn))
        ∙ ap (λ (b : Bool). b || some_node G (tree_at table (row_at table n).second)) (sym child)

    pub asks_first : x ≡ true → true ≡ refused9 (coded rec) (tree_at table n)
    asks_first e = by (dec_lt (row_at table n).kind OR)
      where
        by : Dec ((row_at table n).kind < OR) → true ≡ refused9 (coded rec) (tree_at table n)
        by (yes h) = sym (of_one h ∙ e)
        by (no h) = sym (of_two (omega arith) ∙ or_left x _ e)

    pub asks_one : line.kind < OR → x ≡ false → false ≡ refused9 (coded rec) (tree_at table n)
    asks_one h e = sym (of_one (subst (λ (j : ℕ). j < OR) kind_is h) ∙ e)

    module _ (h : OR ≤ line.kind) (d : ℕ) (is-d : d ≡ line.second) where
      h' : OR ≤ (row_at table n).kind
      h' = subst (λ (j : ℕ). OR ≤ j) kind_is h

      pub asks_second_falls : d < n
      asks_second_falls = subst (λ (m : ℕ). m < n) (sym (is-d ∙ ap (λ (y : Row). y.second) is-line)) (falls-second table count falling n inn h')

      pub asks_second : x ≡ false → (y : Bool) → y ≡ refused9 (coded rec) (tree_at table d) → y ≡ refused9 (coded rec) (tree_at table n)
      asks_second e y ey =
          ey ∙ ap (λ (m : ℕ). refused9 (coded rec) (tree_at table m)) (is-d ∙ ap (λ (z : Row). z.second) is-line)
          ∙ sym (of_two h' ∙ ap (λ (b : Bool). b || refused9 (coded rec) (tree_at table (row_at table n).second)) e)
