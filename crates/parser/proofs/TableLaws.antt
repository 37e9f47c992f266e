-- Writing a row of the table.
use mathlib.Core.Path.{◌≡◌, ◌∙◌}
use mathlib.Core.List.{List}
use Prim.Native.Nat.{ℕ, ◌+◌, ◌*◌, ◌≤◌}
use native.Mathlib.Omega.{arith}
use lib.ListN.{length, get_or, set, length-set}
use lib.Seq.{get_or-set_same, get_or-set_other}
use Rattle.grammar.specs.declared.Row.{Row}
use Rattle.grammar.specs.inner.Table.{row}
use Rattle.parser.specs.inner.Rows.{Put}

pub same_row : {k a b n : ℕ} {r : Row} → k ≡ r.kind → a ≡ r.first → b ≡ r.second → n ≡ r.number → row k a b n ≡ r
same_row p q u v = λ i. record { kind = p i; first = q i; second = u i; number = v i }

-- one number written, two, three and four, from p on
abbrev one : List ℕ → ℕ → Row → List ℕ
one t p r = set t p r.kind

abbrev two : List ℕ → ℕ → Row → List ℕ
two t p r = set (one t p r) (p + 1) r.first

abbrev three : List ℕ → ℕ → Row → List ℕ
three t p r = set (two t p r) (p + 2) r.second

abbrev four : List ℕ → ℕ → Row → List ℕ
four t p r = set (three t p r) (p + 3) r.number

module _ (t : List ℕ) (p : ℕ) (r : Row) where
  past_3 : (j : ℕ) → (j ≡ p + 3 → ⊥) → get_or (four t p r) j 0 ≡ get_or (three t p r) j 0
  past_3 j d = get_or-set_other (three t p r) (p + 3) j r.number 0 d

  past_2 : (j : ℕ) → (j ≡ p + 2 → ⊥) → get_or (three t p r) j 0 ≡ get_or (two t p r) j 0
  past_2 j d = get_or-set_other (two t p r) (p + 2) j r.second 0 d

  past_1 : (j : ℕ) → (j ≡ p + 1 → ⊥) → get_or (two t p r) j 0 ≡ get_or (one t p r) j 0
  past_1 j d = get_or-set_other (one t p r) (p + 1) j r.first 0 d

  elsewhere : (j : ℕ) → (j ≡ p → ⊥) → (j ≡ p + 1 → ⊥) → (j ≡ p + 2 → ⊥) → (j ≡ p + 3 → ⊥) → get_or (four t p r) j 0 ≡ get_or t j 0
  elsewhere j a b c d = past_3 j d ∙ past_2 j c ∙ past_1 j b ∙ get_or-set_other t p j r.kind 0 a

  module _ (h : p + 4 ≤ length t) where
    at_0 : get_or (four t p r) p 0 ≡ r.kind
    at_0 = past_3 p (omega arith) ∙ past_2 p (omega arith) ∙ past_1 p (omega arith) ∙ get_or-set_same t p r.kind 0 (omega arith)

    at_1 : get_or (four t p r) (p + 1) 0 ≡ r.first
    at_1 = past_3 (p + 1) (omega arith) ∙ past_2 (p + 1) (omega arith) ∙ get_or-set_same (one t p r) (p + 1) r.first 0 (simp length-set (omega arith))

    at_2 : get_or (four t p r) (p + 2) 0 ≡ r.second
    at_2 = past_3 (p + 2) (omega arith) ∙ get_or-set_same (two t p r) (p + 2) r.second 0 (simp length-set (omega arith))

    at_3 : get_or (four t p r) (p + 3) 0 ≡ r.number
    at_3 = get_or-set_same (three t p r) (p + 3) r.number 0 (simp length-set (omega arith))

pub put-row : (t : List ℕ) (n : ℕ) (r : Row) → 4 * n + 4 ≤ length t → Put t n r (four t (4 * n) r)
put-row t n r h =
    record {
      here = same_row (at_0 t (4 * n) r h) (at_1 t (4 * n) r h) (at_2 t (4 * n) r h) (at_3 t (4 * n) r h);
      others = λ m e.
          same_row
          (elsewhere t (4 * n) r (4 * m) (omega arith) (omega arith) (omega arith) (omega arith))
          (elsewhere t (4 * n) r (4 * m + 1) (omega arith) (omega arith) (omega arith) (omega arith))
          (elsewhere t (4 * n) r (4 * m + 2) (omega arith) (omega arith) (omega arith) (omega arith))
          (elsewhere t (4 * n) r (4 * m + 3) (omega arith) (omega arith) (omega arith) (omega arith));
    }
