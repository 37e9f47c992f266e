-- The node table of a text: four numbers to a node, its row, and the tree that the rows stand for. The children of a node have smaller numbers.
use Rattle.std.specs.Prelude.{ℕ, zero, suc, ◌+◌, ◌*◌, ◌<◌, ◌≤◌, Bool, false, ◌||◌, List, [], ◌∷◌, ◌++◌, get_or}
use Rattle.recording.specs.Reading.{A, B, curve_of}
use Rattle.grammar.specs.declared.Row.{Row}
use Rattle.grammar.specs.inner.Kinds.{NOT, OR, BRACKET}
use Rattle.grammar.specs.Syntax.{Field, of, T, Relation, ge, le, gt, lt, eq, v, number, compare, A-to-B, fall, rise, pigment, high, low, lowafter, capafter, peaks, dips, cross, crossup, dose, ampl, gaps, steps, lag, Text, atom, listed, or, and, neg, finally, globally, next, until, weak_until}

abbrev pub row : ℕ → ℕ → ℕ → ℕ → Row
row k a b n = record { kind = k; first = a; second = b; number = n }

-- codes: 0 A, 1 B, 2 T
abbrev pub field_of : ℕ → Field
field_of n = get_or (of A ∷ of B ∷ T ∷ []) n T

-- codes: 0 `>=`, 1 `<=`, 2 `>`, 3 `<`, 4 `=`
abbrev pub relation_of : ℕ → Relation
relation_of n = get_or (ge ∷ le ∷ gt ∷ lt ∷ eq ∷ []) n eq

-- the kinds before NOT, the leaves: of a field or a curve, `first` is its code; `second` the relation's; `number` an index on the axis, or the number of a pigment
abbrev pub leaf_texts : Row → List Text
leaf_texts r =
    atom (compare (field_of r.first) (relation_of r.second) v)
    ∷ atom (compare (field_of r.first) (relation_of r.second) (number r.number))
    ∷ atom (A-to-B (relation_of r.second))
    ∷ atom (fall (curve_of r.first))
    ∷ atom (rise (curve_of r.first))
    ∷ atom (pigment r.number)
    ∷ listed (high (curve_of r.first))
    ∷ listed (low (curve_of r.first))
    ∷ listed (lowafter (curve_of r.first) r.number)
    ∷ listed (capafter (curve_of r.first) r.number)
    ∷ listed (peaks (curve_of r.first))
    ∷ listed (dips (curve_of r.first))
    ∷ listed cross
    ∷ listed crossup
    ∷ listed (dose r.number)
    ∷ listed (ampl (curve_of r.first))
    ∷ listed (gaps (curve_of r.first))
    ∷ listed (steps (curve_of r.first))
    ∷ listed lag
    ∷ []

-- the kinds before OR, with one child: `!`, X, F, G
abbrev pub unaries : Text → List Text
unaries p = neg p ∷ next p ∷ finally p ∷ globally p ∷ []

-- the kinds before BRACKET, with two children: `|`, `&`, U, W
abbrev pub binaries : Text → Text → List Text
binaries p q = or p q ∷ and p q ∷ until p q ∷ weak_until p q ∷ []

-- the tree of a row, over the trees of its children
abbrev pub build : Row → Text → Text → Text
build r p q = get_or (leaf_texts r ++ (unaries p ++ binaries p q)) r.kind p

-- row n of the table
abbrev pub row_at : List ℕ → ℕ → Row
row_at table n = row (get_or table (4 * n) 0) (get_or table (4 * n + 1) 0) (get_or table (4 * n + 2) 0) (get_or table (4 * n + 3) 0)

-- the tree below node n, at most f deep
unfoldable pub tree : List ℕ → ℕ → ℕ → Text
tree table zero n = listed lag
tree table (suc f) n = build (row_at table n) (tree table f (row_at table n).first) (tree table f (row_at table n).second)

-- THE TREE below node n
unfoldable pub tree_at : List ℕ → ℕ → Text
tree_at table n = tree table (suc n) n

-- the first of the kinds with one child, the first of those with two, and how many kinds there are
abbrev pub unary_from : ℕ
unary_from = NOT

abbrev pub binary_from : ℕ
binary_from = OR

abbrev pub kinds : ℕ
kinds = BRACKET

-- the children of each node below n have smaller numbers than it
unfoldable pub Falling : List ℕ → ℕ → Type 0
Falling table n =
    (m : ℕ) → m < n
    → (unary_from ≤ (row_at table m).kind → (row_at table m).first < m)
    × (binary_from ≤ (row_at table m).kind → (row_at table m).second < m)
    × ((row_at table m).kind < kinds)

-- P holds of one of the n rows from row b on
abbrev pub some_row : (Row → Bool) → List ℕ → ℕ → ℕ → Bool
some_row P table b zero = false
some_row P table b (suc n) = some_row P table b n || P (row_at table (b + n))

-- P holds of the kind of one of them
abbrev pub some_kind : (ℕ → Bool) → List ℕ → ℕ → ℕ → Bool
some_kind P = some_row (λ r. P r.kind)
