-- Laws of the node table: the rows that hold a tree, the tree that the decoder gives, and what a scan over the kinds says of it.
use Rattle.std.specs.Prelude.{◌≡◌, Bool, true, false, cond, not, ◌&&◌, ◌||◌, List, [], ◌∷◌, ◌++◌, eqb, ltb, length, get_or}
use Rattle.std.proofs.Math.Path.{refl}
use Rattle.std.proofs.Common.{sym, ap, ap₂, subst, ◌∙◌, arith, add-one, eqb-true, ltb-true, ltb-false}
use Rattle.std.proofs.Math.Bool.{or-false, or-true, or_assoc}
use Prim.Native.Nat.{ℕ, zero, suc, ◌+◌, ◌-◌, ◌≤◌, ◌<◌}
use Rattle.std.proofs.Math.ListN.{get_or-append}
use Rattle.number.proofs.laws.Boolean.{and_left, and_right}
use Rattle.grammar.specs.declared.Row.{Row}
use Rattle.grammar.specs.Syntax.{Text}
use Rattle.grammar.specs.Size.{temporal, has_listed, nodes}
use Rattle.grammar.specs.Classes.{within}
use Rattle.grammar.specs.inner.Kinds.{HIGH, LAG, NOT, NEXT, FINALLY, GLOBALLY, OR, AND, UNTIL, WEAK-UNTIL}
use Rattle.grammar.specs.inner.Table.{some_row, some_kind, row, leaf_texts, unaries, binaries, build, row_at, tree, tree_at, Falling, unary_from, binary_from, kinds}
use Rattle.grammar.specs.inner.Parse.{row_text, node}
use Rattle.parser.specs.inner.Rows.{Laid, leaf, unary, binary}
use Rattle.parser.proofs.laws.Rows.{laid_above}

-- what holds of each number below n
abbrev pub Each : ℕ → (ℕ → Type 0) → Type 0
Each zero P = Unit {0}
Each (suc n) P = P zero × Each n (λ k. P (suc k))

pub each : (n : ℕ) (P : ℕ → Type 0) → Each n P → (k : ℕ) → k < n → P k
each zero P h k l = absurd (omega arith)
each (suc n) P h zero l = h.0
each (suc n) P h (suc k) l = each n (λ j. P (suc j)) h.1 k (omega arith)

-- two tests that agree on each number below n, by computing
abbrev agree_below : ℕ → (ℕ → Bool) → (ℕ → Bool) → Bool
agree_below zero f g = true
agree_below (suc n) f g = cond (f zero) (g zero) (not (g zero)) && agree_below n (λ k. f (suc k)) (λ k. g (suc k))

agree-below : (n : ℕ) (f g : ℕ → Bool) → agree_below n f g ≡ true → (k : ℕ) → k < n → f k ≡ g k
agree-below zero f g e k l = absurd (omega arith)
agree-below (suc n) f g e zero l = go (f zero) (g zero) (and_left (cond (f zero) (g zero) (not (g zero))) (agree_below n (λ k. f (suc k)) (λ k. g (suc k))) e)
  where
    go : (a b : Bool) → cond a b (not b) ≡ true → a ≡ b
    go true true h = refl
    go true false h = sym h
    go false true h = h
    go false false h = refl
agree-below (suc n) f g e (suc k) l =
    agree-below n (λ k. f (suc k)) (λ k. g (suc k)) (and_right (cond (f zero) (g zero) (not (g zero))) (agree_below n (λ k. f (suc k)) (λ k. g (suc k))) e) k (omega arith)

-- what holds of each of the kinds of operators over one text, and over two
pub unary_kinds : (P : ℕ → Type 0) → P NOT → P NEXT → P FINALLY → P GLOBALLY → (k : ℕ) → unary_from ≤ k → k < binary_from → P k
unary_kinds P a b c d k l h =
    subst P (let z : unary_from + (k - unary_from) ≡ k = omega arith in z) (each 4 (λ i. P (unary_from + i)) (a, (b, (c, (d, tt)))) (k - unary_from) (omega arith))

pub binary_kinds : (P : ℕ → Type 0) → P OR → P AND → P UNTIL → P WEAK-UNTIL → (k : ℕ) → binary_from ≤ k → k < kinds → P k
binary_kinds P a b c d k l h =
    subst P (let z : binary_from + (k - binary_from) ≡ k = omega arith in z) (each 4 (λ i. P (binary_from + i)) (a, (b, (c, (d, tt)))) (k - binary_from) (omega arith))

-- BUILDING looks at a child only where the kind has it
any_default : (l : List Text) (n : ℕ) (d e : Text) → n < length l → get_or l n d ≡ get_or l n e
any_default [] n d e h = absurd (omega arith)
any_default (x ∷ l) zero d e h = refl
any_default (x ∷ l) (suc n) d e h = any_default l n d e (omega arith)

build_leaf : (r : Row) (p q u w : Text) → r.kind < unary_from → build r p q ≡ build r u w
build_leaf r p q u w h =
    get_or-append (leaf_texts r) (unaries p ++ binaries p q) p r.kind h
    ∙ any_default (leaf_texts r) r.kind p u h
    ∙ sym (get_or-append (leaf_texts r) (unaries u ++ binaries u w) u r.kind h)

build_unary : (k a b n : ℕ) (p q u : Text) → unary_from ≤ k → k < binary_from → build (row k a b n) p q ≡ node k p u
build_unary k a b n p q u = unary_kinds (λ j. build (row j a b n) p q ≡ node j p u) refl refl refl refl k

build_binary : (k a b n : ℕ) (p q : Text) → binary_from ≤ k → k < kinds → build (row k a b n) p q ≡ node k p q
build_binary k a b n p q = binary_kinds (λ j. build (row j a b n) p q ≡ node j p q) refl refl refl refl k

-- THE DECODER gives the tree that the rows hold
tree-held : {T : List ℕ} {b m : ℕ} {t : Text} → Laid T b m t → (r f : ℕ) → m ≡ r + 1 → r < f → tree T f r ≡ t
unfolding tree
tree-held h r zero e l = absurd (omega arith)
tree-held {T} (leaf {b} {t} k q) r (suc f) e l =
    let x : r ≡ b = omega arith in
    ap (λ (y : ℕ). build (row_at T y) (tree T f (row_at T y).first) (tree T f (row_at T y).second)) x ∙ build_leaf (row_at T b) _ _ _ _ k ∙ q
tree-held {T} (unary {b} {m} {p} k a c h q) r (suc f) e l =
    let x : r ≡ m = omega arith in
    let y = laid_above h in
    ap (λ (z : ℕ). build (row_at T z) (tree T f (row_at T z).first) (tree T f (row_at T z).second)) x
    ∙ ap (λ (z : Row). build z (tree T f z.first) (tree T f z.second)) q
    ∙ build_unary k (m - 1) 0 0 (tree T f (m - 1)) (tree T f 0) (tree T f (m - 1)) a c
    ∙ ap (λ (z : Text). node k z z) (tree-held {b = b} {m = m} {t = p} h (m - 1) f (omega arith) (omega arith))
tree-held {T} (binary {b} {m} {n} {p} {q = u} k a c h g q) r (suc f) e l =
    let x : r ≡ n = omega arith in
    let y = laid_above h in
    let z = laid_above g in
    ap (λ (z : ℕ). build (row_at T z) (tree T f (row_at T z).first) (tree T f (row_at T z).second)) x
    ∙ ap (λ (z : Row). build z (tree T f z.first) (tree T f z.second)) q
    ∙ build_binary k (m - 1) (n - 1) 0 (tree T f (m - 1)) (tree T f (n - 1)) a c
    ∙ ap (λ (z : Text). node k z (tree T f (n - 1))) (tree-held {b = b} {m = m} {t = p} h (m - 1) f (omega arith) (omega arith))
    ∙ ap (λ (z : Text). node k p z) (tree-held {b = m} {m = n} {t = u} g (n - 1) f (omega arith) (omega arith))

pub decoded : {T : List ℕ} {b m : ℕ} {t : Text} → Laid T b m t → tree_at T (m - 1) ≡ t
unfolding tree_at
decoded {m = m} h = let x = laid_above h in tree-held h (m - 1) (suc (m - 1)) (omega arith) (omega arith)

-- the children of each node that the rows hold have smaller numbers
abbrev Falls : List ℕ → ℕ → Type 0
Falls T m = (unary_from ≤ (row_at T m).kind → (row_at T m).first < m) × (binary_from ≤ (row_at T m).kind → (row_at T m).second < m) × ((row_at T m).kind < kinds)

falls-row : (T : List ℕ) (m k a b : ℕ) → row_at T m ≡ row k a b 0 → k < kinds → a < m → (binary_from ≤ k → b < m) → Falls T m
falls-row T m k a b e h l g =
    subst (λ (r : Row). (unary_from ≤ r.kind → r.first < m) × (binary_from ≤ r.kind → r.second < m) × (r.kind < kinds)) (sym e) ((λ x. l), g, h)

held-falls : {T : List ℕ} {b m : ℕ} {t : Text} → Laid T b m t → (j : ℕ) → b ≤ j → j < m → Falls T j
held-falls {T} (leaf {b} k q) j l h =
    let x : b ≡ j = omega arith in
    subst (Falls T) x ((λ y. absurd (omega arith)), (λ y. absurd (omega arith)), omega arith)
held-falls {T} (unary {b} {m} k a c h q) j l g = go (ltb j m) refl (λ x. held-falls h j l x)
  where
    go : (t : Bool) → ltb j m ≡ t → (j < m → Falls T j) → Falls T j
    go true e f = f (ltb-true j m e)
    go false e f =
        let x = ltb-false j m e in
        let y = laid_above h in
        let z : m ≡ j = omega arith in
        subst (Falls T) z (falls-row T m k (m - 1) 0 q (omega arith) (omega arith) (λ w. absurd (omega arith)))
held-falls {T} (binary {b} {m} {n} k a c h g q) j l u = go (ltb j m) (ltb j n) refl refl (λ x. held-falls h j l x) (λ x y. held-falls g j x y)
  where
    go : (t v : Bool) → ltb j m ≡ t → ltb j n ≡ v → (j < m → Falls T j) → (m ≤ j → j < n → Falls T j) → Falls T j
    go true v e d f i = f (ltb-true j m e)
    go false true e d f i = i (ltb-false j m e) (ltb-true j n d)
    go false false e d f i =
        let x = ltb-false j n d in
        let y = laid_above h in
        let w = laid_above g in
        let z : n ≡ j = omega arith in
        subst (Falls T) z (falls-row T n k (m - 1) (n - 1) q c (omega arith) (λ o. omega arith))

pub held_falling : {T : List ℕ} {n : ℕ} {t : Text} → Laid T 0 n t → Falling T n
unfolding Falling
held_falling h m l = held-falls h m (omega arith) l

-- the rows of a tree are as many as its nodes
leaf_nodes : (r : Row) → r.kind < unary_from → nodes (row_text r) ≡ 1
leaf_nodes r h =
    eqb-true (nodes (row_text r)) 1 (agree-below unary_from (λ k. eqb (nodes (row_text (row k r.first r.second r.number))) 1) (λ k. true) refl r.kind h)

pub held-nodes : {T : List ℕ} {b m : ℕ} {t : Text} → Laid T b m t → m ≡ b + nodes t
held-nodes {T} (leaf {b} {t} k q) = let x = leaf_nodes (row_at T b) k in let y : nodes t ≡ 1 = ap nodes (sym q) ∙ x in omega arith
held-nodes (unary {p = p} k a c h q) =
    let x = held-nodes h in
    let y = unary_kinds (λ j. nodes (node j p p) ≡ nodes p + 1) refl refl refl refl k a c in
    omega arith
held-nodes (binary {p = p} {q = u} k a c h g q) =
    let x = held-nodes h in
    let z = held-nodes g in
    let y = binary_kinds (λ j. nodes (node j p u) ≡ nodes p + nodes u + 1) refl refl refl refl k a c in
    omega arith

-- ---- scans over the rows

some_split : (P : Row → Bool) (T : List ℕ) (b m n : ℕ) → some_row P T b (n + m) ≡ (some_row P T b n || some_row P T (b + n) m)
some_split P T b zero n = let z : n + 0 ≡ n = omega arith in rw z (sym (or-false (some_row P T b n)))
some_split P T b (suc m) n =
    let z : n + suc m ≡ suc (n + m) = omega arith in
    let w : b + (n + m) ≡ b + n + m = omega arith in
    rw (z, w, some_split P T b m n) (or_assoc (some_row P T b n) (some_row P T (b + n) m) (P (row_at T (b + n + m))))

-- row by row: P holds of row i, of none up to it, of none at all
pub some_here : (P : Row → Bool) (T : List ℕ) (n i : ℕ) → i < n → P (row_at T i) ≡ true → some_row P T 0 n ≡ true
some_here P T zero i l e = absurd (omega arith)
some_here P T (suc n) i l e = go (ltb i n) refl (λ a. some_here P T n i a e)
  where
    go : (b : Bool) → ltb i n ≡ b → (i < n → some_row P T 0 n ≡ true) → (some_row P T 0 n || P (row_at T (0 + n))) ≡ true
    go true d f = rw (f (ltb-true i n d)) refl
    go false d f =
        let x = ltb-false i n d in
        let z : i ≡ 0 + n = omega arith in
        let y : P (row_at T (0 + n)) ≡ true = ap (λ (j : ℕ). P (row_at T j)) (sym z) ∙ e in
        rw y (or-true (some_row P T 0 n))

pub some_next : (P : Row → Bool) (T : List ℕ) (i : ℕ) → P (row_at T i) ≡ false → some_row P T 0 i ≡ false → some_row P T 0 (i + 1) ≡ false
some_next P T i e g = let z : 0 + i ≡ i = omega arith in rw (add-one i, g, z, e)

pub some_end : (P : Row → Bool) (T : List ℕ) (i n : ℕ) → i ≤ n → n ≤ i → some_row P T 0 i ≡ false → false ≡ some_row P T 0 n
some_end P T i n a b g = let z : i ≡ n = omega arith in sym (ap (some_row P T 0) (sym z) ∙ g)

-- a property of texts that goes by the rows of the nodes
pub record ByRow (P : Row → Bool) (F : Text → Bool) : Type 0 where
  pub of_leaf : (r : Row) → r.kind < unary_from → F (row_text r) ≡ P r
  pub of_unary : (k a b n : ℕ) (p : Text) → unary_from ≤ k → k < binary_from → F (node k p p) ≡ (F p || P (row k a b n))
  pub of_binary : (k a b n : ℕ) (p q : Text) → binary_from ≤ k → k < kinds → F (node k p q) ≡ (F p || F q || P (row k a b n))

some_last : (P : Row → Bool) (T : List ℕ) (b n m : ℕ) (r : Row) → b + n ≡ m → row_at T m ≡ r → some_row P T b (n + 1) ≡ (some_row P T b n || P r)
some_last P T b n m r e q = let z : n + 1 ≡ suc n = omega arith in rw (z, e, q)

pub held_some : (P : Row → Bool) (F : Text → Bool) → ByRow P F → {T : List ℕ} {b m : ℕ} {t : Text} → Laid T b m t → F t ≡ some_row P T b (nodes t)
held_some P F h {T} (leaf {b} {t} k q) =
    let x : nodes t ≡ 1 = ap nodes (sym q) ∙ leaf_nodes (row_at T b) k in
    let z : b + 0 ≡ b = omega arith in
    ap F (sym q) ∙ h.of_leaf (row_at T b) k ∙ rw (x, z) refl
held_some P F h {T} (unary {b} {m} {p} k a c g q) =
    let x = held-nodes g in
    let y = unary_kinds (λ j. nodes (node j p p) ≡ nodes p + 1) refl refl refl refl k a c in
    let z = held_some P F h g in
    h.of_unary k (m - 1) 0 0 p a c ∙ ap (λ w. w || P (row k (m - 1) 0 0)) z ∙ sym (ap (some_row P T b) y ∙ some_last P T b (nodes p) m (row k (m - 1) 0 0) (sym x) q)
held_some P F h {T} (binary {b} {m} {n} {p} {q = u} k a c g i q) =
    let x = held-nodes g in
    let w = held-nodes i in
    let y = binary_kinds (λ j. nodes (node j p u) ≡ nodes p + nodes u + 1) refl refl refl refl k a c in
    let z = held_some P F h g in
    let v = held_some P F h i in
    let o : some_row P T b (nodes p + nodes u) ≡ (F p || F u) = some_split P T b (nodes u) (nodes p) ∙ rw (← x) (ap₂ ◌||◌ (sym z) (sym v)) in
    h.of_binary k (m - 1) (n - 1) 0 p u a c
    ∙ ap (λ w. w || P (row k (m - 1) (n - 1) 0)) (sym o)
    ∙ sym (ap (some_row P T b) y ∙ some_last P T b (nodes p + nodes u) n (row k (m - 1) (n - 1) 0) (omega arith) q)

-- the kinds of listed names, and those of X, F, G, U and W
abbrev pub listed_kind : ℕ → Bool
listed_kind k = within HIGH LAG k

abbrev pub temporal_kind : ℕ → Bool
temporal_kind k = within NEXT GLOBALLY k || within UNTIL WEAK-UNTIL k

pub listed_by_kind : ByRow (λ r. listed_kind r.kind) has_listed
listed_by_kind =
    record {
      of_leaf = λ r h. agree-below unary_from (λ k. has_listed (row_text (row k r.first r.second r.number))) listed_kind refl r.kind h;
      of_unary = λ k a b n p. unary_kinds (λ j. has_listed (node j p p) ≡ (has_listed p || listed_kind j))
          (sym (or-false (has_listed p))) (sym (or-false (has_listed p))) (sym (or-false (has_listed p))) (sym (or-false (has_listed p))) k;
      of_binary = λ k a b n p q. binary_kinds (λ j. has_listed (node j p q) ≡ (has_listed p || has_listed q || listed_kind j))
          (sym (or-false (has_listed p || has_listed q))) (sym (or-false (has_listed p || has_listed q)))
          (sym (or-false (has_listed p || has_listed q))) (sym (or-false (has_listed p || has_listed q))) k;
    }

pub temporal_by_kind : ByRow (λ r. temporal_kind r.kind) temporal
temporal_by_kind =
    record {
      of_leaf = λ r h. agree-below unary_from (λ k. temporal (row_text (row k r.first r.second r.number))) temporal_kind refl r.kind h;
      of_unary = λ k a b n p. unary_kinds (λ j. temporal (node j p p) ≡ (temporal p || temporal_kind j))
          (sym (or-false (temporal p))) (sym (or-true (temporal p))) (sym (or-true (temporal p))) (sym (or-true (temporal p))) k;
      of_binary = λ k a b n p q. binary_kinds (λ j. temporal (node j p q) ≡ (temporal p || temporal q || temporal_kind j))
          (sym (or-false (temporal p || temporal q))) (sym (or-false (temporal p || temporal q)))
          (sym (or-true (temporal p || temporal q))) (sym (or-true (temporal p || temporal q))) k;
    }

-- a scan for either of two kinds of kinds
pub some_either : (P Q : ℕ → Bool) (T : List ℕ) (b n : ℕ) → some_kind (λ k. P k || Q k) T b n ≡ (some_kind P T b n || some_kind Q T b n)
some_either P Q T b zero = refl
some_either P Q T b (suc n) = go (some_kind P T b n) (some_kind Q T b n) (P (row_at T (b + n)).kind) (Q (row_at T (b + n)).kind) (some_either P Q T b n)
  where
    go : (x y p q : Bool) → some_kind (λ k. P k || Q k) T b n ≡ (x || y) → (some_kind (λ k. P k || Q k) T b n || (p || q)) ≡ ((x || p) || (y || q))
    go true y p q e = rw e refl
    go false true p q e = rw e (sym (or-true p))
    go false false p q e = rw e refl

-- THE TREE of a node, in terms of its children's
module _ (T : List ℕ) (n : ℕ) (falling : Falling T n) where
  build_same : (m : ℕ) (p q u w : Text) → m < n → (unary_from ≤ (row_at T m).kind → p ≡ u) → (binary_from ≤ (row_at T m).kind → q ≡ w) → build (row_at T m) p q ≡ build (row_at T m) u w
  unfolding Falling
  build_same m p q u w l e f = go (ltb k unary_from) (ltb k binary_from) refl refl
    where
      k : ℕ
      k = (row_at T m).kind

      go : (x y : Bool) → ltb k unary_from ≡ x → ltb k binary_from ≡ y → build (row_at T m) p q ≡ build (row_at T m) u w
      go true y d i = build_leaf (row_at T m) p q u w (ltb-true k unary_from d)
      go false true d i =
          let a = ltb-false k unary_from d in
          let c = ltb-true k binary_from i in
          build_unary k (row_at T m).first (row_at T m).second (row_at T m).number p q p a c
          ∙ ap (λ (x : Text). node k x x) (e a)
          ∙ sym (build_unary k (row_at T m).first (row_at T m).second (row_at T m).number u w u a c)
      go false false d i =
          let a = ltb-false k unary_from d in
          let b = ltb-false k binary_from i in
          let c = (falling m l).2 in
          build_binary k (row_at T m).first (row_at T m).second (row_at T m).number p q b c
          ∙ ap₂ (node k) (e a) (f b)
          ∙ sym (build_binary k (row_at T m).first (row_at T m).second (row_at T m).number u w b c)

  -- a depth above the node's number is enough
  tree-more : (f g m : ℕ) → m < n → m < f → m < g → tree T f m ≡ tree T g m
  unfolding tree Falling
  tree-more zero g m l a b = absurd (omega arith)
  tree-more (suc f) zero m l a b = absurd (omega arith)
  tree-more (suc f) (suc g) m l a b =
      build_same m _ _ _ _ l
      (λ h. let x = (falling m l).0 h in tree-more f g (row_at T m).first (omega arith) (omega arith) (omega arith))
      (λ h. let x = (falling m l).1 h in tree-more f g (row_at T m).second (omega arith) (omega arith) (omega arith))

  pub tree_step : (m : ℕ) → m < n → tree_at T m ≡ build (row_at T m) (tree_at T (row_at T m).first) (tree_at T (row_at T m).second)
  unfolding tree_at tree Falling
  tree_step m l =
      build_same m _ _ _ _ l
      (λ h. let x = (falling m l).0 h in tree-more m (suc (row_at T m).first) (row_at T m).first (omega arith) (omega arith) (omega arith))
      (λ h. let x = (falling m l).1 h in tree-more m (suc (row_at T m).second) (row_at T m).second (omega arith) (omega arith) (omega arith))
