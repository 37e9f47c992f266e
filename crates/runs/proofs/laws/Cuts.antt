-- Laws of cuts: what lies inside a list of cuts, that its numbers determine the list, and its runs, two cuts each.
use Rattle.std.specs.Prelude.{ℕ, suc, ◌+◌, ◌-◌, ◌*◌, ◌≤◌, ◌<◌, ◌≡◌, refl, Bool, true, false, not, ◌||◌, ◌&&◌, List, [], ◌∷◌, leb, length, take, drop, get_or}
use Rattle.std.proofs.Common.{sym, ap, ap₂, ◌∙◌, true≢false, ⊎_elim, arith, length-take-le, drop-cons, get_or-take, add-one, le-leb}
use Rattle.std.proofs.lemmas.Bool.{false≢true, lt-leb}
use Rattle.std.proofs.Math.Seq.{drop-length}
use Rattle.number.specs.Axis.{axis}
use Rattle.number.proofs.laws.Order.{less_or_not, less-more_equal}
use Rattle.runs.specs.Set.{xor, inside, Ascending, Canonical}
use Rattle.runs.specs.inner.Emit.{emit}

pub not_not : (m : Bool) → not (not m) ≡ m
not_not true = refl
not_not false = refl

pub xor_assoc : (a b m : Bool) → xor (xor a b) m ≡ xor a (xor b m)
xor_assoc true true true = refl
xor_assoc true true false = refl
xor_assoc true false m = refl
xor_assoc false b m = refl

pub xor_false : (b : Bool) → xor b false ≡ b
xor_false true = refl
xor_false false = refl

pub xor_not : (p m : Bool) → xor p (not m) ≡ xor (not p) m
xor_not true true = refl
xor_not true false = refl
xor_not false true = refl
xor_not false false = refl

pub inside_lt : (c : ℕ) (r : List ℕ) (v : ℕ) → v < c → inside (c ∷ r) v ≡ inside r v
unfolding inside
inside_lt c r v h = ap (λ (b : Bool). xor b (inside r v)) (lt-leb c v h)

pub inside_ge : (c : ℕ) (r : List ℕ) (v : ℕ) → c ≤ v → inside (c ∷ r) v ≡ not (inside r v)
unfolding inside
inside_ge c r v h = ap (λ (b : Bool). xor b (inside r v)) (le-leb c v h)

-- nothing is inside below the first cut
pub outside : (lo hi : ℕ) (l : List ℕ) (v : ℕ) → Ascending lo hi l → v < lo → inside l v ≡ false
unfolding inside
outside lo hi [] v a h = refl
outside lo hi (c ∷ r) v a h = inside_lt c r v (omega arith) ∙ outside (c + 1) hi r v a.2 (omega arith)

-- the first cut is inside
pub at_head : (hi c : ℕ) (r : List ℕ) → Ascending (c + 1) hi r → inside (c ∷ r) c ≡ true
at_head hi c r a = inside_ge c r c (omega arith) ∙ ap not (outside (c + 1) hi r c a (omega arith))

pub weaken : (lo lo' hi : ℕ) (l : List ℕ) → lo ≤ lo' → Ascending lo' hi l → Ascending lo hi l
weaken lo lo' hi [] h a = tt
weaken lo lo' hi (c ∷ r) h a = (omega arith, a.1, a.2)

-- two lists with one head and the same numbers inside have tails with the same numbers inside
tails : (c : ℕ) (r s : List ℕ) (v : ℕ) → inside (c ∷ r) v ≡ inside (c ∷ s) v → inside r v ≡ inside s v
unfolding inside
tails c r s v = go (leb c v) (inside r v) (inside s v)
  where
    go : (b m n : Bool) → xor b m ≡ xor b n → m ≡ n
    go true true true e = refl
    go true true false e = sym e
    go true false true e = sym e
    go true false false e = refl
    go false m n e = e

pub none : (v : ℕ) → inside [] v ≡ false
unfolding inside
none v = refl

-- two ascending lists of cuts with the same members are equal
pub unique : (lo lo' hi : ℕ) (xs ys : List ℕ) → Ascending lo hi xs → Ascending lo' hi ys → ((v : ℕ) → v ≤ hi → inside xs v ≡ inside ys v) → xs ≡ ys
unique lo lo' hi [] [] a b e = refl
unique lo lo' hi [] (y ∷ ys) a b e = absurd (false≢true (sym (none y) ∙ e y b.1 ∙ at_head hi y ys b.2))
unique lo lo' hi (x ∷ xs) [] a b e = absurd (true≢false (sym (at_head hi x xs a.2) ∙ e x a.1 ∙ none x))
unique lo lo' hi (x ∷ xs) (y ∷ ys) a b e =
    ⊎_elim
    (λ h. absurd (true≢false (sym (at_head hi x xs a.2) ∙ e x a.1 ∙ outside y hi (y ∷ ys) x (omega arith, b.1, b.2) h)))
    (λ w.
    ⊎_elim
    (λ h. absurd (true≢false (sym (at_head hi y ys b.2) ∙ sym (e y b.1) ∙ outside x hi (x ∷ xs) y (omega arith, a.1, a.2) h)))
    (λ q. ap₂ ◌∷◌ q (unique (x + 1) (y + 1) hi xs ys a.2 b.2 (λ v h. tails x xs ys v (e v h ∙ ap (λ (k : ℕ). inside (k ∷ ys) v) (sym q)))))
    w)
    (less-more_equal x y)

pub one_list : (xs ys : List ℕ) → Canonical xs → Canonical ys → ((v : ℕ) → v < axis → inside xs v ≡ inside ys v) → xs ≡ ys
one_list xs ys a b e = unique 0 0 axis xs ys a.ascending b.ascending (λ v h. ⊎_elim (λ g. e v g) (λ g. let q : v ≡ axis = omega arith in rw q (a.ended ∙ sym b.ended)) (less_or_not v axis))

pub nil_canonical : Canonical []
nil_canonical = record { ascending = tt; ended = none axis }

-- nothing is inside behind the end
pub past : (lo hi : ℕ) (l : List ℕ) (v : ℕ) → Ascending lo hi l → hi ≤ v → inside l v ≡ inside l hi
past lo hi [] v a h = none v ∙ sym (none hi)
past lo hi (c ∷ r) v a h = inside_ge c r v (omega arith) ∙ ap not (past (c + 1) hi r v a.2 h) ∙ sym (inside_ge c r hi a.1)

-- ---- a run, and what follows it

module _ (lo hi c d : ℕ) (r : List ℕ) (a : Ascending lo hi (c ∷ d ∷ r)) where
  pub before-run : (v : ℕ) → v < c → inside (c ∷ d ∷ r) v ≡ false
  before-run v h = outside c hi (c ∷ d ∷ r) v (omega arith, a.1, a.2) h

  pub in_run : (v : ℕ) → c ≤ v → v < d → inside (c ∷ d ∷ r) v ≡ true
  in_run v h g = inside_ge c (d ∷ r) v h ∙ ap not (outside d hi (d ∷ r) v (omega arith, a.2.1, a.2.2) g)

  pub behind_run : (v : ℕ) → d ≤ v → inside (c ∷ d ∷ r) v ≡ inside r v
  behind_run v h = inside_ge c (d ∷ r) v (omega arith) ∙ ap not (inside_ge d r v h) ∙ not_not (inside r v)

  pub rest_outside : (v : ℕ) → v ≤ d → inside r v ≡ false
  rest_outside v h = outside (d + 1) hi r v a.2.2 (omega arith)

  pub rest_ended : inside (c ∷ d ∷ r) hi ≡ false → inside r hi ≡ false
  rest_ended e = sym (behind_run hi a.2.1) ∙ e

-- one cut alone leaves its run without an end
pub lone : {X : Type 0} (lo hi c : ℕ) → Ascending lo hi (c ∷ []) → inside (c ∷ []) hi ≡ false → X
lone lo hi c a e = absurd (true≢false (sym (inside_ge c [] hi a.1 ∙ ap not (none hi)) ∙ e))

-- the lowest and the highest numbers of the runs
unfoldable pub low_cuts : List ℕ → List ℕ
low_cuts [] = []
low_cuts (c ∷ []) = []
low_cuts (c ∷ d ∷ r) = c ∷ low_cuts r

unfoldable pub high_cuts : List ℕ → List ℕ
high_cuts [] = []
high_cuts (c ∷ []) = []
high_cuts (c ∷ d ∷ r) = (d - 1) ∷ high_cuts r

pub low_ascending : (lo hi : ℕ) (l : List ℕ) → Ascending lo hi l → Ascending lo hi (low_cuts l)
unfolding low_cuts
low_ascending lo hi [] a = tt
low_ascending lo hi (c ∷ []) a = tt
low_ascending lo hi (c ∷ d ∷ r) a = (a.0, a.1, weaken (c + 1) (d + 1) hi (low_cuts r) (omega arith) (low_ascending (d + 1) hi r a.2.2))

pub high_ascending : (lo hi : ℕ) (l : List ℕ) → Ascending lo hi l → Ascending lo hi (high_cuts l)
unfolding high_cuts
high_ascending lo hi [] a = tt
high_ascending lo hi (c ∷ []) a = tt
high_ascending lo hi (c ∷ d ∷ r) a =
    (omega arith, omega arith, weaken (d - 1 + 1) (d + 1) hi (high_cuts r) (omega arith) (high_ascending (d + 1) hi r a.2.2))

pub same_length : (l : List ℕ) → length (low_cuts l) ≡ length (high_cuts l)
unfolding low_cuts high_cuts
same_length [] = refl
same_length (c ∷ []) = refl
same_length (c ∷ d ∷ r) = ap suc (same_length r)

-- two cuts for each run
pub two_each : (lo hi : ℕ) (l : List ℕ) → Ascending lo hi l → inside l hi ≡ false → length l ≡ 2 * length (low_cuts l)
unfolding low_cuts
two_each lo hi [] a e = refl
two_each lo hi (c ∷ []) a e = lone lo hi c a e
two_each lo hi (c ∷ d ∷ r) a e = let h : length r ≡ 2 * length (low_cuts r) = two_each (d + 1) hi r a.2.2 (rest_ended lo hi c d r a e) in omega arith

-- v lies in a run: low ≤ v ≤ high
unfoldable pub covers : List ℕ → List ℕ → ℕ → Bool
covers [] highs v = false
covers (l ∷ lows) [] v = false
covers (l ∷ lows) (h ∷ highs) v = (leb l v && leb v h) || covers lows highs v

-- MEMBERSHIP BY RUNS: v is inside if some run has low ≤ v ≤ high
pub inside-covers : (lo hi : ℕ) (l : List ℕ) (v : ℕ) → Ascending lo hi l → inside l hi ≡ false → covers (low_cuts l) (high_cuts l) v ≡ inside l v
unfolding low_cuts high_cuts covers
inside-covers lo hi [] v a e = sym (none v)
inside-covers lo hi (c ∷ []) v a e = lone lo hi c a e
inside-covers lo hi (c ∷ d ∷ r) v a e =
    let ih : covers (low_cuts r) (high_cuts r) v ≡ inside r v = inside-covers (d + 1) hi r v a.2.2 (rest_ended lo hi c d r a e) in
    ⊎_elim
    (λ h. ap₂ ◌||◌ (ap₂ ◌&&◌ (lt-leb c v h) refl) (ih ∙ rest_outside lo hi c d r a v (omega arith)) ∙ sym (before-run lo hi c d r a v h))
    (λ h.
    ⊎_elim
    (λ g. ap₂ ◌||◌ (ap₂ ◌&&◌ (le-leb c v h) (le-leb v (d - 1) (omega arith))) refl ∙ sym (in_run lo hi c d r a v h g))
    (λ g. ap₂ ◌||◌ (ap₂ ◌&&◌ (le-leb c v h) (lt-leb v (d - 1) (omega arith))) ih ∙ sym (behind_run lo hi c d r a v g))
    (less_or_not v d))
    (less_or_not v c)

-- ---- one cut more in front

-- emit, at a number from the cut on and at one before it
pub emit_ge : (a b : Bool) (x : ℕ) (r : List ℕ) (v : ℕ) → x ≤ v → xor a (inside (emit a b x r) v) ≡ xor b (inside r v)
unfolding emit
emit_ge true true x r v h = refl
emit_ge true false x r v h = ap not (inside_ge x r v h) ∙ not_not (inside r v)
emit_ge false true x r v h = inside_ge x r v h
emit_ge false false x r v h = refl

pub emit_lt : (a b : Bool) (x : ℕ) (r : List ℕ) (v : ℕ) → v < x → inside (emit a b x r) v ≡ inside r v
unfolding emit
emit_lt true true x r v h = refl
emit_lt true false x r v h = inside_lt x r v h
emit_lt false true x r v h = inside_lt x r v h
emit_lt false false x r v h = refl

pub emit_asc : (a b : Bool) (lo hi x : ℕ) (r : List ℕ) → lo ≤ x → x ≤ hi → Ascending (x + 1) hi r → Ascending lo hi (emit a b x r)
unfolding emit
emit_asc true true lo hi x r h g s = weaken lo (x + 1) hi r (omega arith) s
emit_asc true false lo hi x r h g s = (h, g, s)
emit_asc false true lo hi x r h g s = (h, g, s)
emit_asc false false lo hi x r h g s = weaken lo (x + 1) hi r (omega arith) s

pub emit_longer : (a b : Bool) (x : ℕ) (r : List ℕ) → length (emit a b x r) ≤ suc (length r)
unfolding emit
emit_longer true true x r = omega arith
emit_longer true false x r = omega arith
emit_longer false true x r = omega arith
emit_longer false false x r = omega arith

-- ---- places in a list

-- the first of what is left of a list
pub front : (a : List ℕ) (n i : ℕ) → n ≤ length a → i < n → drop i (take n a) ≡ get_or a i 0 ∷ drop (i + 1) (take n a)
front a n i h g = let e : i < length (take n a) = rw (length-take-le n a h) g in rw (add-one, drop-cons (take n a) i 0 e, get_or-take n a i 0 g)

pub all_passed : (a : List ℕ) (n i : ℕ) → n ≤ length a → i ≡ n → drop i (take n a) ≡ []
all_passed a n i h g = ap (λ (k : ℕ). drop k (take n a)) (g ∙ sym (length-take-le n a h)) ∙ drop-length (take n a)
