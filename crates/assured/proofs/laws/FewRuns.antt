-- SETS OF FEW RUNS: a text without F, G, X, U and W has at each record not more runs than nodes; so has what does not write v, and F and G of one bound.
use Prim.Native.Nat.{ℕ, zero, suc, ◌+◌, ◌-◌, ◌≤◌, min}
use Rattle.std.proofs.Common.{arith, sym, ◌∙◌, true≢false, le-ltb, lt-ltb, ltb-true}
use Rattle.std.specs.Prelude.{◌≡◌, refl, Bool, true, false, cond, List, ltb}
use Rattle.std.proofs.Math.Path.{ap, ap₂, subst, fun_ext}
use Rattle.std.proofs.Math.Bool.{◌&&◌, ◌||◌, not}
use Rattle.std.proofs.lemmas.Bool.{false≢true}
use Rattle.number.specs.Axis.{axis}
use Rattle.number.proofs.laws.Boolean.{or_cases, or_none, none_left, none_right, and_left, and_right, and_make}
use Rattle.runs.specs.Runs.{starts_at, most_runs}
use Rattle.grammar.specs.Size.{temporal, has_listed, nodes, most_nodes}
use Rattle.grammar.specs.Syntax.{Relation, ge, le, gt, lt, eq, v, number, Atom, compare, A-to-B, fall, rise, pigment, Text, atom, listed, or, and, neg, finally, globally, next, until, weak_until}
use Rattle.meaning.specs.inner.Coded.{Coded, coded_falls, coded_rises, coded_adds}
use Rattle.meaning.specs.inner.Truth.{coded_field, relate, atom_val, last_coded, coded_at, finally_from, globally_from, until_from, weak_from, val, runs_at, large_at, some_node, over_at}
use Rattle.meaning.proofs.laws.Run.{starts, run-count, starts_ext, Convex, Up, Down, up_convex, down_convex, const_convex, point_convex, and_convex, or_up, and_up, or_down, ray_up, ray_down, convex_runs}
use Rattle.assured.specs.Assured.{writes_v, of_curve, is_eq, is_bound, is_after, of_atom, of_not, steady, nameless, somewhere, throughout, firstly}
use Rattle.assured.proofs.laws.Carried.{of-atom, of-not}

-- ---- how many runs `|`, `&` and `!` make

bit_or : (a b c d : Bool) → cond ((a || b) && not (c || d)) 1 0 ≤ cond (a && not c) 1 0 + cond (b && not d) 1 0
bit_or true b true d = omega arith
bit_or true b false true = omega arith
bit_or true b false false = omega arith
bit_or false true true d = omega arith
bit_or false true false true = omega arith
bit_or false true false false = omega arith
bit_or false false c d = omega arith

bit_and : (a b c d : Bool) → cond ((a && b) && not (c && d)) 1 0 ≤ cond (a && not c) 1 0 + cond (b && not d) 1 0
bit_and true true true true = omega arith
bit_and true true true false = omega arith
bit_and true true false d = omega arith
bit_and true false c d = omega arith
bit_and false b c d = omega arith

bit_not : (a b : Bool) → cond (not b && not (not a)) 1 0 + cond b 1 0 ≤ cond a 1 0 + cond (b && not a) 1 0
bit_not true true = omega arith
bit_not true false = omega arith
bit_not false true = omega arith
bit_not false false = omega arith

start_or : (f g : ℕ → Bool) (n : ℕ) → cond (starts_at (λ m. f m || g m) n) 1 0 ≤ cond (starts_at f n) 1 0 + cond (starts_at g n) 1 0
start_or f g zero = go (f 0) (g 0)
  where
    go : (a b : Bool) → cond (a || b) 1 0 ≤ cond a 1 0 + cond b 1 0
    go true b = omega arith
    go false b = omega arith
start_or f g (suc n) = bit_or (f (suc n)) (g (suc n)) (f n) (g n)

start_and : (f g : ℕ → Bool) (n : ℕ) → cond (starts_at (λ m. f m && g m) n) 1 0 ≤ cond (starts_at f n) 1 0 + cond (starts_at g n) 1 0
start_and f g zero = go (f 0) (g 0)
  where
    go : (a b : Bool) → cond (a && b) 1 0 ≤ cond a 1 0 + cond b 1 0
    go true b = omega arith
    go false b = omega arith
start_and f g (suc n) = bit_and (f (suc n)) (g (suc n)) (f n) (g n)

starts_or : (f g : ℕ → Bool) (n : ℕ) → starts (λ m. f m || g m) n ≤ starts f n + starts g n
unfolding starts
starts_or f g zero = omega arith
starts_or f g (suc n) = let h = starts_or f g n in let k = start_or f g n in omega (arith, h, k)

starts_and : (f g : ℕ → Bool) (n : ℕ) → starts (λ m. f m && g m) n ≤ starts f n + starts g n
unfolding starts
starts_and f g zero = omega arith
starts_and f g (suc n) = let h = starts_and f g n in let k = start_and f g n in omega (arith, h, k)

starts_turned : (f : ℕ → Bool) (n : ℕ) → starts (λ m. not (f m)) (suc n) + cond (f n) 1 0 ≤ starts f (suc n) + 1
unfolding starts
starts_turned f zero = go (f 0)
  where
    go : (a : Bool) → 0 + cond (not a) 1 0 + cond a 1 0 ≤ 0 + cond a 1 0 + 1
    go true = omega arith
    go false = omega arith
starts_turned f (suc n) = let h = starts_turned f n in let k = bit_not (f n) (f (suc n)) in omega (arith, h, k)

starts_not : (f : ℕ → Bool) (n : ℕ) → starts (λ m. not (f m)) n ≤ starts f n + 1
unfolding starts
starts_not f zero = omega arith
starts_not f (suc n) = let h = starts_turned f n in omega (arith, h)

-- ---- sets that lean to one side: up (true) or down (false)

abbrev Leans : Bool → (ℕ → Bool) → Type 0
Leans true f = Up f
Leans false f = Down f

leans_convex : (b : Bool) (f : ℕ → Bool) → Leans b f → Convex f
leans_convex true f h = up_convex f h
leans_convex false f h = down_convex f h

leans_const : (b e : Bool) → Leans b (λ n. e)
leans_const true e = λ a b h p. p
leans_const false e = λ a b h p. p

leans_or : (b : Bool) (f g : ℕ → Bool) → Leans b f → Leans b g → Leans b (λ n. f n || g n)
leans_or true f g h k = or_up f g h k
leans_or false f g h k = or_down f g h k

leans_and : (b : Bool) (f g : ℕ → Bool) → Leans b f → Leans b g → Leans b (λ n. f n && g n)
leans_and true f g h k = and_up f g h k
leans_and false f g h k = λ a b l p. and_make (f a) (g a) (h a b l (and_left (f b) (g b) p)) (k a b l (and_right (f b) (g b) p))

leans_finally : (b : Bool) (g : ℕ → ℕ → Bool) → ((j : ℕ) → Leans b (λ n. g n j)) → (d i : ℕ) → Leans b (λ n. finally_from (g n) d i)
leans_finally b g h zero i = h i
leans_finally b g h (suc d) i = leans_or b (λ n. g n i) (λ n. finally_from (g n) d (suc i)) (h i) (leans_finally b g h d (suc i))

leans_globally : (b : Bool) (g : ℕ → ℕ → Bool) → ((j : ℕ) → Leans b (λ n. g n j)) → (d i : ℕ) → Leans b (λ n. globally_from (g n) d i)
leans_globally b g h zero i = h i
leans_globally b g h (suc d) i = leans_and b (λ n. g n i) (λ n. globally_from (g n) d (suc i)) (h i) (leans_globally b g h d (suc i))

less_up : (m : ℕ) → Up (λ n. ltb m n)
less_up m a b h p = lt-ltb m b (omega (arith, ltb-true m a p))

less_down : (m : ℕ) → Down (λ n. ltb n m)
less_down m a b h p = lt-ltb a m (omega (arith, ltb-true b m p))

-- the side to which a bound leans
abbrev leaning : Relation → Bool
leaning ge = false
leaning le = true
leaning gt = false
leaning lt = true
leaning eq = true

related : (ρ : Relation) → is_eq ρ ≡ false → (m : ℕ) → Leans (leaning ρ) (λ n. relate ρ m n)
related ge h m = ray_down m
related le h m = ray_up m
related gt h m = less_down m
related lt h m = less_up m
related eq h m = absurd (true≢false h)

abbrev leaning_of : Atom → Bool
leaning_of (compare f ρ o) = leaning ρ
leaning_of (A-to-B ρ) = true
leaning_of (fall c) = true
leaning_of (rise c) = true
leaning_of (pigment k) = true

not_eq : (e f : Bool) → (e && not f) ≡ true → f ≡ false
not_eq true true h = absurd (false≢true h)
not_eq true false h = refl
not_eq false f h = absurd (false≢true h)

bound_leans : (a : Atom) → is_bound a ≡ true → (x : Coded) → Leans (leaning_of a) (λ n. atom_val a x n)
bound_leans (compare f ρ v) h x = related ρ (not_eq (of_curve f) (is_eq ρ) h) (coded_field f x)
bound_leans (compare f ρ (number k)) h x = leans_const (leaning ρ) (relate ρ (coded_field f x) k)
bound_leans (A-to-B ρ) h x = absurd (false≢true h)
bound_leans (fall c) h x = absurd (false≢true h)
bound_leans (rise c) h x = absurd (false≢true h)
bound_leans (pigment k) h x = absurd (false≢true h)

atom_convex : (a : Atom) (x : Coded) → Convex (λ n. atom_val a x n)
atom_convex (compare f ge v) x = down_convex _ (ray_down (coded_field f x))
atom_convex (compare f le v) x = up_convex _ (ray_up (coded_field f x))
atom_convex (compare f gt v) x = down_convex _ (less_down (coded_field f x))
atom_convex (compare f lt v) x = up_convex _ (less_up (coded_field f x))
atom_convex (compare f eq v) x = point_convex (coded_field f x)
atom_convex (compare f ge (number k)) x = const_convex (relate ge (coded_field f x) k)
atom_convex (compare f le (number k)) x = const_convex (relate le (coded_field f x) k)
atom_convex (compare f gt (number k)) x = const_convex (relate gt (coded_field f x) k)
atom_convex (compare f lt (number k)) x = const_convex (relate lt (coded_field f x) k)
atom_convex (compare f eq (number k)) x = const_convex (relate eq (coded_field f x) k)
atom_convex (A-to-B ρ) x = const_convex (atom_val (A-to-B ρ) x 0)
atom_convex (fall c) x = const_convex (coded_falls c x)
atom_convex (rise c) x = const_convex (coded_rises c x)
atom_convex (pigment k) x = const_convex (coded_adds k x)

-- ---- what does not write v

module _ (r : List Coded) where
  nameless_atom : (a : Atom) → not (writes_v a) ≡ true → (x : Coded) (m n : ℕ) → atom_val a x m ≡ atom_val a x n
  nameless_atom (compare f ρ v) h x m n = absurd (false≢true h)
  nameless_atom (compare f ρ (number k)) h x m n = refl
  nameless_atom (A-to-B ρ) h x m n = refl
  nameless_atom (fall c) h x m n = refl
  nameless_atom (rise c) h x m n = refl
  nameless_atom (pigment k) h x m n = refl

  pub nameless-val : (q : Text) → nameless q ≡ true → (m n i : ℕ) → val r m q i ≡ val r n q i
  unfolding val
  nameless-val (atom a) h m n i = nameless_atom a h (coded_at r i) m n
  nameless-val (listed q) h m n i = absurd (false≢true h)
  nameless-val (or p q) h m n i = ap₂ ◌||◌ (nameless-val p (and_left (nameless p) (nameless q) h) m n i) (nameless-val q (and_right (nameless p) (nameless q) h) m n i)
  nameless-val (and p q) h m n i = ap₂ ◌&&◌ (nameless-val p (and_left (nameless p) (nameless q) h) m n i) (nameless-val q (and_right (nameless p) (nameless q) h) m n i)
  nameless-val (neg p) h m n i = ap not (nameless-val p h m n i)
  nameless-val (finally p) h m n i = ap (λ (f : ℕ → Bool). finally_from f (last_coded r - i) i) (fun_ext (nameless-val p h m n))
  nameless-val (globally p) h m n i = ap (λ (f : ℕ → Bool). globally_from f (last_coded r - i) i) (fun_ext (nameless-val p h m n))
  nameless-val (next p) h m n i = nameless-val p h m n (min (suc i) (last_coded r))
  nameless-val (until p q) h m n i = ap₂ (λ (f g : ℕ → Bool). until_from f g (last_coded r - i) i)
      (fun_ext (nameless-val p (and_left (nameless p) (nameless q) h) m n)) (fun_ext (nameless-val q (and_right (nameless p) (nameless q) h) m n))
  nameless-val (weak_until p q) h m n i = ap₂ (λ (f g : ℕ → Bool). weak_from f g (last_coded r - i) i)
      (fun_ext (nameless-val p (and_left (nameless p) (nameless q) h) m n)) (fun_ext (nameless-val q (and_right (nameless p) (nameless q) h) m n))

-- ---- NOT MORE RUNS THAN NODES

one-node : (q : Text) → 1 ≤ nodes q
one-node (atom a) = omega arith
one-node (listed q) = omega arith
one-node (or p q) = omega arith
one-node (and p q) = omega arith
one-node (neg p) = omega arith
one-node (finally p) = omega arith
one-node (globally p) = omega arith
one-node (next p) = omega arith
one-node (until p q) = omega arith
one-node (weak_until p q) = omega arith

convex_starts : (f : ℕ → Bool) → Convex f → starts f axis ≤ 1
convex_starts f c = let a = run-count f in let b = convex_runs f c in omega (arith, a, b)

module _ (r : List Coded) where
  abbrev Narrow : Text → ℕ → Type 0
  Narrow q i = starts (λ n. val r n q i) axis ≤ nodes q

  convex_narrow : (q : Text) (i : ℕ) → Convex (λ n. val r n q i) → Narrow q i
  convex_narrow q i c = let a = convex_starts (λ n. val r n q i) c in let b = one-node q in omega (arith, a, b)

  or_narrow : (p q : Text) (i : ℕ) → Narrow p i → Narrow q i → Narrow (or p q) i
  unfolding val
  or_narrow p q i h k = let a = starts_or (λ n. val r n p i) (λ n. val r n q i) axis in omega (arith, a, h, k)

  and_narrow : (p q : Text) (i : ℕ) → Narrow p i → Narrow q i → Narrow (and p q) i
  unfolding val
  and_narrow p q i h k = let a = starts_and (λ n. val r n p i) (λ n. val r n q i) axis in omega (arith, a, h, k)

  neg_narrow : (p : Text) (i : ℕ) → Narrow p i → Narrow (neg p) i
  unfolding val
  neg_narrow p i h = let a = starts_not (λ n. val r n p i) axis in omega (arith, a, h)

  atom_narrow : (a : Atom) (i : ℕ) → Narrow (atom a) i
  unfolding val
  atom_narrow a i = convex_narrow (atom a) i (atom_convex a (coded_at r i))

  nameless_narrow : (q : Text) → nameless q ≡ true → (i : ℕ) → Narrow q i
  nameless_narrow q h i =
      let e = starts_ext (λ n. val r n q i) (λ n. val r 0 q i) axis (λ m l. nameless-val r q h m 0 i) in
      let a = convex_starts (λ n. val r 0 q i) (const_convex (val r 0 q i)) in
      let b = one-node q in
      omega (arith, e, a, b)

  -- a text without F, G, X, U, W and without listed names
  pub plain_narrow : (q : Text) → temporal q ≡ false → has_listed q ≡ false → (i : ℕ) → Narrow q i
  plain_narrow (atom a) h k i = atom_narrow a i
  plain_narrow (listed q) h k i = absurd (true≢false k)
  plain_narrow (or p q) h k i = or_narrow p q i (plain_narrow p (none_left (temporal p) (temporal q) h) (none_left (has_listed p) (has_listed q) k) i)
      (plain_narrow q (none_right (temporal p) (temporal q) h) (none_right (has_listed p) (has_listed q) k) i)
  plain_narrow (and p q) h k i = and_narrow p q i (plain_narrow p (none_left (temporal p) (temporal q) h) (none_left (has_listed p) (has_listed q) k) i)
      (plain_narrow q (none_right (temporal p) (temporal q) h) (none_right (has_listed p) (has_listed q) k) i)
  plain_narrow (neg p) h k i = neg_narrow p i (plain_narrow p h k i)
  plain_narrow (finally p) h k i = absurd (true≢false h)
  plain_narrow (globally p) h k i = absurd (true≢false h)
  plain_narrow (next p) h k i = absurd (true≢false h)
  plain_narrow (until p q) h k i = absurd (true≢false h)
  plain_narrow (weak_until p q) h k i = absurd (true≢false h)

  -- so it is not over 256 runs
  few : (q : Text) (i : ℕ) → nodes q ≤ most_nodes → Narrow q i → large_at r q i ≡ false
  few q i h k = let a = run-count (λ n. val r n q i) in le-ltb most_runs (runs_at r q i) (omega (arith, a, h, k))

  pub plain-under : (q : Text) → temporal q ≡ false → has_listed q ≡ false → nodes q ≤ most_nodes → (i : ℕ) → over_at r q i ≡ false
  unfolding some_node
  plain-under (atom a) h k n i = few (atom a) i n (atom_narrow a i)
  plain-under (listed q) h k n i = absurd (true≢false k)
  plain-under (or p q) h k n i = or_none (few (or p q) i n (plain_narrow (or p q) h k i))
      (or_none (plain-under p (none_left (temporal p) (temporal q) h) (none_left (has_listed p) (has_listed q) k) (omega (arith, n)) i)
      (plain-under q (none_right (temporal p) (temporal q) h) (none_right (has_listed p) (has_listed q) k) (omega (arith, n)) i))
  plain-under (and p q) h k n i = or_none (few (and p q) i n (plain_narrow (and p q) h k i))
      (or_none (plain-under p (none_left (temporal p) (temporal q) h) (none_left (has_listed p) (has_listed q) k) (omega (arith, n)) i)
      (plain-under q (none_right (temporal p) (temporal q) h) (none_right (has_listed p) (has_listed q) k) (omega (arith, n)) i))
  plain-under (neg p) h k n i = or_none (few (neg p) i n (plain_narrow (neg p) h k i)) (plain-under p h k (omega (arith, n)) i)
  plain-under (finally p) h k n i = absurd (true≢false h)
  plain-under (globally p) h k n i = absurd (true≢false h)
  plain-under (next p) h k n i = absurd (true≢false h)
  plain-under (until p q) h k n i = absurd (true≢false h)
  plain-under (weak_until p q) h k n i = absurd (true≢false h)

  nameless-under : (q : Text) → nameless q ≡ true → nodes q ≤ most_nodes → (i : ℕ) → over_at r q i ≡ false
  unfolding some_node
  nameless-under (atom a) h n i = few (atom a) i n (atom_narrow a i)
  nameless-under (listed q) h n i = absurd (false≢true h)
  nameless-under (or p q) h n i = or_none (few (or p q) i n (nameless_narrow (or p q) h i))
      (or_none (nameless-under p (and_left (nameless p) (nameless q) h) (omega (arith, n)) i) (nameless-under q (and_right (nameless p) (nameless q) h) (omega (arith, n)) i))
  nameless-under (and p q) h n i = or_none (few (and p q) i n (nameless_narrow (and p q) h i))
      (or_none (nameless-under p (and_left (nameless p) (nameless q) h) (omega (arith, n)) i) (nameless-under q (and_right (nameless p) (nameless q) h) (omega (arith, n)) i))
  nameless-under (neg p) h n i = or_none (few (neg p) i n (nameless_narrow (neg p) h i)) (nameless-under p h (omega (arith, n)) i)
  nameless-under (finally p) h n i = or_none (few (finally p) i n (nameless_narrow (finally p) h i)) (nameless-under p h (omega (arith, n)) i)
  nameless-under (globally p) h n i = or_none (few (globally p) i n (nameless_narrow (globally p) h i)) (nameless-under p h (omega (arith, n)) i)
  nameless-under (next p) h n i = or_none (few (next p) i n (nameless_narrow (next p) h i)) (nameless-under p h (omega (arith, n)) i)
  nameless-under (until p q) h n i = or_none (few (until p q) i n (nameless_narrow (until p q) h i))
      (or_none (nameless-under p (and_left (nameless p) (nameless q) h) (omega (arith, n)) i) (nameless-under q (and_right (nameless p) (nameless q) h) (omega (arith, n)) i))
  nameless-under (weak_until p q) h n i = or_none (few (weak_until p q) i n (nameless_narrow (weak_until p q) h i))
      (or_none (nameless-under p (and_left (nameless p) (nameless q) h) (omega (arith, n)) i) (nameless-under q (and_right (nameless p) (nameless q) h) (omega (arith, n)) i))

-- ---- F and G of bounds, and F(G(..)) of an atom

convex_globally : (g : ℕ → ℕ → Bool) → ((j : ℕ) → Convex (λ n. g n j)) → (d i : ℕ) → Convex (λ n. globally_from (g n) d i)
convex_globally g h zero i = h i
convex_globally g h (suc d) i = and_convex (λ n. g n i) (λ n. globally_from (g n) d (suc i)) (h i) (convex_globally g h d (suc i))

globally_last : (g : ℕ → Bool) (k d i : ℕ) → i + d ≡ k → globally_from g d i ≡ true → g k ≡ true
globally_last g k zero i e h = let q : k ≡ i = omega arith in ap g q ∙ h
globally_last g k (suc d) i e h = globally_last g k d (suc i) (omega arith) (and_right (g i) _ h)

lasting_last : (g : ℕ → Bool) (k d i : ℕ) → i + d ≡ k → finally_from (λ j. globally_from g (k - j) j) d i ≡ g k
lasting_last g k zero i e = let q : k - i ≡ 0 = omega arith in let c : i ≡ k = omega arith in ap (λ (d : ℕ). globally_from g d i) q ∙ ap g c
lasting_last g k (suc d) i e =
    ap (λ (t : Bool). globally_from g (k - i) i || t) (lasting_last g k d (suc i) (omega arith)) ∙ absorb (globally_from g (k - i) i) (g k) (globally_last g k (k - i) i (omega arith))
  where
    absorb : (e f : Bool) → (e ≡ true → f ≡ true) → (e || f) ≡ f
    absorb true f h = sym (h refl)
    absorb false f h = refl

module _ (r : List Coded) (marks : List ℕ) where
  -- an atom that is a bound; `T>k` says the same for every v
  bound_body : (a : Atom) → is_bound a ≡ true → (j : ℕ) → Leans (leaning_of a) (λ n. val r n (atom a) j)
  unfolding val
  bound_body a h j = bound_leans a h (coded_at r j)

  after_const : (a : Atom) → is_after marks a ≡ true → (b : Bool) (j : ℕ) → Leans b (λ n. val r n (atom a) j)
  unfolding val
  after_const (compare f ρ v) h b j = absurd (false≢true h)
  after_const (compare f ρ (number k)) h b j = leans_const b (relate ρ (coded_field f (coded_at r j)) k)
  after_const (A-to-B ρ) h b j = absurd (false≢true h)
  after_const (fall c) h b j = absurd (false≢true h)
  after_const (rise c) h b j = absurd (false≢true h)
  after_const (pigment k) h b j = absurd (false≢true h)

  not_after : (a : Atom) → is_after marks a ≡ true → (b : Bool) (j : ℕ) → Leans b (λ n. val r n (neg (atom a)) j)
  unfolding val
  not_after (compare f ρ v) h b j = absurd (false≢true h)
  not_after (compare f ρ (number k)) h b j = leans_const b (not (relate ρ (coded_field f (coded_at r j)) k))
  not_after (A-to-B ρ) h b j = absurd (false≢true h)
  not_after (fall c) h b j = absurd (false≢true h)
  not_after (rise c) h b j = absurd (false≢true h)
  not_after (pigment k) h b j = absurd (false≢true h)

  finally_convex : (p : Text) (b : Bool) → ((j : ℕ) → Leans b (λ n. val r n p j)) → (i : ℕ) → Convex (λ n. val r n (finally p) i)
  unfolding val
  finally_convex p b h i = leans_convex b _ (leans_finally b (λ n j. val r n p j) h (last_coded r - i) i)

  globally_convex : (p : Text) (b : Bool) → ((j : ℕ) → Leans b (λ n. val r n p j)) → (i : ℕ) → Convex (λ n. val r n (globally p) i)
  unfolding val
  globally_convex p b h i = leans_convex b _ (leans_globally b (λ n j. val r n p j) h (last_coded r - i) i)

  and_leans : (p q : Text) (b : Bool) (j : ℕ) → Leans b (λ n. val r n p j) → Leans b (λ n. val r n q j) → Leans b (λ n. val r n (and p q) j)
  unfolding val
  and_leans p q b j h k = leans_and b (λ n. val r n p j) (λ n. val r n q j) h k

  or_leans : (p q : Text) (b : Bool) (j : ℕ) → Leans b (λ n. val r n p j) → Leans b (λ n. val r n q j) → Leans b (λ n. val r n (or p q) j)
  unfolding val
  or_leans p q b j h k = leans_or b (λ n. val r n p j) (λ n. val r n q j) h k

  globally_atom : (a : Atom) (i : ℕ) → Convex (λ n. val r n (globally (atom a)) i)
  unfolding val
  globally_atom a i = convex_globally (λ n j. atom_val a (coded_at r j) n) (λ j. atom_convex a (coded_at r j)) (last_coded r - i) i

  globally_under : (a : Atom) (i : ℕ) → nodes (globally (atom a)) ≤ most_nodes → over_at r (globally (atom a)) i ≡ false
  unfolding some_node
  globally_under a i n = or_none (few r (globally (atom a)) i n (convex_narrow r (globally (atom a)) i (globally_atom a i))) (few r (atom a) i (omega (arith, n)) (atom_narrow r a i))

  last_atom : (a : Atom) (i : ℕ) → i ≤ last_coded r → Convex (λ n. val r n (finally (globally (atom a))) i)
  unfolding val
  last_atom a i l =
      let e = fun_ext (λ n. lasting_last (λ j. atom_val a (coded_at r j) n) (last_coded r) (last_coded r - i) i (omega arith)) in
      subst Convex (sym e) (atom_convex a (coded_at r (last_coded r)))

  -- what is said of a shape, of F or G and of what stands in it: the set is one run, and the rest is plain
  abbrev Shape : Text → Text → ℕ → Type 0
  Shape p q i = Narrow r p i × ((n : nodes q ≤ most_nodes) → over_at r q i ≡ false)

  somewhere_shape : (p : Text) → somewhere marks p ≡ true → (i : ℕ) → i ≤ last_coded r → Shape (finally p) p i
  somewhere_shape (atom a) h i l = (convex_narrow r (finally (atom a)) i (finally_convex (atom a) (leaning_of a) (bound_body a h) i), λ n. plain-under r (atom a) refl refl n i)
  somewhere_shape (listed q) h i l = absurd (false≢true h)
  somewhere_shape (or p q) h i l = absurd (false≢true h)
  somewhere_shape (and p q) h i l =
      let f = of-atom (is_after marks) p (and_left (of_atom (is_after marks) p) (of_atom is_bound q) h) in
      let g = of-atom is_bound q (and_right (of_atom (is_after marks) p) (of_atom is_bound q) h) in
      let b = leaning_of g.0 in
      subst (λ (p : Text). Shape (finally (and p q)) (and p q) i) (sym f.1)
      (subst (λ (q : Text). Shape (finally (and (atom f.0) q)) (and (atom f.0) q) i) (sym g.1) (
        convex_narrow r (finally (and (atom f.0) (atom g.0))) i
            (finally_convex (and (atom f.0) (atom g.0)) b (λ j. and_leans (atom f.0) (atom g.0) b j (after_const f.0 f.2 b j) (bound_body g.0 g.2 j)) i),
        λ n. plain-under r (and (atom f.0) (atom g.0)) refl refl n i,
      ))
  somewhere_shape (neg p) h i l = absurd (false≢true h)
  somewhere_shape (finally p) h i l = absurd (false≢true h)
  somewhere_shape (globally p) h i l =
      let f = of-atom (λ a. true) p h in
      subst (λ (p : Text). Shape (finally (globally p)) (globally p) i) (sym f.1)
      (convex_narrow r (finally (globally (atom f.0))) i (last_atom f.0 i l), λ n. globally_under f.0 i n)
  somewhere_shape (next p) h i l = absurd (false≢true h)
  somewhere_shape (until p q) h i l = absurd (false≢true h)
  somewhere_shape (weak_until p q) h i l = absurd (false≢true h)

  throughout_shape : (p : Text) → throughout marks p ≡ true → (i : ℕ) → Shape (globally p) p i
  throughout_shape (atom a) h i = (convex_narrow r (globally (atom a)) i (globally_convex (atom a) (leaning_of a) (bound_body a h) i), λ n. plain-under r (atom a) refl refl n i)
  throughout_shape (listed q) h i = absurd (false≢true h)
  throughout_shape (or p q) h i =
      let f = of-not (is_after marks) p (and_left (of_not (is_after marks) p) (of_atom is_bound q) h) in
      let g = of-atom is_bound q (and_right (of_not (is_after marks) p) (of_atom is_bound q) h) in
      let b = leaning_of g.0 in
      subst (λ (p : Text). Shape (globally (or p q)) (or p q) i) (sym f.1)
      (subst (λ (q : Text). Shape (globally (or (neg (atom f.0)) q)) (or (neg (atom f.0)) q) i) (sym g.1) (
        convex_narrow r (globally (or (neg (atom f.0)) (atom g.0))) i
            (globally_convex (or (neg (atom f.0)) (atom g.0)) b (λ j. or_leans (neg (atom f.0)) (atom g.0) b j (not_after f.0 f.2 b j) (bound_body g.0 g.2 j)) i),
        λ n. plain-under r (or (neg (atom f.0)) (atom g.0)) refl refl n i,
      ))
  throughout_shape (and p q) h i = absurd (false≢true h)
  throughout_shape (neg p) h i = absurd (false≢true h)
  throughout_shape (finally p) h i = absurd (false≢true h)
  throughout_shape (globally p) h i = absurd (false≢true h)
  throughout_shape (next p) h i = absurd (false≢true h)
  throughout_shape (until p q) h i = absurd (false≢true h)
  throughout_shape (weak_until p q) h i = absurd (false≢true h)

  firstly_narrow : (p : Text) → firstly marks p ≡ true → (i : ℕ) → i ≤ last_coded r → Narrow r p i
  firstly_narrow (atom a) h i l = atom_narrow r a i
  firstly_narrow (listed q) h i l = absurd (false≢true h)
  firstly_narrow (or p q) h i l = or_narrow r p q i (firstly_narrow p (and_left (firstly marks p) (firstly marks q) h) i l) (firstly_narrow q (and_right (firstly marks p) (firstly marks q) h) i l)
  firstly_narrow (and p q) h i l = and_narrow r p q i (firstly_narrow p (and_left (firstly marks p) (firstly marks q) h) i l) (firstly_narrow q (and_right (firstly marks p) (firstly marks q) h) i l)
  firstly_narrow (neg p) h i l = neg_narrow r p i (firstly_narrow p h i l)
  firstly_narrow (finally p) h i l = or_cases (somewhere marks p) (steady (finally p) && nameless p) h (λ k. (somewhere_shape p k i l).0)
      (λ k. nameless_narrow r (finally p) (and_right (steady (finally p)) (nameless p) k) i)
  firstly_narrow (globally p) h i l = or_cases (throughout marks p) (steady (globally p) && nameless p) h (λ k. (throughout_shape p k i).0)
      (λ k. nameless_narrow r (globally p) (and_right (steady (globally p)) (nameless p) k) i)
  firstly_narrow (next p) h i l = nameless_narrow r (next p) (and_right (steady (next p)) (nameless p) h) i
  firstly_narrow (until p q) h i l = nameless_narrow r (until p q) (and_right (steady (until p q)) (nameless (until p q)) h) i
  firstly_narrow (weak_until p q) h i l = nameless_narrow r (weak_until p q) (and_right (steady (weak_until p q)) (nameless (weak_until p q)) h) i

  -- NO NODE IS OVER 256 RUNS
  pub firstly-under : (p : Text) → firstly marks p ≡ true → nodes p ≤ most_nodes → (i : ℕ) → i ≤ last_coded r → over_at r p i ≡ false
  unfolding some_node
  firstly-under (atom a) h n i l = few r (atom a) i n (atom_narrow r a i)
  firstly-under (listed q) h n i l = absurd (false≢true h)
  firstly-under (or p q) h n i l = or_none (few r (or p q) i n (firstly_narrow (or p q) h i l))
      (or_none (firstly-under p (and_left (firstly marks p) (firstly marks q) h) (omega (arith, n)) i l) (firstly-under q (and_right (firstly marks p) (firstly marks q) h) (omega (arith, n)) i l))
  firstly-under (and p q) h n i l = or_none (few r (and p q) i n (firstly_narrow (and p q) h i l))
      (or_none (firstly-under p (and_left (firstly marks p) (firstly marks q) h) (omega (arith, n)) i l) (firstly-under q (and_right (firstly marks p) (firstly marks q) h) (omega (arith, n)) i l))
  firstly-under (neg p) h n i l = or_none (few r (neg p) i n (firstly_narrow (neg p) h i l)) (firstly-under p h (omega (arith, n)) i l)
  firstly-under (finally p) h n i l = or_none (few r (finally p) i n (firstly_narrow (finally p) h i l))
      (or_cases (somewhere marks p) (steady (finally p) && nameless p) h (λ k. (somewhere_shape p k i l).1 (omega (arith, n)))
      (λ k. nameless-under r p (and_right (steady (finally p)) (nameless p) k) (omega (arith, n)) i))
  firstly-under (globally p) h n i l = or_none (few r (globally p) i n (firstly_narrow (globally p) h i l))
      (or_cases (throughout marks p) (steady (globally p) && nameless p) h (λ k. (throughout_shape p k i).1 (omega (arith, n)))
      (λ k. nameless-under r p (and_right (steady (globally p)) (nameless p) k) (omega (arith, n)) i))
  firstly-under (next p) h n i l = or_none (few r (next p) i n (firstly_narrow (next p) h i l)) (nameless-under r p (and_right (steady (next p)) (nameless p) h) (omega (arith, n)) i)
  firstly-under (until p q) h n i l = nameless-under r (until p q) (and_right (steady (until p q)) (nameless (until p q)) h) n i
  firstly-under (weak_until p q) h n i l = nameless-under r (weak_until p q) (and_right (steady (weak_until p q)) (nameless (weak_until p q)) h) n i
