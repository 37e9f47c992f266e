-- REFUSAL 8 OF AN EVEN, STEADY TEXT: no set at a reading that is left out has more runs than some set at a selected one.
use Rattle.std.specs.Prelude.{ℕ, zero, suc, ◌≤◌, ◌<◌, ◌≡◌, refl, Bool, true, false, ◌&&◌, not, ◌⊎◌, ◌↔◌, ℤ, length}
use Rattle.std.proofs.Common.{arith, le_refl, sym, ap, subst, inl, inr, ⊎_elim}
use Rattle.std.proofs.Math.Bool.{So}
use Rattle.std.proofs.lemmas.Bool.{false≢true, not-true}
use mathlib.Core.List.Memᴰ
use mathlib.Core.List.{List, [], ◌∷◌, map, Memᴰ}
use Rattle.number.specs.Axis.{axis, whole}
use Rattle.number.proofs.laws.Boolean.{same, or_cases, and_left, and_right, then, back}
use Rattle.runs.specs.Runs.{run_count, most_runs}
use Rattle.recording.specs.Reading.{Reading}
use Rattle.grammar.specs.Size.{temporal, has_listed, nodes, most_nodes}
use Rattle.grammar.specs.Syntax.{Text, atom, listed, or, and, neg, finally, globally, next, until, weak_until}
use Rattle.meaning.specs.Meaning.{Holds}
use Rattle.meaning.specs.Overfull.{children, Node, itself, of_child, IsSet}
use Rattle.meaning.specs.inner.Coded.{code}
use Rattle.meaning.specs.inner.Truth.{val}
use Rattle.meaning.specs.inner.Recorded.{InRange}
use Rattle.meaning.proofs.laws.Truth.{val_holds}
use Rattle.meaning.proofs.laws.Run.{run-count, runs_ext, const_convex, convex_runs}
use Rattle.kept.specs.Selection.{select}
use Rattle.assured.specs.Assured.{is_slope, of_atom, of_not, fixed, drifts, steady, calm, even}
use Rattle.assured.proofs.laws.Suffix.{At, Some, shift, step_next}
use Rattle.assured.proofs.laws.Carried.{Thinned, thinned_some, AtKept, Stays, fixed_at, of-atom, of-not, unlisted, steady_kept, steady_everywhere}
use Rattle.assured.proofs.laws.FewRuns.{plain_narrow}

-- ---- sets from one reading to the next

some_long : (s : List Reading) → Some s → 0 < length s
some_long [] h = absurd h
some_long (x ∷ s) h = omega arith

module _ (f : ℕ → Bool) (q : Text) (u : has_listed q ≡ false) where
  set_behind : (x : Reading) (s : List Reading) → Some s → (j : ℕ) → IsSet f s q j → IsSet f (x ∷ s) q (suc j)
  set_behind x [] h j e = absurd h
  set_behind x (y ∷ l) h j e = λ n k. then (e n k) (back (shift (whole n) x y l q u j))

  set_ahead : (x : Reading) (s : List Reading) → Some s → (j : ℕ) → IsSet f (x ∷ s) q (suc j) → IsSet f s q j
  set_ahead x [] h j e = absurd h
  set_ahead x (y ∷ l) h j e = λ n k. then (e n k) (shift (whole n) x y l q u j)

  -- from the selection to the recording
  goes_up : ((z : ℤ) → AtKept (At z q)) → (mask : List Bool) (l : List Reading) (j : ℕ) → Thinned mask l → j < length (select mask l) → IsSet f (select mask l) q j
      → (i : ℕ) × (i < length l) × IsSet f l q i
  goes_up kept [] [] j t h e = absurd t
  goes_up kept (m ∷ mask) [] j t h e = absurd t
  goes_up kept [] (x ∷ l) j t h e = absurd t
  goes_up kept (true ∷ mask) (x ∷ l) zero t h e = (0, omega arith, λ n k. then (e n k) (back (kept (whole n) mask x l t)))
  goes_up kept (true ∷ mask) (x ∷ []) (suc j) t h e = absurd (omega arith)
  goes_up kept (true ∷ mask) (x ∷ (y ∷ l)) (suc j) t h e =
      let d = goes_up kept mask (y ∷ l) j t (omega arith) (set_ahead x (select mask (y ∷ l)) (thinned_some mask (y ∷ l) t) j e) in
      (suc d.0, omega (arith, d.1), set_behind x (y ∷ l) tt d.0 d.2)
  goes_up kept (false ∷ mask) (x ∷ []) j t h e = absurd t
  goes_up kept (false ∷ mask) (x ∷ (y ∷ l)) j t h e =
      let d = goes_up kept mask (y ∷ l) j t.1 h e in
      (suc d.0, omega (arith, d.1), set_behind x (y ∷ l) tt d.0 d.2)

-- from the recording to the selection, where the set is that of q or of q'
module _ (f : ℕ → Bool) (q q' : Text) (u : has_listed q ≡ false) (u' : has_listed q' ≡ false)
    (here : (mask : List Bool) (l : List Reading) → Thinned mask l → IsSet f l q 0 → IsSet f (select mask l) q 0 ⊎ IsSet f (select mask l) q' 0) where
  goes_down : (mask : List Bool) (l : List Reading) (i : ℕ) → Thinned mask l → i < length l → IsSet f l q i
      → (j : ℕ) × (j < length (select mask l)) × (IsSet f (select mask l) q j ⊎ IsSet f (select mask l) q' j)
  goes_down [] [] i t h e = absurd t
  goes_down (m ∷ mask) [] i t h e = absurd t
  goes_down [] (x ∷ l) i t h e = absurd t
  goes_down (true ∷ mask) (x ∷ l) zero t h e = (0, omega arith, here (true ∷ mask) (x ∷ l) t e)
  goes_down (true ∷ mask) (x ∷ []) (suc i) t h e = absurd (omega arith)
  goes_down (true ∷ mask) (x ∷ (y ∷ l)) (suc i) t h e =
      let s = thinned_some mask (y ∷ l) t in
      let d = goes_down mask (y ∷ l) i t (omega arith) (set_ahead f q u x (y ∷ l) tt i e) in (
        suc d.0,
        omega (arith, d.1),
        ⊎_elim (λ a. inl (set_behind f q u x (select mask (y ∷ l)) s d.0 a)) (λ a. inr (set_behind f q' u' x (select mask (y ∷ l)) s d.0 a)) d.2,
      )
  goes_down (false ∷ mask) (x ∷ []) i t h e = absurd t
  goes_down (false ∷ mask) (x ∷ (y ∷ l)) zero t h e = (0, some_long (select mask (y ∷ l)) (thinned_some mask (y ∷ l) t.1), here (false ∷ mask) (x ∷ (y ∷ l)) t e)
  goes_down (false ∷ mask) (x ∷ (y ∷ l)) (suc i) t h e = goes_down mask (y ∷ l) i t.1 (omega arith) (set_ahead f q u x (y ∷ l) tt i e)

-- ---- what the set of a node may be at a reading that is left out

module _ (f : ℕ → Bool) (many : most_runs < run_count f) where
  -- that of the next one
  here_steady : (q : Text) → steady q ≡ true → drifts true q ≡ true → drifts false q ≡ true → (q' : Text) → (mask : List Bool) (l : List Reading) → Thinned mask l → IsSet f l q 0 → IsSet f (select mask l) q 0 ⊎ IsSet f (select mask l) q' 0
  here_steady q h d d' q' mask l t e = inl (λ n k. then (e n k) (steady_everywhere (whole n) q h d d' mask l t))

  -- nothing or everything
  all_or_none : (b : Bool) (P : ℕ → Type 0) → ((n : ℕ) → n < axis → (f n ≡ true) ↔ P n) → ((n : ℕ) → Stays b (P n)) → ⊥
  all_or_none b P e s =
      let a = runs_ext f (λ n. b) (λ n k. is b (f n) (P n) (e n k) (s n)) in
      let c = convex_runs (λ n. b) (const_convex b) in
      omega (arith, many, a, c)
    where
      is : (b e : Bool) (P : Type 0) → (e ≡ true) ↔ P → Stays b P → e ≡ b
      is true e P d s = d.1 s
      is false true P d s = absurd (s (d.0 refl))
      is false false P d s = refl

  here_fixed : (b : Bool) (q : Text) → steady q ≡ true → fixed b q ≡ true → (q' : Text) → (mask : List Bool) (l : List Reading) → Thinned mask l → IsSet f l q 0
      → IsSet f (select mask l) q 0 ⊎ IsSet f (select mask l) q' 0
  here_fixed b q h k q' [] [] t e = absurd t
  here_fixed b q h k q' (m ∷ mask) [] t e = absurd t
  here_fixed b q h k q' [] (x ∷ l) t e = absurd t
  here_fixed b q h k q' (true ∷ mask) (x ∷ l) t e = inl (λ n i. then (e n i) (steady_kept (whole n) q h mask x l t))
  here_fixed b q h k q' (false ∷ mask) (x ∷ []) t e = absurd t
  here_fixed b q h k q' (false ∷ mask) (x ∷ (y ∷ l)) t e =
      absurd (all_or_none b (λ n. At (whole n) q (x ∷ (y ∷ l))) e (λ n. fixed_at (whole n) x (y ∷ l) t.0.bare b q k))

  -- X(p): that of p at the next one
  here_next : (p : Text) → steady (next p) ≡ true → (mask : List Bool) (l : List Reading) → Thinned mask l → IsSet f l (next p) 0 → IsSet f (select mask l) (next p) 0 ⊎ IsSet f (select mask l) p 0
  here_next p h [] [] t e = absurd t
  here_next p h (m ∷ mask) [] t e = absurd t
  here_next p h [] (x ∷ l) t e = absurd t
  here_next p h (true ∷ mask) (x ∷ l) t e = inl (λ n i. then (e n i) (steady_kept (whole n) (next p) h mask x l t))
  here_next p h (false ∷ mask) (x ∷ []) t e = absurd t
  here_next p h (false ∷ mask) (x ∷ (y ∷ l)) t e =
      let k = and_left (steady p) _ h in let d = and_right (steady p) _ h in
      inr (λ n i. then (e n i) (then (step_next (whole n) p (unlisted p k) x (y ∷ l) tt)
      (steady_everywhere (whole n) p k (and_left (drifts true p) (drifts false p) d) (and_right (drifts true p) (drifts false p) d) mask (y ∷ l) t.1)))

-- ---- the nodes of an even, steady text

abbrev Steady : Text → Type 0
Steady p = (steady p ≡ true) × (even p ≡ true)

two : (P : Text → Type 0) (p q c : Text) → Memᴰ c (p ∷ q ∷ []) → P p → P q → P c
two P p q c m a b = ⊎_elim (λ (e : c ≡ p). subst P (sym e) a) (λ m. subst P (sym (Memᴰ.eq_of_singleton m)) b) (Memᴰ.cases_cons m)

one : (P : Text → Type 0) (p c : Text) → Memᴰ c (p ∷ []) → P p → P c
one P p c m a = subst P (sym (Memᴰ.eq_of_singleton m)) a

steady_child : (p c : Text) → Memᴰ c (children p) → Steady p → Steady c
steady_child (atom a) c m h = absurd (Memᴰ.not-nil m)
steady_child (listed q) c m h = absurd (Memᴰ.not-nil m)
steady_child (or p q) c m h =
    let e = and_right (calm (or p q)) (even p && even q) h.1 in
    two Steady p q c m (and_left (steady p) (steady q) h.0, and_left (even p) (even q) e) (and_right (steady p) (steady q) h.0, and_right (even p) (even q) e)
steady_child (and p q) c m h =
    let e = and_right (calm (and p q)) (even p && even q) h.1 in
    two Steady p q c m (and_left (steady p) (steady q) h.0, and_left (even p) (even q) e) (and_right (steady p) (steady q) h.0, and_right (even p) (even q) e)
steady_child (neg p) c m h = one Steady p c m (h.0, and_right (calm (neg p)) (even p) h.1)
steady_child (finally p) c m h = one Steady p c m (
  or_cases (steady p && drifts true p) (of_atom is_slope p) h.0 (λ g. and_left (steady p) (drifts true p) g) (λ s. ap steady (of-atom is_slope p s).1),
  h.1,
)
steady_child (globally p) c m h = one Steady p c m (
  or_cases (steady p && drifts false p) (of_not is_slope p) h.0 (λ g. and_left (steady p) (drifts false p) g) (λ s. ap steady (of-not is_slope p s).1),
  h.1,
)
steady_child (next p) c m h = one Steady p c m (and_left (steady p) _ h.0, h.1)
steady_child (until p q) c m h =
    let k = and_left (steady p && steady q) _ h.0 in
    two Steady p q c m (and_left (steady p) (steady q) k, and_left (even p) (even q) h.1) (and_right (steady p) (steady q) k, and_right (even p) (even q) h.1)
steady_child (weak_until p q) c m h =
    let k = and_left (steady p && steady q) _ h.0 in
    two Steady p q c m (and_left (steady p) (steady q) k, and_left (even p) (even q) h.1) (and_right (steady p) (steady q) k, and_right (even p) (even q) h.1)

steady-node : (q p : Text) → Node q p → Steady p → Steady q
steady-node q p (itself {p = t}) h = h
steady-node q p (of_child {p = t} {c = c} m n) h = steady-node q c n (steady_child t c m h)

small_child : (p c : Text) → Memᴰ c (children p) → nodes c ≤ nodes p
small_child (atom a) c m = absurd (Memᴰ.not-nil m)
small_child (listed q) c m = absurd (Memᴰ.not-nil m)
small_child (or p q) c m = two (λ c. nodes c ≤ nodes (or p q)) p q c m (omega arith) (omega arith)
small_child (and p q) c m = two (λ c. nodes c ≤ nodes (and p q)) p q c m (omega arith) (omega arith)
small_child (neg p) c m = one (λ c. nodes c ≤ nodes (neg p)) p c m (omega arith)
small_child (finally p) c m = one (λ c. nodes c ≤ nodes (finally p)) p c m (omega arith)
small_child (globally p) c m = one (λ c. nodes c ≤ nodes (globally p)) p c m (omega arith)
small_child (next p) c m = one (λ c. nodes c ≤ nodes (next p)) p c m (omega arith)
small_child (until p q) c m = two (λ c. nodes c ≤ nodes (until p q)) p q c m (omega arith) (omega arith)
small_child (weak_until p q) c m = two (λ c. nodes c ≤ nodes (weak_until p q)) p q c m (omega arith) (omega arith)

small_node : (q p : Text) → Node q p → nodes q ≤ nodes p
small_node q p (itself {p = t}) = le_refl (nodes t)
small_node q p (of_child {p = t} {c = c} m n) = omega (arith, small_node q c n, small_child t c m)

below-node : (c q p : Text) → Memᴰ c (children q) → Node q p → Node c p
below-node c q p m (itself {p = t}) = of_child m itself
below-node c q p m (of_child {p = t} {c = d} k n) = of_child k (below-node c q d m n)

-- the set of a node without F, G, X, U and W has few runs
plain_few : (r : List Reading) → InRange r → (q : Text) → temporal q ≡ false → has_listed q ≡ false → nodes q ≤ most_nodes → (i : ℕ) → i < length r
    → (f : ℕ → Bool) → IsSet f r q i → most_runs < run_count f → ⊥
plain_few r range q h u n i l f e many =
    let a = runs_ext f (λ m. val (map code r) m q i) (λ m k. same _ _ (λ t. (v m).1 ((e m k).0 t)) (λ t. (e m k).1 ((v m).0 t))) in
    let b = run-count (λ m. val (map code r) m q i) in
    let c = plain_narrow (map code r) q h u i in
    omega (arith, many, a, b, c, n)
  where
    v : (m : ℕ) → So (val (map code r) m q i) ↔ Holds r (whole m) q i
    v m = val_holds r range m q i (omega arith)

-- ---- REFUSAL 8

-- some node's set at some record has over 256 runs: as `Overfull`, whatever the text writes
pub record Over (r : List Reading) (p : Text) : Type 0 where
  pub node : Text
  pub of_text : Node node p
  pub at : ℕ
  pub inside : at < length r
  pub set : ℕ → Bool
  pub is-set : IsSet set r node at
  pub many : most_runs < run_count set

module _ (p : Text) (held : Steady p) (sized : nodes p ≤ most_nodes) (mask : List Bool) (r : List Reading) (thin : Thinned mask r) where
  found : (f : ℕ → Bool) → most_runs < run_count f → (q : Text) → Node q p → (j : ℕ) → j < length (select mask r) → IsSet f (select mask r) q j → Over (select mask r) p
  found f many q n j l e = record { node = q; of_text = n; at = j; inside = l; set = f; is-set = e; many = many }

  pub even_down : InRange r → Over r p → Over (select mask r) p
  even_down range o = by q (steady-node q p o.of_text held) o.of_text o.is-set
    where
      q : Text
      q = o.node

      f : ℕ → Bool
      f = o.set

      down : (q q' : Text) → Node q p → Node q' p → has_listed q ≡ false → has_listed q' ≡ false
          → ((mask : List Bool) (l : List Reading) → Thinned mask l → IsSet f l q 0 → IsSet f (select mask l) q 0 ⊎ IsSet f (select mask l) q' 0)
          → IsSet f r q o.at → Over (select mask r) p
      down q q' n n' u u' here e =
          let d = goes_down f q q' u u' here mask r o.at thin o.inside e in
          ⊎_elim (λ a. found f o.many q n d.0 d.1 a) (λ a. found f o.many q' n' d.0 d.1 a) d.2

      -- a node that is the same everywhere
      by_steady : (q : Text) → steady q ≡ true → drifts true q ≡ true → drifts false q ≡ true → Node q p → IsSet f r q o.at → Over (select mask r) p
      by_steady q h d d' n e = down q q n n (unlisted q h) (unlisted q h) (here_steady f o.many q h d d' q) e

      by_calm : (q : Text) → steady q ≡ true → calm q ≡ true → Node q p → IsSet f r q o.at → Over (select mask r) p
      by_calm q h c n e = or_cases (not (temporal q)) _ c
          (λ k. let z = small_node q p n in absurd (plain_few r range q (not-true (temporal q) k) (unlisted q h) (omega (arith, z, sized)) o.at o.inside f e o.many))
          (λ k. or_cases (drifts true q && drifts false q) _ k (λ s. by_steady q h (and_left (drifts true q) (drifts false q) s) (and_right (drifts true q) (drifts false q) s) n e)
          (λ k. or_cases (fixed true q) (fixed false q) k
          (λ s. down q q n n (unlisted q h) (unlisted q h) (here_fixed f o.many true q h s q) e)
          (λ s. down q q n n (unlisted q h) (unlisted q h) (here_fixed f o.many false q h s q) e)))

      by : (q : Text) → Steady q → Node q p → IsSet f r q o.at → Over (select mask r) p
      by (atom a) s n e = by_calm (atom a) s.0 refl n e
      by (listed q) s n e = absurd (false≢true s.0)
      by (or a b) s n e = by_calm (or a b) s.0 (and_left (calm (or a b)) _ s.1) n e
      by (and a b) s n e = by_calm (and a b) s.0 (and_left (calm (and a b)) _ s.1) n e
      by (neg a) s n e = by_calm (neg a) s.0 (and_left (calm (neg a)) _ s.1) n e
      by (finally a) s n e = by_steady (finally a) s.0 refl refl n e
      by (globally a) s n e = by_steady (globally a) s.0 refl refl n e
      by (next a) s n e =
          let u = unlisted (next a) s.0 in
          down (next a) a n (below-node a (next a) p (Memᴰ.head refl) n) u u (here_next f o.many a s.0) e
      by (until a b) s n e = by_steady (until a b) s.0 refl refl n e
      by (weak_until a b) s n e = by_steady (weak_until a b) s.0 refl refl n e

  pub even_up : Over (select mask r) p → Over r p
  even_up o =
      let h = (steady-node o.node p o.of_text held).0 in
      let d = goes_up o.set o.node (unlisted o.node h) (λ z. steady_kept z o.node h) mask r o.at thin o.inside o.is-set in
      record { node = o.node; of_text = o.of_text; at = d.0; inside = d.1; set = o.set; is-set = d.2; many = o.many }
