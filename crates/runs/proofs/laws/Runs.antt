-- Laws of maximal runs: they depend on the members alone, they are the runs of the cuts, there are as many highs as lows, and they cover the members.
use Rattle.std.specs.Prelude.{ℕ, zero, suc, ◌+◌, ◌-◌, ◌*◌, ◌≤◌, ◌<◌, ◌≡◌, refl, Bool, true, false, not, cond, ◌||◌, ◌&&◌, List, [], ◌∷◌, ◌++◌, ltb, eqb, length, get_or}
use Rattle.std.proofs.Common.{sym, ap, ◌∙◌, append_assoc, append-nil, ⊎_elim, arith, length-append, get_or-append-add, eq-eqb, ne_eqb, lt-ltb, le-ltb, ltb-true}
use Rattle.std.proofs.Math.Path.{ap₂}
use Rattle.std.proofs.lemmas.Bool.{false≢true}
use Rattle.std.proofs.Math.ListN.{get_or-append}
use Rattle.number.specs.Axis.{axis}
use Rattle.number.proofs.laws.Boolean.{and_left, and_right, and_make}
use Rattle.number.proofs.laws.Order.{less_or_not, less-more_equal}
use Rattle.runs.specs.Runs.{starts_at, ends_at, below, lows, highs, run_count, run_bytes, set_bytes}
use Rattle.runs.specs.Set.{xor, inside, Ascending, Canonical}
use Rattle.runs.specs.inner.Emit.{emit}
use Rattle.runs.proofs.laws.Cuts.{xor_false, none, outside, weaken, past, before-run, in_run, behind_run, rest_outside, rest_ended, lone, low_cuts, high_cuts, low_ascending, high_ascending, same_length, two_each, covers, inside-covers, emit_ge, emit_asc}

-- ---- the runs depend on the members alone

below_ext : (P Q : ℕ → Bool) (n : ℕ) → ((v : ℕ) → v < n → P v ≡ Q v) → below P n ≡ below Q n
unfolding below
below_ext P Q zero e = refl
below_ext P Q (suc n) e = ap₂ (λ (l : List ℕ) (b : Bool). l ++ cond b (n ∷ []) []) (below_ext P Q n (λ v h. e v (omega arith))) (e n (omega arith))

starts_ext : (f g : ℕ → Bool) (n : ℕ) → ((v : ℕ) → v < n → f v ≡ g v) → (v : ℕ) → v < n → starts_at f v ≡ starts_at g v
starts_ext f g n e zero h = e zero h
starts_ext f g n e (suc v) h = ap₂ (λ (a b : Bool). a && not b) (e (suc v) h) (e v (omega arith))

ends_ext : (f g : ℕ → Bool) → ((v : ℕ) → v < axis → f v ≡ g v) → (v : ℕ) → v < axis → ends_at f v ≡ ends_at g v
ends_ext f g e v h =
    ⊎_elim (λ k. ap₂ (λ (a b : Bool). a && not (ltb (suc v) axis && b)) (e v h) (e (suc v) k))
    (λ k. rw (le-ltb (suc v) axis k) (ap (λ (a : Bool). a && true) (e v h)))
    (less_or_not (suc v) axis)

module _ (f g : ℕ → Bool) (e : (v : ℕ) → v < axis → f v ≡ g v) where
  pub lows_ext : lows f ≡ lows g
  lows_ext = below_ext (starts_at f) (starts_at g) axis (starts_ext f g axis e)

  pub highs_ext : highs f ≡ highs g
  highs_ext = below_ext (ends_at f) (ends_at g) axis (ends_ext f g e)

  pub run_count_ext : run_count f ≡ run_count g
  run_count_ext = ap length lows_ext

  pub set_bytes_ext : set_bytes f ≡ set_bytes g
  unfolding set_bytes
  set_bytes_ext = ap₂ run_bytes lows_ext highs_ext

-- ---- the part of a set below a number has no more runs than the set

below_fewer : (P Q : ℕ → Bool) (n : ℕ) → ((v : ℕ) → P v ≡ true → Q v ≡ true) → length (below P n) ≤ length (below Q n)
unfolding below
below_fewer P Q zero i = omega arith
below_fewer P Q (suc n) i =
    let h = below_fewer P Q n i in
    let p = length-append (below P n) (cond (P n) (n ∷ []) []) in
    let q = length-append (below Q n) (cond (Q n) (n ∷ []) []) in
    let g = one (P n) (Q n) (i n) in
    omega arith
  where
    one : (a b : Bool) → (a ≡ true → b ≡ true) → length (cond a (n ∷ []) []) ≤ length (cond b (n ∷ []) [])
    one false b i = omega arith
    one true b i = rw (i refl) (omega arith)

pub fewer_below : (f : ℕ → Bool) (x : ℕ) → run_count (λ v. ltb v x && f v) ≤ run_count f
fewer_below f x = below_fewer (starts_at (λ v. ltb v x && f v)) (starts_at f) axis starts
  where
    starts : (v : ℕ) → starts_at (λ v. ltb v x && f v) v ≡ true → starts_at f v ≡ true
    starts zero e = and_right (ltb zero x) (f zero) e
    starts (suc v) e =
        let here = and_left (ltb (suc v) x && f (suc v)) (not (ltb v x && f v)) e in
        let less : v < x = omega (arith, ltb-true (suc v) x (and_left (ltb (suc v) x) (f (suc v)) here)) in
        and_make (f (suc v)) (not (f v)) (and_right (ltb (suc v) x) (f (suc v)) here)
        (sym (ap (λ (b : Bool). not (b && f v)) (lt-ltb v x less)) ∙ and_right (ltb (suc v) x && f (suc v)) (not (ltb v x && f v)) e)

-- ---- an ascending list is the numbers of which P holds, if its elements are

elem : List ℕ → ℕ → Bool
elem [] v = false
elem (c ∷ l) v = eqb c v || elem l v

elem_here : (c : ℕ) (l : List ℕ) → elem (c ∷ l) c ≡ true
unfolding elem
elem_here c l = ap (λ (b : Bool). b || elem l c) (eq-eqb c c refl)

elem_other : (c : ℕ) (l : List ℕ) (v : ℕ) → (c ≡ v → ⊥) → elem (c ∷ l) v ≡ elem l v
unfolding elem
elem_other c l v h = ap (λ (b : Bool). b || elem l v) (ne_eqb c v h)

elem_none : (v : ℕ) → elem [] v ≡ false
unfolding elem
elem_none v = refl

elem_lower : (lo hi : ℕ) (l : List ℕ) (v : ℕ) → Ascending lo hi l → v < lo → elem l v ≡ false
elem_lower lo hi [] v a h = elem_none v
elem_lower lo hi (c ∷ l) v a h = elem_other c l v (λ e. omega arith) ∙ elem_lower (c + 1) hi l v a.2 (omega arith)

-- the numbers from m on, k of them, of which P holds
from : (ℕ → Bool) → ℕ → ℕ → List ℕ
from P m zero = []
from P m (suc k) = cond (P m) (m ∷ []) [] ++ from P (suc m) k

below-from : (P : ℕ → Bool) (m k : ℕ) → below P (m + k) ≡ below P m ++ from P m k
unfolding below from
below-from P m zero = let e : m + 0 ≡ m = omega arith in ap (below P) e ∙ sym (append-nil (below P m))
below-from P m (suc k) =
    let e : m + suc k ≡ suc m + k = omega arith in
    ap (below P) e ∙ below-from P (suc m) k ∙ append_assoc (below P m) (cond (P m) (m ∷ []) []) (from P (suc m) k)

from_here : (P : ℕ → Bool) (m k : ℕ) → P m ≡ true → from P m (suc k) ≡ m ∷ from P (suc m) k
unfolding from
from_here P m k e = ap (λ (b : Bool). cond b (m ∷ []) [] ++ from P (suc m) k) e

from-later : (P : ℕ → Bool) (m k : ℕ) → P m ≡ false → from P m (suc k) ≡ from P (suc m) k
unfolding from
from-later P m k e = ap (λ (b : Bool). cond b (m ∷ []) [] ++ from P (suc m) k) e

from_none : (P : ℕ → Bool) (m : ℕ) → from P m zero ≡ []
unfolding from
from_none P m = refl

from_is : (P : ℕ → Bool) (hi m k : ℕ) (l : List ℕ) → Ascending m hi l → ((v : ℕ) → elem l v ≡ true → v < m + k)
    → ((v : ℕ) → m ≤ v → v < m + k → elem l v ≡ P v) → from P m k ≡ l
from_is P hi m zero [] a u e = from_none P m
from_is P hi m zero (c ∷ l) a u e = absurd (let h : c < m + 0 = u c (elem_here c l) in omega arith)
from_is P hi m (suc k) [] a u e =
    from-later P m k (sym (e m (omega arith) (omega arith)) ∙ elem_none m)
    ∙ from_is P hi (suc m) k [] tt (λ v h. absurd (false≢true (sym (elem_none v) ∙ h))) (λ v h g. e v (omega arith) (omega arith))
from_is P hi m (suc k) (c ∷ l) a u e =
    ⊎_elim
    (λ h.
    from-later P m k (sym (e m (omega arith) (omega arith)) ∙ elem_lower c hi (c ∷ l) m (omega arith, a.1, a.2) h)
    ∙ from_is P hi (suc m) k (c ∷ l) (omega arith, a.1, a.2) (λ v g. omega (arith, u v g)) (λ v g r. e v (omega arith) (omega arith)))
    (λ h.
    let q : c ≡ m = omega arith in
    from_here P m k (sym (e m (omega arith) (omega arith)) ∙ ap (elem (c ∷ l)) (sym q) ∙ elem_here c l)
    ∙ ap₂ ◌∷◌ (sym q)
    (from_is P hi (suc m) k l (weaken (suc m) (c + 1) hi l (omega arith) a.2)
    (λ v g. omega (arith, u v (other v g ∙ g)))
    (λ v g r. sym (elem_other c l v (λ z. omega arith)) ∙ e v (omega arith) (omega arith))))
    (less_or_not m c)
  where
    other : (v : ℕ) → elem l v ≡ true → elem (c ∷ l) v ≡ elem l v
    other v g = elem_other c l v (λ z. absurd (false≢true (sym (elem_lower (c + 1) hi l v a.2 (omega arith)) ∙ g)))

below_is : (P : ℕ → Bool) (hi n : ℕ) (l : List ℕ) → Ascending 0 hi l → ((v : ℕ) → elem l v ≡ true → v < n)
    → ((v : ℕ) → v < n → elem l v ≡ P v) → below P n ≡ l
unfolding below
below_is P hi n l a u e =
    let z : 0 + n ≡ n = omega arith in
    ap (below P) (sym z) ∙ below-from P 0 n ∙ from_is P hi 0 n l a (λ v g. omega (arith, u v g)) (λ v g h. e v (omega arith))

-- ---- the runs of cuts

starts_off : (f : ℕ → Bool) (v : ℕ) → f v ≡ false → starts_at f v ≡ false
starts_off f zero e = e
starts_off f (suc v) e = ap (λ (b : Bool). b && not (f v)) e

starts_on : (f : ℕ → Bool) (v : ℕ) → f v ≡ true → ((u : ℕ) → u < v → f u ≡ false) → starts_at f v ≡ true
starts_on f zero e g = e
starts_on f (suc v) e g = ap₂ (λ (a b : Bool). a && not b) e (g v (omega arith))

starts_in : (f : ℕ → Bool) (u v : ℕ) → u < v → ((w : ℕ) → u ≤ w → w < v → f w ≡ true) → starts_at f v ≡ false
starts_in f u zero h g = absurd (omega arith)
starts_in f u (suc v) h g = ap (λ (b : Bool). f (suc v) && not b) (g v (omega arith) (omega arith)) ∙ and_false (f (suc v))
  where
    and_false : (b : Bool) → (b && false) ≡ false
    and_false true = refl
    and_false false = refl

starts_same : (f g : ℕ → Bool) (d v : ℕ) → d < v → ((w : ℕ) → d ≤ w → f w ≡ g w) → starts_at f v ≡ starts_at g v
starts_same f g d zero h e = absurd (omega arith)
starts_same f g d (suc v) h e = ap₂ (λ (a b : Bool). a && not b) (e (suc v) (omega arith)) (e v (omega arith))

low_elem : (lo hi : ℕ) (l : List ℕ) → Ascending lo hi l → inside l hi ≡ false → (v : ℕ) → elem (low_cuts l) v ≡ starts_at (inside l) v
unfolding low_cuts
low_elem lo hi [] a e v = elem_none v ∙ sym (starts_off (inside []) v (none v))
low_elem lo hi (c ∷ []) a e v = lone lo hi c a e
low_elem lo hi (c ∷ d ∷ r) a e v =
    let ih : elem (low_cuts r) v ≡ starts_at (inside r) v = low_elem (d + 1) hi r a.2.2 (rest_ended lo hi c d r a e) v in
    ⊎_elim
    (λ h. elem_other c (low_cuts r) v (λ q. omega arith) ∙ ih ∙ starts_off (inside r) v (rest_outside lo hi c d r a v (omega arith))
    ∙ sym (starts_off (inside (c ∷ d ∷ r)) v (before-run lo hi c d r a v h)))
    (⊎_elim
    (λ h.
    elem_other c (low_cuts r) v (λ q. omega arith) ∙ ih
    ∙ ⊎_elim
    (λ g. sym (starts_same (inside (c ∷ d ∷ r)) (inside r) d v g (behind_run lo hi c d r a)))
    (λ g. starts_off (inside r) v (rest_outside lo hi c d r a v g) ∙ sym (starts_in (inside (c ∷ d ∷ r)) c v h (λ w p q. in_run lo hi c d r a w p (omega arith))))
    (less_or_not d v))
    (λ q. ap (elem (c ∷ low_cuts r)) q ∙ elem_here c (low_cuts r)
    ∙ sym (starts_on (inside (c ∷ d ∷ r)) v (in_run lo hi c d r a v (omega arith) (omega arith)) (λ u p. before-run lo hi c d r a u (omega arith)))))
    (less-more_equal v c)

off : (b k : Bool) → b ≡ false → (b && k) ≡ false
off b k e = ap (λ (x : Bool). x && k) e

high_elem : (lo hi : ℕ) (l : List ℕ) → Ascending lo hi l → inside l hi ≡ false → (v : ℕ) → elem (high_cuts l) v ≡ (inside l v && not (inside l (suc v)))
unfolding high_cuts
high_elem lo hi [] a e v = elem_none v ∙ sym (ap (λ (b : Bool). b && not (inside [] (suc v))) (none v))
high_elem lo hi (c ∷ []) a e v = lone lo hi c a e
high_elem lo hi (c ∷ d ∷ r) a e v =
    let ih : elem (high_cuts r) v ≡ (inside r v && not (inside r (suc v))) = high_elem (d + 1) hi r a.2.2 (rest_ended lo hi c d r a e) v in
    ⊎_elim
    (λ h. elem_other (d - 1) (high_cuts r) v (λ q. omega arith) ∙ ih ∙ off _ _ (rest_outside lo hi c d r a v (omega arith)) ∙ sym (off _ _ (before-run lo hi c d r a v h)))
    (λ h.
    ⊎_elim
    (λ g.
    elem_other (d - 1) (high_cuts r) v (λ q. omega arith) ∙ ih ∙ off _ _ (rest_outside lo hi c d r a v (omega arith))
    ∙ sym (ap₂ (λ (x y : Bool). x && not y) (in_run lo hi c d r a v h (omega arith)) (in_run lo hi c d r a (suc v) (omega arith) g)))
    (⊎_elim
    (λ g.
    elem_other (d - 1) (high_cuts r) v (λ q. omega arith) ∙ ih
    ∙ sym (ap₂ (λ (x y : Bool). x && not y) (behind_run lo hi c d r a v (omega arith)) (behind_run lo hi c d r a (suc v) (omega arith))))
    (λ q.
    let z : v ≡ d - 1 = omega arith in
    ap (elem ((d - 1) ∷ high_cuts r)) z ∙ elem_here (d - 1) (high_cuts r)
    ∙ sym (ap₂ (λ (x y : Bool). x && not y) (in_run lo hi c d r a v h (omega arith))
    (behind_run lo hi c d r a (suc v) (omega arith) ∙ rest_outside lo hi c d r a (suc v) (omega arith)))))
    (less-more_equal (suc v) d))
    (less_or_not v c)

both : (a b : Bool) → (a && b) ≡ true → a ≡ true
both true b e = refl
both false b e = e

starts-member : (f : ℕ → Bool) (v : ℕ) → starts_at f v ≡ true → f v ≡ true
starts-member f zero e = e
starts-member f (suc v) e = both (f (suc v)) (not (f v)) e

-- what is inside lies on the axis
pub on-axis : (l : List ℕ) → Canonical l → (v : ℕ) → inside l v ≡ true → v < axis
on-axis l c v h =
    ⊎_elim (λ g. g) (λ g. absurd (false≢true (sym (past 0 axis l v c.ascending g ∙ c.ended) ∙ h))) (less_or_not v axis)

-- a list of cuts with the members f
module _ (f : ℕ → Bool) (l : List ℕ) (c : Canonical l) (e : (v : ℕ) → v < axis → inside l v ≡ f v) where
  ends-inside : (v : ℕ) → v < axis → (inside l v && not (inside l (suc v))) ≡ ends_at (inside l) v
  ends-inside v h =
      ⊎_elim (λ g. sym (ap (λ (b : Bool). inside l v && not (b && inside l (suc v))) (lt-ltb (suc v) axis g)))
      (λ g. ap (λ (b : Bool). inside l v && not b) (past 0 axis l (suc v) c.ascending g ∙ c.ended)
      ∙ sym (ap (λ (b : Bool). inside l v && not (b && inside l (suc v))) (le-ltb (suc v) axis g)))
      (less_or_not (suc v) axis)

  -- THE MAXIMAL RUNS ARE THOSE OF THE CUTS
  pub lows_are : lows f ≡ low_cuts l
  lows_are =
      sym (lows_ext (inside l) f e)
      ∙ below_is (starts_at (inside l)) axis axis (low_cuts l) (low_ascending 0 axis l c.ascending)
      (λ v h. on-axis l c v (starts-member (inside l) v (sym (low_elem 0 axis l c.ascending c.ended v) ∙ h)))
      (λ v h. low_elem 0 axis l c.ascending c.ended v)

  pub highs_are : highs f ≡ high_cuts l
  highs_are =
      sym (highs_ext (inside l) f e)
      ∙ below_is (ends_at (inside l)) axis axis (high_cuts l) (high_ascending 0 axis l c.ascending)
      (λ v h. on-axis l c v (both (inside l v) (not (inside l (suc v))) (sym (high_elem 0 axis l c.ascending c.ended v) ∙ h)))
      (λ v h. high_elem 0 axis l c.ascending c.ended v ∙ ends-inside v h)

  pub cuts-bytes : set_bytes f ≡ run_bytes (low_cuts l) (high_cuts l)
  unfolding set_bytes
  cuts-bytes = ap₂ run_bytes lows_are highs_are

  pub cuts-count : length l ≡ 2 * run_count f
  cuts-count = two_each 0 axis l c.ascending c.ended ∙ ap (λ (k : List ℕ). 2 * length k) (sym lows_are)

-- ---- every f has a list of cuts

-- the cuts of f on the k numbers from m on, p being the membership before them
unfoldable pub cuts_from : (ℕ → Bool) → Bool → ℕ → ℕ → List ℕ
cuts_from f p m zero = emit p false m []
cuts_from f p m (suc k) = emit p (f m) m (cuts_from f (f m) (suc m) k)

cuts_ascend : (f : ℕ → Bool) (p : Bool) (m k hi : ℕ) → m + k ≡ hi → Ascending m hi (cuts_from f p m k)
unfolding cuts_from
cuts_ascend f p m zero hi e = emit_asc p false m hi m [] (omega arith) (omega arith) tt
cuts_ascend f p m (suc k) hi e =
    emit_asc p (f m) m hi m (cuts_from f (f m) (suc m) k) (omega arith) (omega arith)
    (weaken (m + 1) (suc m) hi (cuts_from f (f m) (suc m) k) (omega arith) (cuts_ascend f (f m) (suc m) k hi (omega arith)))

cuts-inside : (f : ℕ → Bool) (p : Bool) (m k hi v : ℕ) → m + k ≡ hi → m ≤ v → v < hi → xor p (inside (cuts_from f p m k) v) ≡ f v
unfolding cuts_from
cuts-inside f p m zero hi v e h g = absurd (omega arith)
cuts-inside f p m (suc k) hi v e h g =
    emit_ge p (f m) m (cuts_from f (f m) (suc m) k) v h
    ∙ ⊎_elim (λ r. cuts-inside f (f m) (suc m) k hi v (omega arith) r g)
    (λ r.
    let q : m ≡ v = omega arith in
    ap (xor (f m)) (outside (suc m) hi (cuts_from f (f m) (suc m) k) v (cuts_ascend f (f m) (suc m) k hi (omega arith)) (omega arith)) ∙ xor_false (f m) ∙ ap f q)
    (less_or_not m v)

cuts-ended : (f : ℕ → Bool) (p : Bool) (m k hi : ℕ) → m + k ≡ hi → xor p (inside (cuts_from f p m k) hi) ≡ false
unfolding cuts_from
cuts-ended f p m zero hi e = emit_ge p false m [] hi (omega arith) ∙ none hi
cuts-ended f p m (suc k) hi e = emit_ge p (f m) m (cuts_from f (f m) (suc m) k) hi (omega arith) ∙ cuts-ended f (f m) (suc m) k hi (omega arith)

module _ (f : ℕ → Bool) where
  pub has_cuts : Canonical (cuts_from f false 0 axis)
  has_cuts = record { ascending = cuts_ascend f false 0 axis axis refl; ended = cuts-ended f false 0 axis axis refl }

  pub has_cuts_inside : (v : ℕ) → v < axis → inside (cuts_from f false 0 axis) v ≡ f v
  has_cuts_inside v h = cuts-inside f false 0 axis axis v refl (omega arith) h

  -- as many highs as lows
  pub lows-highs : length (lows f) ≡ length (highs f)
  lows-highs =
      ap length (lows_are f (cuts_from f false 0 axis) has_cuts has_cuts_inside) ∙ same_length (cuts_from f false 0 axis)
      ∙ ap length (sym (highs_are f (cuts_from f false 0 axis) has_cuts has_cuts_inside))

  -- THE RUNS COVER THE MEMBERS
  pub runs_cover : (v : ℕ) → v < axis → covers (lows f) (highs f) v ≡ f v
  runs_cover v h =
      ap₂ (λ (a b : List ℕ). covers a b v) (lows_are f (cuts_from f false 0 axis) has_cuts has_cuts_inside) (highs_are f (cuts_from f false 0 axis) has_cuts has_cuts_inside)
      ∙ inside-covers 0 axis (cuts_from f false 0 axis) v has_cuts.ascending has_cuts.ended ∙ has_cuts_inside v h

-- every number of which P holds below n is below n
below_bound : (P : ℕ → Bool) (n i : ℕ) → i < length (below P n) → get_or (below P n) i 0 < n
unfolding below
below_bound P zero i h = absurd (omega arith)
below_bound P (suc n) i h =
    let l = below P n in
    let e : length (l ++ cond (P n) (n ∷ []) []) ≡ length l + length (cond (P n) (n ∷ []) []) = length-append l (cond (P n) (n ∷ []) []) in
    ⊎_elim
    (λ g. let r = below_bound P n i g in let q = get_or-append l (cond (P n) (n ∷ []) []) 0 i g in omega arith)
    (λ g.
    let k : length l + (i - length l) ≡ i = omega arith in
    let q : get_or (l ++ cond (P n) (n ∷ []) []) i 0 ≡ n =
    ap (λ (j : ℕ). get_or (l ++ cond (P n) (n ∷ []) []) j 0) (sym k) ∙ get_or-append-add l (cond (P n) (n ∷ []) []) (i - length l) 0
    ∙ single (P n) (i - length l) (omega arith) in
    omega arith)
    (less_or_not i (length l))
  where
    single : (b : Bool) (k : ℕ) → k < length (cond b (n ∷ []) []) → get_or (cond b (n ∷ []) []) k 0 ≡ n
    single true zero g = refl
    single true (suc k) g = absurd (omega arith)
    single false k g = absurd (omega arith)

module _ (f : ℕ → Bool) where
  pub lows_on_axis : (i : ℕ) → i < length (lows f) → get_or (lows f) i 0 < axis
  lows_on_axis = below_bound (starts_at f) axis

  pub highs_on_axis : (i : ℕ) → i < length (highs f) → get_or (highs f) i 0 < axis
  highs_on_axis = below_bound (ends_at f) axis

-- ---- the bytes

pub run_bytes-length : (ls hs : List ℕ) → length ls ≡ length hs → length (run_bytes ls hs) ≡ 8 * length ls
run_bytes-length [] hs e = refl
run_bytes-length (l ∷ ls) [] e = absurd (omega arith)
run_bytes-length (l ∷ ls) (h ∷ hs) e = let ih : length (run_bytes ls hs) ≡ 8 * length ls = run_bytes-length ls hs (omega arith) in omega arith

-- eight bytes for each run
pub set_bytes-length : (f : ℕ → Bool) → length (set_bytes f) ≡ 8 * run_count f
unfolding set_bytes
set_bytes-length f = run_bytes-length (lows f) (highs f) (lows-highs f)
