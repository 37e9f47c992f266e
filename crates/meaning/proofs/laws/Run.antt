-- The number of runs: by membership on the axis alone; at most one where the set has no gap; not fewer where a number below all others is put in.
use Rattle.std.specs.Prelude.{◌≡◌, refl, Bool, not, ◌&&◌, ◌||◌, ◌⊎◌, [], ◌∷◌, ltb, leb, eqb, length}
use Rattle.std.proofs.Common.{sym, ◌∙◌, true≢false, length-append, eqb-true, eq-eqb, ne_eqb, le-ltb, leb-true, le-leb}
use Rattle.std.proofs.Math.Path.{ap}
use Rattle.std.proofs.Math.Bool.{true, false, cond}
use Rattle.std.proofs.Math.Logic.{inl, inr, ⊎_elim}
use Prim.Native.Nat.{ℕ, zero, suc, ◌+◌, ◌<◌, ◌≤◌}
use native.Mathlib.Omega.{arith}
use Rattle.std.proofs.Math.Decide.{dec_lt, ℕ_discrete}
use Rattle.number.specs.Axis.{axis}
use Rattle.runs.specs.Runs.{starts_at, below, run_count, most_runs}
use Rattle.number.proofs.laws.Boolean.{and_left, and_right, and_make, or_left, or_right, or_cases, and_true}
use Rattle.number.proofs.laws.Order.{one_at_most}

-- how many runs of f start below n
unfoldable pub starts : (ℕ → Bool) → ℕ → ℕ
starts f zero = 0
starts f (suc n) = starts f n + cond (starts_at f n) 1 0

pub count-starts : (f : ℕ → Bool) (n : ℕ) → length (below (starts_at f) n) ≡ starts f n
unfolding below starts
count-starts f zero = refl
count-starts f (suc n) =
    length-append (below (starts_at f) n) (cond (starts_at f n) (n ∷ []) []) ∙ (λ i. count-starts f n i + one (starts_at f n) i)
  where
    one : (e : Bool) → length (cond e (n ∷ []) []) ≡ cond e 1 0
    one true = refl
    one false = refl

pub run-count : (f : ℕ → Bool) → run_count f ≡ starts f axis
run-count f = count-starts f axis

-- ---- by membership

start_ext : (f g : ℕ → Bool) (n : ℕ) → ((m : ℕ) → m ≤ n → f m ≡ g m) → starts_at f n ≡ starts_at g n
start_ext f g zero e = e zero (omega arith)
start_ext f g (suc n) e = let x = e (suc n) (omega arith) in let y = e n (omega arith) in λ i. x i && not (y i)

pub starts_ext : (f g : ℕ → Bool) (n : ℕ) → ((m : ℕ) → m < n → f m ≡ g m) → starts f n ≡ starts g n
unfolding starts
starts_ext f g zero e = refl
starts_ext f g (suc n) e =
    let x = starts_ext f g n (λ m l. e m (omega arith)) in
    let y = start_ext f g n (λ m l. e m (omega arith)) in
    λ i. x i + cond (y i) 1 0

pub runs_ext : (f g : ℕ → Bool) → ((m : ℕ) → m < axis → f m ≡ g m) → run_count f ≡ run_count g
runs_ext f g e = run-count f ∙ starts_ext f g axis e ∙ sym (run-count g)

-- ---- sets without a gap

abbrev pub Convex : (ℕ → Bool) → Type 0
Convex f = (a b c : ℕ) → a ≤ b → b ≤ c → f a ≡ true → f c ≡ true → f b ≡ true

abbrev pub Up : (ℕ → Bool) → Type 0
Up f = (a b : ℕ) → a ≤ b → f a ≡ true → f b ≡ true

abbrev pub Down : (ℕ → Bool) → Type 0
Down f = (a b : ℕ) → a ≤ b → f b ≡ true → f a ≡ true

pub up_convex : (f : ℕ → Bool) → Up f → Convex f
up_convex f u a b c h k p q = u a b h p

pub down_convex : (f : ℕ → Bool) → Down f → Convex f
down_convex f d a b c h k p q = d b c k q

pub const_convex : (e : Bool) → Convex (λ n. e)
const_convex e a b c h k p q = p

pub const_up : (e : Bool) → Up (λ n. e)
const_up e a b h p = p

pub and_convex : (f g : ℕ → Bool) → Convex f → Convex g → Convex (λ n. f n && g n)
and_convex f g u s a b c h k p q =
    and_make (f b) (g b) (u a b c h k (and_left (f a) (g a) p) (and_left (f c) (g c) q)) (s a b c h k (and_right (f a) (g a) p) (and_right (f c) (g c) q))

pub point_convex : (t : ℕ) → Convex (λ n. eqb n t)
point_convex t a b c h k p q = eq-eqb b t (omega (arith, eqb-true a t p, eqb-true c t q))

pub or_up : (f g : ℕ → Bool) → Up f → Up g → Up (λ n. f n || g n)
or_up f g u s a b h p = or_cases (f a) (g a) p (λ k. or_left (f b) (g b) (u a b h k)) (λ k. or_right (f b) (g b) (s a b h k))

pub and_up : (f g : ℕ → Bool) → Up f → Up g → Up (λ n. f n && g n)
and_up f g u s a b h p = and_make (f b) (g b) (u a b h (and_left (f a) (g a) p)) (s a b h (and_right (f a) (g a) p))

pub or_down : (f g : ℕ → Bool) → Down f → Down g → Down (λ n. f n || g n)
or_down f g u s a b h p = or_cases (f b) (g b) p (λ k. or_left (f a) (g a) (u a b h k)) (λ k. or_right (f a) (g a) (s a b h k))

pub ray_up : (m : ℕ) → Up (λ n. leb m n)
ray_up m a b h p = le-leb m b (omega (arith, leb-true m a p))

pub ray_down : (m : ℕ) → Down (λ n. leb n m)
ray_down m a b h p = le-leb a m (omega (arith, leb-true b m p))

-- below n nothing is in, or one run has started
abbrev Counted : (ℕ → Bool) → ℕ → Type 0
Counted f n = ((starts f n ≡ 0) × ((a : ℕ) → a < n → f a ≡ false)) ⊎ ((starts f n ≡ 1) × ((a : ℕ) × (a < n) × (f a ≡ true)))

-- a run starts at n where nothing below is in
start_first : (f : ℕ → Bool) (n : ℕ) → ((a : ℕ) → a < n → f a ≡ false) → starts_at f n ≡ f n
start_first f zero h = refl
start_first f (suc n) h = ap (λ (e : Bool). f (suc n) && not e) (h n (omega arith)) ∙ sym (and_true (f (suc n)))

module _ (f : ℕ → Bool) (convex : Convex f) where
  counted : (n : ℕ) → Counted f n
  unfolding starts
  counted zero = inl (refl, λ a h. absurd (omega arith))
  counted (suc n) = ⊎_elim (λ c. none c (f n) refl) (λ c. one n c (starts_at f n) refl) (counted n)
    where
      none : ((starts f n ≡ 0) × ((a : ℕ) → a < n → f a ≡ false)) → (e : Bool) → f n ≡ e → Counted f (suc n)
      none c false h = inl (rw (start_first f n c.1, h) (omega (arith, c.0)), λ a k. still a k (dec_lt a n))
        where
          still : (a : ℕ) → a < suc n → Dec (a < n) → f a ≡ false
          still a k (yes l) = c.1 a l
          still a k (no l) = let e : a ≡ n = omega arith in ap f e ∙ h
      none c true h = inr (rw (start_first f n c.1, h) (omega (arith, c.0)), (n, omega arith, h))

      one : (n : ℕ) → ((starts f n ≡ 1) × ((a : ℕ) × (a < n) × (f a ≡ true))) → (e : Bool) → starts_at f n ≡ e → Counted f (suc n)
      one n c false h = inr (rw h (omega (arith, c.0)), (c.1.0, omega (arith, c.1.1), c.1.2))
      one zero c true h = absurd (omega (arith, c.1.1))
      one (suc m) c true h =
          let i : f (suc m) ≡ true = and_left (f (suc m)) (not (f m)) h in
          let o : not (f m) ≡ true = and_right (f (suc m)) (not (f m)) h in
          absurd (true≢false (sym o ∙ ap not (convex c.1.0 m (suc m) (omega (arith, c.1.1)) (omega arith) c.1.2 i)))

  convex_starts : (n : ℕ) → starts f n ≤ 1
  convex_starts n = ⊎_elim (λ c. omega (arith, c.0)) (λ c. omega (arith, c.0)) (counted n)

  -- A SET WITHOUT A GAP HAS AT MOST ONE RUN
  pub convex_runs : run_count f ≤ 1
  convex_runs = omega (arith, run-count f, convex_starts axis)

  pub convex_few : ltb most_runs (run_count f) ≡ false
  convex_few = le-ltb most_runs (run_count f) (omega (arith, convex_runs))

-- ---- a number put in below all others

with : ℕ → (ℕ → Bool) → ℕ → Bool
with t f n = eqb n t || f n

one_at : ℕ → ℕ → ℕ
one_at n t = cond (eqb n (suc t)) 1 0

module _ (f : ℕ → Bool) (t : ℕ) (low : (n : ℕ) → f n ≡ true → t < n) where
  none_low : (n : ℕ) → n ≤ t → f n ≡ false
  none_low n h = go (f n) (low n)
    where
      go : (e : Bool) → (e ≡ true → t < n) → e ≡ false
      go true k = absurd (omega (arith, k refl))
      go false k = refl

  one_off : (n : ℕ) → (n ≡ suc t → ⊥) → one_at n t ≡ 0
  unfolding one_at
  one_off n h = ap (λ (e : Bool). cond e 1 0) (ne_eqb n (suc t) h)

  one_on : one_at (suc t) t ≡ 1
  unfolding one_at
  one_on = ap (λ (e : Bool). cond e 1 0) (eq-eqb (suc t) (suc t) refl)

  with_off : (n : ℕ) → (n ≡ t → ⊥) → with t f n ≡ f n
  unfolding with
  with_off n h = ap (λ (e : Bool). e || f n) (ne_eqb n t h)

  with_on : with t f t ≡ true
  unfolding with
  with_on = ap (λ (e : Bool). e || f t) (eq-eqb t t refl)

  -- where runs start: nowhere below t, at t, perhaps no more after t, and else as before
  start-low : (n : ℕ) → n ≤ t → starts_at f n ≡ false
  start-low zero h = none_low zero h
  start-low (suc n) h = ap (λ (e : Bool). e && not (f n)) (none_low (suc n) h)

  start_on : (n : ℕ) → n ≡ t → starts_at (with t f) n ≡ true
  start_on zero e = ap (with t f) e ∙ with_on
  start_on (suc n) e =
      let a : with t f (suc n) ≡ true = ap (with t f) e ∙ with_on in
      let b : with t f n ≡ false = with_off n (λ q. omega arith) ∙ none_low n (omega arith) in
      λ i. a i && not (b i)

  start_off : (n : ℕ) → suc t < n → starts_at (with t f) n ≡ starts_at f n
  start_off zero h = absurd (omega arith)
  start_off (suc n) h =
      let a = with_off (suc n) (λ q. omega arith) in
      let b = with_off n (λ q. omega arith) in
      λ i. a i && not (b i)

  grows : (n : ℕ) → starts f n + one_at n t ≤ starts (with t f) n
  unfolding starts
  grows zero = omega (arith, one_off zero (λ q. omega arith))
  grows (suc n) = by (grows n) (dec_lt n t) (ℕ_discrete n t) (ℕ_discrete n (suc t))
    where
      by : starts f n + one_at n t ≤ starts (with t f) n → Dec (n < t) → Dec (n ≡ t) → Dec (n ≡ suc t)
          → starts f n + cond (starts_at f n) 1 0 + one_at (suc n) t ≤ starts (with t f) n + cond (starts_at (with t f) n) 1 0
      by i (yes l) x y = rw (start-low n (omega arith)) (omega (arith, i, one_off (suc n) (λ q. omega arith)))
      by i (no l) (yes e) y =
          let o : one_at (suc n) t ≡ 1 = ap (λ (k : ℕ). one_at (suc k) t) e ∙ one_on in
          rw (start-low n (omega arith), start_on n e) (omega (arith, i, o))
      by i (no l) (no d) (yes e) =
          let o : one_at n t ≡ 1 = ap (λ (k : ℕ). one_at k t) e ∙ one_on in
          omega (arith, i, o, one_off (suc n) (λ q. omega arith), one_at_most (starts_at f n))
      by i (no l) (no d) (no e) =
          rw (start_off n (omega arith)) (omega (arith, i, one_off (suc n) (λ q. omega arith)))

  -- PUT IN BELOW ALL OTHERS, IT TAKES NO RUN AWAY
  pub more-starts : (n : ℕ) → starts f n ≤ starts (λ m. eqb m t || f m) n
  unfolding with
  more-starts n = omega (arith, grows n)
