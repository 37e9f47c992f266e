-- The differences of later and earlier times are those of all pairs that lie over 0.
use Prim.Native.Nat.{ℕ, suc, ◌+◌, ◌≤◌, ◌<◌}
use native.Mathlib.Omega.{arith}
use mathlib.Core.Path.{◌≡◌, sym, ap, ◌∙◌}
use mathlib.Core.Bool.{Bool, true, false, ◌&&◌, ◌||◌, true≢false}
use mathlib.Core.List.{List, [], ◌∷◌}
use lib.Dec.{leb}
use lib.ListN.{length, get_or}
use borrow.Author.Tests.{eqb-true, leb-true, le-leb, ne_eqb}
use Rattle.number.specs.Axis.{origin}
use Rattle.number.proofs.laws.Boolean.{same, or_left, or_right, or_cases, and_left, and_right, and_make}
use Rattle.meaning.specs.inner.Truth.{some_pair, apart}
use Rattle.differences.specs.inner.Times.{Times, lags_of, gaps_of}
use Rattle.differences.specs.inner.Sweep.{from}
use Rattle.recording.specs.Condition.{some_of}

-- all over lo, and ascending
abbrev Sorted : ℕ → List ℕ → Type 0
Sorted lo [] = Unit {0}
Sorted lo (x ∷ l) = (lo < x) × Sorted x l

some_over : (lo v s : ℕ) (l : List ℕ) → s ≤ lo → Sorted lo l → some_of (apart v s) l ≡ true → origin < v
some_over lo v s [] h o e = absurd (true≢false (sym e))
some_over lo v s (t ∷ l) h o e = or_cases (apart v s t) (some_of (apart v s) l) e
    (λ k. omega (arith, eqb-true (s + v) (t + origin) k, o.0)) (some_over t v s l (omega (arith, o.0)) o.1)

pair_over : (lo v : ℕ) (l : List ℕ) → Sorted lo l → some_pair (apart v) l ≡ true → origin < v
pair_over lo v [] o e = absurd (true≢false (sym e))
pair_over lo v (s ∷ l) o e = or_cases (some_of (apart v s) l) (some_pair (apart v) l) e (some_over s v s l (omega arith) o.1) (pair_over s v l o.1)

pair_lags : (v : ℕ) (l : List ℕ) → some_pair (apart v) l ≡ true → lags_of l l v ≡ true
pair_lags v [] e = e
pair_lags v (s ∷ l) e = or_cases (some_of (apart v s) l) (some_pair (apart v) l) e
    (λ k. or_left (some_of (apart v s) (s ∷ l)) _ (or_right (apart v s s) _ k))
    (λ k. or_right (some_of (apart v s) (s ∷ l)) _ (wider s l l (pair_lags v l k)))
  where
    wider : (s : ℕ) (a l : List ℕ) → lags_of a l v ≡ true → lags_of a (s ∷ l) v ≡ true
    wider s [] l e = e
    wider s (t ∷ a) l e = or_cases (some_of (apart v t) l) (lags_of a l v) e
        (λ k. or_left (some_of (apart v t) (s ∷ l)) _ (or_right (apart v t s) _ k))
        (λ k. or_right (some_of (apart v t) (s ∷ l)) _ (wider s a l k))

-- a difference over 0 is not of a number with itself, nor with one before it
not_back : (v s t : ℕ) → origin < v → t ≤ s → apart v s t ≡ false
not_back v s t h k = ne_eqb (s + v) (t + origin) (λ q. omega arith)

lags_pair : (lo v : ℕ) (l : List ℕ) → origin < v → Sorted lo l → lags_of l l v ≡ true → some_pair (apart v) l ≡ true
lags_pair lo v [] h o e = e
lags_pair lo v (s ∷ l) h o e = or_cases (some_of (apart v s) (s ∷ l)) (lags_of l (s ∷ l) v) e
    (λ k. or_left (some_of (apart v s) l) _ (drop-first s (some_of (apart v s) l) (omega arith) k))
    (λ k. or_right (some_of (apart v s) l) _ (lags_pair s v l h o.1 (narrower s l l o.1 k)))
  where
    drop-first : (t : ℕ) (e : Bool) → s ≤ t → (apart v t s || e) ≡ true → e ≡ true
    drop-first t e q k = sym (ap (λ (b : Bool). b || e) (not_back v t s h q)) ∙ k

    narrower : (lo : ℕ) (a l : List ℕ) → Sorted s a → lags_of a (s ∷ l) v ≡ true → lags_of a l v ≡ true
    narrower lo a l o e = go s a l (omega arith) o e
      where
        go : (lo : ℕ) (a l : List ℕ) → s ≤ lo → Sorted lo a → lags_of a (s ∷ l) v ≡ true → lags_of a l v ≡ true
        go lo [] l q o e = e
        go lo (t ∷ a) l q o e = or_cases (apart v t s || some_of (apart v t) l) (lags_of a (s ∷ l) v) e
            (λ k. or_left (some_of (apart v t) l) _ (drop-first t (some_of (apart v t) l) (omega (arith, o.0)) k))
            (λ k. or_right (some_of (apart v t) l) _ (go t a l (omega (arith, o.0)) o.1 k))

gaps_lags : (lo v : ℕ) (l : List ℕ) → Sorted lo l → some_pair (apart v) l ≡ from (suc origin) (lags_of l l) v
gaps_lags lo v l o = same _ _
    (λ h. and_make (leb (suc origin) v) (lags_of l l v) (le-leb (suc origin) v (pair_over lo v l o h)) (pair_lags v l h))
    (λ h. lags_pair lo v l (leb-true (suc origin) v (and_left (leb (suc origin) v) (lags_of l l v) h)) o (and_right (leb (suc origin) v) (lags_of l l v) h))

sorted : (lo : ℕ) (l : List ℕ) → ((i : ℕ) → i < length l → lo < get_or l i 0) → ((i j : ℕ) → i < j → j < length l → get_or l i 0 < get_or l j 0) → Sorted lo l
sorted lo [] h a = tt
sorted lo (x ∷ l) h a = (h 0 (omega arith), sorted x l (λ i k. a 0 (suc i) (omega arith) (omega arith)) (λ i j m k. a (suc i) (suc j) (omega arith) (omega arith)))

pub gaps_are : (l : List ℕ) → Times l → (v : ℕ) → from (suc origin) (lags_of l l) v ≡ gaps_of l v
gaps_are l t v = sym (gaps_lags 0 v l (sorted 0 l (λ i k. omega (arith, t.least i k)) t.ascending))

-- from the low end of the axis on
pub from_zero : (f : ℕ → Bool) (v : ℕ) → from 0 f v ≡ f v
from_zero f v = ap (λ (e : Bool). e && f v) (le-leb 0 v (omega arith))
