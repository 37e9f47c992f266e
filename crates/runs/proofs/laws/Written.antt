-- Membership can be read off the bytes of a set.
use Rattle.std.specs.Prelude.{ℕ, zero, suc, ◌+◌, ◌*◌, ◌≤◌, ◌<◌, ◌≡◌, refl, Bool, true, false, ◌&&◌, ◌||◌, List, [], ◌∷◌, ◌++◌, T, leb, length, get_or, ℤ, ◌≤ℤ◌}
use Rattle.std.proofs.Common.{sym, ap₂, subst, ◌∙◌, ⊎_elim, arith, le-leb, leb-true}
use Rattle.std.proofs.Math.Path.{ap}
use Rattle.std.proofs.lemmas.Bool.{false≢true}
use Rattle.std.specs.Int.Signed.{le_z}
use Rattle.number.specs.Axis.{axis, whole}
use Rattle.number.proofs.laws.Order.{true_or_false}
use Rattle.number.specs.Words.{word, signed, bits}
use Rattle.number.proofs.laws.Words.{word-front, word_behind, bits_small, signed-bits, whole_le}
use Rattle.runs.specs.Runs.{lows, highs, run_count, number_bytes, run_bytes, set_bytes}
use Rattle.runs.specs.Written.{in_bytes}
use Rattle.runs.proofs.laws.Cuts.{covers}
use Rattle.runs.proofs.laws.Runs.{lows-highs, runs_cover, set_bytes-length, lows_on_axis, highs_on_axis}

-- ---- the numbers that stand in the bytes of runs

low_word : (ls hs : List ℕ) (k : ℕ) → length ls ≡ length hs → k < length ls → ((i : ℕ) → i < length ls → get_or ls i 0 < axis)
    → word (run_bytes ls hs) (8 * k) ≡ bits (whole (get_or ls k 0))
low_word [] hs k e h a = absurd (omega arith)
low_word (l ∷ ls) [] k e h a = absurd (omega arith)
low_word (l ∷ ls) (u ∷ hs) zero e h a = word-front (bits (whole l)) (number_bytes u ++ run_bytes ls hs) (bits_small l (a zero (omega arith)))
low_word (l ∷ ls) (u ∷ hs) (suc k) e h a =
    let q : 8 * suc k ≡ 8 + 8 * k = omega arith in
    ap (word (run_bytes (l ∷ ls) (u ∷ hs))) q ∙ word_behind (number_bytes l ++ number_bytes u) (run_bytes ls hs) (8 * k)
    ∙ low_word ls hs k (omega arith) (omega arith) (λ i g. a (suc i) (omega arith))

high_word : (ls hs : List ℕ) (k : ℕ) → length ls ≡ length hs → k < length ls → ((i : ℕ) → i < length hs → get_or hs i 0 < axis)
    → word (run_bytes ls hs) (8 * k + 4) ≡ bits (whole (get_or hs k 0))
high_word [] hs k e h a = absurd (omega arith)
high_word (l ∷ ls) [] k e h a = absurd (omega arith)
high_word (l ∷ ls) (u ∷ hs) zero e h a =
    word_behind (number_bytes l) (number_bytes u ++ run_bytes ls hs) 0 ∙ word-front (bits (whole u)) (run_bytes ls hs) (bits_small u (a zero (omega arith)))
high_word (l ∷ ls) (u ∷ hs) (suc k) e h a =
    let q : 8 * suc k + 4 ≡ 8 + (8 * k + 4) = omega arith in
    ap (word (run_bytes (l ∷ ls) (u ∷ hs))) q ∙ word_behind (number_bytes l ++ number_bytes u) (run_bytes ls hs) (8 * k + 4)
    ∙ high_word ls hs k (omega arith) (omega arith) (λ i g. a (suc i) (omega arith))

-- ---- a number that is covered is covered by some run

both_true : (a b : Bool) → (a && b) ≡ true → (a ≡ true) × (b ≡ true)
both_true true b e = (refl, e)
both_true false b e = absurd (false≢true e)

covered : (ls hs : List ℕ) (v : ℕ) → covers ls hs v ≡ true → (k : ℕ) × (k < length ls) × (get_or ls k 0 ≤ v) × (v ≤ get_or hs k 0)
unfolding covers
covered [] hs v e = absurd (false≢true e)
covered (l ∷ ls) [] v e = absurd (false≢true e)
covered (l ∷ ls) (u ∷ hs) v e =
    ⊎_elim
    (λ t. let p = both_true (leb l v) (leb v u) t in (zero, omega arith, leb-true l v p.0, leb-true v u p.1))
    (λ t. let p = covered ls hs v (sym (ap (λ (b : Bool). b || covers ls hs v) t) ∙ e) in (suc p.0, omega (arith, p.1), p.2, p.3))
    (true_or_false (leb l v && leb v u))

or_true : (a b : Bool) → b ≡ true → (a || b) ≡ true
or_true true b e = refl
or_true false b e = e

covering : (ls hs : List ℕ) (v k : ℕ) → length ls ≡ length hs → k < length ls → get_or ls k 0 ≤ v → v ≤ get_or hs k 0 → covers ls hs v ≡ true
unfolding covers
covering [] hs v k e h a b = absurd (omega arith)
covering (l ∷ ls) [] v k e h a b = absurd (omega arith)
covering (l ∷ ls) (u ∷ hs) v zero e h a b = ap (λ (t : Bool). t || covers ls hs v) (ap₂ ◌&&◌ (le-leb l v a) (le-leb v u b))
covering (l ∷ ls) (u ∷ hs) v (suc k) e h a b = or_true (leb l v && leb v u) (covers ls hs v) (covering ls hs v k (omega arith) (omega arith) a b)

-- ---- the law

to_T : (b : Bool) → b ≡ true → T b
to_T b e = subst T (sym e) tt

from_T : (b : Bool) → T b → b ≡ true
from_T true t = refl
from_T false t = absurd t

whole_≤ : (p q : ℕ) → p ≤ q → whole p ≤ℤ whole q
whole_≤ p q h = record { le = to_T (le_z (whole p) (whole q)) (whole_le p q ∙ le-leb p q h) }

≤-whole : (p q : ℕ) → whole p ≤ℤ whole q → p ≤ q
≤-whole p q h = leb-true p q (sym (whole_le p q) ∙ from_T (le_z (whole p) (whole q)) h.le)

module _ (f : ℕ → Bool) where
  -- run k of the bytes
  low_there : (k : ℕ) → k < run_count f → signed (word (set_bytes f) (8 * k)) ≡ whole (get_or (lows f) k 0)
  unfolding set_bytes
  low_there k h = ap signed (low_word (lows f) (highs f) k (lows-highs f) h (lows_on_axis f)) ∙ signed-bits (get_or (lows f) k 0) (lows_on_axis f k h)

  high_there : (k : ℕ) → k < run_count f → signed (word (set_bytes f) (8 * k + 4)) ≡ whole (get_or (highs f) k 0)
  unfolding set_bytes
  high_there k h =
      ap signed (high_word (lows f) (highs f) k (lows-highs f) h (highs_on_axis f))
      ∙ signed-bits (get_or (highs f) k 0) (highs_on_axis f k (let e = lows-highs f in omega arith))

  -- A NUMBER OF THE AXIS IS A MEMBER IF AND ONLY IF IT LIES IN A RUN THAT THE BYTES SAY
  pub written-member : (v : ℕ) → v < axis → f v ≡ true → in_bytes (set_bytes f) (whole v)
  written-member v h e =
      let p = covered (lows f) (highs f) v (runs_cover f v h ∙ e) in (
        p.0,
        omega (arith, p.1, set_bytes-length f),
        subst (λ (z : ℤ). z ≤ℤ whole v) (sym (low_there p.0 p.1)) (whole_≤ (get_or (lows f) p.0 0) v p.2),
        subst (λ (z : ℤ). whole v ≤ℤ z) (sym (high_there p.0 p.1)) (whole_≤ v (get_or (highs f) p.0 0) p.3),
      )

  pub member-written : (v : ℕ) → v < axis → in_bytes (set_bytes f) (whole v) → f v ≡ true
  member-written v h p =
      let k : p.0 < run_count f = omega (arith, p.1, set_bytes-length f) in
      sym (runs_cover f v h)
      ∙ covering (lows f) (highs f) v p.0 (lows-highs f) k
      (≤-whole (get_or (lows f) p.0 0) v (subst (λ (z : ℤ). z ≤ℤ whole v) (low_there p.0 k) p.2))
      (≤-whole v (get_or (highs f) p.0 0) (subst (λ (z : ℤ). whole v ≤ℤ z) (high_there p.0 k) p.3))
