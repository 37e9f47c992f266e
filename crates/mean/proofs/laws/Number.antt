-- The running sum and the last mean are numbers, so that their bits are fixed.
use Rattle.std.specs.Prelude.{◌≡◌, Bool, true, false, cond, ◌&&◌, List, [], ◌∷◌, ℕ, suc, ◌+◌, ◌-◌, ◌*◌, ◌≤◌, ◌<◌, eqb, ltb, length, pos, Float}
use Rattle.std.proofs.Common.{sym, subst, mul-pos, arith, ne_eqb}
use Rattle.std.specs.Bool.{beq}
use Rattle.std.specs.Float.{nan, inf, fin, binary64}
use Rattle.std.specs.Float.Ieee.{up, down, round, sum, add, div, of_int, is_nan, unlike, fits}
use Rattle.std.specs.Float.Ieee.Fits.{down_pos, add-fits, div-fits}
use Rattle.std.specs.Float.Ieee.Exact.{HasValue}
use Rattle.binary64.specs.Degree.{degree_of}
use Rattle.binary64.proofs.laws.Degree.{int_exact, round_number}
use Rattle.mean.specs.Mean.{AtMost}
use Rattle.mean.specs.inner.Running.{start, next, run_from, running, Number, Numbers, Fitting}
use Rattle.mean.proofs.laws.Near.{degree_close}
use Rattle.mean.proofs.laws.Fractions.{first_some}
use Rattle.mean.specs.declared.Mean.{Mean}

-- by a test
number_cond : (b : Bool) (x y : Float) → Number x → Number y → Number (cond b x y)
number_cond true x y h k = h
number_cond false x y h k = k

-- a number and a finite one have a sum that is a number
add_number : (x y : Float) (a b : ℕ) → Number x → HasValue y false a b → Number (add binary64 x y)
unfolding add sum is_nan
add_number nan y a b h k = absurd h
add_number (inf s) nan a b h k = absurd k
add_number (inf s) (inf t) a b h k = absurd k
add_number (inf s) (fin t n d) a b h k = tt
add_number (fin s m e) nan a b h k = absurd k
add_number (fin s m e) (inf t) a b h k = absurd k
add_number (fin s m e) (fin t n d) a b h k =
    let p : ℕ = m * up e * down d in
    let q : ℕ = n * up d * down e in
    let c : ℕ = down e * down d in
    number_cond (beq s t) (round binary64 s (p + q) c) (cond (ltb p q) (round binary64 t (q - p) c) (round binary64 (s && ltb q p) (p - q) c)) (round_number binary64 s (p + q) c)
    (number_cond (ltb p q) (round binary64 t (q - p) c) (round binary64 (s && ltb q p) (p - q) c) (round_number binary64 t (q - p) c) (round_number binary64 (s && ltb q p) (p - q) c))

-- a number over a whole number that is not 0
div_number : (x y : Float) (n : ℕ) → 0 < n → Number x → HasValue y false n 1 → Number (div binary64 x y)
unfolding div is_nan
div_number nan y n p h k = absurd h
div_number (inf s) nan n p h k = absurd k
div_number (inf s) (inf t) n p h k = absurd k
div_number (inf s) (fin t i d) n p h k = tt
div_number (fin s m e) nan n p h k = absurd k
div_number (fin s m e) (inf t) n p h k = absurd k
div_number (fin s m e) (fin t i d) n p h k =
    let some : i ≡ 0 → ⊥ = first_some i (up d) 1 (subst (λ (z : ℕ). 0 < z) (sym k.1) (mul-pos p (down_pos d))) in
    subst (λ (b : Bool). Number (cond b (cond (eqb m 0) nan (inf (unlike s t))) (round binary64 (unlike s t) (m * up e * down d) (i * up d * down e)))) (sym (ne_eqb i 0 some))
    (round_number binary64 (unlike s t) (m * up e * down d) (i * up d * down e))

pub next-numbers : (m : Mean) (n d : ℕ) → 0 < n → n ≤ 1000 → d ≤ 4000000000 → Number m.sum → Numbers (next m n (degree_of d))
next-numbers m n d p l h k =
    let g = degree_close d h in
    let s : Number (add binary64 m.sum (degree_of d)) = add_number m.sum (degree_of d) g.num g.den k g.value in
    record { sum = s; mean = div_number (add binary64 m.sum (degree_of d)) (of_int binary64 (pos n)) n p s (int_exact n (omega (arith, l))) }

runs_numbers : (ds : List ℕ) (m : Mean) (n : ℕ) → AtMost 4000000000 ds → n + length ds ≤ 1000 → Numbers m → Numbers (run_from m n ds)
runs_numbers [] m n h l k = k
runs_numbers (d ∷ ds) m n h l k = runs_numbers ds (next m (suc n) (degree_of d)) (suc n) h.1 (omega arith) (next-numbers m (suc n) d (omega arith) (omega arith) h.0 k.sum)

pub running-numbers : (ds : List ℕ) → AtMost 4000000000 ds → length ds ≤ 1000 → Numbers (running ds)
unfolding is_nan
running-numbers ds h l = runs_numbers ds start 0 h (omega arith) (record { sum = tt; mean = tt })

-- ---- and numbers of binary64

pub next_fitting : (m : Mean) (n : ℕ) (x : Float) → Fitting (next m n x)
next_fitting m n x = record { sum = add-fits binary64 m.sum x; mean = div-fits binary64 (add binary64 m.sum x) (of_int binary64 (pos n)) }

runs_fitting : (ds : List ℕ) (m : Mean) (n : ℕ) → Fitting m → Fitting (run_from m n ds)
runs_fitting [] m n h = h
runs_fitting (d ∷ ds) m n h = runs_fitting ds (next m (suc n) (degree_of d)) (suc n) (next_fitting m (suc n) (degree_of d))

pub running_fitting : (ds : List ℕ) → Fitting (running ds)
unfolding fits
running_fitting ds = runs_fitting ds start 0 (record { sum = tt; mean = tt })
