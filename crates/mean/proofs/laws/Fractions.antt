-- A sum and a quotient of floats that are not negative, as one rounding of the exact fraction. Either format.
use Rattle.std.specs.Prelude.{◌≡◌, Bool, true, false, cond, ℕ, ◌+◌, ◌*◌, ◌<◌, eqb, Float}
use Rattle.std.proofs.Common.{sym, ap, ◌∙◌, subst, true≢false, lt_irrefl, zero-mul, mul-pos, arith, ne_eqb}
use Rattle.std.specs.Float.{nan, inf, fin, Format}
use Rattle.std.specs.Float.Ieee.{up, down, round, sum, add, div}
use Rattle.std.specs.Float.Ieee.Fits.{up_pos, down_pos}
use Rattle.std.specs.Float.Ieee.Exact.{HasValue}
use Rattle.std.specs.Float.Ieee.Scale.{round_same}

-- x / e is a / c, and y / g is b / d
cross_sum : (x e y g a c b d : ℕ) → x * c ≡ a * e → y * d ≡ b * g → (x * g + y * e) * (c * d) ≡ (a * d + b * c) * (e * g)
cross_sum x e y g a c b d p q =
    let l : x * c * (g * d) ≡ a * e * (g * d) = ap (λ (z : ℕ). z * (g * d)) p in
    let r : y * d * (e * c) ≡ b * g * (e * c) = ap (λ (z : ℕ). z * (e * c)) q in
    omega arith

-- a / c + b / d, rounded once
pub add_fractions : (f : Format) (x y : Float) (a c b d : ℕ) → 0 < c → 0 < d → HasValue x false a c → HasValue y false b d → add f x y ≡ round f false (a * d + b * c) (c * d)
unfolding add sum
add_fractions f nan y a c b d C D h k = absurd h
add_fractions f (inf s) y a c b d C D h k = absurd h
add_fractions f (fin s m e) nan a c b d C D h k = absurd k
add_fractions f (fin s m e) (inf t) a c b d C D h k = absurd k
add_fractions f (fin true m e) (fin t n g) a c b d C D h k = absurd (true≢false h.0)
add_fractions f (fin false m e) (fin true n g) a c b d C D h k = absurd (true≢false k.0)
add_fractions f (fin false m e) (fin false n g) a c b d C D h k =
    round_same f false (m * up e * down g + n * up g * down e) (down e * down g) (a * d + b * c) (c * d) (mul-pos (down_pos e) (down_pos g)) (mul-pos C D)
    (cross_sum (m * up e) (down e) (n * up g) (down g) a c b d h.1 k.1)

cross_quotient : (x e y g a c b d : ℕ) → x * c ≡ a * e → y * d ≡ b * g → x * g * (c * b) ≡ a * d * (y * e)
cross_quotient x e y g a c b d p q =
    let l : x * c * (b * g) ≡ a * e * (b * g) = ap (λ (z : ℕ). z * (b * g)) p in
    let r : y * d * (a * e) ≡ b * g * (a * e) = ap (λ (z : ℕ). z * (a * e)) q in
    omega arith

-- a product above 0 has its first factor above 0
pub first_some : (n u d : ℕ) → 0 < n * u * d → n ≡ 0 → ⊥
first_some n u d h e = lt_irrefl 0 (subst (λ (z : ℕ). 0 < z) (ap (λ (z : ℕ). z * u * d) e ∙ ap (λ (z : ℕ). z * d) (zero-mul u) ∙ zero-mul d) h)

some_first : (n : ℕ) → (n ≡ 0 → ⊥) → 0 < n
some_first n h = omega arith

-- a / c over b / d, rounded once
pub div_fractions : (f : Format) (x y : Float) (a c b d : ℕ) → 0 < c → 0 < b → HasValue x false a c → HasValue y false b d → div f x y ≡ round f false (a * d) (c * b)
unfolding div
div_fractions f nan y a c b d C B h k = absurd h
div_fractions f (inf s) y a c b d C B h k = absurd h
div_fractions f (fin s m e) nan a c b d C B h k = absurd k
div_fractions f (fin s m e) (inf t) a c b d C B h k = absurd k
div_fractions f (fin true m e) (fin t n g) a c b d C B h k = absurd (true≢false h.0)
div_fractions f (fin false m e) (fin true n g) a c b d C B h k = absurd (true≢false k.0)
div_fractions f (fin false m e) (fin false n g) a c b d C B h k =
    let n-some : n ≡ 0 → ⊥ = first_some n (up g) d (subst (λ (z : ℕ). 0 < z) (sym k.1) (mul-pos B (down_pos g))) in
    let N : 0 < n * up g * down e = mul-pos (mul-pos (some_first n n-some) (up_pos g)) (down_pos e) in
    ap (λ (z : Bool). cond z (cond (eqb m 0) nan (inf false)) (round f false (m * up e * down g) (n * up g * down e))) (ne_eqb n 0 n-some)
    ∙ round_same f false (m * up e * down g) (n * up g * down e) (a * d) (c * b) N (mul-pos C B)
    (cross_quotient (m * up e) (down e) (n * up g) (down g) a c b d h.1 k.1)
