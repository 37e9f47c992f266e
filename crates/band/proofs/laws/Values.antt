-- Numbers that moved by at most e: how far the greatest and the least of them move, and tests that only these decide.
use Rattle.std.specs.Prelude.{ℕ, ◌+◌, ◌≤◌, max, min, ◌≡◌, refl, Bool, true, ◌||◌, ◌&&◌, List, [], ◌∷◌, map}
use Rattle.std.proofs.Common.{arith, sym, ap, ◌∙◌, subst, ⊎_elim}
use Rattle.std.proofs.Math.Bool.{or-false}
use Rattle.number.proofs.laws.Boolean.{same, or_left, or_right, or_cases, and_left, and_right, and_make, and_true}
use Rattle.number.proofs.laws.Order.{less_or_not}
use Rattle.recording.specs.Condition.{some_of}
use Rattle.meaning.specs.inner.Truth.{all_of}
use Rattle.meaning.proofs.laws.Pick.{Each}
use Rattle.band.specs.inner.Ends.{greatest_of, least_of}

-- two numbers within e of each other
pub record Close (e x y : ℕ) : Type 0 where
  pub up : x ≤ y + e
  pub down : y ≤ x + e

-- number by number
abbrev pub Closely : ℕ → List ℕ → List ℕ → Type 0
Closely e [] [] = Unit {0}
Closely e (x ∷ v) (y ∷ w) = Close e x y × Closely e v w
Closely e [] (y ∷ w) = ⊥
Closely e (x ∷ v) [] = ⊥

pub all_then : (P Q : ℕ → Type 0) (v : List ℕ) → ((x : ℕ) → P x → Q x) → Each P v → Each Q v
all_then P Q [] f a = tt
all_then P Q (x ∷ v) f a = (f x a.0, all_then P Q v f a.1)

-- each number moved by f
pub closely_map : (e : ℕ) (f : ℕ → ℕ) (P : ℕ → Type 0) → ((x : ℕ) → P x → Close e x (f x)) → (v : List ℕ) → Each P v → Closely e v (map f v)
closely_map e f P g [] a = tt
closely_map e f P g (x ∷ v) a = (g x a.0, closely_map e f P g v a.1)

-- ---- the greatest and the least

pub greatest_close : (e x : ℕ) (v : List ℕ) (y : ℕ) (w : List ℕ) → Closely e (x ∷ v) (y ∷ w) → Close e (greatest_of x v) (greatest_of y w)
greatest_close e x [] y [] c = c.0
greatest_close e x [] y (z ∷ w) c = absurd c.1
greatest_close e x (u ∷ v) y [] c = absurd c.1
greatest_close e x (u ∷ v) y (z ∷ w) c =
    let h = greatest_close e u v z w c.1 in
    let a = c.0.up in let b = c.0.down in let p = h.up in let q = h.down in
    record { up = omega arith; down = omega arith }

pub least_close : (e x : ℕ) (v : List ℕ) (y : ℕ) (w : List ℕ) → Closely e (x ∷ v) (y ∷ w) → Close e (least_of x v) (least_of y w)
least_close e x [] y [] c = c.0
least_close e x [] y (z ∷ w) c = absurd c.1
least_close e x (u ∷ v) y [] c = absurd c.1
least_close e x (u ∷ v) y (z ∷ w) c =
    let h = least_close e u v z w c.1 in
    let a = c.0.up in let b = c.0.down in let p = h.up in let q = h.down in
    record { up = omega arith; down = omega arith }

pub least_greatest : (x : ℕ) (v : List ℕ) → least_of x v ≤ greatest_of x v
least_greatest x [] = omega arith
least_greatest x (y ∷ v) = omega (arith, least_greatest y v)

-- each of them lies between the two
pub all-between : (x : ℕ) (v : List ℕ) → Each (λ y. (least_of x v ≤ y) × (y ≤ greatest_of x v)) (x ∷ v)
all-between x [] = ((omega arith, omega arith), tt)
all-between x (y ∷ v) = (
  (omega arith, omega arith),
  all_then (λ z. (least_of y v ≤ z) × (z ≤ greatest_of y v)) (λ z. (min x (least_of y v) ≤ z) × (z ≤ max x (greatest_of y v))) (y ∷ v)
      (λ z h. (omega (arith, h.0), omega (arith, h.1))) (all-between y v),
)

-- where all lie so, the two do
module _ (P : ℕ → Type 0) where
  pub greatest_in : (x : ℕ) (v : List ℕ) → Each P (x ∷ v) → P (greatest_of x v)
  greatest_in x [] a = a.0
  greatest_in x (y ∷ v) a = ⊎_elim
      (λ h. let q : greatest_of y v ≡ max x (greatest_of y v) = omega arith in subst P q (greatest_in y v a.1))
      (λ h. let q : x ≡ max x (greatest_of y v) = omega arith in subst P q a.0) (less_or_not x (greatest_of y v))

  pub least_in : (x : ℕ) (v : List ℕ) → Each P (x ∷ v) → P (least_of x v)
  least_in x [] a = a.0
  least_in x (y ∷ v) a = ⊎_elim
      (λ h. let q : x ≡ min x (least_of y v) = omega arith in subst P q a.0)
      (λ h. let q : least_of y v ≡ min x (least_of y v) = omega arith in subst P q (least_in y v a.1)) (less_or_not x (least_of y v))

-- all moved alike
pub greatest_map : (f : ℕ → ℕ) → ((x y : ℕ) → f (max x y) ≡ max (f x) (f y)) → (x : ℕ) (v : List ℕ) → greatest_of (f x) (map f v) ≡ f (greatest_of x v)
greatest_map f h x [] = refl
greatest_map f h x (y ∷ v) = ap (max (f x)) (greatest_map f h y v) ∙ sym (h x (greatest_of y v))

pub least-map : (f : ℕ → ℕ) → ((x y : ℕ) → f (min x y) ≡ min (f x) (f y)) → (x : ℕ) (v : List ℕ) → least_of (f x) (map f v) ≡ f (least_of x v)
least-map f h x [] = refl
least-map f h x (y ∷ v) = ap (min (f x)) (least-map f h y v) ∙ sym (h x (least_of y v))

-- ---- tests

-- a test that goes up, one that goes down
abbrev pub Upward : (ℕ → Bool) → Type 0
Upward Q = (x y : ℕ) → x ≤ y → Q x ≡ true → Q y ≡ true

abbrev pub Downward : (ℕ → Bool) → Type 0
Downward Q = (x y : ℕ) → x ≤ y → Q y ≡ true → Q x ≡ true

module _ (Q : ℕ → Bool) where
  pub some_greatest : Upward Q → (x : ℕ) (v : List ℕ) → some_of Q (x ∷ v) ≡ Q (greatest_of x v)
  some_greatest m x [] = or-false (Q x)
  some_greatest m x (y ∷ v) = ap (λ (b : Bool). Q x || b) (some_greatest m y v) ∙ same _ _
      (λ h. or_cases (Q x) (Q (greatest_of y v)) h (λ k. m x (max x (greatest_of y v)) (omega arith) k) (λ k. m (greatest_of y v) (max x (greatest_of y v)) (omega arith) k))
      (λ h. ⊎_elim
      (λ l. or_right (Q x) _ (let q : max x (greatest_of y v) ≡ greatest_of y v = omega arith in subst (λ (z : ℕ). Q z ≡ true) q h))
      (λ l. or_left (Q x) _ (let q : max x (greatest_of y v) ≡ x = omega arith in subst (λ (z : ℕ). Q z ≡ true) q h)) (less_or_not x (greatest_of y v)))

  pub some_least : Downward Q → (x : ℕ) (v : List ℕ) → some_of Q (x ∷ v) ≡ Q (least_of x v)
  some_least m x [] = or-false (Q x)
  some_least m x (y ∷ v) = ap (λ (b : Bool). Q x || b) (some_least m y v) ∙ same _ _
      (λ h. or_cases (Q x) (Q (least_of y v)) h (λ k. m (min x (least_of y v)) x (omega arith) k) (λ k. m (min x (least_of y v)) (least_of y v) (omega arith) k))
      (λ h. ⊎_elim
      (λ l. or_left (Q x) _ (let q : min x (least_of y v) ≡ x = omega arith in subst (λ (z : ℕ). Q z ≡ true) q h))
      (λ l. or_right (Q x) _ (let q : min x (least_of y v) ≡ least_of y v = omega arith in subst (λ (z : ℕ). Q z ≡ true) q h)) (less_or_not x (least_of y v)))

  pub all_greatest : Downward Q → (x : ℕ) (v : List ℕ) → all_of Q (x ∷ v) ≡ Q (greatest_of x v)
  all_greatest m x [] = sym (and_true (Q x))
  all_greatest m x (y ∷ v) = ap (λ (b : Bool). Q x && b) (all_greatest m y v) ∙ same _ _
      (λ h. ⊎_elim
      (λ l. let q : greatest_of y v ≡ max x (greatest_of y v) = omega arith in subst (λ (z : ℕ). Q z ≡ true) q (and_right (Q x) _ h))
      (λ l. let q : x ≡ max x (greatest_of y v) = omega arith in subst (λ (z : ℕ). Q z ≡ true) q (and_left (Q x) _ h)) (less_or_not x (greatest_of y v)))
      (λ h. and_make (Q x) _ (m x (max x (greatest_of y v)) (omega arith) h) (m (greatest_of y v) (max x (greatest_of y v)) (omega arith) h))
