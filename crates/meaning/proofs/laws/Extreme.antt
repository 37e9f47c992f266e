-- What the greatest and the least of some numbers answer: whether one of them reaches n, and whether all stay below it.
use Rattle.std.specs.Prelude.{ℕ, ◌+◌, ◌≡◌, Bool, true, ◌&&◌, ◌||◌, not, List, [], ◌∷◌, leb, eqb}
use Rattle.std.proofs.Common.{arith, ap, ◌∙◌, leb-true, le-leb, eqb-true}
use Rattle.std.proofs.lemmas.Bool.{false≢true}
use Rattle.number.specs.Axis.{origin}
use Rattle.meaning.specs.inner.Truth.{all_of, among}
use Rattle.number.proofs.laws.Boolean.{same, or_left, or_right, or_cases, and_left, and_right, and_make, or_imp}
use Rattle.recording.specs.Condition.{some_of}

module _ {X : Type 0} where
  pub some_imp : (P Q : X → Bool) (r : List X) → ((x : X) → P x ≡ true → Q x ≡ true) → some_of P r ≡ true → some_of Q r ≡ true
  some_imp P Q [] h e = e
  some_imp P Q (x ∷ r) h e = or_cases (P x) (some_of P r) e (λ k. or_left (Q x) _ (h x k)) (λ k. or_right (Q x) _ (some_imp P Q r h k))

  -- one has P, and all have Q: what follows
  pub some_all : {C : Type 0} (P Q : X → Bool) (r : List X) → some_of P r ≡ true → all_of Q r ≡ true → ((x : X) → P x ≡ true → Q x ≡ true → C) → C
  some_all P Q [] e f k = absurd (false≢true e)
  some_all P Q (x ∷ r) e f k = or_cases (P x) (some_of P r) e (λ h. k x h (and_left (Q x) _ f)) (λ h. some_all P Q r h (and_right (Q x) _ f) k)

  -- m is the greatest f of those that q holds of
  pub record Greatest (q : X → Bool) (f : X → ℕ) (r : List X) (m : ℕ) : Type 0 where
    pub one : some_of (λ x. q x && eqb (f x) m) r ≡ true
    pub all : all_of (λ x. not (q x) || leb (f x) m) r ≡ true

  pub record Least (q : X → Bool) (f : X → ℕ) (r : List X) (m : ℕ) : Type 0 where
    pub one : some_of (λ x. q x && eqb (f x) m) r ≡ true
    pub all : all_of (λ x. not (q x) || leb m (f x)) r ≡ true

module _ {X : Type 0} (q : X → Bool) (f : X → ℕ) (r : List X) (n : ℕ) where
  pub greatest_some : (m : ℕ) → Greatest q f r m → some_of (λ x. q x && leb n (f x)) r ≡ leb n m
  greatest_some m g = same _ _
      (λ e. some_all (λ x. q x && leb n (f x)) (λ x. not (q x) || leb (f x) m) r e g.all
      (λ x h k. le-leb n m (omega (arith, leb-true n (f x) (and_right (q x) _ h), leb-true (f x) m (or_imp (q x) _ k (and_left (q x) _ h))))))
      (λ e. some_imp (λ x. q x && eqb (f x) m) (λ x. q x && leb n (f x)) r
      (λ x h. and_make (q x) _ (and_left (q x) _ h) (le-leb n (f x) (omega (arith, leb-true n m e, eqb-true (f x) m (and_right (q x) _ h))))) g.one)

  pub least_some : (m : ℕ) → Least q f r m → some_of (λ x. q x && leb (f x) n) r ≡ leb m n
  least_some m g = same _ _
      (λ e. some_all (λ x. q x && leb (f x) n) (λ x. not (q x) || leb m (f x)) r e g.all
      (λ x h k. le-leb m n (omega (arith, leb-true (f x) n (and_right (q x) _ h), leb-true m (f x) (or_imp (q x) _ k (and_left (q x) _ h))))))
      (λ e. some_imp (λ x. q x && eqb (f x) m) (λ x. q x && leb (f x) n) r
      (λ x h. and_make (q x) _ (and_left (q x) _ h) (le-leb (f x) n (omega (arith, leb-true m n e, eqb-true (f x) m (and_right (q x) _ h))))) g.one)

-- the greatest and the least alone say how far the numbers spread
pub spread : {X : Type 0} (f : X → ℕ) (r : List X) (n low high : ℕ) → Least (λ x. true) f r low → Greatest (λ x. true) f r high
    → some_of (λ x. some_of (λ y. leb (f x + n) (f y + origin)) r) r ≡ leb (low + n) (high + origin)
spread f r n low high l g = same _ _ to from
  where
    to : some_of (λ x. some_of (λ y. leb (f x + n) (f y + origin)) r) r ≡ true → leb (low + n) (high + origin) ≡ true
    to e = some_all (λ x. some_of (λ y. leb (f x + n) (f y + origin)) r) (λ x. leb low (f x)) r e l.all
        (λ x h k. some_all (λ y. leb (f x + n) (f y + origin)) (λ y. leb (f y) high) r h g.all
        (λ y i j. le-leb (low + n) (high + origin) (omega (arith, leb-true low (f x) k, leb-true (f x + n) (f y + origin) i, leb-true (f y) high j))))

    from : leb (low + n) (high + origin) ≡ true → some_of (λ x. some_of (λ y. leb (f x + n) (f y + origin)) r) r ≡ true
    from e = some_imp (λ x. eqb (f x) low) (λ x. some_of (λ y. leb (f x + n) (f y + origin)) r) r
        (λ x h. some_imp (λ y. eqb (f y) high) (λ y. leb (f x + n) (f y + origin)) r
        (λ y k. le-leb (f x + n) (f y + origin) (omega (arith, eqb-true (f x) low h, eqb-true (f y) high k, leb-true (low + n) (high + origin) e))) g.one)
        l.one

-- two lists with the same members
pub among_same : (n : ℕ) (l m : List ℕ) → all_of (λ x. among x m) l ≡ true → all_of (λ x. among x l) m ≡ true → among n l ≡ among n m
among_same n l m h k = same _ _ (to l m h) (to m l k)
  where
    to : (l m : List ℕ) → all_of (λ x. among x m) l ≡ true → among n l ≡ true → among n m ≡ true
    to l m h e = some_all (eqb n) (λ x. among x m) l e h (λ x p q. ap (λ (y : ℕ). among y m) (eqb-true n x p) ∙ q)
