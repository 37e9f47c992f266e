-- Two outcomes by the same lines: both are refused alike, or neither is.
use Rattle.std.specs.Prelude.{ℕ, ◌≡◌, Bool, ◌⊎◌}
use Rattle.std.proofs.Math.Path.{refl, ap}
use Rattle.std.proofs.Math.Bool.{true, false, cond}
use Rattle.std.proofs.Math.Logic.{inl, inr, ⊎_elim}
use mathlib.Core.List.{List, [], ◌∷◌}
use Rattle.refusal.specs.Outcome.{Outcome, result, refused, Line, judged, NoneMeets}

module _ {A B : Type 0} where
  pub record BothRefused (o : Outcome A) (p : Outcome B) : Type 0 where
    pub number : ℕ
    pub place : ℕ
    pub first : o ≡ refused number place
    pub second : p ≡ refused number place

  pub record BothTaken (o : Outcome A) (p : Outcome B) (ls : List Line) (a : A) (b : B) : Type 0 where
    pub none : NoneMeets ls
    pub first : o ≡ result a
    pub second : p ≡ result b

  abbrev pub Alike : Outcome A → Outcome B → List Line → A → B → Type 0
  Alike o p ls a b = BothTaken o p ls a b ⊎ BothRefused o p

  pub judged_alike : (ls : List Line) (a : A) (b : B) → Alike (judged ls a) (judged ls b) ls a b
  unfolding judged
  judged_alike [] a b = inl (record { none = tt; first = refl; second = refl })
  judged_alike (l ∷ ls) a b = by l.meets refl (judged_alike ls a b)
    where
      by : (m : Bool) → l.meets ≡ m → Alike (judged ls a) (judged ls b) ls a b → Alike (judged (l ∷ ls) a) (judged (l ∷ ls) b) (l ∷ ls) a b
      by true e z =
          inr (record {
            number = l.number;
            place = l.place;
            first = ap (λ (m : Bool). cond m (refused l.number l.place) (judged ls a)) e;
            second = ap (λ (m : Bool). cond m (refused l.number l.place) (judged ls b)) e;
          })
      by false e z =
          let f : judged (l ∷ ls) a ≡ judged ls a = ap (λ (m : Bool). cond m (refused l.number l.place) (judged ls a)) e in
          let g : judged (l ∷ ls) b ≡ judged ls b = ap (λ (m : Bool). cond m (refused l.number l.place) (judged ls b)) e in
          ⊎_elim (λ t. inl (record { none = (e, t.none); first = cc; second = cc }))
          (λ t. inr (record { number = t.number; place = t.place; first = cc; second = cc })) z
