-- Marks may come in any order, and repeated: the kept readings depend only on which marks there are.
use Rattle.std.specs.Prelude.{ℕ, ◌≡◌, refl, Bool, true, false, ◌||◌, List, [], ◌∷◌, eqb}
use Rattle.std.proofs.Common.{sym, ap, ◌∙◌, true≢false, eqb-true, eq-eqb}
use Rattle.number.proofs.laws.Boolean.{same, or_left, or_right, or_cases}
use Rattle.recording.specs.Condition.{Condition}
use Rattle.kept.specs.Kept.{any_of, for_some, extremes, later_than, reasons, kept_for}

-- k is one of the marks
abbrev pub is_mark : ℕ → List ℕ → Bool
is_mark k [] = false
is_mark k (m ∷ marks) = eqb k m || is_mark k marks

module _ {X : Type 0} (ρ : ℕ → Condition X) (before : List X) (x : X) (rest : List X) where
  one_holds : (marks : List ℕ) (k : ℕ) → is_mark k marks ≡ true → ρ k before x rest ≡ true → for_some marks ρ before x rest ≡ true
  one_holds [] k h e = absurd (true≢false (sym h))
  one_holds (m ∷ marks) k h e =
      or_cases (eqb k m) (is_mark k marks) h
      (λ g. or_left (ρ m before x rest) (for_some marks ρ before x rest) (sym (ap (λ (j : ℕ). ρ j before x rest) (eqb-true k m g)) ∙ e))
      (λ g. or_right (ρ m before x rest) (for_some marks ρ before x rest) (one_holds marks k g e))

  more_marks : (marks others : List ℕ) → ((k : ℕ) → is_mark k marks ≡ true → is_mark k others ≡ true)
      → for_some marks ρ before x rest ≡ true → for_some others ρ before x rest ≡ true
  more_marks [] others h e = absurd (true≢false (sym e))
  more_marks (m ∷ marks) others h e =
      or_cases (ρ m before x rest) (for_some marks ρ before x rest) e
      (λ g. one_holds others m (h m (or_left (eqb m m) (is_mark m marks) (eq-eqb m m refl))) g)
      (λ g. more_marks marks others (λ k i. h k (or_right (eqb k m) (is_mark k marks) i)) g)

  same_marks : (marks others : List ℕ) → ((k : ℕ) → is_mark k marks ≡ is_mark k others) → for_some marks ρ before x rest ≡ for_some others ρ before x rest
  same_marks marks others h =
      same (for_some marks ρ before x rest) (for_some others ρ before x rest)
      (more_marks marks others (λ k i. sym (h k) ∙ i)) (more_marks others marks (λ k i. h k ∙ i))

-- the same marks, in any order, however often
pub rule_marks : (marks others : List ℕ) → ((k : ℕ) → is_mark k marks ≡ is_mark k others) → kept_for marks ≡ kept_for others
rule_marks marks others h = λ i b x a. any_of reasons b x a || same_marks (λ k. extremes (later_than k)) b x a marks others h i
