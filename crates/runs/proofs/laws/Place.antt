-- Whole runs from a place of a list of cuts on: the first of them, and what is behind it.
use Rattle.std.specs.Prelude.{ℕ, suc, ◌+◌, ◌<◌, ◌≡◌, List, ◌∷◌, length, drop, get_or}
use Rattle.std.proofs.Common.{arith, add-one, sym, ap, subst, ◌∙◌, length-drop, drop-cons}
use Rattle.number.specs.Axis.{axis}
use Rattle.runs.specs.Set.{inside, Ascending, Canonical}
use Rattle.runs.proofs.laws.Cuts.{weaken, rest_ended, two_each}

module _ (a : List ℕ) (i : ℕ) (w : Canonical (drop i a)) (h : i < length a) where
  pub two_left : i + 1 < length a
  two_left = omega (arith, two_each 0 axis (drop i a) w.ascending w.ended, length-drop i a)

  pub first_run : drop i a ≡ get_or a i 0 ∷ get_or a (i + 1) 0 ∷ drop (i + 2) a
  first_run =
      let e : suc (i + 1) ≡ i + 2 = omega arith in
      drop-cons a i 0 h ∙ ap (λ (k : ℕ). get_or a i 0 ∷ drop k a) (sym (add-one i))
      ∙ ap (λ (l : List ℕ). get_or a i 0 ∷ l) (drop-cons a (i + 1) 0 two_left ∙ ap (λ (k : ℕ). get_or a (i + 1) 0 ∷ drop k a) e)

  pub run-ascends : Ascending 0 axis (get_or a i 0 ∷ get_or a (i + 1) 0 ∷ drop (i + 2) a)
  run-ascends = subst (Ascending 0 axis) first_run w.ascending

  pub behind_first : Canonical (drop (i + 2) a)
  behind_first = record {
    ascending = weaken 0 (get_or a (i + 1) 0 + 1) axis (drop (i + 2) a) (omega arith) run-ascends.2.2;
    ended = rest_ended 0 axis (get_or a i 0) (get_or a (i + 1) 0) (drop (i + 2) a) run-ascends (ap (λ (l : List ℕ). inside l axis) (sym first_run) ∙ w.ended);
  }
