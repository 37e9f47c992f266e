-- The cuts of an operation on two sets, by both lists from their heads on, and what it is to write them.
use Rattle.std.specs.Prelude.{ℕ, ◌≡◌, Bool, true, false, not, List, [], ◌∷◌, ◌++◌, ltb, length, drop, Option}
use Rattle.std.specs.Option.{is_none, IfSome}
use Rattle.runs.specs.inner.Emit.{emit}

-- the cuts of f of two sets, p and q being the membership before the cuts
unfoldable pub merge_cuts : (Bool → Bool → Bool) → Bool → Bool → List ℕ → List ℕ → List ℕ
merge_cuts f p q [] [] = []
merge_cuts f p q [] (y ∷ ys) = emit (f p q) (f p (not q)) y (merge_cuts f p (not q) [] ys)
merge_cuts f p q (x ∷ xs) [] = emit (f p q) (f (not p) q) x (merge_cuts f (not p) q xs [])
merge_cuts f p q (x ∷ xs) (y ∷ ys) =
    elim (ltb x y) [
      | true ↦ emit (f p q) (f (not p) q) x (merge_cuts f (not p) q xs (y ∷ ys))
      | false ↦
          elim (ltb y x) [
            | true ↦ emit (f p q) (f p (not q)) y (merge_cuts f p (not q) (x ∷ xs) ys)
            | false ↦ emit (f p q) (f (not p) (not q)) x (merge_cuts f (not p) (not q) xs ys)
          ]
    ]

-- the cuts m take the place of the first elements, and their number is the answer, if there is room for all; else there is none
pub record Merged (m : List ℕ) (before after : List ℕ) (r : Option ℕ) : Type 0 where
  pub over : is_none r ≡ ltb (length before) (length m)
  pub count : IfSome r (λ n. n ≡ length m)
  pub filled : is_none r ≡ false → after ≡ m ++ drop (length m) before
