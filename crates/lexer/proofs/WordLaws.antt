-- A word that is found stops within the text.
use mathlib.Core.Path.{◌≡◌, refl, sym, ◌∙◌}
use mathlib.Core.Bool.{Bool, true, false, cond, ◌&&◌}
use mathlib.Core.List.{List, [], ◌∷◌}
use Prim.Native.Nat.{ℕ, ◌+◌, ◌≤◌, ◌<◌}
use native.Mathlib.Omega.{arith}
use lib.ListN.{length}
use Rattle.number.proofs.laws.Boolean.{and_left, and_right}
use Rattle.std.specs.Prelude.{Option, Some}
use Rattle.grammar.specs.declared.Found.{Found}
use Rattle.grammar.specs.inner.Lexer.{spelled_at, Word, found_upto, first_of, heads}
use Rattle.grammar.proofs.laws.Word.{same_found, bound, solid, stands_solid}

unfoldable pub all_solid : List Word → Bool
all_solid [] = true
all_solid (w ∷ ws) = solid w.spelling && all_solid ws

found_within : (ws : List Word) (s : List ℕ) (i n j : ℕ) → all_solid ws ≡ true → first_of ws s i ≡ found_upto n j → (i < j) × (j ≤ length s)
unfolding all_solid
found_within [] s i n j h e = cc
found_within (w ∷ ws) s i n j h e = go (spelled_at s i w.spelling) refl e (found_within ws s i n j (and_right (solid w.spelling) (all_solid ws) h))
  where
    long : (x : List ℕ) → solid x ≡ true → 0 < length x
    long [] q = cc
    long (b ∷ x) q = omega arith

    go : (b : Bool) → spelled_at s i w.spelling ≡ b → cond b (found_upto w.code (i + length w.spelling)) (first_of ws s i) ≡ found_upto n j → (first_of ws s i ≡ found_upto n j → (i < j) × (j ≤ length s)) → (i < j) × (j ≤ length s)
    go true q g k =
        let l = and_left (solid w.spelling) (all_solid ws) h in
        let f = same_found g in
        let b = bound s i w.spelling (stands_solid s w.spelling i l q) in
        let x = long w.spelling l in
        (omega arith, omega arith)
    go false q g k = k g

pub head_within : (s : List ℕ) (i : ℕ) (x : Found) (f : Option Found) → f ≡ Some x → f ≡ first_of heads s i → x.end ≤ length s
unfolding all_solid
head_within s i x f q p = (found_within heads s i x.code x.end refl (sym p ∙ q)).1
