-- What the code that compares words comes to.
use mathlib.Core.Path.{◌≡◌, refl, sym, ap, ◌∙◌}
use mathlib.Core.Bool.{Bool, true, false, true≢false, cond, ◌&&◌}
use mathlib.Core.List.{List, [], ◌∷◌, ◌++◌}
use Prim.Native.Nat.{ℕ, ◌+◌, ◌≤◌, ◌<◌}
use native.Mathlib.Omega.{arith}
use native.Mathlib.Numerals.{add-one}
use lib.Dec.{eqb}
use lib.ListN.{length, get_or, drop, drop_of_length-le}
use lib.Seq.{drop-cons}
use borrow.Author.Tests.{eq-eqb, ne_eqb, eqb-true}
use Rattle.number.proofs.laws.Boolean.{and_left, and_right}
use Rattle.grammar.specs.declared.Class.{Class}
use Rattle.grammar.specs.declared.Class.TheVariants.{Digit, Letter, Sign, Foreign}
use Rattle.grammar.specs.declared.Found.{Found}
use Rattle.grammar.specs.Classes.{class_of}
use Rattle.std.specs.Prelude.{Option, Some, None}
use Rattle.grammar.specs.inner.Lexer.{byte, spelled_at, Word, found_upto, first_of, heads}

module _ (s : List ℕ) (at : ℕ) (w : List ℕ) where
  pub spelled_start : spelled_at s at w ≡ spelled_at s (at + 0) (drop 0 w)
  spelled_start = let z : at + 0 ≡ at = omega arith in rw z refl

  module _ (i : ℕ) (h : i < length w) where
    split : drop i w ≡ get_or w i 0 ∷ drop (i + 1) w
    split = rw (add-one i) (drop-cons w i 0 h)

    pub spelled_step : (b c : ℕ) → b ≡ byte s (at + i) → c ≡ get_or w i 0 → b ≡ c → spelled_at s at w ≡ spelled_at s (at + i) (drop i w) → spelled_at s at w ≡ spelled_at s (at + (i + 1)) (drop (i + 1) w)
    spelled_step b c p q e k =
        let z : at + i + 1 ≡ at + (i + 1) = omega arith in
        k ∙ ap (spelled_at s (at + i)) split ∙ rw (eq-eqb (byte s (at + i)) (get_or w i 0) (sym p ∙ e ∙ q)) (ap (λ (n : ℕ). spelled_at s n (drop (i + 1) w)) z)

    pub spelled_stop : (b c : ℕ) → b ≡ byte s (at + i) → c ≡ get_or w i 0 → (b ≡ c → ⊥) → spelled_at s at w ≡ spelled_at s (at + i) (drop i w) → false ≡ spelled_at s at w
    spelled_stop b c p q e k =
        sym (k ∙ ap (spelled_at s (at + i)) split ∙ rw (ne_eqb (byte s (at + i)) (get_or w i 0) (λ z. e (p ∙ z ∙ sym q))))

  pub spelled_end : (i : ℕ) → length w ≤ i → spelled_at s at w ≡ spelled_at s (at + i) (drop i w) → true ≡ spelled_at s at w
  spelled_end i h k = sym (k ∙ ap (spelled_at s (at + i)) (drop_of_length-le w h))

-- a table in two parts
abbrev pub either : Option Found → Option Found → Option Found
either (Some x) f = Some x
either None f = f

pub first-parts : (v w : List Word) (s : List ℕ) (i : ℕ) → first_of (v ++ w) s i ≡ either (first_of v s i) (first_of w s i)
first-parts [] w s i = refl
first-parts (x ∷ v) w s i = go (spelled_at s i x.spelling) (first-parts v w s i)
  where
    go : (b : Bool) → first_of (v ++ w) s i ≡ either (first_of v s i) (first_of w s i)
        → cond b (found_upto x.code (i + length x.spelling)) (first_of (v ++ w) s i) ≡ either (cond b (found_upto x.code (i + length x.spelling)) (first_of v s i)) (first_of w s i)
    go true e = refl
    go false e = e

module _ (v w : List Word) (s : List ℕ) (i : ℕ) where
  pub in_first : {f : Option Found} {x : Found} → f ≡ first_of v s i → f ≡ Some x → Some x ≡ first_of (v ++ w) s i
  in_first p q = sym (first-parts v w s i ∙ ap (λ x. either x (first_of w s i)) (sym p ∙ q))

  pub in_rest : {f g : Option Found} → f ≡ first_of v s i → f ≡ None → g ≡ first_of w s i → g ≡ first_of (v ++ w) s i
  in_rest p q r = r ∙ sym (first-parts v w s i ∙ ap (λ x. either x (first_of w s i)) (sym p ∙ q))

-- each word of the table begins with a letter or a sign
unfoldable pub letter_or_sign : Class → Bool
letter_or_sign Digit = false
letter_or_sign Letter = true
letter_or_sign Sign = true
letter_or_sign Foreign = false

unfoldable pub begins : List ℕ → Bool
begins [] = false
begins (b ∷ w) = letter_or_sign (class_of b)

unfoldable pub all_begin : List Word → Bool
all_begin [] = true
all_begin (w ∷ ws) = begins w.spelling && all_begin ws

-- so a byte of another class begins none
unbegun : (w s : List ℕ) (i : ℕ) → begins w ≡ true → letter_or_sign (class_of (byte s i)) ≡ false → spelled_at s i w ≡ false
unfolding begins
unbegun [] s i h e = cc
unbegun (b ∷ w) s i h e = go (eqb (byte s i) b) refl
  where
    go : (t : Bool) → eqb (byte s i) b ≡ t → (t && spelled_at s (i + 1) w) ≡ false
    go true q = let r = eqb-true (byte s i) b q in let z : true ≡ false = sym h ∙ ap (λ (x : ℕ). letter_or_sign (class_of x)) (sym r) ∙ e in absurd (true≢false z)
    go false q = refl

none_begins : (ws : List Word) (s : List ℕ) (i : ℕ) → all_begin ws ≡ true → letter_or_sign (class_of (byte s i)) ≡ false → None ≡ first_of ws s i
unfolding all_begin
none_begins [] s i h e = refl
none_begins (w ∷ ws) s i h e =
    rw (unbegun w.spelling s i (and_left (begins w.spelling) (all_begin ws) h) e)
    (none_begins ws s i (and_right (begins w.spelling) (all_begin ws) h) e)

pub no_head : (s : List ℕ) (i b : ℕ) (c d : Class) → b ≡ byte s i → c ≡ class_of b → c ≡ d → letter_or_sign d ≡ false → None ≡ first_of heads s i
unfolding all_begin begins letter_or_sign class_of
no_head s i b c d p q r e = none_begins heads s i refl (ap letter_or_sign (ap class_of (sym p) ∙ sym q ∙ r) ∙ e)

-- the answer of a comparison that a branch went by
pub test : {a b t : Bool} → a ≡ b → a ≡ t → b ≡ t
test e h = sym e ∙ h
