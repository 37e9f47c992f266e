-- A text that reads with one of F, G, X, U and W writes its letter. So a text that writes none of these letters reads without them.
use Rattle.std.specs.Prelude.{ℕ, ◌≡◌, refl, Bool, true, false, ◌||◌, ◌⊎◌}
use Rattle.std.proofs.lemmas.Bool.{false≢true}
use Rattle.std.proofs.Common.{inl, inr, ⊎_elim}
use mathlib.Core.List.Memᴰ
use mathlib.Core.List.{List, ◌++◌, Memᴰ}
use Rattle.grammar.specs.Bytes.{bytes}
use Rattle.grammar.specs.Syntax.{Text}
use Rattle.grammar.specs.Size.{temporal}
use Rattle.grammar.specs.Grammar.{Level, Reads, one_conjunction, bar, one_negation, ampersand, one_primary, bang, bracketed, an_F, a_G, an_X, a_U, a_W, an_atom, a_listed, ReadsWhole}

-- the word writes an operator's letter
abbrev WritesLetter : List ℕ → Type 0
WritesLetter w = (b : ℕ) × Memᴰ b (bytes "FGXUW") × Memᴰ b w

left_writes : (x y : List ℕ) → WritesLetter x → WritesLetter (x ++ y)
left_writes x y w = (w.0, w.1, Memᴰ.append_left y w.2)

right_writes : (x : List ℕ) {y : List ℕ} → WritesLetter y → WritesLetter (x ++ y)
right_writes x w = (w.0, w.1, Memᴰ.append_right x w.2)

either : (a b : Bool) → (a || b) ≡ true → (a ≡ true) ⊎ (b ≡ true)
either true b e = inl refl
either false b e = inr e

operator_written : {l : Level} {w : List ℕ} {t : Text} → Reads l w t → temporal t ≡ true → WritesLetter w
operator_written (one_conjunction r) e = operator_written r e
operator_written (bar {x} {y} {p} {q} r s) e = ⊎_elim (λ h. left_writes (x ++ bytes "|") y (left_writes x (bytes "|") (operator_written r h)))
    (λ h. right_writes (x ++ bytes "|") (operator_written s h)) (either (temporal p) (temporal q) e)
operator_written (one_negation r) e = operator_written r e
operator_written (ampersand {x} {y} {p} {q} r s) e = ⊎_elim (λ h. left_writes (x ++ bytes "&") y (left_writes x (bytes "&") (operator_written r h)))
    (λ h. right_writes (x ++ bytes "&") (operator_written s h)) (either (temporal p) (temporal q) e)
operator_written (one_primary r) e = operator_written r e
operator_written (bang r) e = right_writes (bytes "!") (operator_written r e)
operator_written (bracketed {w} r) e = right_writes (bytes "(") (left_writes w (bytes ")") (operator_written r e))
operator_written (an_F r) e = (70, Memᴰ.head refl, Memᴰ.head refl)
operator_written (a_G r) e = (71, Memᴰ.tail (Memᴰ.head refl), Memᴰ.head refl)
operator_written (an_X r) e = (88, Memᴰ.tail (Memᴰ.tail (Memᴰ.head refl)), Memᴰ.head refl)
operator_written (a_U r s) e = (85, Memᴰ.tail (Memᴰ.tail (Memᴰ.tail (Memᴰ.head refl))), Memᴰ.head refl)
operator_written (a_W r s) e = (87, Memᴰ.tail (Memᴰ.tail (Memᴰ.tail (Memᴰ.tail (Memᴰ.head refl)))), Memᴰ.head refl)
operator_written (an_atom a) e = absurd (false≢true e)
operator_written (a_listed q) e = absurd (false≢true e)

pub unwritten_propositional : (text : List ℕ) (t : Text) → ReadsWhole text t → ((b : ℕ) → Memᴰ b (bytes "FGXUW") → ¬ Memᴰ b text) → temporal t ≡ false
unwritten_propositional text t r no-letter = go (temporal t) refl
  where
    go : (b : Bool) → temporal t ≡ b → temporal t ≡ false
    go true e = let w = operator_written r.0 e in absurd (no-letter w.0 w.1 w.2)
    go false e = e
