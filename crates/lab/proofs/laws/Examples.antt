-- Texts that a laboratory may ask with the mark 40, and texts that it may not, by their bytes.
use Rattle.std.specs.Prelude.{ℕ, ◌≡◌, refl, Bool, true, false, List, [], ◌∷◌, map}
use Rattle.grammar.specs.Bytes.{bytes}
use Rattle.grammar.specs.inner.Lexer.{unsigned_at, number_at, pigment_at, pigment_leaf_at, operand_at, comparison_at, timed_at, arguments_at, named_at, headed_at, leaf_at}
use Rattle.grammar.specs.inner.Parse.{parse, parsed}
use Rattle.meaning.specs.inner.Truth.{some_node}
use Rattle.question.specs.Question.{read}
use Rattle.lab.specs.inner.Barred.{not_for_laboratory}

-- on A, the time and pigments, with the mark as after-time
abbrev pub laboratory_texts : List (List ℕ)
laboratory_texts =
    bytes "high(A)"
    ∷ bytes "peaks(A)&!gaps(A)|dose(7)"
    ∷ bytes "lowafter(A,40)"
    ∷ bytes "A>=v&T<=40&fall(A)&P=7"
    ∷ []

-- on B, on both curves, with F, G, X, U or W, and with an after-time that is no mark; one below 0 never is
abbrev pub other_texts : List (List ℕ)
other_texts =
    bytes "high(B)"
    ∷ bytes "high(A)|!(B=3)"
    ∷ bytes "rise(B)"
    ∷ bytes "A>B"
    ∷ bytes "cross"
    ∷ bytes "crossup"
    ∷ bytes "lag"
    ∷ bytes "F(A>=v)"
    ∷ bytes "W(A>=v,T=3)"
    ∷ bytes "lowafter(A,41)"
    ∷ bytes "capafter(A,39)"
    ∷ bytes "capafter(A,-40)"
    ∷ []

abbrev barred_texts : List (List ℕ) → List Bool
barred_texts texts = map (λ (t : List ℕ). not_for_laboratory (40 ∷ []) (read t)) texts

pub laboratory-texts : barred_texts laboratory_texts ≡ map (λ (t : List ℕ). false) laboratory_texts
unfolding not_for_laboratory some_node parsed parse unsigned_at number_at pigment_at pigment_leaf_at operand_at comparison_at timed_at arguments_at named_at headed_at leaf_at
laboratory-texts = refl

pub other-texts : barred_texts other_texts ≡ map (λ (t : List ℕ). true) other_texts
unfolding not_for_laboratory some_node parsed parse unsigned_at number_at pigment_at pigment_leaf_at operand_at comparison_at timed_at arguments_at named_at headed_at leaf_at
other-texts = refl
