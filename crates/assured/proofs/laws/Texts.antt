-- Texts that are assured under the mark 40, and texts that are not: by computation.
use Rattle.std.specs.Prelude.{ℕ, ◌≡◌, refl, Bool, true, ◌&&◌, not, List, [], ◌∷◌}
use Rattle.grammar.specs.Bytes.{bytes}
use Rattle.grammar.specs.inner.Lexer.{unsigned_at, number_at, pigment_at, pigment_leaf_at, operand_at, comparison_at, timed_at, arguments_at, named_at, headed_at, leaf_at}
use Rattle.grammar.specs.inner.Parse.{parse, parsed}
use Rattle.question.specs.Question.{read}
use Rattle.assured.specs.inner.Test.{is_assured}

abbrev mark40 : List ℕ
mark40 = 40 ∷ []

abbrev assured_texts : List (List ℕ)
assured_texts =
    -- of additions
    bytes "F(P=3&A=v)"
    ∷ bytes "F(P=3&B=v)"
    ∷ bytes "F(P=3&T=v)"
    ∷ bytes "F(P=3&A>B)"
    ∷ bytes "G(!P=3|A>B)"
    ∷ bytes "G(!P=3|A>=v)"
    ∷ bytes "F(P=3&A=v)|F(P=4&A=v)"
    ∷ bytes "F(P=3&X(F(P=4&A=v)))"
    ∷ bytes "G(!P=3|X(G(!P=3)))"
    ∷ bytes "U(!P=4,P=3)"
    -- of the side of the master, and of slopes
    ∷ bytes "F(A>B)"
    ∷ bytes "G(A<=B)"
    ∷ bytes "F(T>100&A>B)"
    ∷ bytes "G(A>B|F(P=3))"
    ∷ bytes "!F(A<=B&F(P=3))"
    ∷ bytes "F(fall(A))"
    ∷ bytes "G(!rise(B))"
    -- of one bound, and of the last reading
    ∷ bytes "F(A>=v)"
    ∷ bytes "F(A<v)"
    ∷ bytes "G(B<=v)"
    ∷ bytes "F(T>40&A<=v)"
    ∷ bytes "G(!(T>40)|A<=v)"
    ∷ bytes "F(G(A=v))"
    -- joined
    ∷ bytes "A>=v&F(P=3)"
    ∷ bytes "F(A>=v)&G(B<=v)&!F(P=3)"
    ∷ bytes "A=v|F(A>B)&F(B>=50)"
    ∷ bytes "!F(P=3&A>B)|F(A>B)&G(!rise(B))"
    -- without F, G, X, U and W
    ∷ bytes "high(A)"
    ∷ bytes "capafter(A,40)|peaks(B)"
    ∷ bytes "A=v&!A>B"
    ∷ []

-- 41 is no mark; F(A=v) needs every value; X and U reach readings that are left out; v at an addition beside a bound, or beside a bare atom, puts 8 at risk
abbrev other_texts : List (List ℕ)
other_texts =
    bytes "capafter(A,41)"
    ∷ bytes "F(T>41&A<=v)"
    ∷ bytes "F(A=v)"
    ∷ bytes "F(A>=B)"
    ∷ bytes "F(A=60&X(A=v))"
    ∷ bytes "F(P=3&X(A=v))"
    ∷ bytes "U(A>=40,A=v)"
    ∷ bytes "X(A>=v)"
    ∷ bytes "F(A>B&A=v)"
    ∷ bytes "F(fall(A)&A>B)"
    ∷ bytes "F(P=3&A=v)&F(B>=50)"
    ∷ bytes "F(P=3&A=v)&F(B>=v)"
    ∷ bytes "F(P=3&A=v)|A=v"
    ∷ bytes "G(F(A=v))"
    ∷ []

abbrev all : (List ℕ → Bool) → List (List ℕ) → Bool
all P [] = true
all P (t ∷ ts) = P t && all P ts

pub assured-texts : all (λ text. is_assured mark40 (read text)) assured_texts ≡ true
unfolding parsed parse unsigned_at number_at pigment_at pigment_leaf_at operand_at comparison_at timed_at arguments_at named_at headed_at leaf_at
assured-texts = refl

pub other-texts : all (λ text. not (is_assured mark40 (read text))) other_texts ≡ true
unfolding parsed parse unsigned_at number_at pigment_at pigment_leaf_at operand_at comparison_at timed_at arguments_at named_at headed_at leaf_at
other-texts = refl
