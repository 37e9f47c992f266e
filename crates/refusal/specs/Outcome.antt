-- Document 01, "When no result is given": a call gives its result, or one refusal with its number and its place.
use Rattle.std.specs.Prelude.{ℕ, ◌≡◌, Bool, false, cond, List, [], ◌∷◌, Result, Ok, Err}
use Rattle.refusal.specs.declared.Refusal.{Refusal}
use Rattle.refusal.specs.Numbers.{number_of, place_of}

pub data Outcome (R : Type 0) : Type 0 where
  result : R → Outcome R
  refused : (number place : ℕ) → Outcome R

-- what a call answers, as its outcome: the result, or the refusal's number and place
abbrev pub reported : {R : Type 0} → Result R Refusal → Outcome R
reported (Ok r) = result r
reported (Err x) = refused (number_of x) (place_of x)

-- a line of the table, and whether its condition meets the call
pub record Line : Type 0 where
  pub number : ℕ
  pub place : ℕ
  pub meets : Bool

-- a line whose place is 0: every line but that of number 3
abbrev pub line : ℕ → Bool → Line
line n m = record { number = n; place = 0; meets = m }

-- the first line that meets, in the order in which they are given; where none does, the result
unfoldable pub judged : {R : Type 0} → List Line → R → Outcome R
judged [] r = result r
judged (l ∷ ls) r = cond l.meets (refused l.number l.place) (judged ls r)

-- no line meets
abbrev pub NoneMeets : List Line → Type 0
NoneMeets [] = Unit {0}
NoneMeets (l ∷ ls) = (l.meets ≡ false) × NoneMeets ls
