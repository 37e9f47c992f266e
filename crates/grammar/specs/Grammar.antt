-- Document 01, "The question text", and Papers 1 and 3: the printed rules. `Reads l w t` says that the word w reads as t, at the level l.
use Rattle.std.specs.Prelude.{ℕ, ◌+◌, ◌*◌, ◌-◌, ◌≤◌, ◌≡◌, true, false, List, [], ◌∷◌, ◌++◌}
use Rattle.number.specs.Axis.{origin}
use Rattle.recording.specs.Reading.{Curve, A, B}
use Rattle.recording.specs.Recording.{most_pigments}
use Rattle.grammar.specs.Bytes.{bytes}
use Rattle.grammar.specs.Classes.{is_digit}
use Rattle.grammar.specs.Size.{mixed}
use Rattle.grammar.specs.Syntax.{Field, of, T, Relation, ge, le, gt, lt, eq, Operand, v, number, Atom, compare, A-to-B, fall, rise, pigment, Listed, high, low, lowafter, capafter, peaks, dips, cross, crossup, dose, ampl, gaps, steps, lag, Text, atom, listed, or, and, neg, finally, globally, next, until, weak_until}

-- NUMBERS. What digits come to, in decimal, behind digits that come to n
abbrev pub decimal_from : ℕ → List ℕ → ℕ
decimal_from n [] = n
decimal_from n (d ∷ w) = decimal_from (10 * n + (d - 48)) w

abbrev pub decimal : List ℕ → ℕ
decimal w = decimal_from 0 w

abbrev pub AllDigits : List ℕ → Type 0
AllDigits [] = Unit {0}
AllDigits (d ∷ w) = (is_digit d ≡ true) × AllDigits w

-- digits without a leading zero (`1` to `9`, then digits) that come to m at most
pub record Positive (m d : ℕ) (w : List ℕ) : Type 0 where
  pub first : 49 ≤ d
  pub digits : AllDigits (d ∷ w)
  pub within : decimal (d ∷ w) ≤ m

-- the word of a number, with the number's index on the axis: `0`, or without a leading zero, minus allowed
pub data Numeral : List ℕ → ℕ → Type 0 where
  zero_itself : Numeral (bytes "0") origin
  plain : {d : ℕ} {w : List ℕ} → Positive origin d w → Numeral (d ∷ w) (origin + decimal (d ∷ w))
  minus : {d : ℕ} {w : List ℕ} → Positive origin d w → Numeral (bytes "-" ++ d ∷ w) (origin - decimal (d ∷ w))

-- the number of a pigment: 1 to 16, in decimal, without a leading zero
abbrev pub PigmentNumber : ℕ → List ℕ → Type 0
PigmentNumber d w = Positive most_pigments d w

-- ATOMS
abbrev pub curve_word : Curve → List ℕ
curve_word A = bytes "A"
curve_word B = bytes "B"

abbrev pub field_word : Field → List ℕ
field_word (of c) = curve_word c
field_word T = bytes "T"

abbrev pub relation_word : Relation → List ℕ
relation_word ge = bytes ">="
relation_word le = bytes "<="
relation_word gt = bytes ">"
relation_word lt = bytes "<"
relation_word eq = bytes "="

pub data OperandWord : List ℕ → Operand → Type 0 where
  the_v : OperandWord (bytes "v") v
  a_number : {w : List ℕ} {k : ℕ} → Numeral w k → OperandWord w (number k)

-- A, B or T, a relation, then v or a number; A, a relation, then B; `fall(c)`; `rise(c)`; `P=k`
pub data AtomWord : List ℕ → Atom → Type 0 where
  compared : {w : List ℕ} {o : Operand} (f : Field) (r : Relation) → OperandWord w o → AtomWord (field_word f ++ relation_word r ++ w) (compare f r o)
  curves : (r : Relation) → AtomWord (bytes "A" ++ relation_word r ++ bytes "B") (A-to-B r)
  falling : (c : Curve) → AtomWord (bytes "fall(" ++ curve_word c ++ bytes ")") (fall c)
  rising : (c : Curve) → AtomWord (bytes "rise(" ++ curve_word c ++ bytes ")") (rise c)
  pigment_is : {d : ℕ} {w : List ℕ} → PigmentNumber d w → AtomWord (bytes "P=" ++ d ∷ w) (pigment (decimal (d ∷ w)))

-- THE LISTED QUESTIONS
pub data ListedWord : List ℕ → Listed → Type 0 where
  a_high : (c : Curve) → ListedWord (bytes "high(" ++ curve_word c ++ bytes ")") (high c)
  a_low : (c : Curve) → ListedWord (bytes "low(" ++ curve_word c ++ bytes ")") (low c)
  a_lowafter : {w : List ℕ} {k : ℕ} (c : Curve) → Numeral w k → ListedWord (bytes "lowafter(" ++ curve_word c ++ bytes "," ++ w ++ bytes ")") (lowafter c k)
  a_capafter : {w : List ℕ} {k : ℕ} (c : Curve) → Numeral w k → ListedWord (bytes "capafter(" ++ curve_word c ++ bytes "," ++ w ++ bytes ")") (capafter c k)
  a_peaks : (c : Curve) → ListedWord (bytes "peaks(" ++ curve_word c ++ bytes ")") (peaks c)
  a_dips : (c : Curve) → ListedWord (bytes "dips(" ++ curve_word c ++ bytes ")") (dips c)
  a_cross : ListedWord (bytes "cross") cross
  a_crossup : ListedWord (bytes "crossup") crossup
  a_dose : {d : ℕ} {w : List ℕ} → PigmentNumber d w → ListedWord (bytes "dose(" ++ (d ∷ w) ++ bytes ")") (dose (decimal (d ∷ w)))
  an_ampl : (c : Curve) → ListedWord (bytes "ampl(" ++ curve_word c ++ bytes ")") (ampl c)
  a_gaps : (c : Curve) → ListedWord (bytes "gaps(" ++ curve_word c ++ bytes ")") (gaps c)
  a_steps : (c : Curve) → ListedWord (bytes "steps(" ++ curve_word c ++ bytes ")") (steps c)
  a_lag : ListedWord (bytes "lag") lag

-- THE LEVELS, loosest first: texts joined by `|`, by `&`, under `!`, and primary ones
pub data Level : Type 0 where
  alternation conjunction negation primary : Level

pub data Reads : Level → List ℕ → Text → Type 0 where
  -- `|` and `&` group from the left
  one_conjunction : {w : List ℕ} {p : Text} → Reads conjunction w p → Reads alternation w p
  bar : {x y : List ℕ} {p q : Text} → Reads alternation x p → Reads conjunction y q → Reads alternation (x ++ bytes "|" ++ y) (or p q)
  one_negation : {w : List ℕ} {p : Text} → Reads negation w p → Reads conjunction w p
  ampersand : {x y : List ℕ} {p q : Text} → Reads conjunction x p → Reads negation y q → Reads conjunction (x ++ bytes "&" ++ y) (and p q)
  -- `!` may be repeated
  one_primary : {w : List ℕ} {p : Text} → Reads primary w p → Reads negation w p
  bang : {w : List ℕ} {p : Text} → Reads negation w p → Reads negation (bytes "!" ++ w) (neg p)
  -- each bracket holds a whole text again
  bracketed : {w : List ℕ} {p : Text} → Reads alternation w p → Reads primary (bytes "(" ++ w ++ bytes ")") p
  an_F : {w : List ℕ} {p : Text} → Reads alternation w p → Reads primary (bytes "F(" ++ w ++ bytes ")") (finally p)
  a_G : {w : List ℕ} {p : Text} → Reads alternation w p → Reads primary (bytes "G(" ++ w ++ bytes ")") (globally p)
  an_X : {w : List ℕ} {p : Text} → Reads alternation w p → Reads primary (bytes "X(" ++ w ++ bytes ")") (next p)
  a_U : {x y : List ℕ} {p q : Text} → Reads alternation x p → Reads alternation y q → Reads primary (bytes "U(" ++ x ++ bytes "," ++ y ++ bytes ")") (until p q)
  a_W : {x y : List ℕ} {p q : Text} → Reads alternation x p → Reads alternation y q → Reads primary (bytes "W(" ++ x ++ bytes "," ++ y ++ bytes ")") (weak_until p q)
  an_atom : {w : List ℕ} {a : Atom} → AtomWord w a → Reads primary w (atom a)
  a_listed : {w : List ℕ} {q : Listed} → ListedWord w q → Reads primary w (listed q)

-- A READING of a whole text: by the rules, and with no listed name beside F, G, X, U or W
abbrev pub ReadsWhole : List ℕ → Text → Type 0
ReadsWhole s t = Reads alternation s t × (mixed t ≡ false)
