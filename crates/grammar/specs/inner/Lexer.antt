-- Words and leaves of a text, found by computing.
use Rattle.std.specs.Prelude.{ℕ, ◌+◌, ◌-◌, Bool, true, cond, Option, Some, None, ◌&&◌, ◌||◌, List, [], ◌∷◌, ◌++◌, eqb, leb, ltb, length, get_or, drop}
use Rattle.number.specs.Axis.{origin}
use Rattle.recording.specs.Recording.{most_pigments}
use Rattle.grammar.specs.declared.Row.{Row}
use Rattle.grammar.specs.declared.Found.{Found}
use Rattle.grammar.specs.declared.Leaf.{Leaf}
use Rattle.grammar.specs.declared.Leaf.TheVariants.{Node, Open}
use Rattle.grammar.specs.Bytes.{bytes}
use Rattle.grammar.specs.Classes.{is_digit}
use Rattle.grammar.specs.Grammar.{decimal}
use Rattle.grammar.specs.inner.Kinds.{COMPARE-V, COMPARE, A-TO-B, FALL, RISE, PIGMENT, HIGH, LOW, LOWAFTER, CAPAFTER, PEAKS, DIPS, CROSS, CROSSUP, DOSE, AMPL, GAPS, STEPS, LAG, NEXT, FINALLY, GLOBALLY, UNTIL, WEAK-UNTIL, BRACKET}
use Rattle.grammar.specs.inner.Table.{row, unary_from}

-- what stands at a position: the byte, or 0 past the end
abbrev pub byte : List ℕ → ℕ → ℕ
byte s i = get_or s i 0

-- the word stands in s from i on
abbrev pub spelled_at : List ℕ → ℕ → List ℕ → Bool
spelled_at s i [] = true
spelled_at s i (b ∷ w) = eqb (byte s i) b && spelled_at s (i + 1) w

-- a word and the code that it is read as
pub record Word : Type 0 where
  pub spelling : List ℕ
  pub code : ℕ

abbrev pub word : ℕ → List ℕ → Word
word n w = record { spelling = w; code = n }

-- the code n was read, and reading stopped at j
abbrev pub found_upto : ℕ → ℕ → Option Found
found_upto n j = Some (record { code = n; end = j })

-- the code of the first of the words that stands in s from i on, and where it stops
abbrev pub first_of : List Word → List ℕ → ℕ → Option Found
first_of [] s i = None
first_of (w ∷ ws) s i = cond (spelled_at s i w.spelling) (found_upto w.code (i + length w.spelling)) (first_of ws s i)

-- the curves, by their codes
abbrev pub curves : List Word
curves = word 0 (bytes "A") ∷ word 1 (bytes "B") ∷ []

-- the relations, by their codes: `>=` before `>`
abbrev pub relations : List Word
relations = word 0 (bytes ">=") ∷ word 1 (bytes "<=") ∷ word 2 (bytes ">") ∷ word 3 (bytes "<") ∷ word 4 (bytes "=") ∷ []

-- the fields, by their codes
abbrev pub fields : List Word
fields = curves ++ (word 2 (bytes "T") ∷ [])

-- the names, by the kinds of their leaves: those of slopes and levels; those of tops, dips and crossings, `crossup` before `cross`; those of differences; and those with the number of a pigment
abbrev pub level_names : List Word
level_names =
    word FALL (bytes "fall(")
    ∷ word RISE (bytes "rise(")
    ∷ word HIGH (bytes "high(")
    ∷ word LOW (bytes "low(")
    ∷ word LOWAFTER (bytes "lowafter(")
    ∷ word CAPAFTER (bytes "capafter(")
    ∷ []

abbrev pub top_names : List Word
top_names =
    word PEAKS (bytes "peaks(")
    ∷ word DIPS (bytes "dips(")
    ∷ word CROSSUP (bytes "crossup")
    ∷ word CROSS (bytes "cross")
    ∷ []

abbrev pub difference_names : List Word
difference_names =
    word AMPL (bytes "ampl(")
    ∷ word GAPS (bytes "gaps(")
    ∷ word STEPS (bytes "steps(")
    ∷ word LAG (bytes "lag")
    ∷ []

abbrev pub pigment_names : List Word
pigment_names = word PIGMENT (bytes "P=") ∷ word DOSE (bytes "dose(") ∷ []

-- the openings, by the kinds of their nodes; a bracket is no node
abbrev pub openings : List Word
openings =
    word NEXT (bytes "X(")
    ∷ word FINALLY (bytes "F(")
    ∷ word GLOBALLY (bytes "G(")
    ∷ word UNTIL (bytes "U(")
    ∷ word WEAK-UNTIL (bytes "W(")
    ∷ word BRACKET (bytes "(")
    ∷ []

-- what a primary text begins with
abbrev pub heads : List Word
heads = fields ++ (level_names ++ (top_names ++ (difference_names ++ (pigment_names ++ openings))))

-- NUMBERS. The digits in front
abbrev pub digit_run : List ℕ → List ℕ
digit_run [] = []
digit_run (b ∷ s) = cond (is_digit b) (b ∷ digit_run s) []

-- the number n of digits that stop at j, if it is on the axis
abbrev pub bounded : ℕ → ℕ → Option Found
bounded n j = cond (leb n origin) (found_upto n j) None

-- the digits at i as a number: `0` alone, or digits without a leading zero
unfoldable pub unsigned_at : List ℕ → ℕ → Option Found
unsigned_at s i =
    cond (eqb (byte s i) 48) (found_upto 0 (i + 1))
    (cond (is_digit (byte s i)) (bounded (decimal (digit_run (drop i s))) (i + length (digit_run (drop i s)))) None)

abbrev pub negated : Option Found → Option Found
negated (Some f) = cond (eqb f.code 0) None (found_upto (origin - f.code) f.end)
negated None = None

abbrev pub shifted : Option Found → Option Found
shifted (Some f) = found_upto (origin + f.code) f.end
shifted None = None

-- the number at i, as its index on the axis
unfoldable pub number_at : List ℕ → ℕ → Option Found
number_at s i = cond (eqb (byte s i) 45) (negated (unsigned_at s (i + 1))) (shifted (unsigned_at s i))

-- a number that was found, if it is a pigment's
abbrev pub of_pigment : Option Found → Option Found
of_pigment (Some f) = cond (eqb f.code 0) None (cond (leb f.code most_pigments) (Some f) None)
of_pigment None = None

-- the number of a pigment at i
unfoldable pub pigment_at : List ℕ → ℕ → Option Found
pigment_at s i = of_pigment (unsigned_at s i)

-- LEAVES
abbrev pub when_found : Option Found → (ℕ → ℕ → Option Leaf) → Option Leaf
when_found (Some f) k = k f.code f.end
when_found None k = None

-- the leaf, if the byte b closes it at j
abbrev pub closed_by : List ℕ → ℕ → Row → ℕ → Option Leaf
closed_by s b r j = cond (eqb (byte s j) b) (Some (Node r (j + 1))) None

-- what stands at j, behind the field f and the relation r
unfoldable pub operand_at : List ℕ → ℕ → ℕ → ℕ → Option Leaf
operand_at s f r j =
    cond (eqb (byte s j) 118) (Some (Node (row COMPARE-V f r 0) (j + 1)))
    (cond (eqb (byte s j) 66 && eqb f 0) (Some (Node (row A-TO-B 0 r 0) (j + 1)))
    (when_found (number_at s j) (λ n e. Some (Node (row COMPARE f r n) e))))

-- what stands at i, behind the field f
unfoldable pub comparison_at : List ℕ → ℕ → ℕ → Option Leaf
comparison_at s f i = when_found (first_of relations s i) (operand_at s f)

-- a name with a curve and a number, from the comma on
unfoldable pub timed_at : List ℕ → ℕ → ℕ → ℕ → Option Leaf
timed_at s k c j =
    cond (eqb (byte s j) 44) (when_found (number_at s (j + 1)) (λ n e. closed_by s 41 (row k c 0 n) e)) None

-- `lowafter` and `capafter` have a number
abbrev pub is_timed : ℕ → Bool
is_timed k = eqb k LOWAFTER || eqb k CAPAFTER

-- the arguments of the name of kind k, from i on
unfoldable pub arguments_at : List ℕ → ℕ → ℕ → Option Leaf
arguments_at s k i =
    when_found (first_of curves s i) (λ c j. cond (is_timed k) (timed_at s k c j) (closed_by s 41 (row k c 0 0) j))

-- `P=` and `dose(` have the number of a pigment
abbrev pub takes_pigment : ℕ → Bool
takes_pigment k = eqb k PIGMENT || eqb k DOSE

-- the number of a pigment behind the word of kind k, from i on; `dose(` is closed
unfoldable pub pigment_leaf_at : List ℕ → ℕ → ℕ → Option Leaf
pigment_leaf_at s k i =
    when_found (pigment_at s i) (λ n e. cond (eqb k DOSE) (closed_by s 41 (row k 0 0 n) e) (Some (Node (row k 0 0 n) e)))

-- `cross`, `crossup` and `lag` have no arguments
abbrev pub is_bare : ℕ → Bool
is_bare k = eqb k CROSS || (eqb k CROSSUP || eqb k LAG)

unfoldable pub named_at : List ℕ → ℕ → ℕ → Option Leaf
named_at s k i = cond (is_bare k) (Some (Node (row k 0 0 0) i)) (cond (takes_pigment k) (pigment_leaf_at s k i) (arguments_at s k i))

unfoldable pub headed_at : List ℕ → ℕ → ℕ → Option Leaf
headed_at s k i = cond (ltb k FALL) (comparison_at s k i) (cond (ltb k unary_from) (named_at s k i) (Some (Open k i)))

-- what stands at i: a leaf, or an opening
unfoldable pub leaf_at : List ℕ → ℕ → Option Leaf
leaf_at s i = when_found (first_of heads s i) (headed_at s)
