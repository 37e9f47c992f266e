-- Document 01, "The question text": each byte of the text falls in one class, digit, letter, sign or foreign.
use Rattle.std.specs.Prelude.{ℕ, Bool, false, ◌&&◌, ◌||◌, cond, List, [], ◌∷◌, leb, eqb}
use Rattle.grammar.specs.Bytes.{bytes}
use Rattle.grammar.specs.declared.Class.{Class}
use Rattle.grammar.specs.declared.Class.TheVariants.{Digit, Letter, Sign, Foreign}

abbrev pub within : ℕ → ℕ → ℕ → Bool
within low high b = leb low b && leb b high

-- `0` to `9`
abbrev pub is_digit : ℕ → Bool
is_digit b = within 48 57 b

-- `A` to `Z` and `a` to `z`
abbrev pub is_letter : ℕ → Bool
is_letter b = within 65 90 b || within 97 122 b

-- `!` `&` `(` `)` `,` `-` `<` `=` `>` `|`
abbrev pub is_sign : ℕ → Bool
is_sign b = eqb b 33 || (eqb b 38 || (within 40 41 b || (within 44 45 b || (within 60 62 b || eqb b 124))))

unfoldable pub class_of : ℕ → Class
class_of b = cond (is_digit b) Digit (cond (is_letter b) Letter (cond (is_sign b) Sign Foreign))

-- the byte stands in the text
abbrev pub among : ℕ → List ℕ → Bool
among b [] = false
among b (x ∷ w) = eqb x b || among b w

-- THE CLASSES BY THEIR CHARACTERS, the same of each byte: laws/Class, `classes_listed`
unfoldable pub listed_class : ℕ → Class
listed_class b =
    cond (among b (bytes "0123456789")) Digit
    (cond (among b (bytes "ABCDEFGHIJKLMNOPQRSTUVWXYZabcdefghijklmnopqrstuvwxyz")) Letter
    (cond (among b (bytes "|&!(),<>=-")) Sign Foreign))
