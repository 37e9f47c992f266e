-- Document 01, "The question text" and refusal 7: what a text writes, its nodes, its after-times, and the brackets open at a byte.
use Rattle.std.specs.Prelude.{ℕ, suc, ◌+◌, ◌-◌, Bool, true, false, ◌&&◌, ◌||◌, cond, List, [], ◌∷◌, ◌++◌, eqb, ltb, length, take}
use Rattle.number.specs.Least.{least}
use Rattle.grammar.specs.Syntax.{Listed, high, low, lowafter, capafter, peaks, dips, cross, crossup, dose, ampl, gaps, steps, lag, Text, atom, listed, or, and, neg, finally, globally, next, until, weak_until}

-- the text writes one of F, G, X, U and W
abbrev pub temporal : Text → Bool
temporal (atom a) = false
temporal (listed q) = false
temporal (or p q) = temporal p || temporal q
temporal (and p q) = temporal p || temporal q
temporal (neg p) = temporal p
temporal (finally p) = true
temporal (globally p) = true
temporal (next p) = true
temporal (until p q) = true
temporal (weak_until p q) = true

-- the text writes a listed name
abbrev pub has_listed : Text → Bool
has_listed (atom a) = false
has_listed (listed q) = true
has_listed (or p q) = has_listed p || has_listed q
has_listed (and p q) = has_listed p || has_listed q
has_listed (neg p) = has_listed p
has_listed (finally p) = has_listed p
has_listed (globally p) = has_listed p
has_listed (next p) = has_listed p
has_listed (until p q) = has_listed p || has_listed q
has_listed (weak_until p q) = has_listed p || has_listed q

-- a listed name beside F, G, X, U or W, anywhere in the text
abbrev pub mixed : Text → Bool
mixed t = has_listed t && temporal t

-- the nodes: atoms, listed names and operators
abbrev pub nodes : Text → ℕ
nodes (atom a) = 1
nodes (listed q) = 1
nodes (or p q) = nodes p + nodes q + 1
nodes (and p q) = nodes p + nodes q + 1
nodes (neg p) = nodes p + 1
nodes (finally p) = nodes p + 1
nodes (globally p) = nodes p + 1
nodes (next p) = nodes p + 1
nodes (until p q) = nodes p + nodes q + 1
nodes (weak_until p q) = nodes p + nodes q + 1

abbrev pub after_time : Listed → List ℕ
after_time (lowafter c k) = k ∷ []
after_time (capafter c k) = k ∷ []
after_time (high c) = []
after_time (low c) = []
after_time (peaks c) = []
after_time (dips c) = []
after_time cross = []
after_time crossup = []
after_time (dose k) = []
after_time (ampl c) = []
after_time (gaps c) = []
after_time (steps c) = []
after_time lag = []

-- the after-times of a text: each k of `lowafter` and `capafter`, as its index on the axis
abbrev pub after_times : Text → List ℕ
after_times (atom a) = []
after_times (listed q) = after_time q
after_times (or p q) = after_times p ++ after_times q
after_times (and p q) = after_times p ++ after_times q
after_times (neg p) = after_times p
after_times (finally p) = after_times p
after_times (globally p) = after_times p
after_times (next p) = after_times p
after_times (until p q) = after_times p ++ after_times q
after_times (weak_until p q) = after_times p ++ after_times q

-- how often the byte b stands in a list of bytes
abbrev pub count : ℕ → List ℕ → ℕ
count b [] = 0
count b (x ∷ w) = cond (eqb x b) 1 0 + count b w

-- the brackets still open at byte i, every `(` counted: those opened up to it less those closed
abbrev pub open_at : List ℕ → ℕ → ℕ
open_at s i = count 40 (take (suc i) s) - count 41 (take (suc i) s)

-- the most bytes of a text, the most nodes, and the most brackets open at a byte
abbrev pub most_bytes : ℕ
most_bytes = 256

abbrev pub most_nodes : ℕ
most_nodes = 32

abbrev pub most_open : ℕ
most_open = 16

-- at some byte, over 16 brackets are open
unfoldable pub too_deep : List ℕ → Bool
too_deep s = ltb (least (λ i. ltb most_open (open_at s i)) (length s)) (length s)
