-- Worked examples of each rule and of its traps, by computing: texts with their readings, and texts with their refusals.
use Rattle.std.specs.Prelude.{◌≡◌, refl, List, [], ◌∷◌, ◌++◌, map, ℕ, zero, suc}
use Prim.Native.String.{String}
use Rattle.recording.specs.Reading.{A, B}
use Rattle.recording.specs.Recording.{most_pigments}
use Rattle.number.specs.Least.{least}
use Rattle.refusal.specs.Outcome.{Outcome, result, refused, judged}
use Rattle.grammar.specs.Bytes.{bytes}
use Rattle.grammar.specs.Syntax.{of, T, Relation, ge, le, gt, lt, eq, v, number, compare, A-to-B, fall, rise, pigment, high, low, lowafter, capafter, peaks, dips, cross, crossup, dose, ampl, gaps, steps, lag, Text, atom, listed, or, and, neg, finally, globally, next, until, weak_until}
use Rattle.grammar.specs.Size.{too_deep}
use Rattle.text.specs.Told.{text_lines, nodes_of}
use Rattle.grammar.specs.inner.Lexer.{unsigned_at, number_at, pigment_at, operand_at, comparison_at, timed_at, arguments_at, pigment_leaf_at, named_at, headed_at, leaf_at}
use Rattle.grammar.specs.inner.Parse.{Parsed, one, none, parse, parsed}

-- a text and its reading
pub record Example : Type 0 where
  pub text : String
  pub reads : Parsed

abbrev is : String → Text → Example
is w t = record { text = w; reads = one t }

abbrev has_none : String → Example
has_none w = record { text = w; reads = none }

-- A, a relation, v
abbrev Av : Relation → Text
Av r = atom (compare (of A) r v)

abbrev pub examples : List Example
examples =
    -- atoms; `>=` before `>`
    is "A>=v" (Av ge)
    ∷ is "A<=v" (Av le)
    ∷ is "A>v" (Av gt)
    ∷ is "A<v" (Av lt)
    ∷ is "A=v" (Av eq)
    ∷ is "B>=-1" (atom (compare (of B) ge (number 1999999999)))
    ∷ is "T<0" (atom (compare T lt (number 2000000000)))
    ∷ is "A>=B" (atom (A-to-B ge))
    ∷ is "fall(A)" (atom (fall A))
    ∷ is "rise(B)" (atom (rise B))
    ∷ has_none "A=>v"
    ∷ has_none "A==v"
    ∷ has_none "B>A"
    ∷ has_none "A>A"
    ∷ has_none "T>A"
    ∷ has_none "v>A"
    ∷ has_none "5>A"
    ∷ has_none "fall(T)"
    -- numbers: on the axis, no leading zero, no `-0`
    ∷ is "A=2000000000" (atom (compare (of A) eq (number 4000000000)))
    ∷ is "A=-2000000000" (atom (compare (of A) eq (number 0)))
    ∷ has_none "A=2000000001"
    ∷ has_none "A=-2000000001"
    ∷ has_none "A=4294967296"
    ∷ has_none "A=-0"
    ∷ has_none "A=00"
    ∷ has_none "A=01"
    ∷ has_none "A=+1"
    ∷ has_none "A=-"
    -- `|` and `&` group from the left, `&` binds closer, `!` closest
    ∷ is "A>v|A<v|A=v" (or (or (Av gt) (Av lt)) (Av eq))
    ∷ is "A>v&A<v&A=v" (and (and (Av gt) (Av lt)) (Av eq))
    ∷ is "A>v|A<v&A=v" (or (Av gt) (and (Av lt) (Av eq)))
    ∷ is "(A>v|A<v)&A=v" (and (or (Av gt) (Av lt)) (Av eq))
    ∷ is "!A>v&A<v" (and (neg (Av gt)) (Av lt))
    ∷ is "!!(A>v)" (neg (neg (Av gt)))
    -- F, G, X of one text, U, W of two
    ∷ is "F(A>v&X(A<v))" (finally (and (Av gt) (next (Av lt))))
    ∷ is "U(A>=v,G(A=v))" (until (Av ge) (globally (Av eq)))
    ∷ is "W(A>v|A<v,A=v)" (weak_until (or (Av gt) (Av lt)) (Av eq))
    ∷ has_none "F()"
    ∷ has_none "F(A>v"
    ∷ has_none "U(A>v)"
    ∷ has_none "F(A>v,A<v)"
    -- the listed questions
    ∷ is "high(A)|low(B)" (or (listed (high A)) (listed (low B)))
    ∷ is "lowafter(A,40)" (listed (lowafter A 2000000040))
    ∷ is "capafter(B,-5)" (listed (capafter B 1999999995))
    ∷ is "peaks(A)&ampl(B)" (and (listed (peaks A)) (listed (ampl B)))
    ∷ is "gaps(A)|steps(B)" (or (listed (gaps A)) (listed (steps B)))
    ∷ is "cross|lag" (or (listed cross) (listed lag))
    ∷ is "dips(A)&!dips(B)" (and (listed (dips A)) (neg (listed (dips B))))
    ∷ has_none "lag()"
    ∷ has_none "cross(A)"
    ∷ has_none "low(A,40)"
    ∷ has_none "lowafter(A)"
    ∷ has_none "dip(A)"
    ∷ has_none "dips"
    ∷ has_none "dips(T)"
    ∷ has_none "dips(A"
    ∷ has_none "dips(A,40)"
    -- `crossup`, which begins with `cross`
    ∷ is "crossup" (listed crossup)
    ∷ is "cross" (listed cross)
    ∷ is "crossup|cross&crossup" (or (listed crossup) (and (listed cross) (listed crossup)))
    ∷ is "(cross)|!crossup" (or (listed cross) (neg (listed crossup)))
    ∷ has_none "crossup(A)"
    ∷ has_none "crossups"
    ∷ has_none "crossupcross"
    ∷ has_none "crossu"
    ∷ has_none "crossdown"
    ∷ has_none "cross1"
    ∷ has_none "up"
    -- the number of a pigment: 1 to 16, no leading zero, no sign; `P=k` is no listed name, `dose(k)` is one
    ∷ is "P=1" (atom (pigment 1))
    ∷ is "P=16" (atom (pigment 16))
    ∷ is "!P=16&dose(9)" (and (neg (atom (pigment 16))) (listed (dose 9)))
    ∷ is "dose(10)|dose(1)" (or (listed (dose 10)) (listed (dose 1)))
    ∷ is "(dose(16))" (listed (dose 16))
    ∷ is "F(P=1&T=v)" (finally (and (atom (pigment 1)) (atom (compare T eq v))))
    ∷ has_none "F(dose(1))"
    ∷ has_none "dose(2)|X(P=2)"
    ∷ has_none "P=0"
    ∷ has_none "P=17"
    ∷ has_none "P=01"
    ∷ has_none "P=016"
    ∷ has_none "P=160"
    ∷ has_none "P=1600"
    ∷ has_none "P=4294967297"
    ∷ has_none "P=-1"
    ∷ has_none "P=+1"
    ∷ has_none "P=v"
    ∷ has_none "P=A"
    ∷ has_none "P="
    ∷ has_none "P"
    ∷ has_none "P=1A"
    ∷ has_none "P==1"
    ∷ has_none "P>=1"
    ∷ has_none "P<2"
    ∷ has_none "P=(1)"
    ∷ has_none "p=1"
    ∷ has_none "1=P"
    ∷ has_none "A=P"
    ∷ has_none "dose(0)"
    ∷ has_none "dose(017)"
    ∷ has_none "dose(17)"
    ∷ has_none "dose(116)"
    ∷ has_none "dose(-1)"
    ∷ has_none "dose(v)"
    ∷ has_none "dose(A)"
    ∷ has_none "dose(A,1)"
    ∷ has_none "dose(1,2)"
    ∷ has_none "dose(P=1)"
    ∷ has_none "dose"
    ∷ has_none "dose()"
    ∷ has_none "dose(1"
    ∷ has_none "dose1"
    ∷ has_none "doses(1)"
    -- a listed name beside F, G, X, U or W; blanks; bytes left over
    ∷ has_none "high(A)|F(A>v)"
    ∷ has_none "X(lag)"
    ∷ has_none "F(crossup)"
    ∷ has_none "crossup&G(A>v)"
    ∷ has_none "W(A>v,!dips(B))"
    ∷ has_none "A >v"
    ∷ has_none "A>v "
    ∷ has_none "A>v)"
    ∷ has_none ""
    ∷ []

pub examples_hold : map (λ e. parsed (bytes e.text)) examples ≡ map (λ e. e.reads) examples
unfolding parsed parse unsigned_at number_at pigment_at operand_at comparison_at timed_at arguments_at pigment_leaf_at named_at headed_at leaf_at
examples_hold = refl

-- each of the sixteen pigments has its word, in `P=k` and in `dose(k)`
abbrev sixteen : List String
sixteen = "1" ∷ "2" ∷ "3" ∷ "4" ∷ "5" ∷ "6" ∷ "7" ∷ "8" ∷ "9" ∷ "10" ∷ "11" ∷ "12" ∷ "13" ∷ "14" ∷ "15" ∷ "16" ∷ []

-- the numbers from 1 up to n
abbrev count_up : ℕ → List ℕ
count_up zero = []
count_up (suc n) = count_up n ++ (suc n ∷ [])

pub sixteen_hold : (map (λ w. parsed (bytes "P=" ++ bytes w)) sixteen ≡ map (λ k. one (atom (pigment k))) (count_up most_pigments))
    × (map (λ w. parsed (bytes "dose(" ++ bytes w ++ bytes ")")) sixteen ≡ map (λ k. one (listed (dose k))) (count_up most_pigments))
unfolding parsed parse unsigned_at number_at pigment_at operand_at comparison_at timed_at arguments_at pigment_leaf_at named_at headed_at leaf_at
sixteen_hold = (refl, refl)

-- a text and its outcome: the nodes, or the refusal
pub record Judged : Type 0 where
  pub text : List ℕ
  pub outcome : Outcome ℕ

abbrev nodes_are : List ℕ → ℕ → Judged
nodes_are w n = record { text = w; outcome = result n }

abbrev refusal_is : List ℕ → ℕ → Judged
refusal_is w n = record { text = w; outcome = refused n 0 }

-- n times the word
abbrev times : ℕ → List ℕ → List ℕ
times zero w = []
times (suc n) w = w ++ times n w

-- the text in n brackets
abbrev nested : ℕ → List ℕ → List ℕ
nested n w = times n (bytes "(") ++ w ++ times n (bytes ")")

abbrev pub outcomes : List Judged
outcomes =
    -- 5 goes by the length alone
    refusal_is [] 5
    ∷ refusal_is (times 257 (bytes "(")) 5
    ∷ refusal_is (times 256 (bytes "(")) 6
    -- every `(` counts, that of `fall(` too
    ∷ nodes_are (nested 16 (bytes "A>=v")) 1
    ∷ refusal_is (nested 17 (bytes "A>=v")) 7
    ∷ nodes_are (nested 15 (bytes "fall(A)")) 1
    ∷ refusal_is (nested 16 (bytes "fall(A)")) 7
    ∷ nodes_are (nested 16 (bytes "P=1")) 1
    ∷ nodes_are (nested 15 (bytes "dose(1)")) 1
    ∷ refusal_is (nested 16 (bytes "dose(1)")) 7
    -- 32 nodes, and 33
    ∷ nodes_are (times 31 (bytes "!") ++ bytes "A>v") 32
    ∷ refusal_is (times 32 (bytes "!") ++ bytes "A>v") 7
    ∷ nodes_are (times 15 (bytes "A>v|") ++ bytes "A>v") 31
    ∷ refusal_is (times 16 (bytes "A>v|") ++ bytes "A>v") 7
    -- 6 comes before 7, whatever the depth and the nodes
    ∷ refusal_is (times 17 (bytes "(")) 6
    ∷ refusal_is (nested 17 (bytes "A>=v") ++ bytes ")") 6
    ∷ refusal_is (nested 17 (bytes "lag|X(A>v)")) 6
    ∷ refusal_is (times 253 (bytes "!") ++ bytes "A>v") 7
    ∷ refusal_is (times 253 (bytes "!") ++ bytes "A>A") 6
    ∷ refusal_is (nested 126 (bytes "A>v")) 7
    ∷ []

pub outcomes_hold : map (λ e. judged (text_lines e.text) (nodes_of (parsed e.text))) outcomes ≡ map (λ e. e.outcome) outcomes
unfolding judged too_deep least parsed parse unsigned_at number_at pigment_at operand_at comparison_at timed_at arguments_at pigment_leaf_at named_at headed_at leaf_at
outcomes_hold = refl
