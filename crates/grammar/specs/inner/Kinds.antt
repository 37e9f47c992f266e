-- The kinds of nodes by their numbers, in the order of the lists of Table.
use Rattle.std.specs.Prelude.{ℕ}

-- a field and v, a field and a number, and A and B
abbrev pub COMPARE-V : ℕ
COMPARE-V = 0

abbrev pub COMPARE : ℕ
COMPARE = 1

abbrev pub A-TO-B : ℕ
A-TO-B = 2

abbrev pub FALL : ℕ
FALL = 3

abbrev pub RISE : ℕ
RISE = 4

abbrev pub PIGMENT : ℕ
PIGMENT = 5

-- the listed questions
abbrev pub HIGH : ℕ
HIGH = 6

abbrev pub LOW : ℕ
LOW = 7

abbrev pub LOWAFTER : ℕ
LOWAFTER = 8

abbrev pub CAPAFTER : ℕ
CAPAFTER = 9

abbrev pub PEAKS : ℕ
PEAKS = 10

abbrev pub DIPS : ℕ
DIPS = 11

abbrev pub CROSS : ℕ
CROSS = 12

abbrev pub CROSSUP : ℕ
CROSSUP = 13

abbrev pub DOSE : ℕ
DOSE = 14

abbrev pub AMPL : ℕ
AMPL = 15

abbrev pub GAPS : ℕ
GAPS = 16

abbrev pub STEPS : ℕ
STEPS = 17

abbrev pub LAG : ℕ
LAG = 18

-- operators over one text: `!`, X, F and G
abbrev pub NOT : ℕ
NOT = 19

abbrev pub NEXT : ℕ
NEXT = 20

abbrev pub FINALLY : ℕ
FINALLY = 21

abbrev pub GLOBALLY : ℕ
GLOBALLY = 22

-- operators over two texts: `|`, `&`, U and W
abbrev pub OR : ℕ
OR = 23

abbrev pub AND : ℕ
AND = 24

abbrev pub UNTIL : ℕ
UNTIL = 25

abbrev pub WEAK-UNTIL : ℕ
WEAK-UNTIL = 26

-- a bracket, which is no node
abbrev pub BRACKET : ℕ
BRACKET = 27
