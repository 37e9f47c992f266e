-- Document 01, the table of refusals: 5, 6 and 7 of a text, and what the reader answers.
use Rattle.refusal.specs.declared.Refusal.{Refusal}
use Rattle.std.specs.Prelude.{ℕ, ◌-◌, ◌≡◌, Bool, true, false, ◌||◌, List, [], ◌∷◌, eqb, ltb, length, Result, Ok}
use Rattle.refusal.specs.Outcome.{reported, Line, line, judged}
use Rattle.grammar.specs.Size.{nodes, too_deep, most_bytes, most_nodes}
use Rattle.grammar.specs.inner.Table.{tree_at, Falling}
use Rattle.grammar.specs.inner.Parse.{Parsed, one, none, parsed}
use Rattle.parser.specs.inner.Rows.{Laid}

-- 5: the text is empty or over 256 bytes long
abbrev pub bad_length : List ℕ → Bool
bad_length s = eqb (length s) 0 || ltb most_bytes (length s)

-- 6: the text has no reading. `reading` is the reading by the printed rules: Unique, `reading_is` and `reading_none`
abbrev pub no_reading : Parsed → Bool
no_reading (one t) = false
no_reading none = true

-- the nodes of the reading
abbrev pub nodes_of : Parsed → ℕ
nodes_of (one t) = nodes t
nodes_of none = 0

-- 7: over 32 nodes, or at some byte over 16 brackets still open
abbrev pub too_large : List ℕ → Bool
too_large s = ltb most_nodes (nodes_of (parsed s)) || too_deep s

-- REFUSALS 5, 6 and 7, in order
abbrev pub text_lines : List ℕ → List Line
text_lines s = line 5 (bad_length s) ∷ line 6 (no_reading (parsed s)) ∷ line 7 (too_large s) ∷ []

-- the first n rows of the table stand for the one reading of the text: its root is node n − 1, and children have smaller numbers than their parent
pub record Tabled (s table : List ℕ) (n : ℕ) : Type 0 where
  pub reads : parsed s ≡ one (tree_at table (n - 1))
  pub rows : Laid table 0 n (tree_at table (n - 1))
  pub falling : Falling table n

-- WHAT THE READER ANSWERS
pub record Told (s table : List ℕ) (r : Result ℕ Refusal) : Type 0 where
  pub outcome : reported r ≡ judged (text_lines s) (nodes_of (parsed s))
  pub tabled : (n : ℕ) → r ≡ Ok n → Tabled s table n
