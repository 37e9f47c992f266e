-- The leaves of a text: what an evaluation asks of a recording and of a leaf's row.
use Rattle.std.specs.Prelude.{◌≡◌, ℕ, ◌<◌, false, List, length, slice_index_or}
use Rattle.recording.specs.Recording.{Accepted}
use Rattle.recording.specs.Reading.{Event, a_top, a_dip, a_crossing, an_upcrossing}
use Rattle.grammar.specs.Syntax.{Listed, peaks, dips, cross, crossup, Text, listed, lag}
use Rattle.grammar.specs.declared.Row.{Row}
use Rattle.grammar.specs.inner.Table.{leaf_texts, unary_from}
use Rattle.meaning.specs.inner.Truth.{refused9}
use Rattle.meaning.specs.inner.Coded.{coded}

-- the text of a leaf's row
abbrev pub leaf_of : Row → Text
leaf_of r = slice_index_or (leaf_texts r) r.kind (listed lag)

-- the question for the times of an event
abbrev pub times_of : Event → Listed
times_of (a_top c) = peaks c
times_of (a_dip c) = dips c
times_of a_crossing = cross
times_of an_upcrossing = crossup

-- a leaf whose set can be taken of an accepted recording at record i
pub record Asked (rec : List ℕ) (i : ℕ) (r : Row) : Type 0 where
  pub accepted : Accepted rec
  pub index : i < length (coded rec)
  pub leaf : r.kind < unary_from
  pub few_tops : refused9 (coded rec) (leaf_of r) ≡ false
