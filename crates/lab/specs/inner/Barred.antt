-- Refusal 14 of a text, as the code finds it: one of its nodes is barred. That no other text is a laboratory text is `fourteen_text` (laws/Laboratory).
use Rattle.std.specs.Prelude.{ℕ, Bool, true, false, cond, not, ◌&&◌, ◌||◌, List, eqb, leb, ltb}
use Rattle.recording.specs.Condition.{some_of}
use Rattle.recording.specs.Reading.{A, B}
use Rattle.grammar.specs.declared.Row.{Row}
use Rattle.grammar.specs.Classes.{within}
use Rattle.grammar.specs.Size.{after_time}
use Rattle.grammar.specs.Syntax.{Text, atom, listed, or, and, neg, finally, globally, next, until, weak_until}
use Rattle.grammar.specs.inner.Kinds.{COMPARE, A-TO-B, FALL, RISE, HIGH, LOWAFTER, CAPAFTER, DIPS, CROSS, CROSSUP, AMPL, STEPS, LAG, NEXT, GLOBALLY, UNTIL, WEAK-UNTIL}
use Rattle.marks.specs.Marks.{is_mark_index}
use Rattle.meaning.specs.Named.{Channel, curve, additions, atom_names, listed_names}
use Rattle.meaning.specs.inner.Truth.{some_node}

-- the channel is B
abbrev pub is_b : Channel → Bool
is_b (curve A) = false
is_b (curve B) = true
is_b additions = false

-- a node that a laboratory may not write: it names B, is F, G, X, U or W, or has an after-time that is no mark
abbrev pub barred : List ℕ → Text → Bool
barred marks (atom k) = some_of is_b (atom_names k)
barred marks (listed q) = some_of is_b (listed_names q) || some_of (λ k. not (is_mark_index marks k)) (after_time q)
barred marks (or p q) = false
barred marks (and p q) = false
barred marks (neg p) = false
barred marks (finally p) = true
barred marks (globally p) = true
barred marks (next p) = true
barred marks (until p q) = true
barred marks (weak_until p q) = true

unfoldable pub not_for_laboratory : List ℕ → Text → Bool
not_for_laboratory marks p = some_node (barred marks) p

-- ---- the same of a row of the node table

abbrev pub names_both : ℕ → Bool
names_both k = eqb k A-TO-B || (within CROSS CROSSUP k || eqb k LAG)

abbrev pub has_curve : ℕ → Bool
has_curve k = within FALL RISE k || (within HIGH DIPS k || within AMPL STEPS k)

unfoldable pub row_names_b : (kind first : ℕ) → Bool
row_names_b k a = names_both k || cond (leb k COMPARE) (eqb a 1) (has_curve k && ltb 0 a)

abbrev pub is_temporal : ℕ → Bool
is_temporal k = within NEXT GLOBALLY k || within UNTIL WEAK-UNTIL k

unfoldable pub row_barred : List ℕ → Row → Bool
row_barred marks r = row_names_b r.kind r.first || cond (within LOWAFTER CAPAFTER r.kind) (not (is_mark_index marks r.number)) (is_temporal r.kind)
