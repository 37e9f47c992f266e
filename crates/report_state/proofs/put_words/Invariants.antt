-- `report_state::put_words` meets its contract. The invariant: the first i words are put. Assumes nothing.
use mathlib.Core.Path.{◌≡◌}
use lib.ListN.{length}
use Rattle.report_state.proofs.laws.Words.{PutTo}
use Rattle.report_state.proofs.put_words.Given as goal

abbrev pub invariant-loop-i : goal.invariant-loop-i
invariant-loop-i l = (length l.buffer ≡ length l.initial.buffer) × PutTo l.words l.initial.buffer l.i l.buffer
