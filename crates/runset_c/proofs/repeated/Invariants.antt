-- The invariant: the sum so far is the reply to as many turns.
use Rattle.std.proofs.Common.{◌≡◌, false, length}
use Rattle.runs.specs.Set.{member, slot_words, shared_words}
use Rattle.runset_c.specs.Bytes.{chosen, repeat_reply}
use Rattle.runset_c.proofs.repeated.Given as goal

abbrev pub invariant-loop-i : goal.invariant-loop-i
invariant-loop-i l = (l.total ≡ repeat_reply false (chosen l.op (member l.a) (member l.b) (member l.c)) l._i) × (length l.shared ≡ shared_words) × (length l.set ≡ slot_words)
