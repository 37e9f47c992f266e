-- The invariant: the first i runs stand in front of what was there.
use Prim.Native.Nat.{◌*◌}
use mathlib.Core.Path.{◌≡◌}
use mathlib.Core.List.{◌++◌}
use lib.ListN.{length, drop}
use Rattle.runs.specs.Set.{member}
use Rattle.runset.proofs.Reading.{front}
use Rattle.runset.proofs.RunSet.write.Given as goal

abbrev pub invariant-loop-i : goal.invariant-loop-i
invariant-loop-i l = (length l.out ≡ length l.initial.out) × (l.out ≡ front (member l.set) l.i ++ drop (8 * l.i) l.initial.out)
