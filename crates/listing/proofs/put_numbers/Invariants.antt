-- After i entries, the numbers of those that reach the level are written.
use mathlib.Core.Bool.{Bool}
use mathlib.Core.List.{List}
use Prim.Native.Nat.{ℕ}
use Rattle.number.specs.Axis.{whole}
use Rattle.recording.specs.Reading.{curve_of}
use Rattle.listing.specs.Listing.{entry_at, said_to_reach}
use Rattle.listing.proofs.laws.Listing.{Writing}
use Rattle.listing.proofs.put_numbers.Given as goal

abbrev pub says : List ℕ → ℕ → ℕ → ℕ → Bool
says summary curve index i = said_to_reach (curve_of curve) (whole index) (entry_at summary i)

abbrev pub invariant-loop-i : goal.invariant-loop-i
invariant-loop-i l = Writing (says l.summary l.curve l.index) l.n l.initial.out l.i l.k l.out
