-- The invariant: what is kept lies within the store, and it came by turns that left more to be read.
use Prim.Native.Nat.{ℕ}
use mathlib.Core.Path.{◌≡◌}
use lib.ListN.{length}
use Rattle.io.specs.Counts.{IsPrefixLen}
use Rattle.ask.specs.declared.input.Input.{Input}
use Rattle.ask.specs.declared.input.State.{State}
use Rattle.ask.specs.declared.input.State.TheVariants.{More}
use Rattle.ask.specs.Reading.{Turns}
use Rattle.ask.proofs.input.read_all.Given as goal

abbrev pub input : ℕ → State → Input
input n s = record { kept = n; state = s }

abbrev pub invariant-loop : goal.invariant-loop
invariant-loop g l = (length l.store ≡ length l.fn.store) × IsPrefixLen l.kept l.store × Turns l.fn.store l.store (input l.kept More)
