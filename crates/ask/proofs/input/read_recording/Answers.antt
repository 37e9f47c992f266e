-- The turns of an opened file; else nothing is kept.
use mathlib.Core.Path.{refl}
use native.Mathlib.Omega.{arith}
use borrow.Author.Rules.{rules}
use Rattle.ask.specs.Reading.{opened, missing}
use Rattle.ask.proofs.input.read_recording.Goals as goal

pub returns-in-Ok : goal.returns-in-Ok
returns-in-Ok g c = record { recorded = opened c.read_all.ensures.turns; told = c.read_all.ensures.told; prefix_len = c.read_all.ensures.prefix_len }

pub returns-then-eq : goal.returns-then-eq
returns-then-eq g c = record { recorded = missing refl refl; told = search rules; prefix_len = (omega arith, refl) }

pub returns-else-eq : goal.returns-else-eq
returns-else-eq g c = record { recorded = missing refl refl; told = search rules; prefix_len = (omega arith, refl) }
