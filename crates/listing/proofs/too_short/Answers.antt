-- An output with room for all entries has room for those that say so.
use mathlib.Core.Path.{sym, ap}
use mathlib.Core.Bool.{Bool}
use mathlib.Core.List.{List}
use Prim.Native.Nat.{ℕ, ◌*◌}
use native.Mathlib.Omega.{arith}
use lib.Dec.{ltb}
use borrow.Author.Tests.{le-ltb}
use borrow.Author.Rules.{rules}
use Rattle.number.specs.Axis.{whole}
use Rattle.recording.specs.Reading.{curve_of}
use Rattle.listing.specs.Listing.{entry_at, said_to_reach}
use Rattle.listing.proofs.laws.Listing.{count_few}
use Rattle.listing.proofs.too_short.Goals as goal

abbrev says : List ℕ → ℕ → ℕ → ℕ → Bool
says summary curve index i = said_to_reach (curve_of curve) (whole index) (entry_at summary i)

pub returns-then-n-room : goal.returns-then-n-room
returns-then-n-room c =
    let few = count_few (says c.args.summary.now c.args.curve c.args.index) 0 c.args.n in
    sym (le-ltb c.args.room _ (omega arith))

pub overflow_mul-result : goal.overflow_mul-result
overflow_mul-result c =
    record { fits = omega (arith, c.count_entries.ensures, count_few (says c.args.summary.now c.args.curve c.args.index) 0 c.args.n, c.requires.1) }

pub returns : goal.returns
returns c = ap (λ (k : ℕ). ltb c.args.room (4 * k)) c.count_entries.ensures
