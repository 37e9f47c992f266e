-- Room for 4 bytes a number is what the output line asks.
use native.Mathlib.Omega.{arith}
use mathlib.Core.Path.{refl, sym, ◌∙◌}
use mathlib.Core.List.{List}
use Prim.Native.Nat.{ℕ, ◌*◌}
use lib.ListN.{length}
use borrow.Author.Tests.{ltb-true, ltb-false}
use Rattle.number.specs.Axis.{whole}
use Rattle.recording.specs.Reading.{curve_of}
use Rattle.listing.specs.Listing.{entry_at, said_to_reach, numbers_to}
use Rattle.listing.proofs.laws.Listing.{count_few}
use Rattle.listing.proofs.laws.Call.{of_short, of_written}
use borrow.Author.Rules.{rules}
use Rattle.listing.proofs.at_level.Goals as goal

-- how many numbers are to be written
abbrev many : List ℕ → ℕ → ℕ → ℕ → ℕ
many summary n curve index = length (numbers_to (curve_of curve) (whole index) summary n)

pub returns-then-too_short : goal.returns-then-too_short
returns-then-too_short c =
    of_short c.args.summary.now c.args.curve c.args.out.now c.args.n c.requires.0 (whole c.args.index) (many c.args.summary.now c.args.n c.args.curve c.args.index) refl
    (ltb-true (length c.args.out.now) (4 * many c.args.summary.now c.args.n c.args.curve c.args.index) (sym c.too_short.ensures ∙ c.if-too_short.true))

pub put_numbers-size-requires : goal.put_numbers-size-requires
put_numbers-size-requires c =
    let room = ltb-false (length c.args.out.now) (4 * many c.args.summary.now c.args.n c.args.curve c.args.index) (sym c.too_short.ensures ∙ c.if-too_short.false) in
    (omega (arith, c.requires.0), c.requires.1, c.requires.2, c.requires.3, room)

pub overflow_mul-size : goal.overflow_mul-size
overflow_mul-size c =
    record {
      fits = omega (arith, c.put_numbers-size.ensures.0, count_few (λ i. said_to_reach (curve_of c.args.curve) (whole c.args.index) (entry_at c.args.summary.now i)) 0 c.args.n, c.requires.1);
    }

pub returns : goal.returns
returns c =
    let room = ltb-false (length c.args.out.now) (4 * many c.args.summary.now c.args.n c.args.curve c.args.index) (sym c.too_short.ensures ∙ c.if-too_short.false) in
    of_written c.args.summary.now c.args.curve c.args.out.now c.args.n c.requires.0 (whole c.args.index) c.put_numbers-size.result c.put_numbers-size.ensures.0 (omega (arith, c.put_numbers-size.ensures.0, room))
    c.put_numbers-size.new.out c.put_numbers-size.ensures.1
