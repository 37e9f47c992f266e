-- 20 first; a summary in entries, few enough, is judged by the lines that follow.
use native.Mathlib.Omega.{arith}
use mathlib.Core.Path.{subst}
use lib.IntN.{ℤ}
use lib.ListN.{length}
use mir.Syntax.{w64}
use mir.ValLaws.{to_z-of_z}
use Rattle.refusal.specs.Outcome.{judged}
use Rattle.recording.specs.Reading.{curve_of}
use Rattle.recording.specs.Output.{Answers}
use Rattle.listing.specs.Listing.{listing}
use Rattle.listing.specs.Call.{level_lines}
use Rattle.listing.proofs.laws.Call.{of_partial, of_many, of_entries}
use borrow.Author.Rules.{rules}
use Rattle.listing.proofs.find.Goals as goal

pub returns-then-summary-ne0 : goal.returns-then-summary-ne0
returns-then-summary-ne0 c =
    of_partial c.args.summary.now c.args.curve c.args.out.now c.args.level (λ z. c.if-summary-ne0.true (omega (arith, z)))

pub returns-then-n-gt-MOST_ENTRIES : goal.returns-then-n-gt-MOST_ENTRIES
returns-then-n-gt-MOST_ENTRIES c =
    of_many c.args.summary.now c.args.curve c.args.out.now c.args.level (omega (arith, c.if-n-gt-MOST_ENTRIES.true))

pub in_entries-requires : goal.in_entries-requires
in_entries-requires c = (omega (arith, c.if-summary-ne0.false), c.if-n-gt-MOST_ENTRIES.false)

pub returns : goal.returns
returns c =
    of_entries c.args.summary.now c.args.curve c.args.out.now c.args.level c.if-summary-ne0.false c.if-n-gt-MOST_ENTRIES.false c.in_entries.result c.in_entries.new.out
    (subst
    (λ (z : ℤ). Answers (judged (level_lines c.args.summary.now c.args.curve z (length c.args.out.now)) (listing (curve_of c.args.curve) z c.args.summary.now)) c.args.out.now c.in_entries.result c.in_entries.new.out)
    (to_z-of_z w64 c.args.level c.ranges.level) c.in_entries.ensures)
