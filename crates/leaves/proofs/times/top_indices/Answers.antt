-- The times of the scan, each shifted where they are few.
use Rattle.std.proofs.Common.{◌≡◌, ℕ, ◌≤◌, List, length, arith}
use Rattle.recording.specs.Reading.{a_top, curve_of}
use Rattle.recording.specs.Recording.{readings, Accepted}
use Rattle.tops.specs.Tops as raw
use Rattle.tops.specs.Tops.{most_tops}
use Rattle.tops.specs.inner.Scan.{Scanned}
use Rattle.meaning.specs.inner.Coded.{coded, coded_times}
use Rattle.leaves.specs.inner.Indices.{Early, Shifted, Indexed}
use Rattle.leaves.proofs.laws.Indices.{scan_count, scan_there, scan_early, scan_indexed, event_indices, event-times}
use Rattle.leaves.proofs.times.top_indices.Goals as goal

module _ (rec : List ℕ) (a : Accepted rec) (curve : ℕ) (old new : List ℕ) (long : length old ≡ most_tops) (count : ℕ)
    (s : Scanned (raw.event_times (a_top (curve_of curve)) (readings rec)) old count new) where
  abbrev times : List ℕ
  times = raw.event_times (a_top (curve_of curve)) (readings rec)

  abbrev found : List ℕ
  found = coded_times (a_top (curve_of curve)) (coded rec)

  counted : count ≡ length found
  counted = scan_count times found old new count (event_indices rec a (a_top (curve_of curve))) s

  module _ (few : count ≤ most_tops) where
    fits : length found ≤ length old
    fits = omega (arith, counted)

    there : count ≤ length new
    there = scan_there times found old new count (event_indices rec a (a_top (curve_of curve))) s fits

    early : Early count new
    early = scan_early times found old new count (event_indices rec a (a_top (curve_of curve))) s fits (event-times rec a (a_top (curve_of curve)))

    indexed : (final : List ℕ) → Shifted count new final → Indexed found count final
    indexed = scan_indexed times found old new count (event_indices rec a (a_top (curve_of curve))) s fits

pub returns-then-n-gt-MOST_TOPS : goal.returns-then-n-gt-MOST_TOPS
returns-then-n-gt-MOST_TOPS c =
    omega (arith, c.if-n-gt-MOST_TOPS.true, counted c.args.rec.now c.requires.0 c.args.curve c.args.times.now c.event_times-n.new.times c.requires.2 c.event_times-n.result c.event_times-n.ensures)

pub shift-requires : goal.shift-requires
shift-requires c = (
  there c.args.rec.now c.requires.0 c.args.curve c.args.times.now c.event_times-n.new.times c.requires.2 c.event_times-n.result c.event_times-n.ensures c.if-n-gt-MOST_TOPS.false,
  early c.args.rec.now c.requires.0 c.args.curve c.args.times.now c.event_times-n.new.times c.requires.2 c.event_times-n.result c.event_times-n.ensures c.if-n-gt-MOST_TOPS.false,
)

pub returns : goal.returns
returns c = (
  omega (arith, c.if-n-gt-MOST_TOPS.false, counted c.args.rec.now c.requires.0 c.args.curve c.args.times.now c.event_times-n.new.times c.requires.2 c.event_times-n.result c.event_times-n.ensures),
  indexed c.args.rec.now c.requires.0 c.args.curve c.args.times.now c.event_times-n.new.times c.requires.2 c.event_times-n.result c.event_times-n.ensures c.if-n-gt-MOST_TOPS.false c.shift.new.times c.shift.ensures,
)
