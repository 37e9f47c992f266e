-- The times of the scan, each shifted.
use Rattle.std.proofs.Common.{◌∙◌, arith}
use Rattle.recording.specs.Recording.{readings}
use Rattle.tops.specs.Tops as raw
use Rattle.tops.specs.inner.Events.{event_of}
use Rattle.meaning.specs.inner.Coded.{coded_times}
use Rattle.meaning.specs.inner.Coded.{coded}
use Rattle.leaves.proofs.laws.Indices.{scan_long, scan_there, scan_early, scan_indexed, event_indices, event-times}
use Rattle.leaves.proofs.times.event_indices.Goals as goal

pub event_times-n-requires : goal.event_times-n-requires
event_times-n-requires c = (omega arith, c.requires.1)

pub shift-requires : goal.shift-requires
shift-requires c = (
  scan_there (raw.event_times (event_of c.args.event) (readings c.args.rec.now)) (coded_times (event_of c.args.event) (coded c.args.rec.now)) c.args.times.now c.event_times-n.new.times c.event_times-n.result (event_indices c.args.rec.now c.requires.0 (event_of c.args.event)) c.event_times-n.ensures c.requires.2,
  scan_early (raw.event_times (event_of c.args.event) (readings c.args.rec.now)) (coded_times (event_of c.args.event) (coded c.args.rec.now)) c.args.times.now c.event_times-n.new.times c.event_times-n.result (event_indices c.args.rec.now c.requires.0 (event_of c.args.event)) c.event_times-n.ensures c.requires.2 (event-times c.args.rec.now c.requires.0 (event_of c.args.event)),
)

pub shape_of-times : goal.shape_of-times
shape_of-times c =
    c.shift.ensures.long ∙ scan_long (raw.event_times (event_of c.args.event) (readings c.args.rec.now)) (coded_times (event_of c.args.event) (coded c.args.rec.now)) c.args.times.now c.event_times-n.new.times c.event_times-n.result (event_indices c.args.rec.now c.requires.0 (event_of c.args.event)) c.event_times-n.ensures c.requires.2

pub returns : goal.returns
returns c =
    scan_indexed (raw.event_times (event_of c.args.event) (readings c.args.rec.now)) (coded_times (event_of c.args.event) (coded c.args.rec.now)) c.args.times.now c.event_times-n.new.times c.event_times-n.result (event_indices c.args.rec.now c.requires.0 (event_of c.args.event)) c.event_times-n.ensures c.requires.2 c.shift.new.times c.shift.ensures
