-- The times of the scan, each shifted.
use Rattle.std.proofs.Common.{◌∙◌, arith}
use Rattle.recording.specs.Recording.{readings}
use Rattle.tops.specs.Tops as raw
use Rattle.meaning.specs.inner.Coded.{coded_additions}
use Rattle.meaning.specs.inner.Coded.{coded}
use Rattle.leaves.proofs.laws.Indices.{scan_long, scan_there, scan_early, scan_indexed, addition_indices, addition-times}
use Rattle.leaves.proofs.times.addition_indices.Goals as goal

pub addition_times-n-requires : goal.addition_times-n-requires
addition_times-n-requires c = omega arith

pub shift-requires : goal.shift-requires
shift-requires c = (
  scan_there (raw.addition_times c.args.k (readings c.args.rec.now)) (coded_additions c.args.k (coded c.args.rec.now)) c.args.times.now c.addition_times-n.new.times c.addition_times-n.result (addition_indices c.args.rec.now c.requires.0 c.args.k) c.addition_times-n.ensures c.requires.1,
  scan_early (raw.addition_times c.args.k (readings c.args.rec.now)) (coded_additions c.args.k (coded c.args.rec.now)) c.args.times.now c.addition_times-n.new.times c.addition_times-n.result (addition_indices c.args.rec.now c.requires.0 c.args.k) c.addition_times-n.ensures c.requires.1 (addition-times c.args.rec.now c.requires.0 c.args.k),
)

pub shape_of-times : goal.shape_of-times
shape_of-times c =
    c.shift.ensures.long ∙ scan_long (raw.addition_times c.args.k (readings c.args.rec.now)) (coded_additions c.args.k (coded c.args.rec.now)) c.args.times.now c.addition_times-n.new.times c.addition_times-n.result (addition_indices c.args.rec.now c.requires.0 c.args.k) c.addition_times-n.ensures c.requires.1

pub returns : goal.returns
returns c =
    scan_indexed (raw.addition_times c.args.k (readings c.args.rec.now)) (coded_additions c.args.k (coded c.args.rec.now)) c.args.times.now c.addition_times-n.new.times c.addition_times-n.result (addition_indices c.args.rec.now c.requires.0 c.args.k) c.addition_times-n.ensures c.requires.1 c.shift.new.times c.shift.ensures
