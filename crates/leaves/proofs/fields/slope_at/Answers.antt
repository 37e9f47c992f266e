-- The byte read is the slope.
use Rattle.std.proofs.Common.{◌∙◌, arith}
use Rattle.leaves.proofs.laws.Coding.{record_inside, slope-field}
use Rattle.leaves.proofs.fields.slope_at.Goals as goal

pub byte_in-requires : goal.byte_in-requires
byte_in-requires c = let s = c in (record_inside s.args.rec.now s.requires.0 s.args.i s.requires.1, omega arith)

pub returns : goal.returns
returns c = let s = c in c.byte_in.ensures ∙ slope-field s.args.rec.now s.requires.0 s.args.i s.requires.1 s.args.curve s.requires.2
