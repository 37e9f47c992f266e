-- The tops are counted by a scan.
use mathlib.Core.Path.{ap, sym, ◌∙◌}
use native.Mathlib.Omega.{arith}
use lib.Dec.{ltb}
use Rattle.recording.specs.Reading.{curve_of}
use Rattle.question.proofs.laws.Limit.{tops-count}
use Rattle.question.proofs.limits.many_tops.Goals as goal

pub top_count-requires : goal.top_count-requires
top_count-requires c =
    (omega arith, c.requires.1)

pub returns : goal.returns
returns c =
    ap (ltb 256) (c.top_count.ensures ∙ sym (tops-count c.args.rec.now c.requires.0 (curve_of c.args.curve)))
