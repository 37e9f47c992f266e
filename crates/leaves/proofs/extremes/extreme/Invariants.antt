-- After i records m goes as far as the first i go.
use Rattle.std.proofs.Common.{take}
use Rattle.meaning.specs.inner.Coded.{coded}
use Rattle.leaves.specs.inner.Extreme.{Extreme}
use Rattle.recording.specs.Reading.{curve_of}
use Rattle.leaves.proofs.extremes.extreme.Given as goal

abbrev pub invariant-loop-i : goal.invariant-loop-i
invariant-loop-i l = Extreme l.up (curve_of l.curve) l.after (take l.i (coded l.rec)) l.m
