-- `sheet::first_additions` meets its contract. The invariant: the table is that of the records from i on. Assumes nothing.
use Rattle.recording.specs.Recording.{readings}
use Rattle.sheet.specs.inner.Firsts.{FirstsFrom}
use Rattle.sheet.proofs.first_additions.Given as goal

abbrev pub invariant-loop-i : goal.invariant-loop-i
invariant-loop-i l = FirstsFrom (readings l.rec) l.i l.first
