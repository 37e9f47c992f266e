-- `beyond` meets its contract.
use native.Mathlib.Omega.{arith}
use mathlib.Core.Path.{refl}
use Rattle.differences.proofs.beyond.Goals as goal

pub difference-requires : goal.difference-requires
difference-requires c =
    (c.requires.0, (c.requires.1.least c.args.stop c.if-stop-b.true, c.requires.1.most c.args.stop c.if-stop-b.true))

pub returns-then-stop-b : goal.returns-then-stop-b
returns-then-stop-b c = record { there = λ h. c.difference.ensures; none = λ h. absurd (omega (arith, c.if-stop-b.true)) }

pub returns : goal.returns
returns c = record { there = λ h. absurd (omega (arith, c.if-stop-b.false)); none = λ h. refl }
