-- By the last byte.
use Prim.Native.Nat.{◌-◌}
use Rattle.page.proofs.laws.Typed.{nothing_typed, line_typed, plain_typed}
use lib.ListN.{length}
use lib.Seq.{length-take-le}
use mathlib.Core.Path.{sym, refl}
use native.Mathlib.Omega.{arith}
use Rattle.page.proofs.call.text_length.Goals as goal

pub returns-then-n-eq0 : goal.returns-then-n-eq0
returns-then-n-eq0 c = (nothing_typed c.args.typed.now c.if-n-eq0.true, (omega arith, refl))

pub returns-then-typed-n-eq-NEWLINE : goal.returns-then-typed-n-eq-NEWLINE
returns-then-typed-n-eq-NEWLINE c =
    (line_typed c.args.typed.now (length c.args.typed.now) refl c.if-typed-n-eq-NEWLINE.true, (omega arith, sym (length-take-le (length c.args.typed.now - 1) c.args.typed.now (omega arith))))

pub returns : goal.returns
returns c =
    (plain_typed c.args.typed.now (length c.args.typed.now) refl c.if-typed-n-eq-NEWLINE.false, (omega arith, sym (length-take-le (length c.args.typed.now) c.args.typed.now (omega arith))))
