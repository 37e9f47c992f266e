-- The length is that of the bytes of the set.
use mathlib.Core.Path.{ap}
use Prim.Native.Nat.{ℕ, ◌*◌}
use native.Mathlib.Omega.{arith}
use Rattle.runs.specs.Set.{member}
use Rattle.runs.proofs.laws.Set.{valid_count}
use Rattle.question.proofs.laws.Call.{write_short, write_whole}
use borrow.Author.Rules.{rules}
use Rattle.question.proofs.call.write_set.Goals as goal

pub count-size-requires : goal.count-size-requires
count-size-requires c =
    c.requires

pub overflow_mul-size : goal.overflow_mul-size
overflow_mul-size c =
    omega (arith, c.count-size.ensures, valid_count c.args.set.now c.requires)

pub returns-then-out-size : goal.returns-then-out-size
returns-then-out-size c =
    write_short (member c.args.set.now) c.args.out.now _ (ap (λ (k : ℕ). 8 * k) c.count-size.ensures) c.if-out-size.true

pub write-requires : goal.write-requires
write-requires c =
    (c.requires, omega (arith, c.count-size.ensures, c.if-out-size.false))

pub returns : goal.returns
returns c =
    write_whole (member c.args.set.now) c.args.out.now _ (ap (λ (k : ℕ). 8 * k) c.count-size.ensures) c.if-out-size.false _ c.write.ensures
