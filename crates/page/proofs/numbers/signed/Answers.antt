-- By the sign.
use Prim.Native.Nat.{◌-◌}
use Rattle.page.specs.Decimal.{in_decimal}
use Rattle.page.proofs.laws.Decimal.{middle, signed_below, signed_above}
use Rattle.page.proofs.laws.Puts.{puts_same, puts_then}
use lib.ListN.{length}
use mathlib.Core.List.{[], ◌∷◌}
use mathlib.Core.Path.{ap, sym}
use native.Mathlib.Omega.{arith}
use Rattle.page.proofs.numbers.signed.Goals as goal

pub byte-digits-requires : goal.byte-digits-requires
byte-digits-requires c =
    omega (arith, c.requires, ap length (signed_below c.args.bits c.offset_binary-place.result c.offset_binary-place.ensures c.if-place-lt-ZERO.true))

pub unsigned-requires : goal.unsigned-requires
unsigned-requires c =
    omega (arith, c.requires, c.byte-digits.ensures.behind, c.byte-digits.auto.out, ap length (signed_below c.args.bits c.offset_binary-place.result c.offset_binary-place.ensures c.if-place-lt-ZERO.true))

pub returns-then-place-lt-ZERO : goal.returns-then-place-lt-ZERO
returns-then-place-lt-ZERO c =
    let e = signed_below c.args.bits c.offset_binary-place.result c.offset_binary-place.ensures c.if-place-lt-ZERO.true in
    puts_same (sym e)
    (puts_then (45 ∷ []) (in_decimal (middle - c.offset_binary-place.result)) c.args.out.now _ _ c.args.at _ _ (omega (arith, c.requires, ap length e)) c.byte-digits.ensures c.unsigned.ensures)

pub unsigned-requires-2 : goal.unsigned-requires-2
unsigned-requires-2 c =
    omega (arith, c.requires, ap length (signed_above c.args.bits c.offset_binary-place.result c.offset_binary-place.ensures c.if-place-lt-ZERO.false))

pub returns : goal.returns
returns c =
    puts_same (sym (signed_above c.args.bits c.offset_binary-place.result c.offset_binary-place.ensures c.if-place-lt-ZERO.false)) c.unsigned-2.ensures
