-- The parts in turn.
use Prim.Native.Nat.{ℕ}
use Rattle.page.proofs.laws.Decimal.{decimal-fits}
use Rattle.page.specs.Page.{page}
use Rattle.page.proofs.laws.Page.{refusal_length}
use Rattle.page.proofs.laws.Puts.{puts_five, puts_same}
use Rattle.refusal.specs.Outcome.{refused}
use mathlib.Core.Path.{ap₂}
use native.Mathlib.Omega.{arith}
use Rattle.page.proofs.lines.refusal_page.Goals as goal

pub bytes-number-requires : goal.bytes-number-requires
bytes-number-requires c =
    omega (arith, c.requires)

pub unsigned-blank-requires : goal.unsigned-blank-requires
unsigned-blank-requires c =
    omega (arith, c.requires, c.bytes-number.ensures.behind, c.bytes-number.auto.out, decimal-fits c.number.result 9 (omega (arith, c.number.type_inv)))

pub byte-place-requires : goal.byte-place-requires
byte-place-requires c =
    omega (arith, c.requires, c.bytes-number.ensures.behind, c.bytes-number.auto.out, decimal-fits c.number.result 9 (omega (arith, c.number.type_inv)), c.unsigned-blank.ensures.behind, c.unsigned-blank.auto.out)

pub unsigned-end-requires : goal.unsigned-end-requires
unsigned-end-requires c =
    omega (arith, c.requires, c.bytes-number.ensures.behind, c.bytes-number.auto.out, decimal-fits c.number.result 9 (omega (arith, c.number.type_inv)), c.unsigned-blank.ensures.behind, c.unsigned-blank.auto.out, c.byte-place.ensures.behind, c.byte-place.auto.out, decimal-fits c.place.result 19 (omega (arith, c.place.type_inv)))

pub byte-requires : goal.byte-requires
byte-requires c =
    omega (arith, c.requires, c.bytes-number.ensures.behind, c.bytes-number.auto.out, decimal-fits c.number.result 9 (omega (arith, c.number.type_inv)), c.unsigned-blank.ensures.behind, c.unsigned-blank.auto.out, c.byte-place.ensures.behind, c.byte-place.auto.out, decimal-fits c.place.result 19 (omega (arith, c.place.type_inv)), c.unsigned-end.ensures.behind, c.unsigned-end.auto.out)

pub returns : goal.returns
unfolding page
returns c =
    let room = refusal_length c.number.result c.place.result in
    puts_same (ap₂ (λ (n p : ℕ). page (refused n p)) c.number.ensures c.place.ensures)
    (puts_five _ _ _ _ _ c.args.out.now _ _ _ _ _ 0 _ _ _ _ _ (omega (arith, c.requires, room, decimal-fits c.number.result 9 (omega (arith, c.number.type_inv)), decimal-fits c.place.result 19 (omega (arith, c.place.type_inv))))
    c.bytes-number.ensures c.unsigned-blank.ensures c.byte-place.ensures c.unsigned-end.ensures c.byte.ensures)
