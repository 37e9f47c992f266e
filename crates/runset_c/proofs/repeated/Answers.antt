-- The invariant: the sum so far is the reply to as many turns.
use Rattle.std.proofs.Common.{◌≡◌, false, refl, sym, ap, ◌∙◌, mod-lt, arith}
use Rattle.number.proofs.laws.Order.{positive}
use Rattle.runs.specs.Set.{member}
use Rattle.runset_c.specs.Bytes.{chosen, repeat_reply}
use Rattle.runset_c.proofs.Repetition.{no_turn, over_reply, empty_reply, one_more}
use Rattle.runset_c.proofs.repeated.Goals as goal

pub loop-i-init : goal.loop-i-init
loop-i-init c = (no_turn _, refl, refl)

pub combine-requires : goal.combine-requires
combine-requires c = let s = c in (s.requires.0, s.requires.1, s.requires.2, c.loop-i.invariant.1, c.loop-i.invariant.2)

pub returns-then-is_err : goal.returns-then-is_err
returns-then-is_err c = let g = c.args in over_reply (chosen g.op (member g.a.now) (member g.b.now) (member g.c.now)) _ _ c.combine.ensures g.times (sym c.is_err.ensures.value ∙ c.if-is_err.true)

pub count-n-requires : goal.count-n-requires
count-n-requires c = (c.combine.ensures.holds (sym c.is_err.ensures.value ∙ c.if-is_err.false)).valid

pub returns-then-n-eq0 : goal.returns-then-n-eq0
returns-then-n-eq0 c = let g = c.args in empty_reply (chosen g.op (member g.a.now) (member g.b.now) (member g.c.now)) _ _ c.combine.ensures g.times (sym c.is_err.ensures.value ∙ c.if-is_err.false) _ c.count-n.ensures c.if-n-eq0.true

pub nonzero_rem-k : goal.nonzero_rem-k
nonzero_rem-k c = omega (arith, c.if-n-eq0.false)

pub low-low-requires : goal.low-low-requires
low-low-requires c =
    ((c.combine.ensures.holds (sym c.is_err.ensures.value ∙ c.if-is_err.false)).valid, omega (arith, mod-lt c.loop-i.total (positive c.count-n.result c.if-n-eq0.false)))

pub loop-i-preserved : goal.loop-i-preserved
loop-i-preserved c = (
  one_more (chosen c.args.op (member c.args.a.now) (member c.args.b.now) (member c.args.c.now)) _ _ c.combine.ensures c.loop-i._i c.loop-i.total _ _ _ (sym c.is_err.ensures.value ∙ c.if-is_err.false) c.count-n.ensures c.if-n-eq0.false c.loop-i.invariant.0 (c.from-total.ensures ∙ c.low-low.ensures) refl,
  c.combine.auto.shared ∙ c.loop-i.invariant.1,
  c.combine.auto.set ∙ c.loop-i.invariant.2,
)

pub returns : goal.returns
returns c =
    let e : c.loop-i._i ≡ c.args.times = omega (arith, c.loop-i-test.false, c.loop-i.auto._i-end) in
    c.loop-i.invariant.0 ∙ ap (repeat_reply false (chosen c.args.op (member c.args.a.now) (member c.args.b.now) (member c.args.c.now))) e
