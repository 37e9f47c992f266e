-- The invariant: what was read so far and the digits ahead come to what the digits from `at` on come to.
use native.Mathlib.Omega.{arith}
use Rattle.lexer.proofs.NumberLaws.{digit_more, digits_end, not_digit, digit_bounds, past_end}
use Rattle.lexer.proofs.numbers.digit_run.Goals as goal

pub returns-then-not-is_digit : goal.returns-then-not-is_digit
returns-then-not-is_digit c = digits_end c.args.text.now c.args.at c.loop-end.value c.loop-end.end c.loop-end.invariant (not_digit c.args.text.now c.loop-end.end c.is_digit.result c.is_digit.ensures c.if-not-is_digit.true-raw)

pub with_digit-value-requires : goal.with_digit-value-requires
with_digit-value-requires c = digit_bounds c.args.text.now c.args.at c.loop-end.value c.loop-end.end c.loop-end.invariant c.is_digit.result c.is_digit.ensures c.if-not-is_digit.false-raw

pub loop-end-preserved : goal.loop-end-preserved
loop-end-preserved c = digit_more c.args.text.now c.args.at c.loop-end.value c.loop-end.end c.loop-end.invariant c.is_digit.result c.with_digit-value.result c.is_digit.ensures c.if-not-is_digit.false-raw c.loop-end-test.true c.with_digit-value.ensures

pub returns : goal.returns
returns c =
    let r = digits_end c.args.text.now c.args.at c.loop-end.value c.loop-end.end c.loop-end.invariant (past_end c.args.text.now c.loop-end.end c.loop-end-test.false) in
    let e = c.loop-end.invariant.inside in
    (omega arith, r.1)
