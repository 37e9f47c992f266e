-- Over, short or written, by the number of runs.
use Rattle.std.proofs.Common.{arith, sym, ◌∙◌}
use Rattle.runs.proofs.laws.Set.{valid_count}
use Rattle.runset_c.proofs.Delivery.{delivered_over, delivered_short, delivered_set}
use Rattle.runset_c.proofs.deliver.Goals as goal

pub returns-then-is_err : goal.returns-then-is_err
returns-then-is_err c = let g = c.args in delivered_over g.set.now _ g.out.now (sym c.is_err.ensures.value ∙ c.if-is_err.true)

pub count-n-requires : goal.count-n-requires
count-n-requires c = c.requires (sym c.is_err.ensures.value ∙ c.if-is_err.false)

pub overflow_mul-n : goal.overflow_mul-n
overflow_mul-n c = let s = c in omega (arith, c.count-n.ensures, valid_count s.args.set.now (s.requires (sym c.is_err.ensures.value ∙ c.if-is_err.false)))

pub returns-then-out-n : goal.returns-then-out-n
returns-then-out-n c = let g = c.args in delivered_short g.set.now _ g.out.now _ (sym c.is_err.ensures.value ∙ c.if-is_err.false) c.count-n.ensures c.if-out-n.true

pub write-requires : goal.write-requires
write-requires c = (c.requires (sym c.is_err.ensures.value ∙ c.if-is_err.false), omega (arith, c.if-out-n.false, c.count-n.ensures))

pub overflow_cast-result : goal.overflow_cast-result
overflow_cast-result c = let s = c in omega (arith, c.count-n.ensures, valid_count s.args.set.now (s.requires (sym c.is_err.ensures.value ∙ c.if-is_err.false)))

pub returns : goal.returns
returns c = let g = c.args in delivered_set g.set.now _ g.out.now _ _ (sym c.is_err.ensures.value ∙ c.if-is_err.false) c.count-n.ensures c.if-out-n.false c.write.ensures
