-- `report::is_faulty` meets its contract, test by test. Assumes nothing.
use borrow.Author.Rules.{rules}
use native.Mathlib.Omega.{arith}
use mathlib.Core.Path.{sym, ◌∙◌}
use Rattle.report.proofs.laws.Running.{fault_whole, fault_many, fault_parts, fault_far, fault_sum, fault_mean}
use Rattle.report.proofs.is_faulty.Goals as goal

pub returns-then-r : goal.returns-then-r
returns-then-r c =
    fault_whole c.args.r c.if-r.true

pub returns-then-r-gt-MOST_BATCHES : goal.returns-then-r-gt-MOST_BATCHES
returns-then-r-gt-MOST_BATCHES c =
    fault_many c.args.r c.if-r-gt-MOST_BATCHES.true

pub returns-then-r-2 : goal.returns-then-r-2
returns-then-r-2 c =
    fault_parts c.args.r (omega arith)

pub returns-then-r-3 : goal.returns-then-r-3
returns-then-r-3 c =
    fault_parts c.args.r (omega arith)

pub returns-then-from-r : goal.returns-then-from-r
returns-then-from-r c =
    fault_far c.args.r (omega arith)

pub returns-then-is_nan : goal.returns-then-is_nan
returns-then-is_nan c =
    fault_sum c.args.r (sym c.is_nan.ensures.value ∙ c.if-is_nan.true)

pub returns : goal.returns
returns c =
    c.is_nan-2.ensures.value ∙ fault_mean c.args.r c.if-r.false c.if-r-gt-MOST_BATCHES.false (omega arith) (omega arith) (sym c.is_nan.ensures.value ∙ c.if-is_nan.false)
