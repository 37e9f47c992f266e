-- Each way out cites its law.
use native.Mathlib.Omega.{arith}
use mathlib.Core.Path.{◌≡◌}
use lib.ListN.{length}
use Rattle.parser.proofs.laws.Rows.{ahead_of}
use Rattle.text.proofs.ToldLaws.{told-length, told_none, told-read, length_bad, length_over, length_good, read-part, read-nothing}
use Rattle.text.proofs.read.Goals as goal

pub returns-then-size-eq0 : goal.returns-then-size-eq0
returns-then-size-eq0 c = told-length c.args.text.now c.args.table.now (length_bad c.args.text.now c.if-size-eq0.true)

pub returns-then-size-gt-MOST_BYTES : goal.returns-then-size-gt-MOST_BYTES
returns-then-size-gt-MOST_BYTES c = told-length c.args.text.now c.args.table.now (length_over c.args.text.now c.if-size-eq0.false c.if-size-gt-MOST_BYTES.true)

pub or_text-requires : goal.or_text-requires
or_text-requires c = record { inside = omega arith; short = omega arith; count = omega arith; rows = omega arith }

pub judge-requires : goal.judge-requires
judge-requires c = let a = ahead_of c.or_text.ensures c.in-Some.is in let k : length c.or_text.new.table ≡ length c.args.table.now = c.or_text.auto.table in omega arith

pub shape_of-table-then-e-size : goal.shape_of-table-then-e-size
shape_of-table-then-e-size c = c.or_text.auto.table

pub returns-then-e-size : goal.returns-then-e-size
returns-then-e-size c = told-read c.args.text.now c.or_text.ensures c.in-Some.is c.if-e-size.true (length_good c.args.text.now c.if-size-eq0.false c.if-size-gt-MOST_BYTES.false) c.judge.result c.judge.ensures

pub shape_of-table-else-e-size : goal.shape_of-table-else-e-size
shape_of-table-else-e-size c = c.or_text.auto.table

pub returns-else-e-size : goal.returns-else-e-size
returns-else-e-size c = told_none c.args.text.now c.or_text.new.table (length_good c.args.text.now c.if-size-eq0.false c.if-size-gt-MOST_BYTES.false) (read-part c.args.text.now c.or_text.ensures c.in-Some.is c.if-e-size.false)

pub shape_of-table-in-None : goal.shape_of-table-in-None
shape_of-table-in-None c = c.or_text.auto.table

pub returns-in-None : goal.returns-in-None
returns-in-None c = told_none c.args.text.now c.or_text.new.table (length_good c.args.text.now c.if-size-eq0.false c.if-size-gt-MOST_BYTES.false) (read-nothing c.args.text.now c.or_text.ensures c.in-None.is)
