-- The traits of a node come from those of its children, whose numbers are smaller.
use Rattle.std.specs.Prelude.{refl}
use Prim.Native.Nat.{ℕ, ◌<◌}
use native.Mathlib.Omega.{arith}
use borrow.Author.Rules.{rules}
use Rattle.marks.specs.Marks.{marks_of}
use Rattle.assured.proofs.laws.Row as laws
use Rattle.assured.proofs.+traits_at.Goals as goal

pub row_at-row-requires : goal.row_at-row-requires
row_at-row-requires t c =
    omega (arith, c.requires.1, c.requires.2)

pub leaf-requires : goal.leaf-requires
leaf-requires t c = c.if-kind-lt-NOT.true

pub returns-then-kind-lt-NOT : goal.returns-then-kind-lt-NOT
returns-then-kind-lt-NOT t c =
    laws.node_leaf c.args.table.now c.args.count (marks_of c.args.marks.now) c.requires.0 c.args.n c.requires.2 c.row_at-row.result c.row_at-row.ensures
    c.if-kind-lt-NOT.true _ c.leaf.ensures

pub traits_at-first-requires : goal.traits_at-first-requires
traits_at-first-requires t c =
    let f = laws.first-falls c.args.table.now c.args.count (marks_of c.args.marks.now) c.requires.0 c.args.n c.requires.2 c.row_at-row.result c.row_at-row.ensures
    c.if-kind-lt-NOT.false c.row_at-row.result.first refl in
    (omega (arith, f), (c.requires.0, c.requires.1, omega (arith, f, c.requires.2)))

pub returns-then-kind-lt-OR : goal.returns-then-kind-lt-OR
returns-then-kind-lt-OR t c =
    laws.node_unary c.args.table.now c.args.count (marks_of c.args.marks.now) c.requires.0 c.args.n c.requires.2 c.row_at-row.result c.row_at-row.ensures
    c.if-kind-lt-NOT.false c.row_at-row.result.first refl c.traits_at-first.result c.traits_at-first.ensures
    c.if-kind-lt-OR.true _ c.unary.ensures

pub traits_at-second-requires : goal.traits_at-second-requires
traits_at-second-requires t c =
    let f = laws.second-falls c.args.table.now c.args.count (marks_of c.args.marks.now) c.requires.0 c.args.n c.requires.2 c.row_at-row.result c.row_at-row.ensures
    c.if-kind-lt-NOT.false c.row_at-row.result.first refl c.traits_at-first.result c.traits_at-first.ensures
    c.if-kind-lt-OR.false c.row_at-row.result.second refl in
    (omega (arith, f), (c.requires.0, c.requires.1, omega (arith, f, c.requires.2)))

pub returns : goal.returns
returns t c =
    laws.node_binary c.args.table.now c.args.count (marks_of c.args.marks.now) c.requires.0 c.args.n c.requires.2 c.row_at-row.result c.row_at-row.ensures
    c.if-kind-lt-NOT.false c.row_at-row.result.first refl c.traits_at-first.result c.traits_at-first.ensures
    c.if-kind-lt-OR.false c.row_at-row.result.second refl c.traits_at-second.result c.traits_at-second.ensures _ c.binary.ensures
