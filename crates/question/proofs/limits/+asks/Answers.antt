-- A node asks what its children ask, whose numbers are smaller.
use mathlib.Core.Path.{refl}
use Prim.Native.Nat.{ℕ, ◌<◌}
use native.Mathlib.Omega.{arith}
use borrow.Author.Rules.{rules}
use Rattle.question.proofs.laws.Limit as laws
use Rattle.question.proofs.limits.+asks.Goals as goal

pub row_at-row-requires : goal.row_at-row-requires
row_at-row-requires t c =
    omega (arith, c.requires.2, c.requires.3)

pub leaf_asks-requires : goal.leaf_asks-requires
leaf_asks-requires t c =
    (c.requires.0, c.if-kind-lt-NOT.true)

pub returns-then-kind-lt-NOT : goal.returns-then-kind-lt-NOT
returns-then-kind-lt-NOT t c =
    laws.asks_leaf c.args.table.now c.args.count c.args.rec.now c.requires.1 c.args.n c.requires.3 c.row_at-row.result c.row_at-row.ensures c.if-kind-lt-NOT.true _ c.leaf_asks.ensures

pub asks-requires : goal.asks-requires
asks-requires t c =
    let f = laws.asks_first_falls c.args.table.now c.args.count c.args.rec.now c.requires.1 c.args.n c.requires.3 c.row_at-row.result c.row_at-row.ensures c.row_at-row.result.first refl c.if-kind-lt-NOT.false _ refl in
    (omega (arith, f), (c.requires.0, c.requires.1, c.requires.2, omega (arith, f, c.requires.3)))

pub returns-then-asks : goal.returns-then-asks
returns-then-asks t c =
    laws.asks_first c.args.table.now c.args.count c.args.rec.now c.requires.1 c.args.n c.requires.3 c.row_at-row.result c.row_at-row.ensures c.row_at-row.result.first refl c.if-kind-lt-NOT.false c.asks.result c.asks.ensures c.if-asks.true

pub returns-then-kind-lt-OR : goal.returns-then-kind-lt-OR
returns-then-kind-lt-OR t c =
    laws.asks_one c.args.table.now c.args.count c.args.rec.now c.requires.1 c.args.n c.requires.3 c.row_at-row.result c.row_at-row.ensures c.row_at-row.result.first refl c.if-kind-lt-NOT.false c.asks.result c.asks.ensures c.if-kind-lt-OR.true c.if-asks.false

pub asks-requires-2 : goal.asks-requires-2
asks-requires-2 t c =
    let f = laws.asks_second_falls c.args.table.now c.args.count c.args.rec.now c.requires.1 c.args.n c.requires.3 c.row_at-row.result c.row_at-row.ensures c.row_at-row.result.first refl c.if-kind-lt-NOT.false c.asks.result c.asks.ensures c.if-kind-lt-OR.false c.row_at-row.result.second refl in
    (omega (arith, f), (c.requires.0, c.requires.1, c.requires.2, omega (arith, f, c.requires.3)))

pub returns : goal.returns
returns t c =
    laws.asks_second c.args.table.now c.args.count c.args.rec.now c.requires.1 c.args.n c.requires.3 c.row_at-row.result c.row_at-row.ensures c.row_at-row.result.first refl c.if-kind-lt-NOT.false c.asks.result c.asks.ensures c.if-kind-lt-OR.false c.row_at-row.result.second refl c.if-asks.false _ c.asks-2.ensures
