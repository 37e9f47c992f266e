-- A node from its children, whose numbers are smaller. Each answer is a law on the rows of the text and the two tables of sets.
use mathlib.Core.Path.{◌≡◌, refl, sym, subst, ◌∙◌}
use mathlib.Core.List.{List}
use Prim.Native.Nat.{ℕ, ◌≤◌}
use native.Mathlib.Omega.{arith}
use Rattle.grammar.specs.declared.Row.{Row}
use Rattle.grammar.specs.inner.Table.{row_at, unary_from}
use Rattle.leaves.proofs.laws.Coding.{length-coded}
use Rattle.evaluation.specs.inner.Evaluate.{HasChild}
use Rattle.evaluation.proofs.laws.Line.{line-asked, line_leaf, first-node, first-falls, kind_fits, first-over, line-one_valid, line-one, second-node, second-falls, second-over, line-two_valid, line-two}
use Rattle.evaluation.proofs.+child_eval.Goals as goal

-- the row of a node that is no leaf
row_inner : (table : List ℕ) (n : ℕ) (row : Row) → row ≡ row_at table n → HasChild table n → unary_from ≤ row.kind
row_inner table n row e h = subst (λ (r : Row). unary_from ≤ r.kind) (sym e) h

pub child-row_at-row-requires : goal.child-row_at-row-requires
child-row_at-row-requires t c =
    omega (arith, c.requires.0.root, c.requires.0.fit.rows)

pub child-leaf_at-requires : goal.child-leaf_at-requires
child-leaf_at-requires t c =
    (line-asked c.args.table.now c.args.rec.now c.args.i c.args.n c.row_at-row.result c.row_at-row.ensures c.requires.0.laid c.requires.0.root c.requires.0.fit c.if-row-lt-NOT.true, omega (arith, c.requires.0.root, c.requires.0.fit.few), c.requires.0.fit.own_sized)

pub child-returns-then-row-lt-NOT : goal.child-returns-then-row-lt-NOT
child-returns-then-row-lt-NOT t c =
    (line_leaf c.args.table.now c.args.rec.now c.args.i c.args.n c.row_at-row.result c.row_at-row.ensures c.args.own.now c.args.other.now _ _ c.if-row-lt-NOT.true c.leaf_at.ensures, c.leaf_at.auto.own ∙ c.requires.0.fit.own_sized, c.requires.0.fit.other_sized, c.requires.1)

pub child-eval-requires : goal.child-eval-requires
child-eval-requires t c =
    (omega arith, (c.requires.0, c.requires.1, subst (λ (r : Row). unary_from ≤ r.kind) c.row_at-row.ensures c.if-row-lt-NOT.false))

pub child-returns : goal.child-returns
child-returns t c = c.eval.ensures

pub eval-row_at-row-requires : goal.eval-row_at-row-requires
eval-row_at-row-requires t c =
    omega (arith, c.requires.0.root, c.requires.0.fit.rows)

pub eval-child-requires : goal.eval-child-requires
eval-child-requires t c =
    let inner = row_inner c.args.table.now c.args.n c.row_at-row.result c.row_at-row.ensures c.requires.2 in
    (omega (arith, first-falls c.args.table.now c.args.rec.now c.args.i c.args.n c.row_at-row.result c.row_at-row.ensures c.row_at-row.result.first refl inner c.requires.0.laid c.requires.0.root), (first-node c.args.table.now c.args.rec.now c.args.i c.args.n c.row_at-row.result c.row_at-row.ensures c.row_at-row.result.first refl inner c.requires.0.laid c.requires.0.root c.requires.0.fit, c.requires.1))

pub eval-returns-in_err-child : goal.eval-returns-in_err-child
eval-returns-in_err-child t c =
    let inner = row_inner c.args.table.now c.args.n c.row_at-row.result c.row_at-row.ensures c.requires.2 in
    (first-over c.args.table.now c.args.rec.now c.args.i c.args.n c.row_at-row.result c.row_at-row.ensures c.row_at-row.result.first refl inner c.args.own.now c.args.other.now _ _ _ c.in_err-child.ensures.0 _ _ refl _ c.from_residual.ensures.0, c.in_err-child.ensures.2, c.in_err-child.ensures.1, c.in_err-child.ensures.3)

pub eval-overflow_add-last : goal.eval-overflow_add-last
eval-overflow_add-last t c =
    omega (arith, c.requires.0.fit.index, length-coded c.args.rec.now)

pub eval-one_at-requires : goal.eval-one_at-requires
eval-one_at-requires t c =
    let inner = row_inner c.args.table.now c.args.n c.row_at-row.result c.row_at-row.ensures c.requires.2 in
    let v = line-one_valid c.args.table.now c.args.rec.now c.args.i c.args.n c.row_at-row.result c.row_at-row.ensures c.row_at-row.result.first refl inner c.args.own.now c.args.other.now _ _ _ c.in_ok-child.ensures.0 refl c.if-kind-lt-OR.true c.requires.0.laid c.requires.0.root c.requires.0.fit in (inner, c.if-kind-lt-OR.true, omega (arith, c.requires.0.root, c.requires.0.fit.few), omega (arith, first-falls c.args.table.now c.args.rec.now c.args.i c.args.n c.row_at-row.result c.row_at-row.ensures c.row_at-row.result.first refl inner c.requires.0.laid c.requires.0.root, c.requires.0.root, c.requires.0.fit.few), c.in_ok-child.ensures.2, c.in_ok-child.ensures.1, v.0, v.1, c.in_ok-child.ensures.3)

pub eval-returns-then-kind-lt-OR : goal.eval-returns-then-kind-lt-OR
eval-returns-then-kind-lt-OR t c =
    let inner = row_inner c.args.table.now c.args.n c.row_at-row.result c.row_at-row.ensures c.requires.2 in
    (line-one c.args.table.now c.args.rec.now c.args.i c.args.n c.row_at-row.result c.row_at-row.ensures c.row_at-row.result.first refl inner c.args.own.now c.args.other.now _ _ _ c.in_ok-child.ensures.0 refl c.if-kind-lt-OR.true _ _ c.one_at.ensures, c.one_at.auto.own ∙ c.in_ok-child.ensures.2, c.in_ok-child.ensures.1, c.one_at.auto.shared ∙ c.in_ok-child.ensures.3)

pub eval-child-requires-2 : goal.eval-child-requires-2
eval-child-requires-2 t c =
    let inner = row_inner c.args.table.now c.args.n c.row_at-row.result c.row_at-row.ensures c.requires.2 in
    (omega (arith, second-falls c.args.table.now c.args.rec.now c.args.i c.args.n c.row_at-row.result c.row_at-row.ensures c.row_at-row.result.first refl inner c.args.own.now c.args.other.now _ _ _ c.in_ok-child.ensures.0 refl c.if-kind-lt-OR.false c.row_at-row.result.second refl (c.in_ok-child.ensures.2 ∙ sym c.requires.0.fit.own_sized) (c.in_ok-child.ensures.1 ∙ sym c.requires.0.fit.other_sized) c.requires.0.laid c.requires.0.root), (second-node c.args.table.now c.args.rec.now c.args.i c.args.n c.row_at-row.result c.row_at-row.ensures c.row_at-row.result.first refl inner c.args.own.now c.args.other.now _ _ _ c.in_ok-child.ensures.0 refl c.if-kind-lt-OR.false c.row_at-row.result.second refl (c.in_ok-child.ensures.2 ∙ sym c.requires.0.fit.own_sized) (c.in_ok-child.ensures.1 ∙ sym c.requires.0.fit.other_sized) c.requires.0.laid c.requires.0.root c.requires.0.fit, c.in_ok-child.ensures.3))

pub eval-returns-in_err-child-2 : goal.eval-returns-in_err-child-2
eval-returns-in_err-child-2 t c =
    let inner = row_inner c.args.table.now c.args.n c.row_at-row.result c.row_at-row.ensures c.requires.2 in
    (second-over c.args.table.now c.args.rec.now c.args.i c.args.n c.row_at-row.result c.row_at-row.ensures c.row_at-row.result.first refl inner c.args.own.now c.args.other.now _ _ _ c.in_ok-child.ensures.0 refl c.if-kind-lt-OR.false c.row_at-row.result.second refl (c.in_ok-child.ensures.2 ∙ sym c.requires.0.fit.own_sized) (c.in_ok-child.ensures.1 ∙ sym c.requires.0.fit.other_sized) _ _ _ c.in_err-child-2.ensures.0 _ _ refl _ c.from_residual-in_err-child-2.ensures.0, c.in_err-child-2.ensures.2, c.in_err-child-2.ensures.1, c.in_err-child-2.ensures.3)

pub eval-two_at-requires : goal.eval-two_at-requires
eval-two_at-requires t c =
    let inner = row_inner c.args.table.now c.args.n c.row_at-row.result c.row_at-row.ensures c.requires.2 in
    let v = line-two_valid c.args.table.now c.args.rec.now c.args.i c.args.n c.row_at-row.result c.row_at-row.ensures c.row_at-row.result.first refl inner c.args.own.now c.args.other.now _ _ _ c.in_ok-child.ensures.0 refl c.if-kind-lt-OR.false c.row_at-row.result.second refl (c.in_ok-child.ensures.2 ∙ sym c.requires.0.fit.own_sized) (c.in_ok-child.ensures.1 ∙ sym c.requires.0.fit.other_sized) _ _ _ c.in_ok-child-2.ensures.0 refl c.requires.0.laid c.requires.0.root c.requires.0.fit in (c.if-kind-lt-OR.false, kind_fits c.args.table.now c.args.rec.now c.args.i c.args.n c.row_at-row.result c.row_at-row.ensures c.row_at-row.result.first refl inner c.requires.0.laid c.requires.0.root, omega (arith, c.requires.0.root, c.requires.0.fit.few), omega (arith, first-falls c.args.table.now c.args.rec.now c.args.i c.args.n c.row_at-row.result c.row_at-row.ensures c.row_at-row.result.first refl inner c.requires.0.laid c.requires.0.root, c.requires.0.root, c.requires.0.fit.few), omega (arith, second-falls c.args.table.now c.args.rec.now c.args.i c.args.n c.row_at-row.result c.row_at-row.ensures c.row_at-row.result.first refl inner c.args.own.now c.args.other.now _ _ _ c.in_ok-child.ensures.0 refl c.if-kind-lt-OR.false c.row_at-row.result.second refl (c.in_ok-child.ensures.2 ∙ sym c.requires.0.fit.own_sized) (c.in_ok-child.ensures.1 ∙ sym c.requires.0.fit.other_sized) c.requires.0.laid c.requires.0.root, c.requires.0.root, c.requires.0.fit.few), c.in_ok-child-2.ensures.2, c.in_ok-child-2.ensures.1, v.0, v.1, v.2, c.in_ok-child-2.ensures.3)

pub eval-returns : goal.eval-returns
eval-returns t c =
    let inner = row_inner c.args.table.now c.args.n c.row_at-row.result c.row_at-row.ensures c.requires.2 in
    (line-two c.args.table.now c.args.rec.now c.args.i c.args.n c.row_at-row.result c.row_at-row.ensures c.row_at-row.result.first refl inner c.args.own.now c.args.other.now _ _ _ c.in_ok-child.ensures.0 refl c.if-kind-lt-OR.false c.row_at-row.result.second refl (c.in_ok-child.ensures.2 ∙ sym c.requires.0.fit.own_sized) (c.in_ok-child.ensures.1 ∙ sym c.requires.0.fit.other_sized) _ _ _ c.in_ok-child-2.ensures.0 refl _ _ c.two_at.ensures, c.two_at.auto.own ∙ c.in_ok-child-2.ensures.2, c.in_ok-child-2.ensures.1, c.two_at.auto.shared ∙ c.in_ok-child-2.ensures.3)
