-- Each way out cites its law of ReaderLaws.
use mathlib.Core.Path.{refl, sym, ap, ◌∙◌}
use Rattle.std.specs.Prelude.{Some}
use native.Mathlib.Omega.{arith}
use Rattle.grammar.specs.inner.Parse.{bars, ampersands}
use Rattle.grammar.proofs.laws.Word.{inside}
use Rattle.parser.proofs.ReaderLaws.{room, chain_some, chain_none, more_some, more_none, more_stop, not_some, not_none, not_else, argument_some, argument_other, argument_none, unary_some, binary_some, node-ends, opening_ends, open_unary, open_binary, prim_leaf, prim_round, prim_opened, prim_none}
use Rattle.parser.proofs.+reader.Goals as goal

pub and_more-returns : goal.and_more-returns
and_more-returns t c = more_some c.args.text.now c.args.at c.args.n ampersands c.peek.ensures c.if-peek-ne38.false c.not_text.ensures c.in_ok-end.was c.put_binary.ensures c.and_more.ensures

pub and_more-returns-in_err-end : goal.and_more-returns-in_err-end
and_more-returns-in_err-end t c =
    rw c.from_residual.ensures
    (more_none c.args.text.now c.args.at c.args.n ampersands c.peek.ensures c.if-peek-ne38.false c.not_text.ensures c.in_err-end.was
    (inside c.args.text.now c.args.at (omega (arith, sym c.peek.ensures ∙ c.if-peek-ne38.false))))

pub and_more-returns-then-peek-ne38 : goal.and_more-returns-then-peek-ne38
and_more-returns-then-peek-ne38 t c = more_stop c.args.text.now c.args.at c.args.n c.args.table.now ampersands c.peek.ensures c.if-peek-ne38.true c.requires.0.inside

pub and_text-returns : goal.and_text-returns
and_text-returns t c = chain_some ampersands c.not_text.ensures c.in_ok-end.was c.and_more.ensures

pub and_text-returns-in_err-end : goal.and_text-returns-in_err-end
and_text-returns-in_err-end t c = rw c.from_residual.ensures (chain_none ampersands c.not_text.ensures c.in_err-end.was)

pub or_more-returns : goal.or_more-returns
or_more-returns t c = more_some c.args.text.now c.args.at c.args.n bars c.peek.ensures c.if-peek-ne124.false c.and_text.ensures c.in_ok-end.was c.put_binary.ensures c.or_more.ensures

pub or_more-returns-in_err-end : goal.or_more-returns-in_err-end
or_more-returns-in_err-end t c =
    rw c.from_residual.ensures
    (more_none c.args.text.now c.args.at c.args.n bars c.peek.ensures c.if-peek-ne124.false c.and_text.ensures c.in_err-end.was
    (inside c.args.text.now c.args.at (omega (arith, sym c.peek.ensures ∙ c.if-peek-ne124.false))))

pub or_more-returns-then-peek-ne124 : goal.or_more-returns-then-peek-ne124
or_more-returns-then-peek-ne124 t c = more_stop c.args.text.now c.args.at c.args.n c.args.table.now bars c.peek.ensures c.if-peek-ne124.true c.requires.0.inside

pub or_text-returns : goal.or_text-returns
or_text-returns t c = chain_some bars c.and_text.ensures c.in_ok-end.was c.or_more.ensures

pub or_text-returns-in_err-end : goal.or_text-returns-in_err-end
or_text-returns-in_err-end t c = rw c.from_residual.ensures (chain_none bars c.and_text.ensures c.in_err-end.was)

pub argument-returns : goal.argument-returns
argument-returns t c =
    argument_some c.args.text.now c.args.at c.args.n c.or_text.ensures c.in_ok-end.was c.peek.ensures c.if-peek-close.false
    (inside c.args.text.now _ (omega (arith, sym c.peek.ensures ∙ c.if-peek-close.false, c.requires.1)))

pub argument-returns-then-peek-close : goal.argument-returns-then-peek-close
argument-returns-then-peek-close t c = argument_other c.args.text.now c.args.at c.args.n c.or_text.ensures c.in_ok-end.was c.peek.ensures c.if-peek-close.true

pub argument-returns-in_err-end : goal.argument-returns-in_err-end
argument-returns-in_err-end t c = rw c.from_residual.ensures (argument_none c.args.text.now c.args.at c.args.n c.args.close c.or_text.ensures c.in_err-end.was)

pub binary-returns : goal.binary-returns
binary-returns t c =
    binary_some c.args.text.now c.args.kind c.args.at c.args.n c.requires.2 c.requires.3 c.argument.ensures c.in_ok-left.was c.argument-2.ensures
    c.in_ok-right.was c.put_binary.ensures

pub not_text-returns : goal.not_text-returns
not_text-returns t c = not_some c.args.text.now c.args.at c.args.n c.peek.ensures c.if-peek-ne33.false c.not_text.ensures c.in_ok-end.was c.put_unary.ensures

pub not_text-returns-in_err-end : goal.not_text-returns-in_err-end
not_text-returns-in_err-end t c =
    rw c.from_residual.ensures
    (not_none c.args.text.now c.args.at c.args.n c.peek.ensures c.if-peek-ne33.false c.not_text.ensures c.in_err-end.was
    (inside c.args.text.now c.args.at (omega (arith, sym c.peek.ensures ∙ c.if-peek-ne33.false))))

pub not_text-returns-then-peek-ne33 : goal.not_text-returns-then-peek-ne33
not_text-returns-then-peek-ne33 t c = not_else c.args.text.now c.args.at c.args.n c.peek.ensures c.if-peek-ne33.true c.primary.ensures

pub primary-put-requires : goal.primary-put-requires
primary-put-requires t c = let a = node-ends c.args.text.now c.args.at c.args.n c.leaf.ensures _ _ (c.in_ok-row.was ∙ ap Some c.in-Node.is) in let p = c.requires in omega arith

pub primary-argument-requires : goal.primary-argument-requires
primary-argument-requires t c =
    let a = opening_ends c.args.text.now c.args.at c.args.n c.leaf.ensures _ _ (c.in_ok-row.was ∙ ap Some c.in-Open.is) in
    (omega (arith, c.decreases), (room c.args.table.now _ _ c.requires refl a.1 (omega arith), omega arith))

pub primary-unary-requires : goal.primary-unary-requires
primary-unary-requires t c =
    let a = opening_ends c.args.text.now c.args.at c.args.n c.leaf.ensures _ _ (c.in_ok-row.was ∙ ap Some c.in-Open.is) in (
      omega (arith, c.decreases),
      (room c.args.table.now _ _ c.requires refl a.1 (omega arith), omega arith, open_unary c.args.text.now c.args.at _ _ (sym c.leaf.ensures ∙ c.in_ok-row.was ∙ ap Some c.in-Open.is) c.if-kind-lt-OR.true, c.if-kind-lt-OR.true),
    )

pub primary-binary-requires : goal.primary-binary-requires
primary-binary-requires t c =
    let a = opening_ends c.args.text.now c.args.at c.args.n c.leaf.ensures _ _ (c.in_ok-row.was ∙ ap Some c.in-Open.is) in (
      omega (arith, c.decreases),
      (room c.args.table.now _ _ c.requires refl a.1 (omega arith), omega arith, c.if-kind-lt-OR.false, open_binary c.args.text.now c.args.at _ _ (sym c.leaf.ensures ∙ c.in_ok-row.was ∙ ap Some c.in-Open.is) c.if-kind-eq-BRACKET.false c.if-kind-lt-OR.false),
    )

pub primary-returns-in-Node : goal.primary-returns-in-Node
primary-returns-in-Node t c = prim_leaf c.args.text.now c.args.at c.args.n c.leaf.ensures (c.in_ok-row.was ∙ ap Some c.in-Node.is) c.put.ensures

pub primary-returns-then-kind-eq-BRACKET : goal.primary-returns-then-kind-eq-BRACKET
primary-returns-then-kind-eq-BRACKET t c = prim_round c.args.text.now c.args.at c.args.n c.leaf.ensures (c.in_ok-row.was ∙ ap Some c.in-Open.is) c.if-kind-eq-BRACKET.true c.argument.ensures

pub primary-returns-then-kind-lt-OR : goal.primary-returns-then-kind-lt-OR
primary-returns-then-kind-lt-OR t c = prim_opened c.args.text.now c.args.at c.args.n c.leaf.ensures (c.in_ok-row.was ∙ ap Some c.in-Open.is) c.unary.ensures

pub primary-returns-else-kind-lt-OR : goal.primary-returns-else-kind-lt-OR
primary-returns-else-kind-lt-OR t c = prim_opened c.args.text.now c.args.at c.args.n c.leaf.ensures (c.in_ok-row.was ∙ ap Some c.in-Open.is) c.binary.ensures

pub primary-returns-in_err-row : goal.primary-returns-in_err-row
primary-returns-in_err-row t c = rw c.from_residual.ensures (prim_none c.args.text.now c.args.at c.args.n c.leaf.ensures c.args.table.now c.in_err-row.was)

pub unary-returns : goal.unary-returns
unary-returns t c = unary_some c.args.text.now c.args.kind c.args.at c.args.n c.requires.2 c.requires.3 c.argument.ensures c.in_ok-end.was c.put_unary.ensures
