-- Each test in turn.
use Prim.Native.Nat.{ℕ}
use mathlib.Core.Bool.{◌&&◌, not}
use lib.Dec.{eqb, leb}
use borrow.Author.Rules.{rules}
use Rattle.grammar.specs.inner.Kinds.{COMPARE-V, COMPARE, A-TO-B, PIGMENT}
use Rattle.assured.proofs.leaf.kind_of.Goals as goal

pub returns : goal.returns
returns c =
    let k : ℕ = c.args.row.kind in
    λ i. record {
      pigment = eqb k PIGMENT;
      side = eqb k A-TO-B && c.is_side.ensures i;
      up = leb k COMPARE && (not (c.is_curve-curve.ensures i) && c.stays_later.ensures i);
      down = leb k COMPARE && (not (c.is_curve-curve.ensures i) && c.was_earlier.ensures i);
      slope = c.between.ensures i;
      bound = leb k COMPARE && (c.is_curve-curve.ensures i && not (c.is_eq.ensures i));
      after = eqb k COMPARE && (not (c.is_curve-curve.ensures i) && (c.is_gt.ensures i && c.has_index-marked.ensures i));
      named = eqb k COMPARE-V;
    }
