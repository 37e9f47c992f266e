-- What the leaf alone comes to.
use Rattle.std.specs.Prelude.{Ok, Err}
use Prim.Native.Nat.{◌<◌}
use mathlib.Core.Path.{refl, sym, subst}
use Rattle.grammar.specs.declared.Row.{Row}
use Rattle.grammar.specs.inner.Kinds.{NOT}
use Rattle.question.proofs.laws.Answered.{gives_alone}
use borrow.Author.Rules.{rules}
use Rattle.std.proofs.lemmas.Result.{err_from_is_err_and}
use Rattle.question.proofs.answered.of_leaf.Goals as goal

pub alone-requires : goal.alone-requires
alone-requires c =
    (c.requires.0.accepted, c.requires.0.record_there, subst (λ (r : Row). r.kind < NOT) (sym c.row_at-root.ensures) c.requires.1, c.requires.2)

pub returns-in_err-alone : goal.returns-in_err-alone
returns-in_err-alone c =
    let p = err_from_is_err_and c.from_residual.result c.from_residual.ensures.1 in
    rw (p.1, p.2) (gives_alone c.args.table.now c.args.count c.args.rec.now c.requires.0 c.row_at-root.result c.row_at-root.ensures (subst (λ (r : Row). r.kind < NOT) (sym c.row_at-root.ensures) c.requires.1) c.alone.new.set (Err c.in_err-alone.field-0.0) c.in_err-alone.ensures _ refl)

pub returns : goal.returns
returns c = gives_alone c.args.table.now c.args.count c.args.rec.now c.requires.0 c.row_at-root.result c.row_at-root.ensures (subst (λ (r : Row). r.kind < NOT) (sym c.row_at-root.ensures) c.requires.1) c.alone.new.set (Ok c.in_ok-alone.field-0) c.in_ok-alone.ensures _ refl
