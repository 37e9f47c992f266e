-- By the kind of the leaf.
use mathlib.Core.Path.{sym, ap, ◌∙◌}
use borrow.Author.Rules.{rules}
use Rattle.marks.specs.Marks.{marks_of}
use Rattle.assured.specs.inner.Traits.{atom_traits, listed_traits}
use Rattle.assured.proofs.laws.Row.{atom_row, timed_row, listed-row}
use Rattle.assured.proofs.leaf.leaf.Goals as goal

pub returns-then-kind-lt-HIGH : goal.returns-then-kind-lt-HIGH
returns-then-kind-lt-HIGH c =
    c.of_atom.ensures ∙ ap atom_traits c.kind_of.ensures ∙ atom_row (marks_of c.args.marks.now) c.args.row c.if-kind-lt-HIGH.true

pub returns-then-between : goal.returns-then-between
returns-then-between c =
    let w = sym c.between.ensures ∙ c.if-between.true in
    c.of_listed.ensures ∙ ap listed_traits c.has_index.ensures
    ∙ timed_row (marks_of c.args.marks.now) c.args.row w

pub returns : goal.returns
returns c =
    c.of_listed-2.ensures
    ∙ listed-row (marks_of c.args.marks.now) c.args.row c.if-kind-lt-HIGH.false c.requires (sym c.between.ensures ∙ c.if-between.false)
