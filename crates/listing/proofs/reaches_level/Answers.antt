-- Both in offset binary.
use mathlib.Core.Path.{ap, ◌∙◌}
use Prim.Native.Nat.{ℕ, ◌+◌}
use lib.Dec.{leb}
use Rattle.number.specs.Words.{offset_binary}
use Rattle.listing.proofs.laws.Reaches.{reaches-index}
use borrow.Author.Rules.{rules}
use Rattle.listing.proofs.reaches_level.Goals as goal

pub returns : goal.returns
returns c =
    ap (λ (m : ℕ). leb (c.args.index + 147483648) m) (c.offset_binary-greatest.ensures ∙ ap offset_binary c.word_at.ensures)
    ∙ reaches-index c.args.summary.now c.args.i c.args.curve c.args.index c.requires.1 c.requires.2
