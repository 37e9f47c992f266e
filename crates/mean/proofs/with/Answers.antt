-- `mean::with` meets its contract: the degree is that of the distance. Assumes nothing.
use mathlib.Core.Path.{ap}
use borrow.Author.Rules.{rules}
use lib.Ieee.{Float}
use Rattle.mean.specs.inner.Running.{next}
use Rattle.mean.proofs.with.Goals as goal

pub returns : goal.returns
returns c = let a = c.args in ap (λ (x : Float). next a.m a.n x) c.degree_of.ensures
