-- `sheet::first_of` meets its contract. The numbers of an accepted sheet are those of pigments. Assumes nothing.
use native.Mathlib.Omega.{arith}
use Rattle.sheet.proofs.laws.Sheet.{pigments_in}
use Rattle.sheet.proofs.first_of.Goals as goal

pub bounds-first-from : goal.bounds-first-from
bounds-first-from c =
    let p = (pigments_in c.args.sheet.now c.requires.1 c.args.at c.requires.0).most in
    omega arith
