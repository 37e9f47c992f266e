-- The version's number, by the page.
use mathlib.Core.Path.{refl}
use mathlib.Core.List.{[]}
use Rattle.promises.specs.Page as call
use Rattle.promises.proofs.laws.Computed.{every_call}
use Rattle.mill.proofs.mill_version.Goals as goal

pub returns : goal.returns
returns c = every_call call.version [] [] _ [] (refl, refl, refl)
