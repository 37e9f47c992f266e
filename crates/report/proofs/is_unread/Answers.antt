-- `report::is_unread` meets its contract, by what the reader answers. Assumes nothing.
use Rattle.std.specs.Prelude.{ℕ, ◌≡◌, refl, List, Result, Ok, Err}
use Rattle.std.specs.Result.{is_err}
use Rattle.std.proofs.Common.{◌∙◌}
use Rattle.refusal.specs.declared.Refusal.{Refusal}
use Rattle.text.specs.Told.{Told}
use Rattle.report.specs.inner.Running.{unread}
use Rattle.report.proofs.laws.Naming.{unread_refused, unread-read}
use Rattle.report.proofs.is_unread.Goals as goal

unread_told : (text table : List ℕ) (a : Result ℕ Refusal) → Told text table a → is_err a ≡ unread text
unread_told text table (Ok k) t = unread-read text table (Ok k) t k refl
unread_told text table (Err x) t = unread_refused text table (Err x) t x refl

pub returns : goal.returns
returns c = c.is_err.ensures.value ∙ unread_told c.args.text.now _ _ c.read.ensures
