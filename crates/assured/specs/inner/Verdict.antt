-- The verdict on a text.
use Rattle.refusal.specs.declared.Refusal.{Refusal}
use Rattle.std.specs.Prelude.{ℕ, Bool, ◌-◌, ◌≡◌, List, [], ◌∷◌, Result, Ok, Err}
use Rattle.refusal.specs.Outcome.{Outcome, result, refused, judged}
use Rattle.refusal.specs.Numbers.{number_of, place_of}
use Rattle.grammar.specs.inner.Table.{tree_at}
use Rattle.marks.specs.Marks.{marks_of, marks_line}
use Rattle.assured.specs.Call.{told}
use Rattle.assured.specs.inner.Test.{is_assured}

abbrev pub verdict_of : Result Bool Refusal → Outcome ℕ
verdict_of (Ok b) = result (told b)
verdict_of (Err x) = refused (number_of x) (place_of x)

-- 11, or whether the text of the first n rows is assured
abbrev pub Judges : (table : List ℕ) (n : ℕ) (marks : List ℕ) → Result Bool Refusal → Type 0
Judges table n marks r = verdict_of r ≡ judged (marks_line marks ∷ []) (told (is_assured (marks_of marks) (tree_at table (n - 1))))
