-- A naming from its parts, and the refusals of its target.
use Rattle.std.specs.Prelude.{ℕ, List, [], ◌∷◌, ltb, ℤ}
use Rattle.refusal.specs.Outcome.{Line, line}
use Rattle.degree.specs.Degree.{target_line}
use Rattle.report.specs.Report.{Naming, report_bytes}

abbrev pub naming : ℕ → List ℕ → ℤ → Naming
naming n text g = record { count = n; text = text; target = g }

-- 12, then 10
abbrev pub target_lines : ℤ → ℕ → List Line
target_lines g room = target_line g ∷ line 10 (ltb room report_bytes) ∷ []
