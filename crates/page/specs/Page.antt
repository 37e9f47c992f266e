-- Document 01, "A program takes the text ..": the page that is printed for each outcome of the question call.
use Rattle.std.specs.Prelude.{ℕ, zero, suc, ◌+◌, ◌*◌, ◌/◌, List, [], ◌∷◌, ◌++◌, length, ℤ}
use Rattle.number.specs.Words.{word, signed}
use Rattle.refusal.specs.Outcome.{Outcome, result, refused}
use Rattle.grammar.specs.Bytes.{bytes}
use Rattle.page.specs.Decimal.{in_decimal, signed_decimal}

abbrev pub newline : List ℕ
newline = 10 ∷ []

-- low and high of a run
unfoldable pub run_line : ℤ → ℤ → List ℕ
run_line low high = signed_decimal low ++ bytes " " ++ signed_decimal high ++ newline

-- the lines of the first n runs; run k stands in bytes 8k to 8k + 7 of a set, low and then high
unfoldable pub run_lines : ℕ → List ℕ → List ℕ
run_lines zero set = []
run_lines (suc k) set = run_lines k set ++ run_line (signed (word set (8 * k))) (signed (word set (8 * k + 4)))

-- THE PAGE: the number of runs, then low and high of each; or number and place of the refusal
unfoldable pub page : Outcome (List ℕ) → List ℕ
page (result set) = bytes "runs " ++ in_decimal (length set / 8) ++ newline ++ run_lines (length set / 8) set
page (refused number place) = bytes "refused " ++ in_decimal number ++ bytes " " ++ in_decimal place ++ newline
