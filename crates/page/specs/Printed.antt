-- THE PROMISE of the program's proved part: from the bytes of a recording and of a typed text to the bytes that are printed.
use Rattle.std.specs.Prelude.{ℕ, ◌+◌, ◌*◌, ◌≡◌, List, ◌++◌, length, drop}
use Rattle.runs.specs.Runs.{most_runs}
use Rattle.question.specs.Question.{question_of}
use Rattle.page.specs.Page.{page}
use Rattle.page.specs.Typed.{without_newline}

-- the output that the question call is given: a set that is answered fits, so 10 is never printed (laws/Ten, `never_ten`)
abbrev pub set_room : ℕ
set_room = 8 * most_runs

-- room for the longest page: `runs `, a number of at most 10 digits and a newline, and for each run two numbers of at most 11 bytes, a blank and a newline
abbrev pub page_size : ℕ
page_size = 16 + 24 * most_runs

-- what is printed
abbrev pub printed : List ℕ → List ℕ → List ℕ
printed rec typed = page (question_of rec (without_newline typed) set_room)

-- n bytes are put at the front of a page that was `old` before, and nothing else of it changed
pub record Prints (bytes old new : List ℕ) (n : ℕ) : Type 0 where
  pub count : n ≡ length bytes
  pub output : new ≡ bytes ++ drop n old
