-- The reader of texts as tests from outside call it: it writes nothing into the caller's memory, and what it returns is all that it does.
use Rattle.std.specs.Prelude.{ℕ, List}
use Rattle.refusal.specs.Outcome.{Outcome, judged}
use Rattle.grammar.specs.inner.Parse.{parsed}
use Rattle.text.specs.Told.{text_lines, nodes_of}

-- the number of nodes of the text's one reading, or refusal 5, 6 or 7
abbrev pub nodes_or_refusal : List ℕ → Outcome ℕ
nodes_or_refusal s = judged (text_lines s) (nodes_of (parsed s))
