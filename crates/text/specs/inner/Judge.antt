-- What the code answers for a text whose tree is read.
use Rattle.refusal.specs.declared.Refusal.{Refusal}
use Rattle.std.specs.Prelude.{ℕ, cond, List, ltb, Result, Ok, Err}
use Rattle.refusal.specs.declared.Refusal.TheVariants.{NoReading, TextTooLarge}
use Rattle.grammar.specs.Syntax.{Text}
use Rattle.grammar.specs.Size.{mixed, nodes, too_deep, most_nodes}

-- the answer for a text whose tree is read
abbrev pub judged_text : List ℕ → Text → Result ℕ Refusal
judged_text s t =
    cond (mixed t) (Err NoReading) (cond (ltb most_nodes (nodes t)) (Err TextTooLarge) (cond (too_deep s) (Err TextTooLarge) (Ok (nodes t))))
