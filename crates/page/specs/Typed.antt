-- Document 01, "A program takes the text ..": the text that was typed, of which a final newline is dropped.
use Rattle.std.specs.Prelude.{ℕ, ◌-◌, Bool, cond, List, eqb, length, get_or, take}

-- the last byte is a newline
abbrev pub ends_line : List ℕ → Bool
ends_line s = eqb (get_or s (length s - 1) 0) 10

-- ONE final newline is dropped
unfoldable pub without_newline : List ℕ → List ℕ
without_newline s = cond (ends_line s) (take (length s - 1) s) s
