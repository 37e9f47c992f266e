-- The bytes of one run, put in place of eight others: two words, and the length stays.
use Rattle.std.specs.Prelude.{ℕ, ◌+◌, ◌≤◌, ◌≡◌, List, ◌++◌, length, take, drop}
use Rattle.std.proofs.Common.{ap, ap₂, ◌∙◌, append_assoc, arith, length-append, length-drop, length-take-le}
use Rattle.number.specs.Axis.{whole}
use Rattle.number.specs.Words.{bits, word_bytes}
use Rattle.number.proofs.laws.Words.{put_behind}
use Rattle.runs.specs.Runs.{number_bytes}

pub two-words : (before once twice : List ℕ) (k l h low high : ℕ) → k + 8 ≤ length before → l ≡ bits (whole low) → h ≡ bits (whole high)
    → once ≡ take k before ++ word_bytes l ++ drop (k + 4) before → twice ≡ take (k + 4) once ++ word_bytes h ++ drop (k + 4 + 4) once
    → twice ≡ take k before ++ (number_bytes low ++ number_bytes high) ++ drop (k + 8) before
two-words before once twice k l h low high r el eh e1 e2 =
    let t : length (take k before) ≡ k = length-take-le k before (omega arith) in
    let n : length (take k before ++ word_bytes l) ≡ k + 4 = simp length-append (omega arith) in
    let q : k + 4 + 4 ≡ k + 8 = omega arith in
    e2 ∙ put_behind (take k before ++ word_bytes l) (word_bytes h) before once (k + 4) 4 n e1
    ∙ ap₂ (λ (x : List ℕ) (j : ℕ). x ++ drop j before)
    (append_assoc (take k before) (word_bytes l) (word_bytes h) ∙ ap₂ (λ (x y : ℕ). take k before ++ (word_bytes x ++ word_bytes y)) el eh) q

pub put-length : (before out : List ℕ) (k low high : ℕ) → k + 8 ≤ length before → out ≡ take k before ++ (number_bytes low ++ number_bytes high) ++ drop (k + 8) before
    → length out ≡ length before
put-length before out k low high r e =
    let t : length (take k before) ≡ k = length-take-le k before (omega arith) in
    ap length e ∙ simp (length-append, length-drop) (omega arith)
