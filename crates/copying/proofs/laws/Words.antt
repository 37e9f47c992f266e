-- Four numbers in a row.
use Rattle.std.specs.Prelude.{ℕ, ◌+◌, ◌≤◌, ◌≡◌, List, ◌++◌, length}
use Rattle.std.proofs.Common.{arith, ap, ◌∙◌}
use Rattle.number.specs.Words.{word_bytes}
use Rattle.copying.specs.Put.{put}
use Rattle.copying.proofs.laws.Put.{put-put}

-- put one behind the other, they are put as one part
pub words-put : (at a b c d : ℕ) (s s1 s2 s3 s4 : List ℕ) → at + 16 ≤ length s → s1 ≡ put at (word_bytes a) s → s2 ≡ put (at + 4) (word_bytes b) s1
    → s3 ≡ put (at + 8) (word_bytes c) s2 → s4 ≡ put (at + 12) (word_bytes d) s3 → s4 ≡ put at (word_bytes a ++ word_bytes b ++ word_bytes c ++ word_bytes d) s
words-put at a b c d s s1 s2 s3 s4 h e1 e2 e3 e4 =
    let f2 : s2 ≡ put at (word_bytes a ++ word_bytes b) s =
    e2 ∙ ap (put (at + 4) (word_bytes b)) e1 ∙ put-put at (word_bytes a) (word_bytes b) s (omega arith) in
    let f3 : s3 ≡ put at (word_bytes a ++ word_bytes b ++ word_bytes c) s =
    e3 ∙ ap (put (at + 8) (word_bytes c)) f2 ∙ put-put at (word_bytes a ++ word_bytes b) (word_bytes c) s (omega arith) in
    e4 ∙ ap (put (at + 12) (word_bytes d)) f3 ∙ put-put at (word_bytes a ++ word_bytes b ++ word_bytes c) (word_bytes d) s (omega arith)
