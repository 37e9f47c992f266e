-- Bytes that stand in a state: read off, and put into it.
use Rattle.std.specs.Prelude.{ℕ, ◌+◌, ◌≤◌, ◌<◌, ◌≡◌, ◌⊎◌, List, ◌++◌, length}
use Rattle.std.proofs.Common.{arith, sym, ap, ◌∙◌, ⊎_elim, length-append}
use Rattle.std.proofs.Math.Seq.{take-length}
use Rattle.number.specs.Words.{word, word_bytes}
use Rattle.number.proofs.laws.Words.{word-front}
use Rattle.copying.specs.Put.{part, put}
use Rattle.copying.proofs.laws.Put.{part-part, part-put, part-before, part_behind, word-part}
use Rattle.live_state.specs.State.{head_of}
use Rattle.refinement.proofs.laws.Represents.{Has}

-- what was put stands there
pub has_put : (at : ℕ) (v s : List ℕ) → at + length v ≤ length s → Has (put at v s) at v
has_put = part-put

-- what lies apart still stands
pub has_apart : (at : ℕ) (v s : List ℕ) → at + length v ≤ length s → (b : ℕ) (w : List ℕ) → (b + length w ≤ at) ⊎ (at + length v ≤ b) → Has s b w → Has (put at v s) b w
has_apart at v s h b w a e = ⊎_elim (λ k. part-before at v s h b (length w) k ∙ e) (λ k. part_behind at v s h b (length w) k ∙ e) a

-- two numbers in a row
pub record TwoWords (s : List ℕ) (at m n : ℕ) : Type 0 where
  pub first : word s at ≡ m
  pub second : word s (at + 4) ≡ n

pub two-words : (s : List ℕ) (at m n : ℕ) (rest : List ℕ) → m < 4294967296 → n < 4294967296 → Has s at (word_bytes m ++ word_bytes n ++ rest) → TwoWords s at m n
two-words s at m n rest hm hn e =
    let w : List ℕ = word_bytes m ++ word_bytes n ++ rest in
    let l = length-append (word_bytes m ++ word_bytes n) rest in
    let z : at + 0 ≡ at = omega arith in
    record {
      first = ap (word s) (sym z) ∙ sym (word-part at (length w) s 0 (omega arith)) ∙ ap (λ (b : List ℕ). word b 0) e ∙ word-front m (word_bytes n ++ rest) hm;
      second = sym (word-part at (length w) s 4 (omega arith)) ∙ ap (λ (b : List ℕ). word b 4) e ∙ word-front n rest hn;
    }

-- a head, and what stands behind it
pub head_words : (s : List ℕ) (at m n : ℕ) (rest : List ℕ) → m < 4294967296 → n < 4294967296 → Has s at (head_of m n ++ rest) → TwoWords s at m n
head_words s at m n rest = two-words s at m n (word_bytes 0 ++ word_bytes 0 ++ rest)

pub behind_head : (s : List ℕ) (at m n : ℕ) (rest : List ℕ) → Has s at (head_of m n ++ rest) → part (at + 16) (length rest) s ≡ rest
behind_head s at m n rest e =
    let l = length-append (head_of m n) rest in
    sym (part-part at (length (head_of m n ++ rest)) 16 (length rest) s (omega arith)) ∙ ap (part 16 (length rest)) e ∙ take-length rest
