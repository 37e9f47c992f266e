-- Words put behind each other, and read back.
use Rattle.std.specs.Prelude.{ℕ, zero, suc, ◌+◌, ◌*◌, ◌≤◌, ◌<◌, ◌≡◌, refl, List, [], ◌∷◌, ◌++◌, length, get_or, take, drop}
use Rattle.std.proofs.Common.{arith, add-one, sym, ap, ◌∙◌, take-suc, length-take-le, take_all}
use Rattle.number.specs.Words.{word, word_bytes, words_bytes}
use Rattle.number.proofs.laws.Words.{word-front, word_behind, put_behind, length-row}

-- each word fits in 32 bits
abbrev pub Words : List ℕ → Type 0
Words [] = Unit {0}
Words (w ∷ ws) = (w < 4294967296) × Words ws

words_append : (ws vs : List ℕ) → words_bytes (ws ++ vs) ≡ words_bytes ws ++ words_bytes vs
words_append [] vs = refl
words_append (w ∷ ws) vs = ap (λ (l : List ℕ). word_bytes w ++ l) (words_append ws vs)

-- ---- put one by one

-- the first i words are put
abbrev pub PutTo : List ℕ → List ℕ → ℕ → List ℕ → Type 0
PutTo ws before i out = out ≡ words_bytes (take i ws) ++ drop (4 * i) before

pub put-turn : (ws before out next : List ℕ) (i : ℕ) → i < length ws → PutTo ws before i out
    → next ≡ take (4 * i) out ++ word_bytes (get_or ws i 0) ++ drop (4 * i + 4) out → PutTo ws before (i + 1) next
put-turn ws before out next i h e n =
    let l : length (take i ws) ≡ i = length-take-le i ws (omega arith) in
    let k = length-row (take i ws) in
    let size : length (words_bytes (take i ws)) ≡ 4 * i = omega arith in
    let four : 4 * i + 4 ≡ 4 * (i + 1) = omega arith in
    let one : words_bytes (get_or ws i 0 ∷ []) ≡ word_bytes (get_or ws i 0) = refl in
    let more : words_bytes (take (i + 1) ws) ≡ words_bytes (take i ws) ++ word_bytes (get_or ws i 0) =
    ap (λ (j : ℕ). words_bytes (take j ws)) (add-one i) ∙ ap words_bytes (take-suc ws i 0 h) ∙ words_append (take i ws) (get_or ws i 0 ∷ []) in
    n ∙ put_behind (words_bytes (take i ws)) (word_bytes (get_or ws i 0)) before out (4 * i) 4 size e
    ∙ ap (λ (l : List ℕ). l ++ drop (4 * i + 4) before) (sym more) ∙ ap (λ (j : ℕ). words_bytes (take (i + 1) ws) ++ drop j before) four

pub put-end : (ws before out : List ℕ) (i : ℕ) → length ws ≤ i → i ≤ 11 → 11 ≤ i → PutTo ws before i out → out ≡ words_bytes ws ++ drop 44 before
put-end ws before out i l a b e =
    let k : 4 * i ≡ 44 = omega arith in
    e ∙ ap (λ (v : List ℕ). words_bytes v ++ drop (4 * i) before) (take_all i ws l) ∙ ap (λ (j : ℕ). words_bytes ws ++ drop j before) k

-- ---- read back

pub word_in : (ws rest : List ℕ) (i : ℕ) → Words ws → i < length ws → word (words_bytes ws ++ rest) (4 * i) ≡ get_or ws i 0
word_in [] rest i h l = absurd (none i l)
  where
    none : (i : ℕ) → i < 0 → ⊥
    none i l = omega arith
word_in (w ∷ ws) rest zero h l = word-front w (words_bytes ws ++ rest) h.0
word_in (w ∷ ws) rest (suc i) h l =
    let k : 4 * suc i ≡ 4 + 4 * i = omega arith in
    ap (word (word_bytes w ++ (words_bytes ws ++ rest))) k ∙ word_behind (word_bytes w) (words_bytes ws ++ rest) (4 * i) ∙ word_in ws rest i h.1 (omega arith)
