-- Input that comes in pieces: what is kept stands for all that was seen.
use Rattle.std.specs.Prelude.{ℕ, ◌+◌, ◌*◌, ◌/◌, ◌%◌, ◌≤◌, ◌≡◌, cond, List, ◌++◌, ltb, length, take, drop}
use Rattle.grammar.specs.Size.{most_bytes}

-- A limit is given in blocks of 16 bytes, the size of a record. That of a recording is `most_records`.

-- the limit of a text: 272 bytes, so that the longest text lies within it with its newline
abbrev pub text_blocks : ℕ
text_blocks = most_bytes / 16 + 1

-- what a store has beyond its limit
abbrev pub spare : ℕ
spare = 32

-- THE LENGTH THAT IS KEPT of n bytes: n itself up to the limit, else a length past the limit with the same remainder
unfoldable pub kept_length : ℕ → ℕ → ℕ
kept_length blocks n = cond (ltb (16 * blocks) n) (16 * blocks + 16 + n % 16) n

-- the first n bytes of the store stand for what was seen: they are that, if it is within the limit
pub record StandsFor (blocks : ℕ) (seen store : List ℕ) (n : ℕ) : Type 0 where
  pub count : n ≡ kept_length blocks (length seen)
  pub same : length seen ≤ 16 * blocks → take n store ≡ seen

-- A PIECE IS TAKEN IN behind the n bytes that are kept; r bytes are kept then. What they stand for is what the n bytes stood for, with the piece behind it, and
-- no byte behind them is touched.
pub record TakesIn (store : List ℕ) (n : ℕ) (piece new : List ℕ) (r : ℕ) : Type 0 where
  pub stands : (blocks : ℕ) (seen : List ℕ) → 16 * blocks + spare ≡ length store → StandsFor blocks seen store n → StandsFor blocks (seen ++ piece) new r
  pub behind : drop r new ≡ drop r store
