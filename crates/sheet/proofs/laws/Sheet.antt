-- Laws of sheets: their lines by the bytes, and the numbers of an accepted sheet.
use Rattle.std.specs.Prelude.{ℕ, zero, suc, ◌+◌, ◌*◌, ◌/◌, ◌%◌, ◌≤◌, ◌<◌, ◌≡◌, refl, Bool, true, false, ◌||◌, not, List, [], ◌∷◌, length, get_or, drop, eqb, ltb}
use Rattle.std.proofs.Common.{arith, le_of_suc-le-suc, add-one, sym, ap, ap₂, ◌∙◌, drop_of_length-le, get_or-drop, drop-cons, ltb-false}
use Rattle.std.proofs.lemmas.Bool.{eqb-false}
use Rattle.number.proofs.laws.Boolean.{or_left, none_left, none_right}
use Rattle.number.proofs.laws.Order.{positive}
use Rattle.recording.specs.Condition.{some_of}
use Rattle.recording.specs.Recording.{most_pigments}
use Rattle.sheet.specs.Sheet.{precedences, sheet_of, most_lines, no_pigment, AcceptedSheet}
use Rattle.sheet.specs.Finding.{no_line}
use Rattle.sheet.specs.inner.Firsts.{line_at}

length-precedences : (n : ℕ) (bytes : List ℕ) → length (precedences n bytes) ≡ n
length-precedences zero bytes = refl
length-precedences (suc n) bytes = ap suc (length-precedences n (drop 2 bytes))

pub length_sheet : (bytes : List ℕ) → length (sheet_of bytes) ≡ length bytes / 2
unfolding sheet_of
length_sheet bytes = length-precedences (length bytes / 2) bytes

line-drop : (bytes : List ℕ) (m : ℕ) → line_at (drop 2 bytes) m ≡ line_at bytes (suc m)
line-drop bytes m =
    let e : 2 + m * 2 ≡ suc m * 2 = omega arith in
    let q : 2 + (m * 2 + 1) ≡ suc m * 2 + 1 = omega arith in
    ap₂ (λ (a b : ℕ). record { a = a; b = b }) (get_or-drop 2 bytes (m * 2) 0 ∙ ap (λ (j : ℕ). get_or bytes j 0) e) (get_or-drop 2 bytes (m * 2 + 1) 0 ∙ ap (λ (j : ℕ). get_or bytes j 0) q)

get_d_precedences : (n : ℕ) (bytes : List ℕ) (m : ℕ) → m < n → get_or (precedences n bytes) m no_line ≡ line_at bytes m
get_d_precedences zero bytes m h = absurd (omega arith)
get_d_precedences (suc n) bytes zero h = refl
get_d_precedences (suc n) bytes (suc m) h = get_d_precedences n (drop 2 bytes) m (le_of_suc-le-suc h) ∙ line-drop bytes m

-- line m, by its bytes
pub line_is : (bytes : List ℕ) (m : ℕ) → m < length bytes / 2 → get_or (sheet_of bytes) m no_line ≡ line_at bytes m
unfolding sheet_of
line_is bytes m h = get_d_precedences (length bytes / 2) bytes m h

-- ---- some number of the sheet, from a place on

module _ (P : ℕ → Bool) (s : List ℕ) (i : ℕ) (h : i < length s) where
  pub some_from : some_of P (drop i s) ≡ (P (get_or s i 0) || some_of P (drop (suc i) s))
  some_from = ap (some_of P) (drop-cons s i 0 h)

  -- here
  pub some_here : P (get_or s i 0) ≡ true → some_of P (drop i s) ≡ true
  some_here e = some_from ∙ or_left (P (get_or s i 0)) (some_of P (drop (suc i) s)) e

  -- or behind
  pub some_past : P (get_or s i 0) ≡ false → some_of P (drop i s) ≡ some_of P (drop (i + 1) s)
  some_past e = some_from ∙ ap (λ (b : Bool). b || some_of P (drop (suc i) s)) e ∙ ap (λ (j : ℕ). some_of P (drop j s)) (sym (add-one i))

-- past the end there is none
pub some_end : (P : ℕ → Bool) (s : List ℕ) (i : ℕ) → length s ≤ i → some_of P (drop i s) ≡ false
some_end P s i h = ap (some_of P) (drop_of_length-le s h)

-- ---- an accepted sheet

-- a number is 1 to 16
pub record IsPigment (k : ℕ) : Type 0 where
  pub some : 0 < k
  pub most : k ≤ most_pigments

pigment_is : (k : ℕ) → no_pigment k ≡ false → IsPigment k
pigment_is k e =
    let z = eqb-false k 0 (none_left (eqb k 0) (ltb most_pigments k) e) in
    record { some = positive k z; most = ltb-false most_pigments k (none_right (eqb k 0) (ltb most_pigments k) e) }

none-of : (s : List ℕ) → some_of no_pigment s ≡ false → (i : ℕ) → i < length s → IsPigment (get_or s i 0)
none-of [] e i h = absurd (omega arith)
none-of (k ∷ s) e zero h = pigment_is k (none_left (no_pigment k) (some_of no_pigment s) e)
none-of (k ∷ s) e (suc i) h = none-of s (none_right (no_pigment k) (some_of no_pigment s) e) i (le_of_suc-le-suc h)

module _ (sheet : List ℕ) (a : AcceptedSheet sheet) where
  rest : (ltb most_lines (length sheet / 2) || some_of no_pigment sheet) ≡ false
  rest = none_right (not (eqb (length sheet % 2) 0)) (ltb most_lines (length sheet / 2) || some_of no_pigment sheet) a.0

  -- it has no more lines than 32
  pub lines_few : length sheet / 2 ≤ most_lines
  lines_few = ltb-false most_lines (length sheet / 2) (none_left (ltb most_lines (length sheet / 2)) (some_of no_pigment sheet) rest)

  -- each number is that of a pigment
  pub pigments_in : (i : ℕ) → i < length sheet → IsPigment (get_or sheet i 0)
  pigments_in i h = none-of sheet (none_right (ltb most_lines (length sheet / 2)) (some_of no_pigment sheet) rest) i h
