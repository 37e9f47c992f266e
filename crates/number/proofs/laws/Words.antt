-- A number read from the bytes that it was written as, and the signed numbers of the axis.
use Rattle.std.specs.Prelude.{◌≡◌, ℕ, zero, suc, ◌+◌, ◌-◌, ◌*◌, ◌/◌, ◌%◌, ◌<◌, ◌≤◌, Bool, true, false, cond, not, List, [], ◌∷◌, ◌++◌, length, take, drop, ℤ, pos, negsuc, int_le, int_lt, nat_le, nat_lt, slice_index, slice_index_or, refl}
use Rattle.std.proofs.Common.{sym, ap, ap₂, ◌∙◌, subst, ⊎_elim, arith, length-append, length-drop, length-take-le, get_or-append-add, take_at, drop-drop, lt-ltb, le-ltb}
use Rattle.std.proofs.Math.Nat.{div-add-mod, div-div-eq-div-mul}
use Rattle.std.proofs.Math.Seq.{drop-append-add}
use Rattle.std.proofs.Math.IntN.{sub_ℕ}
use Rattle.number.specs.Axis.{axis, origin, whole}
use Rattle.number.specs.Words.{word, word_bytes, words_bytes, offset_binary, signed, bits}
use Rattle.number.proofs.laws.Order.{less_or_not, ltb_same, leb_not_ltb}

-- the first four bytes
pub word-front : (n : ℕ) (rest : List ℕ) → n < 4294967296 → word (word_bytes n ++ rest) 0 ≡ n
word-front n rest h =
    let e : n / 256 / 256 ≡ n / 65536 = div-div-eq-div-mul n 256 256 in
    let f : n / 65536 / 256 ≡ n / 16777216 = div-div-eq-div-mul n 65536 256 in
    let top : n / 16777216 % 256 ≡ n / 16777216 = omega arith in
    omega (arith, div-add-mod n 256, div-add-mod (n / 256) 256, div-add-mod (n / 65536) 256)

-- four bytes behind others
pub word_behind : (p q : List ℕ) (at : ℕ) → word (p ++ q) (length p + at) ≡ word q at
word_behind p q at =
    let byte : (k : ℕ) → slice_index (p ++ q) (length p + at + k) ≡ slice_index_or q (at + k) 0 =
    λ k. let e : length p + at + k ≡ length p + (at + k) = omega arith in ap (λ (m : ℕ). slice_index (p ++ q) m) e ∙ get_or-append-add p q (at + k) 0 in
    let b0 = get_or-append-add p q at 0 in
    let b1 = byte 1 in
    let b2 = byte 2 in
    let b3 = byte 3 in
    cc

-- the number with index i of a row
pub word_row : (ns : List ℕ) (i : ℕ) → i < length ns → slice_index ns i < 4294967296 → word (words_bytes ns) (4 * i) ≡ slice_index ns i
word_row [] i h s = absurd (omega arith)
word_row (n ∷ ns) zero h s = word-front n (words_bytes ns) s
word_row (n ∷ ns) (suc i) h s =
    let e : 4 * suc i ≡ length (word_bytes n) + 4 * i = omega arith in
    ap (word (words_bytes (n ∷ ns))) e ∙ word_behind (word_bytes n) (words_bytes ns) (4 * i) ∙ word_row ns i (omega arith) s

pub length-row : (ns : List ℕ) → length (words_bytes ns) ≡ 4 * length ns
length-row [] = refl
length-row (n ∷ ns) =
    let h = length-row ns in
    length-append (word_bytes n) (words_bytes ns) ∙ omega arith

-- the 32 bits of a number in offset binary, and the number read back from them
pub offset_binary_bits : (m : ℕ) → m < 4294967296 → offset_binary m ≡ bits (sub_ℕ m 2147483648)
unfolding offset_binary
offset_binary_bits m h = ⊎_elim (λ g. rw (lt-ltb m 2147483648 g) (omega arith)) (λ g. rw (le-ltb m 2147483648 g) (omega arith)) (less_or_not m 2147483648)

pub bits_back : (m : ℕ) → m < 4294967296 → (bits (sub_ℕ m 2147483648) < 4294967296) × (signed (bits (sub_ℕ m 2147483648)) ≡ sub_ℕ m 2147483648)
unfolding signed offset_binary
bits_back m h =
    let e : offset_binary m ≡ bits (sub_ℕ m 2147483648) = offset_binary_bits m h in
    let b : offset_binary (offset_binary m) ≡ m = omega arith in
    (subst (λ (n : ℕ). n < 4294967296) e (omega arith), ap signed (sym e) ∙ ap (λ (n : ℕ). sub_ℕ n 2147483648) b)

-- elements put right behind those that are put already
pub put_behind : (a w before out : List ℕ) (k j : ℕ) → length a ≡ k → out ≡ a ++ drop k before
    → take k out ++ w ++ drop (k + j) out ≡ a ++ w ++ drop (k + j) before
put_behind a w before out k j h e =
    ap₂ (λ (x y : List ℕ). x ++ w ++ y) (ap (take k) e ∙ take_at a (drop k before) k h)
    (ap (drop (k + j)) e ∙ ap (λ (n : ℕ). drop (n + j) (a ++ drop k before)) (sym h) ∙ drop-append-add a (drop k before) j ∙ drop-drop j k before)

-- four bytes put in place of four leave the length
pub put-length : (before out : List ℕ) (at w : ℕ) → at + 4 ≤ length before → out ≡ take at before ++ word_bytes w ++ drop (at + 4) before → length out ≡ length before
put-length before out at w h e =
    let t : length (take at before) ≡ at = length-take-le at before (omega arith) in
    ap length e ∙ simp (length-append, length-drop) (omega arith)

-- the order of the numbers p − k is that of the numbers p
module _ (k : ℕ) where
  pub sub_lt : (p q : ℕ) → int_lt (sub_ℕ p k) (sub_ℕ q k) ≡ nat_lt p q
  sub_lt p q =
      ⊎_elim
      (λ a. ⊎_elim (λ b. by true true (lt-ltb p k a) (lt-ltb q k b) (ltb_same (k - suc q) (k - suc p) p q (λ h. omega arith) (λ h. omega arith)))
      (λ b. by true false (lt-ltb p k a) (le-ltb q k b) (sym (lt-ltb p q (omega arith)))) (less_or_not q k))
      (λ a. ⊎_elim (λ b. by false true (le-ltb p k a) (lt-ltb q k b) (sym (le-ltb p q (omega arith))))
      (λ b. by false false (le-ltb p k a) (le-ltb q k b) (ltb_same (p - k) (q - k) p q (λ h. omega arith) (λ h. omega arith))) (less_or_not q k))
      (less_or_not p k)
    where
      by : (t u : Bool) → nat_lt p k ≡ t → nat_lt q k ≡ u
          → int_lt (cond t (negsuc (k - suc p)) (pos (p - k))) (cond u (negsuc (k - suc q)) (pos (q - k))) ≡ nat_lt p q
          → int_lt (sub_ℕ p k) (sub_ℕ q k) ≡ nat_lt p q
      by t u e f h = ap₂ (λ (x y : Bool). int_lt (cond x (negsuc (k - suc p)) (pos (p - k))) (cond y (negsuc (k - suc q)) (pos (q - k)))) e f ∙ h

pub le_z_not_lt_z : (x y : ℤ) → int_le x y ≡ not (int_lt y x)
le_z_not_lt_z (pos m) (pos n) = leb_not_ltb m n
le_z_not_lt_z (pos m) (negsuc n) = refl
le_z_not_lt_z (negsuc m) (pos n) = refl
le_z_not_lt_z (negsuc m) (negsuc n) = leb_not_ltb n m

pub sub_le : (k p q : ℕ) → int_le (sub_ℕ p k) (sub_ℕ q k) ≡ nat_le p q
sub_le k p q = le_z_not_lt_z (sub_ℕ p k) (sub_ℕ q k) ∙ ap not (sub_lt k q p) ∙ sym (leb_not_ltb p q)

-- the order of the axis is that of the indices
pub whole_le : (p q : ℕ) → int_le (whole p) (whole q) ≡ nat_le p q
whole_le = sub_le origin

-- the 32 bits of the number at an index
pub bits-whole : (n : ℕ) → n < axis → bits (whole n) ≡ (n + 2294967296) % 4294967296
bits-whole n h =
    ⊎_elim (λ g. rw (lt-ltb n origin g) (omega arith)) (λ g. rw (le-ltb n origin g) (omega arith)) (less_or_not n origin)

pub bits_small : (n : ℕ) → n < axis → bits (whole n) < 4294967296
bits_small n h = rw (bits-whole n h) (omega arith)

-- p − k and q − k are the same where p and q are
shift : (p k q l : ℕ) → p + l ≡ q + k → sub_ℕ p k ≡ sub_ℕ q l
shift p k q l e =
    ⊎_elim (λ g. rw (lt-ltb p k g, lt-ltb q l (omega arith)) (ap negsuc (omega arith)))
    (λ g. rw (le-ltb p k g, le-ltb q l (omega arith)) (ap pos (omega arith)))
    (less_or_not p k)

-- A NUMBER OF THE AXIS IS READ BACK FROM ITS BITS
pub signed-bits : (n : ℕ) → n < axis → signed (bits (whole n)) ≡ whole n
unfolding signed offset_binary
signed-bits n h = rw (bits-whole n h) (shift (((n + 2294967296) % 4294967296 + 2147483648) % 4294967296) 2147483648 n origin (omega arith))
