-- Laws of parts and of bytes put in the place of others: what was put is read back, and the rest stays.
use Prim.Native.Nat.{ℕ, zero, suc, ◌+◌, ◌*◌, ◌-◌, ◌≤◌, ◌<◌}
use native.Mathlib.Omega.{arith}
use Rattle.std.specs.Prelude.{◌≡◌, refl, get_or}
use Rattle.std.proofs.Math.Path.{sym, ap}
use Rattle.std.proofs.Common.{ap₂, ◌∙◌, ⊎_elim, take-append-drop, length-take-le, take_at, drop_at, take-take, take-add, get_or-take, get_or-drop}
use mathlib.Core.List.{List, [], ◌∷◌, ◌++◌, append_assoc}
use Rattle.std.proofs.Math.ListN.{length, take, drop, length-append, length-drop}
use Rattle.std.proofs.Math.Seq.{take-append-le, drop-append-add, take-append_seam, drop-drop, take-nil, paste}
use Rattle.std.proofs.lemmas.List.{drop-append-le}
use Rattle.std.proofs.lemmas.List.Edits.{take-paste, drop-paste}
use Rattle.number.specs.Words.{word}
use Rattle.copying.specs.Put.{part, put, Apart}

pub length_part : (at n : ℕ) (s : List ℕ) → at + n ≤ length s → length (part at n s) ≡ n
length_part at n s h =
    let d = length-drop at s in
    length-take-le n (drop at s) (omega arith)

drop-take : (b k : ℕ) (l : List ℕ) → drop b (take (b + k) l) ≡ take k (drop b l)
drop-take zero k l =
    let e : 0 + k ≡ k = omega arith in
    ap (λ (n : ℕ). take n l) e
drop-take (suc b) k [] = ap (drop (suc b)) (take-nil (suc b + k)) ∙ sym (take-nil k)
drop-take (suc b) k (x ∷ l) =
    let e : suc b + k ≡ suc (b + k) = omega arith in
    ap (λ (n : ℕ). drop (suc b) (take n (x ∷ l))) e ∙ drop-take b k l

-- a part of a part
pub part-part : (a n b m : ℕ) (s : List ℕ) → b + m ≤ n → part b m (part a n s) ≡ part (a + b) m s
part-part a n b m s h =
    let k : ℕ = n - b in
    let e : b + k ≡ n = omega arith in
    ap (λ (j : ℕ). take m (drop b (take j (drop a s)))) (sym e) ∙ ap (take m) (drop-take b k (drop a s)) ∙ take-take m k (drop b (drop a s)) (omega arith)
    ∙ ap (take m) (drop-drop b a s)

module _ (at : ℕ) (v s : List ℕ) (h : at + length v ≤ length s) where
  front : length (take at s) ≡ at
  front = length-take-le at s (omega arith)

  head : length (take at s ++ v) ≡ at + length v
  head = let f = front in length-append (take at s) v ∙ omega arith

  pub length-put : length (put at v s) ≡ length s
  unfolding put
  length-put =
      let f = head in
      let d = length-drop (at + length v) s in
      length-append (take at s ++ v) (drop (at + length v) s) ∙ omega arith

  -- what was put
  pub part-put : part at (length v) (put at v s) ≡ v
  unfolding put
  part-put =
      ap (part at (length v)) (append_assoc (take at s) v (drop (at + length v) s))
      ∙ ap (take (length v)) (drop_at (take at s) (v ++ drop (at + length v) s) at front)
      ∙ take-append_seam v (drop (at + length v) s)

  -- what stands before it
  pub part-before : (b n : ℕ) → b + n ≤ at → part b n (put at v s) ≡ part b n s
  unfolding put
  part-before b n k =
      let f = front in
      let d = length-drop b (take at s) in
      let g : (r : List ℕ) → part b n (take at s ++ r) ≡ take n (drop b (take at s)) =
      λ r. ap (take n) (drop-append-le b (take at s) r (omega arith)) ∙ take-append-le n (drop b (take at s)) r (omega arith) in
      ap (part b n) (append_assoc (take at s) v (drop (at + length v) s))
      ∙ g (v ++ drop (at + length v) s) ∙ sym (g (drop at s)) ∙ ap (part b n) (take-append-drop at s)

  -- what stands behind it
  pub part_behind : (b n : ℕ) → at + length v ≤ b → part b n (put at v s) ≡ part b n s
  unfolding put
  part_behind b n k =
      let j : ℕ = b - (at + length v) in
      let e : at + length v + j ≡ b = omega arith in
      ap (take n)
      (ap (λ (i : ℕ). drop i ((take at s ++ v) ++ drop (at + length v) s)) (sym e ∙ ap (λ (i : ℕ). i + j) (sym head))
      ∙ drop-append-add (take at s ++ v) (drop (at + length v) s) j
      ∙ drop-drop j (at + length v) s ∙ ap (λ (i : ℕ). drop i s) e)

-- bytes right behind those that were put
pub put-put : (at : ℕ) (v w s : List ℕ) → at + length v ≤ length s → put (at + length v) w (put at v s) ≡ put at (v ++ w) s
unfolding put
put-put at v w s h =
    let l : ℕ = at + length v in
    let b : List ℕ = take at s ++ v in
    let e = length-append v w in
    let e' : l + length w ≡ at + length (v ++ w) = omega arith in
    ap₂ (λ (x y : List ℕ). (x ++ w) ++ y) (take_at b (drop l s) l (head at v s h))
    (ap (λ (i : ℕ). drop (i + length w) (b ++ drop l s)) (sym (head at v s h)) ∙ drop-append-add b (drop l s) (length w) ∙ drop-drop (length w) l s
    ∙ ap (λ (i : ℕ). drop i s) e')
    ∙ ap (λ (x : List ℕ). x ++ drop (at + length (v ++ w)) s) (append_assoc (take at s) v w)

-- bytes right before those that were put
pub put-before : (at : ℕ) (v w s : List ℕ) → at + length v + length w ≤ length s → put at v (put (at + length v) w s) ≡ put at (v ++ w) s
unfolding put
put-before at v w s h =
    let l : ℕ = at + length v in
    let e = length-append v w in
    let e' : l + length w ≡ at + length (v ++ w) = omega arith in
    ap₂ (λ (x y : List ℕ). (x ++ v) ++ y) (part-before l w s h 0 at (omega arith))
    (ap (drop l) (append_assoc (take l s) w (drop (l + length w) s)) ∙ drop_at (take l s) (w ++ drop (l + length w) s) l (length-take-le l s (omega arith)))
    ∙ sym (append_assoc (take at s ++ v) w (drop (l + length w) s))
    ∙ ap₂ (λ (x : List ℕ) (i : ℕ). x ++ drop i s) (append_assoc (take at s) v w) e'

-- what stood there is put again
pub put_same : (at n : ℕ) (s : List ℕ) → at + n ≤ length s → put at (part at n s) s ≡ s
unfolding put
put_same at n s h =
    append_assoc (take at s) (part at n s) (drop (at + length (part at n s)) s)
    ∙ ap (λ (k : ℕ). take at s ++ (part at n s ++ drop (at + k) s)) (length_part at n s h)
    ∙ ap (λ (d : List ℕ). take at s ++ (part at n s ++ d)) (sym (drop-drop n at s))
    ∙ ap (λ (d : List ℕ). take at s ++ d) (take-append-drop n (drop at s))
    ∙ take-append-drop at s

-- bytes put to the front of a part, the rest of which stays
pub put-part : (at n : ℕ) (v s : List ℕ) → length v ≤ n → at + n ≤ length s → put at (v ++ drop (length v) (part at n s)) s ≡ put at v s
unfolding put
put-part at n v s h k =
    let l : ℕ = length v in
    let w : List ℕ = drop l (part at n s) in
    let lp = length_part at n s k in
    let lw = length-drop l (part at n s) in
    let e = length-append v w in
    let f : at + length (v ++ w) ≡ at + n = omega arith in
    ap₂ (λ (x : List ℕ) (i : ℕ). x ++ drop i s) (sym (append_assoc (take at s) v w)) f
    ∙ append_assoc (take at s ++ v) w (drop (at + n) s)
    ∙ ap (λ (d : List ℕ). (take at s ++ v) ++ d)
    (sym (drop-append-le l (part at n s) (drop (at + n) s) (omega arith)) ∙ ap (λ (d : List ℕ). drop l (part at n s ++ d)) (sym (drop-drop n at s))
    ∙ ap (drop l) (take-append-drop n (drop at s)) ∙ drop-drop l at s)

-- ---- a copy under way

-- m bytes more
pub paste_more : (d : List ℕ) (at : ℕ) (s : List ℕ) (k m : ℕ) → at + (k + m) ≤ length d → k + m ≤ length s
    → take (at + k) (paste d at s k) ++ take m (drop k s) ++ drop (at + k + m) (paste d at s k) ≡ paste d at s (k + m)
paste_more d at s k m hd hs =
    let e : at + k + m ≡ at + (k + m) = omega arith in
    ap₂ (λ (x y : List ℕ). x ++ take m (drop k s) ++ y) (take-paste d at s k (omega arith) (omega arith))
    (sym (drop-drop m (at + k) (paste d at s k)) ∙ ap (drop m) (drop-paste d at s k (omega arith) (omega arith)) ∙ drop-drop m (at + k) d ∙ ap (λ (i : ℕ). drop i d) e)
    ∙ ap (λ (x : List ℕ). x ++ drop (at + (k + m)) d)
    (append_assoc (take at d) (take k s) (take m (drop k s)) ∙ ap (λ (l : List ℕ). take at d ++ l) (sym (take-add k m s)))

-- all of them
pub paste-put : (d : List ℕ) (at : ℕ) (s : List ℕ) (from n : ℕ) → from + n ≤ length s → paste d at (drop from s) n ≡ put at (part from n s) d
unfolding put
paste-put d at s from n h = ap (λ (k : ℕ). take at d ++ part from n s ++ drop (at + k) d) (sym (length_part from n s h))

-- a copy of blocks of 16 bytes: one block more. What is read, of bytes `now`, is what stood in s.
pub block_more : (d : List ℕ) (at : ℕ) (s : List ℕ) (from i : ℕ) (out now new : List ℕ) → at + 16 * (i + 1) ≤ length d → from + 16 * (i + 1) ≤ length s
    → out ≡ paste d at (drop from s) (16 * i) → part (from + 16 * i) 16 now ≡ part (from + 16 * i) 16 s
    → new ≡ take (at + 16 * i) out ++ part (from + 16 * i) 16 now ++ drop (at + 16 * i + 16) out → new ≡ paste d at (drop from s) (16 * (i + 1))
block_more d at s from i out now new hd hs e f g =
    let l = length-drop from s in
    let k : 16 * i + 16 ≡ 16 * (i + 1) = omega arith in
    g ∙ ap₂ (λ (o b : List ℕ). take (at + 16 * i) o ++ b ++ drop (at + 16 * i + 16) o) e (f ∙ ap (take 16) (sym (drop-drop (16 * i) from s)))
    ∙ paste_more d at (drop from s) (16 * i) 16 (omega arith) (omega arith) ∙ ap (paste d at (drop from s)) k

-- while n blocks are copied within s to a place apart, the next one to be read still stands
pub still_stands : (s : List ℕ) (from to n i : ℕ) (out : List ℕ) → from + 16 * n ≤ length s → to + 16 * n ≤ length s → Apart from to (16 * n) → i + 1 ≤ n
    → out ≡ paste s to (drop from s) (16 * i) → part (from + 16 * i) 16 out ≡ part (from + 16 * i) 16 s
still_stands s from to n i out hf ht a l e =
    let v : List ℕ = part from (16 * i) s in
    let lv : length v ≡ 16 * i = length_part from (16 * i) s (omega arith) in
    ap (part (from + 16 * i) 16) (e ∙ paste-put s to s from (16 * i) (omega arith))
    ∙ ⊎_elim (λ h. part-before to v s (omega arith) (from + 16 * i) 16 (omega arith)) (λ h. part_behind to v s (omega arith) (from + 16 * i) 16 (omega arith)) a

-- ---- numbers in bytes

-- a number by the part that it stands in
pub word-part : (a n : ℕ) (s : List ℕ) (b : ℕ) → b + 4 ≤ n → word (part a n s) b ≡ word s (a + b)
word-part a n s b h =
    let byte : (j i : ℕ) → j < n → a + j ≡ i → get_or (part a n s) j 0 ≡ get_or s i 0 =
    λ j i l e. get_or-take n (drop a s) j 0 l ∙ get_or-drop a s j 0 ∙ ap (λ (k : ℕ). get_or s k 0) e in
    let b0 = byte b (a + b) (omega arith) refl in
    let b1 = byte (b + 1) (a + b + 1) (omega arith) (omega arith) in
    let b2 = byte (b + 2) (a + b + 2) (omega arith) (omega arith) in
    let b3 = byte (b + 3) (a + b + 3) (omega arith) (omega arith) in
    cc
