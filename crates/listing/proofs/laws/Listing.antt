-- A listing, entry by entry.
use Rattle.std.specs.Prelude.{ℕ, zero, suc, ◌+◌, ◌*◌, ◌≤◌, ◌<◌, ◌≡◌, refl, Bool, true, false, cond, List, [], ◌∷◌, ◌++◌, length, take, drop}
use Rattle.std.proofs.Common.{arith, add-one, sym, ap, ap₂, ◌∙◌, append-nil, append_assoc, length-append}
use Rattle.number.specs.Words.{word_bytes, words_bytes}
use Rattle.number.proofs.laws.Words.{put_behind, length-row}
use Rattle.recording.specs.Condition.{when}
use Rattle.listing.specs.Listing.{numbers_from}

-- ---- the numbers of which a condition holds

when-append : (b : Bool) (x : ℕ) (l m : List ℕ) → when b x (l ++ m) ≡ when b x l ++ m
when-append true x l m = refl
when-append false x l m = refl

module _ (P : ℕ → Bool) where
  -- one number more at the end
  numbers_snoc : (at n : ℕ) → numbers_from P at (suc n) ≡ numbers_from P at n ++ when (P (at + n)) (at + n) []
  numbers_snoc at zero =
      let e : at ≡ at + 0 = omega arith in
      ap (λ (k : ℕ). when (P k) k []) e
  numbers_snoc at (suc n) =
      let e : suc at + n ≡ at + suc n = omega arith in
      ap (when (P at) at) (numbers_snoc (suc at) n) ∙ when-append (P at) at (numbers_from P (suc at) n) (when (P (suc at + n)) (suc at + n) [])
      ∙ ap (λ (k : ℕ). numbers_from P at (suc n) ++ when (P k) k []) e

  numbers-next : (i : ℕ) → numbers_from P 0 (i + 1) ≡ numbers_from P 0 i ++ when (P i) i []
  numbers-next i =
      let e : 0 + i ≡ i = omega arith in
      ap (numbers_from P 0) (add-one i) ∙ numbers_snoc 0 i ∙ ap (λ (k : ℕ). numbers_from P 0 i ++ when (P k) k []) e

  length-when : (b : Bool) (x : ℕ) (l : List ℕ) → length (l ++ when b x []) ≡ cond b (length l + 1) (length l)
  length-when true x l = length-append l (x ∷ [])
  length-when false x l = ap length (append-nil l)

  pub count_next : (i : ℕ) → length (numbers_from P 0 (i + 1)) ≡ cond (P i) (length (numbers_from P 0 i) + 1) (length (numbers_from P 0 i))
  count_next i = ap length (numbers-next i) ∙ length-when (P i) i (numbers_from P 0 i)

  -- no more than there are
  pub count_few : (at n : ℕ) → length (numbers_from P at n) ≤ n
  count_few at zero = omega arith
  count_few at (suc n) = go (P at) (count_few (suc at) n)
    where
      go : (b : Bool) → length (numbers_from P (suc at) n) ≤ n → length (when b at (numbers_from P (suc at) n)) ≤ suc n
      go true h = omega arith
      go false h = omega arith

  -- the more numbers, the more of which it holds
  pub count-more : (at m n : ℕ) → m ≤ n → length (numbers_from P at m) ≤ length (numbers_from P at n)
  count-more at zero n h = omega arith
  count-more at (suc m) zero h = absurd (omega arith)
  count-more at (suc m) (suc n) h = go (P at) (count-more (suc at) m n (omega arith))
    where
      go : (b : Bool) → length (numbers_from P (suc at) m) ≤ length (numbers_from P (suc at) n) → length (when b at (numbers_from P (suc at) m)) ≤ length (when b at (numbers_from P (suc at) n))
      go true k = omega arith
      go false k = k

  -- ---- counting

  pub record Counting (n i k : ℕ) : Type 0 where
    pub inside : i ≤ n
    pub count : k ≡ length (numbers_from P 0 i)

  pub counting_start : (n : ℕ) → Counting n 0 0
  counting_start n = record { inside = omega arith; count = refl }

  pub counting_turn : (n i k k' : ℕ) (b : Bool) → i < n → Counting n i k → b ≡ P i → k' ≡ cond b (k + 1) k → Counting n (i + 1) k'
  counting_turn n i k k' b h c e f = record {
    inside = omega arith;
    count = f ∙ ap₂ (λ (t : Bool) (m : ℕ). cond t (m + 1) m) e c.count ∙ sym (count_next i);
  }

  pub counting_end : (n i k : ℕ) → n ≤ i → Counting n i k → k ≡ length (numbers_from P 0 n)
  counting_end n i k h c =
      let l = c.inside in
      let e : i ≡ n = omega arith in
      c.count ∙ ap (λ (j : ℕ). length (numbers_from P 0 j)) e

  -- ---- writing

  row_snoc : (ns : List ℕ) (n : ℕ) → words_bytes (ns ++ (n ∷ [])) ≡ words_bytes ns ++ word_bytes n
  row_snoc [] n = refl
  row_snoc (m ∷ ns) n = ap (λ (l : List ℕ). word_bytes m ++ l) (row_snoc ns n) ∙ sym (append_assoc (word_bytes m) (words_bytes ns) (word_bytes n))

  pub record Writing (n : ℕ) (old : List ℕ) (i k : ℕ) (out : List ℕ) : Type 0 where
    pub counting : Counting n i k
    pub long : length out ≡ length old
    pub written : out ≡ words_bytes (numbers_from P 0 i) ++ drop (4 * k) old

  pub writing_start : (n : ℕ) (old : List ℕ) → Writing n old 0 0 old
  writing_start n old = record { counting = counting_start n; long = refl; written = refl }

  -- there is room for one more
  pub writing-room : (n : ℕ) (old : List ℕ) (i k : ℕ) (out : List ℕ) (b : Bool) → i < n → 4 * length (numbers_from P 0 n) ≤ length old → Writing n old i k out
      → b ≡ P i → b ≡ true → 4 * k + 4 ≤ length out
  writing-room n old i k out b h room w e t =
      let c = w.counting.count in
      let m = count-more 0 (i + 1) n (omega arith) in
      let s : length (numbers_from P 0 (i + 1)) ≡ length (numbers_from P 0 i) + 1 = count_next i ∙ ap (λ (x : Bool). cond x (length (numbers_from P 0 i) + 1) (length (numbers_from P 0 i))) (sym e ∙ t) in
      let l = w.long in
      omega arith

  pub writing-turn : (n : ℕ) (old : List ℕ) (i k : ℕ) (out : List ℕ) (b : Bool) (k' : ℕ) (out' : List ℕ) → i < n → Writing n old i k out → b ≡ P i
      → k' ≡ cond b (k + 1) k → length out' ≡ length out → out' ≡ cond b (take (4 * k) out ++ word_bytes i ++ drop (4 * k + 4) out) out → Writing n old (i + 1) k' out'
  writing-turn n old i k out b k' out' h w e f l g = record {
    counting = counting_turn n i k k' b h w.counting e f;
    long = l ∙ w.long;
    written = g ∙ go b ∙ ap₂ (λ (ns : List ℕ) (j : ℕ). words_bytes ns ++ drop (4 * j) old) (ap (λ (x : Bool). numbers_from P 0 i ++ when x i []) e ∙ sym (numbers-next i)) (sym f);
  }
    where
      front : length (words_bytes (numbers_from P 0 i)) ≡ 4 * k
      front = length-row (numbers_from P 0 i) ∙ ap (λ (m : ℕ). 4 * m) (sym w.counting.count)

      go : (x : Bool) → cond x (take (4 * k) out ++ word_bytes i ++ drop (4 * k + 4) out) out ≡ words_bytes (numbers_from P 0 i ++ when x i []) ++ drop (4 * cond x (k + 1) k) old
      go true =
          let q : 4 * k + 4 ≡ 4 * (k + 1) = omega arith in
          put_behind (words_bytes (numbers_from P 0 i)) (word_bytes i) old out (4 * k) 4 front w.written
          ∙ ap₂ (λ (a : List ℕ) (j : ℕ). a ++ drop j old) (sym (row_snoc (numbers_from P 0 i) i)) q
      go false = w.written ∙ ap (λ (ns : List ℕ). words_bytes ns ++ drop (4 * k) old) (sym (append-nil (numbers_from P 0 i)))

  pub writing-end : (n : ℕ) (old : List ℕ) (i k : ℕ) (out : List ℕ) → n ≤ i → Writing n old i k out
      → out ≡ words_bytes (numbers_from P 0 n) ++ drop (4 * length (numbers_from P 0 n)) old
  writing-end n old i k out h w =
      let l = w.counting.inside in
      let e : i ≡ n = omega arith in
      w.written ∙ ap₂ (λ (j m : ℕ). words_bytes (numbers_from P 0 j) ++ drop (4 * m) old) e (counting_end n i k h w.counting)
