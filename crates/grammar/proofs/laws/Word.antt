-- Words that stand in a text: putting them together and taking them apart, and the first of a table that stands there.
use Rattle.std.specs.Prelude.{◌≡◌, refl, Bool, true, false, cond, not, ◌&&◌, ◌||◌, List, [], ◌∷◌, ◌++◌, ℕ, suc, ◌+◌, ◌≤◌, ◌<◌, eqb, ltb, length}
use Rattle.std.proofs.Common.{sym, ap, subst, ◌∙◌, true≢false, arith, length-append, eq-eqb, ne_eqb, eqb-true, ltb-true, ltb-false}
use Rattle.std.proofs.Math.ListN.{get_or-eq_default}
use Rattle.std.proofs.Math.Seq.{get_or-append_seam, append_snoc}
use Rattle.number.proofs.laws.Boolean.{and_left, and_right}
use Rattle.grammar.specs.Classes.{is_digit, is_letter}
use Rattle.grammar.specs.declared.Found.{Found}
use Rattle.grammar.specs.inner.Lexer.{byte, spelled_at, Word, found_upto, first_of}

-- the word w stands in s from i on
abbrev pub Stands : List ℕ → ℕ → List ℕ → Type 0
Stands s i [] = i ≤ length s
Stands s i (b ∷ w) = (byte s i ≡ b) × Stands s (i + 1) w

-- a byte that is not 0 stands within the text
pub inside : (s : List ℕ) (i : ℕ) → 0 < byte s i → i < length s
inside s i h = go (ltb i (length s)) refl
  where
    go : (b : Bool) → ltb i (length s) ≡ b → i < length s
    go true e = ltb-true i (length s) e
    go false e = absurd (omega (arith, get_or-eq_default s 0 (ltb-false i (length s) e)))

module _ (s : List ℕ) where
  pub bound : (i : ℕ) (w : List ℕ) → Stands s i w → i + length w ≤ length s
  bound i [] h = omega arith
  bound i (b ∷ w) h = let r = bound (i + 1) w h.1 in omega arith

  pub before : (x y : List ℕ) (i : ℕ) → Stands s i (x ++ y) → Stands s i x
  before [] y i h = let r = bound i y h in omega arith
  before (b ∷ x) y i h = (h.0, before x y (i + 1) h.1)

  pub behind : (x y : List ℕ) (i : ℕ) → Stands s i (x ++ y) → Stands s (i + length x) y
  behind [] y i h = subst (λ (k : ℕ). Stands s k y) (omega arith) h
  behind (b ∷ x) y i h =
      subst (λ (k : ℕ). Stands s k y) (let z : i + 1 + length x ≡ i + suc (length x) = omega arith in z) (behind x y (i + 1) h.1)

  pub together : (x y : List ℕ) (i j : ℕ) → j ≡ i + length x → Stands s i x → Stands s j y → Stands s i (x ++ y)
  together [] y i j e h g = subst (λ (k : ℕ). Stands s k y) (omega arith) g
  together (b ∷ x) y i j e h g = (h.0, together x y (i + 1) j (omega arith) h.1 g)

  pub one_byte : (i b : ℕ) → 0 < b → byte s i ≡ b → Stands s i (b ∷ [])
  one_byte i b h e = let z = inside s i (omega arith) in (e, omega arith)

  pub same-word : (x y : List ℕ) (i : ℕ) → Stands s i x → Stands s i y → length x ≡ length y → x ≡ y
  same-word [] [] i h g e = refl
  same-word [] (b ∷ y) i h g e = absurd (omega arith)
  same-word (a ∷ x) [] i h g e = absurd (omega arith)
  same-word (a ∷ x) (b ∷ y) i h g e =
      let z : a ≡ b = sym h.0 ∙ g.0 in
      let r : x ≡ y = same-word x y (i + 1) h.1 g.1 (omega arith) in
      cc

pub stands_self : (p w : List ℕ) → Stands (p ++ w) (length p) w
stands_self p [] = omega (arith, length-append p [])
stands_self p (b ∷ w) = (
  get_or-append_seam p b w 0,
  subst (λ (l : List ℕ). Stands l (length p + 1) w) (append_snoc p b w)
      (subst (λ (k : ℕ). Stands (p ++ (b ∷ []) ++ w) k w) (length-append p (b ∷ [])) (stands_self (p ++ (b ∷ [])) w)),
)

-- each byte of the word is not 0
abbrev pub plain : List ℕ → Bool
plain [] = true
plain (b ∷ w) = ltb 0 b && plain w

abbrev pub solid : List ℕ → Bool
solid [] = false
solid (b ∷ w) = plain (b ∷ w)

-- CARRIERS: the bytes that would carry a word on, so that they do not follow it
abbrev pub Carrier : Type 0
Carrier = ℕ → Bool

-- of a word that has its bracket: none, for any byte may follow it
abbrev pub no_byte : Carrier
no_byte b = false

-- of a relation: `=`, which makes `>=` of `>`
abbrev pub equals_sign : Carrier
equals_sign b = eqb b 61

-- of a name without arguments, or of a number: a letter as in `crossup` behind `cross`, or a digit
abbrev pub letter_or_digit : Carrier
letter_or_digit b = is_digit b || is_letter b

-- x, with no carrier behind it, is not y: they differ at some place that both have, or a carrier stands in y behind x
abbrev pub told_apart : Carrier → List ℕ → List ℕ → Bool
told_apart on [] [] = false
told_apart on [] (b ∷ y) = on b
told_apart on (a ∷ x) [] = false
told_apart on (a ∷ x) (b ∷ y) = not (eqb a b) || told_apart on x y

module _ (s : List ℕ) where
  pub spelled : (w : List ℕ) (i : ℕ) → Stands s i w → spelled_at s i w ≡ true
  spelled [] i h = refl
  spelled (b ∷ w) i h = rw (eq-eqb (byte s i) b h.0) (spelled w (i + 1) h.1)

  pub stands : (w : List ℕ) (i : ℕ) → plain w ≡ true → i ≤ length s → spelled_at s i w ≡ true → Stands s i w
  stands [] i p l h = l
  stands (b ∷ w) i p l h =
      let e = eqb-true (byte s i) b (and_left (eqb (byte s i) b) (spelled_at s (i + 1) w) h) in
      let z = inside s i (omega (arith, ltb-true 0 b (and_left (ltb 0 b) (plain w) p))) in
      (e, stands w (i + 1) (and_right (ltb 0 b) (plain w) p) (omega arith) (and_right (eqb (byte s i) b) (spelled_at s (i + 1) w) h))

  pub stands_solid : (w : List ℕ) (i : ℕ) → solid w ≡ true → spelled_at s i w ≡ true → Stands s i w
  stands_solid [] i p h = cc
  stands_solid (b ∷ w) i p h =
      let e = eqb-true (byte s i) b (and_left (eqb (byte s i) b) (spelled_at s (i + 1) w) h) in
      let z = inside s i (omega (arith, ltb-true 0 b (and_left (ltb 0 b) (plain w) p))) in
      stands (b ∷ w) i p (omega arith) h

  pub unspelled : (on : Carrier) (x y : List ℕ) (i : ℕ) → Stands s i x → on (byte s (i + length x)) ≡ false → told_apart on x y ≡ true → spelled_at s i y ≡ false
  unspelled on [] [] i h n e = cc
  unspelled on [] (b ∷ y) i h n e =
      let k : i + 0 ≡ i = omega arith in
      rw (ne_eqb (byte s i) b (λ q. true≢false (sym e ∙ ap on (sym (ap (byte s) k ∙ q)) ∙ n)))
  unspelled on (a ∷ x) [] i h n e = cc
  unspelled on (a ∷ x) (b ∷ y) i h n e =
      let k : i + suc (length x) ≡ i + 1 + length x = omega arith in
      rw h.0 (go (eqb a b) e (unspelled on x y (i + 1) h.1 (rw k at n)))
    where
      go : (t : Bool) → (not t || told_apart on x y) ≡ true → (told_apart on x y ≡ true → spelled_at s (i + 1) y ≡ false) → (t && spelled_at s (i + 1) y) ≡ false
      go true g k = k g
      go false g k = refl

-- TABLES of words: one of them has the code and the spelling
abbrev pub same_word : List ℕ → List ℕ → Bool
same_word [] [] = true
same_word [] (b ∷ y) = false
same_word (a ∷ x) [] = false
same_word (a ∷ x) (b ∷ y) = eqb a b && same_word x y

same_word_is : (x y : List ℕ) → same_word x y ≡ true → x ≡ y
same_word_is [] [] e = refl
same_word_is [] (b ∷ y) e = absurd (true≢false (sym e))
same_word_is (a ∷ x) [] e = absurd (true≢false (sym e))
same_word_is (a ∷ x) (b ∷ y) e =
    let p = eqb-true a b (and_left (eqb a b) (same_word x y) e) in
    let q = same_word_is x y (and_right (eqb a b) (same_word x y) e) in
    cc

abbrev pub is_word : Word → ℕ → List ℕ → Bool
is_word x k w = eqb x.code k && same_word x.spelling w

-- w is the word of code k in the table, and is told apart from each word before it
abbrev pub tellable : Carrier → List Word → ℕ → List ℕ → Bool
tellable on [] k w = false
tellable on (x ∷ ws) k w = is_word x k w || (told_apart on w x.spelling && tellable on ws k w)

module _ (s : List ℕ) where
  -- THE WORD THAT STANDS IS FOUND where no carrier follows, also where it begins another word of the table
  pub found : (on : Carrier) (ws : List Word) (k : ℕ) (w : List ℕ) (i : ℕ) → tellable on ws k w ≡ true → Stands s i w → on (byte s (i + length w)) ≡ false → first_of ws s i ≡ found_upto k (i + length w)
  found on [] k w i e st n = absurd (true≢false (sym e))
  found on (x ∷ ws) k w i e st n = go (is_word x k w) refl e (λ h. found on ws k w i h st n)
    where
      go : (b : Bool) → is_word x k w ≡ b → (b || (told_apart on w x.spelling && tellable on ws k w)) ≡ true → (tellable on ws k w ≡ true → first_of ws s i ≡ found_upto k (i + length w)) → first_of (x ∷ ws) s i ≡ found_upto k (i + length w)
      go true q h r =
          let c = eqb-true x.code k (and_left (eqb x.code k) (same_word x.spelling w) q) in
          let y = same_word_is x.spelling w (and_right (eqb x.code k) (same_word x.spelling w) q) in
          rw (c, y, spelled s w i st)
      go false q h r =
          rw (unspelled s on w x.spelling i st n (and_left (told_apart on w x.spelling) (tellable on ws k w) h)) (r (and_right (told_apart on w x.spelling) (tellable on ws k w) h))

-- P holds of each word of the table and its code, and the word is not empty and has no byte 0
abbrev pub Each : (ℕ → List ℕ → Type 0) → List Word → Type 0
Each P [] = Unit {0}
Each P (w ∷ ws) = P w.code w.spelling × (solid w.spelling ≡ true) × Each P ws

pub each_of_both : (P : ℕ → List ℕ → Type 0) (v w : List Word) → Each P v → Each P w → Each P (v ++ w)
each_of_both P [] w h g = g
each_of_both P (x ∷ v) w h g = (h.0, h.1, each_of_both P v w h.2 g)

-- one answer has one code and one end
pub same_found : {m e n j : ℕ} → found_upto m e ≡ found_upto n j → (m ≡ n) × (e ≡ j)
same_found {m} {e} {n} {j} h = let x : record { code = m; end = e } ≡ record { code = n; end = j } = cc in (ap (λ (f : Found). f.code) x, ap (λ (f : Found). f.end) x)

-- the word that was found, from i up to j
pub record Spelt (s : List ℕ) (P : ℕ → List ℕ → Type 0) (i n j : ℕ) : Type 0 where
  pub spelling : List ℕ
  pub holds : P n spelling
  pub here : Stands s i spelling
  pub upto : j ≡ i + length spelling

module _ (s : List ℕ) (P : ℕ → List ℕ → Type 0) where
  pub found_is : (ws : List Word) (i n j : ℕ) → Each P ws → first_of ws s i ≡ found_upto n j → Spelt s P i n j
  found_is [] i n j e h = cc
  found_is (w ∷ ws) i n j e h = go (spelled_at s i w.spelling) refl h (found_is ws i n j e.2)
    where
      go : (b : Bool) → spelled_at s i w.spelling ≡ b → cond b (found_upto w.code (i + length w.spelling)) (first_of ws s i) ≡ found_upto n j → (first_of ws s i ≡ found_upto n j → Spelt s P i n j) → Spelt s P i n j
      go true q g k =
          let f = same_found g in
          record { spelling = w.spelling; holds = subst (λ (m : ℕ). P m w.spelling) f.0 e.0; here = stands_solid s w.spelling i e.1 q; upto = sym f.1 }
      go false q g k = k g
