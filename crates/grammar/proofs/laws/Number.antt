-- The number that computing finds at a position is the one numeral that stands there.
use Rattle.std.proofs.Math.Path.{◌≡◌, refl, sym, ap, subst}
use Rattle.std.proofs.Common.{◌∙◌, add-one, drop_of_length-le, length-drop, drop-cons}
use Rattle.std.specs.Prelude.{Bool, Option, Some, None, List, [], ◌∷◌, ltb, leb, get_or, drop}
use Rattle.std.proofs.Math.Bool.{true, false, cond}
use Prim.Native.Nat.{ℕ, suc, ◌+◌, ◌-◌, ◌*◌, ◌≤◌, ◌<◌}
use native.Mathlib.Omega.{arith}
use Rattle.std.proofs.Math.Dec.{eqb}
use Rattle.std.proofs.Math.ListN.{length}
use borrow.Author.Tests.{eq-eqb, ne_eqb, eqb-true, eqb-false, ltb-true, ltb-false, leb-true, le-leb}
use Rattle.number.specs.Axis.{origin}
use Rattle.number.proofs.laws.Boolean.{and_left, and_right}
use Rattle.recording.specs.Recording.{most_pigments}
use Rattle.grammar.specs.declared.Found.{Found}
use Rattle.grammar.specs.Bytes.{bytes}
use Rattle.grammar.specs.Classes.{is_digit}
use Rattle.grammar.specs.Grammar.{decimal, decimal_from, AllDigits, Positive, Numeral, zero_itself, plain, minus, PigmentNumber}
use Rattle.grammar.specs.inner.Lexer.{byte, found_upto, digit_run, bounded, unsigned_at, negated, shifted, number_at, of_pigment, pigment_at}
use Rattle.grammar.proofs.laws.Word.{Stands, Spelt, same_found, inside, bound, one_byte}

pub digit_low : (b : ℕ) → is_digit b ≡ true → 48 ≤ b
digit_low b e = leb-true 48 b (and_left (leb 48 b) (leb b 57) e)

pub digit_high : (b : ℕ) → is_digit b ≡ true → b ≤ 57
digit_high b e = leb-true b 57 (and_right (leb 48 b) (leb b 57) e)

run_cons : (d : ℕ) (l : List ℕ) → is_digit d ≡ true → digit_run (d ∷ l) ≡ d ∷ digit_run l
run_cons d l e = rw e

pub run-first : (s : List ℕ) (i : ℕ) → is_digit (byte s i) ≡ true → i < length s → digit_run (drop i s) ≡ byte s i ∷ digit_run (drop (i + 1) s)
run-first s i e h =
    let c : drop i s ≡ byte s i ∷ drop (i + 1) s = rw (add-one i) (drop-cons s i 0 h) in
    ap digit_run c ∙ run_cons (byte s i) (drop (i + 1) s) e

module _ (s : List ℕ) where
  -- the digits in front stand there, and are digits
  run-stands : (l : List ℕ) (i : ℕ) → i ≤ length s → drop i s ≡ l → Stands s i (digit_run l) × AllDigits (digit_run l)
  run-stands [] i h e = (h, tt)
  run-stands (b ∷ l) i h e =
      let len : length s - i ≡ suc (length l) = sym (length-drop i s) ∙ ap length e in
      let c = drop-cons s i 0 (omega arith) in
      let d : get_or s i 0 ≡ b = cc in
      let r : drop (i + 1) s ≡ l = rw (add-one i) (cc) in
      go (is_digit b) refl d (run-stands l (i + 1) (omega arith) r)
    where
      go : (t : Bool) → is_digit b ≡ t → get_or s i 0 ≡ b → Stands s (i + 1) (digit_run l) × AllDigits (digit_run l) → Stands s i (cond t (b ∷ digit_run l) []) × AllDigits (cond t (b ∷ digit_run l) [])
      go true q d k = ((d, k.0), (q, k.1))
      go false q d k = (h, tt)

  -- digits that no digit follows are the digits in front
  pub run_ends : (i : ℕ) → is_digit (byte s i) ≡ false → digit_run (drop i s) ≡ []
  run_ends i e = go (ltb i (length s)) refl
    where
      go : (b : Bool) → ltb i (length s) ≡ b → digit_run (drop i s) ≡ []
      go true q = let h = ltb-true i (length s) q in rw (drop-cons s i 0 h, e)
      go false q = rw (drop_of_length-le s (ltb-false i (length s) q))

  run_is : (w : List ℕ) (i : ℕ) → AllDigits w → Stands s i w → is_digit (byte s (i + length w)) ≡ false → digit_run (drop i s) ≡ w
  run_is [] i a st e = run_ends i (subst (λ (k : ℕ). is_digit (byte s k) ≡ false) (omega arith) e)
  run_is (d ∷ w) i a st e =
      let h = bound s i (d ∷ w) st in
      let l : i < length s = omega arith in
      let k : i + suc (length w) ≡ i + 1 + length w = omega arith in
      let r = run_is w (i + 1) a.1 st.1 (subst (λ (j : ℕ). is_digit (byte s j) ≡ false) k e) in
      let c : drop i s ≡ d ∷ drop (i + 1) s = rw (add-one i) (drop-cons s i 0 l ∙ rw st.0) in
      ap digit_run c ∙ run_cons d (drop (i + 1) s) a.0 ∙ ap (λ x. d ∷ x) r

  -- what `unsigned_at` finds
  pub data Unsigned (i : ℕ) : ℕ → ℕ → Type 0 where
    naught : byte s i ≡ 48 → Unsigned i 0 (i + 1)
    counted : (d : ℕ) (w : List ℕ) → Positive origin d w → Stands s i (d ∷ w) → Unsigned i (decimal (d ∷ w)) (i + length (d ∷ w))

module _ (s : List ℕ) (i : ℕ) where
  bounded_is : (w : List ℕ) (n j m e : ℕ) → bounded m e ≡ found_upto n j → (m ≡ n) × (e ≡ j) × (m ≤ origin)
  bounded_is w n j m e h = go (leb m origin) refl h
    where
      go : (b : Bool) → leb m origin ≡ b → cond b (found_upto m e) None ≡ found_upto n j → (m ≡ n) × (e ≡ j) × (m ≤ origin)
      go true q g = let f = same_found g in (f.0, f.1, leb-true m origin q)
      go false q g = cc

  digits_sound : (n j : ℕ) → is_digit (byte s i) ≡ true → (byte s i ≡ 48 → ⊥) → bounded (decimal (digit_run (drop i s))) (i + length (digit_run (drop i s))) ≡ found_upto n j → Unsigned s i n j
  digits_sound n j e ne h =
      let low = digit_low (byte s i) e in
      let l = inside s i (omega arith) in
      let r = run-first s i e l in
      let st = run-stands s (drop i s) i (omega arith) refl in
      let b = bounded_is (digit_run (drop i s)) n j (decimal (digit_run (drop i s))) (i + length (digit_run (drop i s))) h in
      let w : List ℕ = digit_run (drop (i + 1) s) in
      let x : Unsigned s i (decimal (byte s i ∷ w)) (i + length (byte s i ∷ w)) =
      counted (byte s i) w
      (record { first = omega arith; digits = rw r at st.1; within = rw r at b.2 })
      (rw r at st.0) in
      subst (λ (m : ℕ). Unsigned s i m j) (rw r at b.0) (subst (λ (k : ℕ). Unsigned s i (decimal (byte s i ∷ w)) k) (rw r at b.1) x)

  pub unsigned_sound : (n j : ℕ) → unsigned_at s i ≡ found_upto n j → Unsigned s i n j
  unfolding unsigned_at
  unsigned_sound n j h = go (eqb (byte s i) 48) (is_digit (byte s i)) refl refl h
    where
      go : (a b : Bool) → eqb (byte s i) 48 ≡ a → is_digit (byte s i) ≡ b → cond a (found_upto 0 (i + 1)) (cond b (bounded (decimal (digit_run (drop i s))) (i + length (digit_run (drop i s)))) None) ≡ found_upto n j → Unsigned s i n j
      go true b p q g =
          let f = same_found g in
          subst (λ (m : ℕ). Unsigned s i m j) f.0 (subst (λ (k : ℕ). Unsigned s i 0 k) f.1 (naught (eqb-true (byte s i) 48 p)))
      go false true p q g = digits_sound n j q (eqb-false (byte s i) 48 p) g
      go false false p q g = cc

  pub unsigned_counted : (d : ℕ) (w : List ℕ) → Positive origin d w → Stands s i (d ∷ w) → is_digit (byte s (i + length (d ∷ w))) ≡ false → unsigned_at s i ≡ found_upto (decimal (d ∷ w)) (i + length (d ∷ w))
  unfolding unsigned_at
  unsigned_counted d w p st e =
      let f = p.first in
      let r = run_is s (d ∷ w) i p.digits st e in
      let n : eqb (byte s i) 48 ≡ false = ne_eqb (byte s i) 48 (λ q. omega (arith, st.0)) in
      let y : is_digit (byte s i) ≡ true = rw st.0 p.digits.0 in
      rw (n, y, r, le-leb (decimal (d ∷ w)) origin p.within)

-- the first byte of a positive numeral, which is neither `0` nor `-`
positive_first : (d : ℕ) (w : List ℕ) → Positive origin d w → (49 ≤ d) × (d ≤ 57)
positive_first d w p = (p.first, digit_high d p.digits.0)

negated_some : (f : Found) (n j : ℕ) → negated (Some f) ≡ found_upto n j → (0 < f.code) × (origin - f.code ≡ n) × (f.end ≡ j)
negated_some f n j h = go (eqb f.code 0) refl h
  where
    go : (b : Bool) → eqb f.code 0 ≡ b → cond b None (found_upto (origin - f.code) f.end) ≡ found_upto n j → (0 < f.code) × (origin - f.code ≡ n) × (f.end ≡ j)
    go true q g = cc
    go false q g = let z : f.code ≡ 0 → ⊥ = eqb-false f.code 0 q in let x = same_found g in (omega arith, x.0, x.1)

module _ (s : List ℕ) where
  pub number_sound : (i n j : ℕ) → number_at s i ≡ found_upto n j → Spelt s (λ m w. Numeral w m) i n j
  unfolding number_at
  number_sound i n j h = go (eqb (byte s i) 45) refl h
    where
      shift : (f : Option Found) → unsigned_at s i ≡ f → shifted f ≡ found_upto n j → Spelt s (λ m w. Numeral w m) i n j
      shift (Some f) e g = let x = same_found g in made f.code f.end (unsigned_sound s i f.code f.end e) x.0 x.1
        where
          made : (m k : ℕ) → Unsigned s i m k → origin + m ≡ n → k ≡ j → Spelt s (λ m w. Numeral w m) i n j
          made m k (naught b) x y = record { spelling = bytes "0"; holds = subst (λ (q : ℕ). Numeral (bytes "0") q) x zero_itself; here = one_byte s i 48 (omega arith) b; upto = sym y }
          made m k (counted d w p st) x y = record { spelling = d ∷ w; holds = subst (λ (q : ℕ). Numeral (d ∷ w) q) x (plain p); here = st; upto = sym y }
      shift None e g = cc

      negate : (f : Option Found) → byte s i ≡ 45 → unsigned_at s (i + 1) ≡ f → negated f ≡ found_upto n j → Spelt s (λ m w. Numeral w m) i n j
      negate (Some f) b e g = let x = negated_some f n j g in made f.code f.end (unsigned_sound s (i + 1) f.code f.end e) x.0 x.1 x.2
        where
          made : (m k : ℕ) → Unsigned s (i + 1) m k → 0 < m → origin - m ≡ n → k ≡ j → Spelt s (λ m w. Numeral w m) i n j
          made m k (naught b) l x y = absurd (omega arith)
          made m k (counted d w p st) l x y = record { spelling = 45 ∷ d ∷ w; holds = subst (λ (q : ℕ). Numeral (45 ∷ d ∷ w) q) x (minus p); here = (b, st); upto = omega arith }
      negate None b e g = cc

      go : (a : Bool) → eqb (byte s i) 45 ≡ a → cond a (negated (unsigned_at s (i + 1))) (shifted (unsigned_at s i)) ≡ found_upto n j → Spelt s (λ m w. Numeral w m) i n j
      go true p g = negate (unsigned_at s (i + 1)) (eqb-true (byte s i) 45 p) refl g
      go false p g = shift (unsigned_at s i) refl g

decimal_grows : (w : List ℕ) (n : ℕ) → n ≤ decimal_from n w
decimal_grows [] n = omega arith
decimal_grows (d ∷ w) n = let r = decimal_grows w (10 * n + (d - 48)) in omega arith

negated_is : (m k : ℕ) → 0 < m → negated (found_upto m k) ≡ found_upto (origin - m) k
negated_is m k h = rw (ne_eqb m 0 (λ e. omega arith))

module _ (s : List ℕ) (i : ℕ) where
  pub number_complete : {w : List ℕ} {n : ℕ} → Numeral w n → Stands s i w → is_digit (byte s (i + length w)) ≡ false → number_at s i ≡ found_upto n (i + length w)
  unfolding number_at unsigned_at
  number_complete zero_itself st e = rw st.0
  number_complete (plain {d} {w} p) st e =
      let f = positive_first d w p in
      rw (ne_eqb (byte s i) 45 (λ q. omega (arith, st.0))) (ap shifted (unsigned_counted s i d w p st e))
  number_complete (minus {d} {w} p) st e =
      let f = positive_first d w p in
      let k : i + suc (suc (length w)) ≡ i + 1 + suc (length w) = omega arith in
      let c = unsigned_counted s (i + 1) d w p st.1 (subst (λ (j : ℕ). is_digit (byte s j) ≡ false) k e) in
      let g = decimal_grows w (10 * 0 + (d - 48)) in
      rw (eq-eqb (byte s i) 45 st.0)
      (ap negated c ∙ negated_is (decimal (d ∷ w)) (i + 1 + suc (length w)) (omega arith) ∙ ap (λ (j : ℕ). found_upto (origin - decimal (d ∷ w)) j) (sym k))

  -- a numeral begins with a digit or with `-`
  pub numeral_first : {w : List ℕ} {n : ℕ} → Numeral w n → Stands s i w → byte s i < 58
  numeral_first zero_itself st = omega (arith, st.0)
  numeral_first (plain {d} {w} p) st = let f = positive_first d w p in omega (arith, st.0)
  numeral_first (minus p) st = omega (arith, st.0)

-- THE NUMBER OF A PIGMENT
pub data PigmentWord : List ℕ → ℕ → Type 0 where
  labelled : {d : ℕ} {w : List ℕ} → PigmentNumber d w → PigmentWord (d ∷ w) (decimal (d ∷ w))

-- IT IS 1 TO 16
pub pigment_range : {w : List ℕ} {n : ℕ} → PigmentWord w n → (1 ≤ n) × (n ≤ most_pigments)
pigment_range (labelled {d} {w} p) = let f = p.first in let g = decimal_grows w (10 * 0 + (d - 48)) in (omega arith, p.within)

of_pigment_is : (m j n e : ℕ) → of_pigment (found_upto m j) ≡ found_upto n e → (m ≡ n) × (j ≡ e) × (0 < m) × (m ≤ most_pigments)
of_pigment_is m j n e h = go (eqb m 0) (leb m most_pigments) refl refl h
  where
    go : (a b : Bool) → eqb m 0 ≡ a → leb m most_pigments ≡ b → cond a None (cond b (found_upto m j) None) ≡ found_upto n e → (m ≡ n) × (j ≡ e) × (0 < m) × (m ≤ most_pigments)
    go true b p q g = cc
    go false true p q g = let z : m ≡ 0 → ⊥ = eqb-false m 0 p in let x = same_found g in (x.0, x.1, omega arith, leb-true m most_pigments q)
    go false false p q g = cc

of_pigment_at : (m j : ℕ) → 0 < m → m ≤ most_pigments → of_pigment (found_upto m j) ≡ found_upto m j
of_pigment_at m j l h = rw (ne_eqb m 0 (λ e. omega arith), le-leb m most_pigments h)

module _ (s : List ℕ) (i : ℕ) where
  pub pigment_sound : (n j : ℕ) → pigment_at s i ≡ found_upto n j → Spelt s (λ m w. PigmentWord w m) i n j
  unfolding pigment_at
  pigment_sound n j h = go (unsigned_at s i) refl h
    where
      made : (m k : ℕ) → Unsigned s i m k → 0 < m → m ≤ most_pigments → m ≡ n → k ≡ j → Spelt s (λ m w. PigmentWord w m) i n j
      made m k (naught b) l g x y = absurd (omega arith)
      made m k (counted d w p st) l g x y =
          record {
            spelling = d ∷ w;
            holds = subst (PigmentWord (d ∷ w)) x (labelled (record { first = p.first; digits = p.digits; within = g }));
            here = st;
            upto = sym y;
          }

      go : (f : Option Found) → unsigned_at s i ≡ f → of_pigment f ≡ found_upto n j → Spelt s (λ m w. PigmentWord w m) i n j
      go (Some f) e g = let x = of_pigment_is f.code f.end n j g in made f.code f.end (unsigned_sound s i f.code f.end e) x.2 x.3 x.0 x.1
      go None e g = cc

  pub pigment_complete : {w : List ℕ} {n : ℕ} → PigmentWord w n → Stands s i w → is_digit (byte s (i + length w)) ≡ false → pigment_at s i ≡ found_upto n (i + length w)
  unfolding pigment_at
  pigment_complete (labelled {d} {w} p) st e =
      let r = pigment_range (labelled p) in
      ap of_pigment (unsigned_counted s i d w (record { first = p.first; digits = p.digits; within = omega arith }) st e)
      ∙ of_pigment_at (decimal (d ∷ w)) (i + length (d ∷ w)) r.0 r.1
