-- What the code that reads digits comes to: the value is held at 2,000,000,001 once it is past the axis.
use mathlib.Core.Path.{◌≡◌, refl, sym, ap, ◌∙◌}
use mathlib.Core.Bool.{Bool, true, false, not}
use mathlib.Core.List.{List, [], ◌∷◌}
use Prim.Native.Nat.{ℕ, ◌+◌, ◌-◌, ◌*◌, ◌≤◌, ◌<◌, min}
use native.Mathlib.Omega.{arith}
use lib.ListN.{length, drop, drop_of_length-le}
use borrow.Author.Tests.{not-true, not-false}
use Rattle.number.specs.Axis.{origin}
use Rattle.std.specs.Prelude.{Option, Some}
use Rattle.grammar.specs.declared.Found.{Found}
use Rattle.grammar.specs.Classes.{is_digit}
use Rattle.grammar.specs.Grammar.{decimal, decimal_from}
use Rattle.grammar.specs.inner.Lexer.{byte, digit_run, unsigned_at, number_at, pigment_at}
use Rattle.grammar.proofs.laws.Word.{bound}
use Rattle.grammar.proofs.laws.Number.{run_ends, run-first, digit_low, digit_high, Unsigned, naught, counted, unsigned_sound, number_sound, pigment_sound}

-- the value of digits, held
abbrev pub held : ℕ → List ℕ → ℕ
held n [] = n
held n (d ∷ w) = held (min (10 * n + (d - 48)) 2000000001) w

held-decimal : (w : List ℕ) (n : ℕ) → held (min n 2000000001) w ≡ min (decimal_from n w) 2000000001
held-decimal [] n = refl
held-decimal (d ∷ w) n =
    let z : min (10 * min n 2000000001 + (d - 48)) 2000000001 ≡ min (10 * n + (d - 48)) 2000000001 = omega arith in
    ap (λ (m : ℕ). held m w) z ∙ held-decimal w (10 * n + (d - 48))

-- at `end`, with the digits from `at` on read into `value`
pub record Reading (s : List ℕ) (at value end : ℕ) : Type 0 where
  pub inside : end ≤ length s
  pub small : value ≤ 2000000001
  pub stops : end + length (digit_run (drop end s)) ≡ at + length (digit_run (drop at s))
  pub comes : held value (digit_run (drop end s)) ≡ held 0 (digit_run (drop at s))

-- the digits end where no digit stands, and past the end
pub not_digit : (s : List ℕ) (end : ℕ) (t : Bool) → t ≡ is_digit (byte s end) → not t ≡ true → digit_run (drop end s) ≡ []
not_digit s end t p q = run_ends s end (sym p ∙ not-true t q)

pub past_end : (s : List ℕ) (end : ℕ) → length s ≤ end → digit_run (drop end s) ≡ []
past_end s end h = ap digit_run (drop_of_length-le s h)

module _ (s : List ℕ) (at value end : ℕ) (h : Reading s at value end) where
  pub digit_bounds : (t : Bool) → t ≡ is_digit (byte s end) → not t ≡ false → (value ≤ 2000000001) × (48 ≤ byte s end) × (byte s end ≤ 57)
  digit_bounds t p q = let e = sym p ∙ not-false t q in (h.small, digit_low (byte s end) e, digit_high (byte s end) e)

  -- one digit more
  pub digit_more : (t : Bool) (n : ℕ) → t ≡ is_digit (byte s end) → not t ≡ false → end < length s → n ≡ min (10 * value + (byte s end - 48)) 2000000001 → Reading s at n (end + 1)
  digit_more t n p q l m =
      let r = run-first s end (sym p ∙ not-false t q) l in
      record {
        inside = omega arith;
        small = omega arith;
        stops = let x = h.stops in let y = ap length r in omega arith;
        comes = ap (λ (k : ℕ). held k (digit_run (drop (end + 1) s))) m ∙ ap (held value) (sym r) ∙ h.comes;
      }

  -- the digits end here
  pub digits_end : digit_run (drop end s) ≡ [] → (end ≡ at + length (digit_run (drop at s))) × (value ≡ min (decimal (digit_run (drop at s))) 2000000001)
  digits_end e = (
    let x : end + 0 ≡ at + length (digit_run (drop at s)) = ap (λ (w : List ℕ). end + length w) (sym e) ∙ h.stops in omega arith,
    ap (held value) (sym e) ∙ h.comes ∙ held-decimal (digit_run (drop at s)) 0,
  )

module _ (s : List ℕ) (i : ℕ) (x : Found) (f : Option Found) (q : f ≡ Some x) where
  -- what is found is on the axis
  pub unsigned_low : f ≡ unsigned_at s i → x.code ≤ origin
  unsigned_low p = go x.code x.end (unsigned_sound s i x.code x.end (sym p ∙ q))
    where
      go : (n j : ℕ) → Unsigned s i n j → n ≤ origin
      go n j (naught e) = omega arith
      go n j (counted d w h st) = h.within

  -- what is found stops within the text
  pub number-within : f ≡ number_at s i → x.end ≤ length s
  number-within p = let r = number_sound s i x.code x.end (sym p ∙ q) in let b = bound s i r.spelling r.here in omega (arith, r.upto)

  pub pigment_within : f ≡ pigment_at s i → x.end ≤ length s
  pigment_within p = let r = pigment_sound s i x.code x.end (sym p ∙ q) in let b = bound s i r.spelling r.here in omega (arith, r.upto)
