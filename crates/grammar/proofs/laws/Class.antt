-- The classes by their characters, and that a text with a foreign byte has no reading.
use Rattle.std.specs.Prelude.{◌≡◌, refl, Bool, true, false, ◌&&◌, ◌||◌, List, [], ◌∷◌, ◌++◌, ℕ, zero, suc, ◌<◌, eqb}
use Rattle.std.proofs.Common.{sym, ap, subst, ◌∙◌, arith, eqb-true}
use Rattle.std.proofs.lemmas.Bool.{eqb-false}
use Rattle.number.proofs.laws.Boolean.{and_left, and_right, and_make}
use Rattle.recording.specs.Reading.{Curve, A, B}
use Rattle.grammar.specs.declared.Class.{Class}
use Rattle.grammar.specs.declared.Class.TheVariants.{Digit, Letter, Sign, Foreign}
use Rattle.grammar.specs.Bytes.{bytes}
use Rattle.grammar.specs.Classes.{class_of, is_digit, among, listed_class}
use Rattle.grammar.specs.Syntax.{Field, of, T, Relation, ge, le, gt, lt, eq, Operand, Atom, Listed, Text}
use Rattle.grammar.specs.Grammar.{AllDigits, Numeral, zero_itself, plain, minus, curve_word, field_word, relation_word, OperandWord, the_v, a_number, AtomWord, compared, curves, falling, rising, pigment_is, ListedWord, a_high, a_low, a_lowafter, a_capafter, a_peaks, a_dips, a_cross, a_crossup, a_dose, an_ampl, a_gaps, a_steps, a_lag, Level, Reads, one_conjunction, bar, one_negation, ampersand, one_primary, bang, bracketed, an_F, a_G, an_X, a_U, a_W, an_atom, a_listed, ReadsWhole}

abbrev pub number : Class → ℕ
number Digit = 0
number Letter = 1
number Sign = 2
number Foreign = 3

pub same_number : (c d : Class) → number c ≡ number d → c ≡ d
same_number Digit Digit e = refl
same_number Letter Letter e = refl
same_number Sign Sign e = refl
same_number Foreign Foreign e = refl
same_number Digit Letter e = absurd (omega arith)
same_number Digit Sign e = absurd (omega arith)
same_number Digit Foreign e = absurd (omega arith)
same_number Letter Digit e = absurd (omega arith)
same_number Letter Sign e = absurd (omega arith)
same_number Letter Foreign e = absurd (omega arith)
same_number Sign Digit e = absurd (omega arith)
same_number Sign Letter e = absurd (omega arith)
same_number Sign Foreign e = absurd (omega arith)
same_number Foreign Digit e = absurd (omega arith)
same_number Foreign Letter e = absurd (omega arith)
same_number Foreign Sign e = absurd (omega arith)

-- ---- the characters, by a test that is computed once over all bytes

-- the two classes of each byte below n are the same
unfoldable agreed : ℕ → Bool
agreed zero = true
agreed (suc n) = eqb (number (class_of n)) (number (listed_class n)) && agreed n

all-agreed : agreed 256 ≡ true
unfolding agreed class_of listed_class
all-agreed = refl

agreed_at : (n b : ℕ) → agreed n ≡ true → b < n → number (class_of b) ≡ number (listed_class b)
unfolding agreed
agreed_at zero b e h = absurd (omega arith)
agreed_at (suc n) b e h =
    go (eqb n b) refl (eqb-true (number (class_of n)) (number (listed_class n)) (and_left _ (agreed n) e)) (agreed_at n b (and_right (eqb (number (class_of n)) (number (listed_class n))) (agreed n) e))
  where
    go : (t : Bool) → eqb n b ≡ t → number (class_of n) ≡ number (listed_class n) → (b < n → number (class_of b) ≡ number (listed_class b)) → number (class_of b) ≡ number (listed_class b)
    go true q f k = subst (λ (x : ℕ). number (class_of x) ≡ number (listed_class x)) (eqb-true n b q) f
    go false q f k = let z : n ≡ b → ⊥ = eqb-false n b q in k (omega arith)

-- THE CLASS OF EACH BYTE is that by the characters
pub classes_listed : (b : ℕ) → b < 256 → class_of b ≡ listed_class b
classes_listed b h = same_number (class_of b) (listed_class b) (agreed_at 256 b all-agreed h)

-- ---- a word of the grammar has no foreign byte

abbrev known : Class → Bool
known Digit = true
known Letter = true
known Sign = true
known Foreign = false

unfoldable clean : List ℕ → Bool
clean [] = true
clean (b ∷ w) = known (class_of b) && clean w

join : (x y : List ℕ) → clean x ≡ true → clean y ≡ true → clean (x ++ y) ≡ true
unfolding clean
join [] y e f = f
join (b ∷ x) y e f =
    and_make (known (class_of b)) (clean (x ++ y)) (and_left (known (class_of b)) (clean x) e) (join x y (and_right (known (class_of b)) (clean x) e) f)

known_digit : (d : ℕ) → is_digit d ≡ true → known (class_of d) ≡ true
unfolding class_of
known_digit d e = rw e

clean_digits : (w : List ℕ) → AllDigits w → clean w ≡ true
unfolding clean
clean_digits [] a = refl
clean_digits (d ∷ w) a = and_make (known (class_of d)) (clean w) (known_digit d a.0) (clean_digits w a.1)

clean_numeral : {w : List ℕ} {k : ℕ} → Numeral w k → clean w ≡ true
unfolding clean class_of
clean_numeral zero_itself = refl
clean_numeral (plain {d} {w} p) = clean_digits (d ∷ w) p.digits
clean_numeral (minus {d} {w} p) = join (bytes "-") (d ∷ w) refl (clean_digits (d ∷ w) p.digits)

clean_curve : (c : Curve) → clean (curve_word c) ≡ true
unfolding clean class_of
clean_curve A = refl
clean_curve B = refl

clean-field : (f : Field) → clean (field_word f) ≡ true
unfolding clean class_of
clean-field (of c) = clean_curve c
clean-field T = refl

clean_relation : (r : Relation) → clean (relation_word r) ≡ true
unfolding clean class_of
clean_relation ge = refl
clean_relation le = refl
clean_relation gt = refl
clean_relation lt = refl
clean_relation eq = refl

clean-operand : {w : List ℕ} {o : Operand} → OperandWord w o → clean w ≡ true
unfolding clean class_of
clean-operand the_v = refl
clean-operand (a_number m) = clean_numeral m

-- a name with a curve, and one with a curve and a number
with_curve : (name : List ℕ) (c : Curve) → clean name ≡ true → clean (name ++ curve_word c ++ bytes ")") ≡ true
unfolding clean class_of
with_curve name c e = join (name ++ curve_word c) (bytes ")") (join name (curve_word c) e (clean_curve c)) refl

with-time : {w : List ℕ} {k : ℕ} (name : List ℕ) (c : Curve) → clean name ≡ true → Numeral w k → clean (name ++ curve_word c ++ bytes "," ++ w ++ bytes ")") ≡ true
unfolding clean class_of
with-time {w} name c e m =
    join (name ++ curve_word c ++ bytes "," ++ w) (bytes ")")
    (join (name ++ curve_word c ++ bytes ",") w (join (name ++ curve_word c) (bytes ",") (join name (curve_word c) e (clean_curve c)) refl) (clean_numeral m))
    refl

clean_atom : {w : List ℕ} {a : Atom} → AtomWord w a → clean w ≡ true
unfolding clean class_of
clean_atom (compared {w} f r o) = join (field_word f ++ relation_word r) w (join (field_word f) (relation_word r) (clean-field f) (clean_relation r)) (clean-operand o)
clean_atom (curves r) = join (bytes "A" ++ relation_word r) (bytes "B") (join (bytes "A") (relation_word r) refl (clean_relation r)) refl
clean_atom (falling c) = with_curve (bytes "fall(") c refl
clean_atom (rising c) = with_curve (bytes "rise(") c refl
clean_atom (pigment_is {d} {w} p) = join (bytes "P=") (d ∷ w) refl (clean_digits (d ∷ w) p.digits)

clean-listed : {w : List ℕ} {q : Listed} → ListedWord w q → clean w ≡ true
unfolding clean class_of
clean-listed (a_high c) = with_curve (bytes "high(") c refl
clean-listed (a_low c) = with_curve (bytes "low(") c refl
clean-listed (a_lowafter c m) = with-time (bytes "lowafter(") c refl m
clean-listed (a_capafter c m) = with-time (bytes "capafter(") c refl m
clean-listed (a_peaks c) = with_curve (bytes "peaks(") c refl
clean-listed (a_dips c) = with_curve (bytes "dips(") c refl
clean-listed a_cross = refl
clean-listed a_crossup = refl
clean-listed (a_dose {d} {w} p) = join (bytes "dose(" ++ (d ∷ w)) (bytes ")") (join (bytes "dose(") (d ∷ w) refl (clean_digits (d ∷ w) p.digits)) refl
clean-listed (an_ampl c) = with_curve (bytes "ampl(") c refl
clean-listed (a_gaps c) = with_curve (bytes "gaps(") c refl
clean-listed (a_steps c) = with_curve (bytes "steps(") c refl
clean-listed a_lag = refl

-- an opening, and one text or two
with-one : (name w : List ℕ) → clean name ≡ true → clean w ≡ true → clean (name ++ w ++ bytes ")") ≡ true
unfolding clean class_of
with-one name w e f = join (name ++ w) (bytes ")") (join name w e f) refl

with_two : (name x y : List ℕ) → clean name ≡ true → clean x ≡ true → clean y ≡ true → clean (name ++ x ++ bytes "," ++ y ++ bytes ")") ≡ true
unfolding clean class_of
with_two name x y e f g = join (name ++ x ++ bytes "," ++ y) (bytes ")") (join (name ++ x ++ bytes ",") y (join (name ++ x) (bytes ",") (join name x e f) refl) g) refl

between : (x y : List ℕ) (sign : List ℕ) → clean sign ≡ true → clean x ≡ true → clean y ≡ true → clean (x ++ sign ++ y) ≡ true
between x y sign e f g = join (x ++ sign) y (join x sign f e) g

clean_reads : {l : Level} {w : List ℕ} {t : Text} → Reads l w t → clean w ≡ true
unfolding clean class_of
clean_reads (one_conjunction r) = clean_reads r
clean_reads (bar {x} {y} r q) = between x y (bytes "|") refl (clean_reads r) (clean_reads q)
clean_reads (one_negation r) = clean_reads r
clean_reads (ampersand {x} {y} r q) = between x y (bytes "&") refl (clean_reads r) (clean_reads q)
clean_reads (one_primary r) = clean_reads r
clean_reads (bang {w} r) = join (bytes "!") w refl (clean_reads r)
clean_reads (bracketed {w} r) = with-one (bytes "(") w refl (clean_reads r)
clean_reads (an_F {w} r) = with-one (bytes "F(") w refl (clean_reads r)
clean_reads (a_G {w} r) = with-one (bytes "G(") w refl (clean_reads r)
clean_reads (an_X {w} r) = with-one (bytes "X(") w refl (clean_reads r)
clean_reads (a_U {x} {y} r q) = with_two (bytes "U(") x y refl (clean_reads r) (clean_reads q)
clean_reads (a_W {x} {y} r q) = with_two (bytes "W(") x y refl (clean_reads r) (clean_reads q)
clean_reads (an_atom a) = clean_atom a
clean_reads (a_listed q) = clean-listed q

-- what stands in a word without a foreign byte is not foreign
clean-among : (s : List ℕ) (b : ℕ) → clean s ≡ true → among b s ≡ true → known (class_of b) ≡ true
unfolding clean
clean-among [] b e h = cc
clean-among (x ∷ s) b e h = go (eqb x b) refl h (clean-among s b (and_right (known (class_of x)) (clean s) e))
  where
    go : (t : Bool) → eqb x b ≡ t → (t || among b s) ≡ true → (among b s ≡ true → known (class_of b) ≡ true) → known (class_of b) ≡ true
    go true q g k = subst (λ (y : ℕ). known (class_of y) ≡ true) (eqb-true x b q) (and_left (known (class_of x)) (clean s) e)
    go false q g k = k g

-- A TEXT WITH A FOREIGN BYTE HAS NO READING
pub foreign_unread : (s : List ℕ) (t : Text) (b : ℕ) → among b s ≡ true → class_of b ≡ Foreign → ReadsWhole s t → ⊥
foreign_unread s t b h f r =
    let e : known (class_of b) ≡ true = clean-among s b (clean_reads r.0) h in
    let g : false ≡ true = sym (ap known f) ∙ e in
    cc
