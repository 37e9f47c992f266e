-- THE ASSURED TEXTS: every selection with the kept readings answers them as the recording does (laws/Same: `lasts_same`). Texts with F, G, X, U and W among them,
-- as far as the rule of kept readings carries them. Not every text that is answered alike is one.
use Rattle.std.specs.Prelude.{ℕ, ◌≡◌, Bool, true, false, ◌&&◌, ◌||◌, not, ◌⊎◌, List}
use Rattle.grammar.specs.Size.{temporal}
use Rattle.grammar.specs.Syntax.{Field, of, T, Relation, ge, le, gt, lt, eq, v, number, Atom, compare, A-to-B, fall, rise, pigment, Text, atom, listed, or, and, neg, finally, globally, next, until, weak_until}
use Rattle.meaning.specs.Alike.{Plain}
use Rattle.marks.specs.Marks.{is_mark_index}

-- ---- KINDS OF ATOM

-- `P=k`: every addition is kept
abbrev pub is_pigment : Atom → Bool
is_pigment (compare f ρ o) = false
is_pigment (A-to-B ρ) = false
is_pigment (fall c) = false
is_pigment (rise c) = false
is_pigment (pigment k) = true

-- `A>B`, `A<=B`: a reading that is left out lies on the side of the next one, for both readings of a crossing are kept
abbrev pub of_side : Relation → Bool
of_side ge = false
of_side le = true
of_side gt = true
of_side lt = false
of_side eq = false

abbrev pub is_side : Atom → Bool
is_side (compare f ρ o) = false
is_side (A-to-B ρ) = of_side ρ
is_side (fall c) = false
is_side (rise c) = false
is_side (pigment k) = false

-- `T>o` and `T>=o` stay true from a reading to the next (b true); `T<=o` and `T<o` were true at the one before (b false)
abbrev pub of_curve : Field → Bool
of_curve (of c) = true
of_curve T = false

abbrev pub of_time : Relation → Bool → Bool
of_time ge b = b
of_time le b = not b
of_time gt b = b
of_time lt b = not b
of_time eq b = false

abbrev pub is_time : Bool → Atom → Bool
is_time b (compare f ρ o) = not (of_curve f) && of_time ρ b
is_time b (A-to-B ρ) = false
is_time b (fall c) = false
is_time b (rise c) = false
is_time b (pigment k) = false

-- `fall(c)`, `rise(c)`: behind a reading that is left out there is another such
abbrev pub is_slope : Atom → Bool
is_slope (compare f ρ o) = false
is_slope (A-to-B ρ) = false
is_slope (fall c) = true
is_slope (rise c) = true
is_slope (pigment k) = false

-- a curve, one of `>=` `<=` `>` `<`, then v or a number: each curve's extremes are kept
abbrev pub is_eq : Relation → Bool
is_eq ge = false
is_eq le = false
is_eq gt = false
is_eq lt = false
is_eq eq = true

abbrev pub is_bound : Atom → Bool
is_bound (compare f ρ o) = of_curve f && not (is_eq ρ)
is_bound (A-to-B ρ) = false
is_bound (fall c) = false
is_bound (rise c) = false
is_bound (pigment k) = false

-- `T>k` with k a mark: so are the extremes after it
abbrev pub is_gt : Relation → Bool
is_gt ge = false
is_gt le = false
is_gt gt = true
is_gt lt = false
is_gt eq = false

abbrev pub is_after : List ℕ → Atom → Bool
is_after marks (compare f ρ v) = false
is_after marks (compare f ρ (number k)) = not (of_curve f) && (is_gt ρ && is_mark_index marks k)
is_after marks (A-to-B ρ) = false
is_after marks (fall c) = false
is_after marks (rise c) = false
is_after marks (pigment k) = false

-- v is written
abbrev pub writes_v : Atom → Bool
writes_v (compare f ρ v) = true
writes_v (compare f ρ (number k)) = false
writes_v (A-to-B ρ) = false
writes_v (fall c) = false
writes_v (rise c) = false
writes_v (pigment k) = false

-- what is said of an atom, of `!`, of `&`, of `|` and of G; false of every other node
abbrev pub view : (Atom → Bool) → (Text → Bool) → (Text → Text → Bool) → (Text → Text → Bool) → (Text → Bool) → Text → Bool
view a n c d g (atom k) = a k
view a n c d g (listed q) = false
view a n c d g (or p q) = d p q
view a n c d g (and p q) = c p q
view a n c d g (neg p) = n p
view a n c d g (finally p) = false
view a n c d g (globally p) = g p
view a n c d g (next p) = false
view a n c d g (until p q) = false
view a n c d g (weak_until p q) = false

-- an atom of this kind; `!` of one
abbrev pub of_atom : (Atom → Bool) → Text → Bool
of_atom P p = view P (λ p. false) (λ p q. false) (λ p q. false) (λ p. false) p

abbrev pub of_not : (Atom → Bool) → Text → Bool
of_not P p = view (λ a. false) (of_atom P) (λ p q. false) (λ p q. false) (λ p. false) p

-- ---- TEXTS THAT ARE THE SAME AT EVERY KEPT READING

-- at a reading without a pigment the text is b, whatever v is
abbrev pub fixed : Bool → Text → Bool
fixed true (atom a) = false
fixed false (atom a) = is_pigment a
fixed b (listed q) = false
fixed true (or p q) = fixed true p || fixed true q
fixed false (or p q) = fixed false p && fixed false q
fixed true (and p q) = fixed true p && fixed true q
fixed false (and p q) = fixed false p || fixed false q
fixed b (neg p) = fixed (not b) p
fixed b (finally p) = false
fixed b (globally p) = false
fixed b (next p) = false
fixed b (until p q) = false
fixed b (weak_until p q) = false

-- true at a reading that is left out, it is true at the next one (b true); true at the next one, it is true at the reading that is left out (b false). Of a text that is `steady`
abbrev pub drifts : Bool → Text → Bool
drifts true (atom a) = is_side a || (is_pigment a || is_time true a)
drifts false (atom a) = is_side a || is_time false a
drifts b (listed q) = false
drifts b (or p q) = drifts b p && drifts b q || fixed (not b) (or p q)
drifts b (and p q) = drifts b p && drifts b q || fixed (not b) (and p q)
drifts b (neg p) = drifts (not b) p
drifts b (finally p) = true
drifts b (globally p) = true
drifts b (next p) = false
drifts b (until p q) = true
drifts b (weak_until p q) = true

-- at each kept reading the text means the same of the kept readings as of the recording
abbrev pub steady : Text → Bool
steady (atom a) = true
steady (listed q) = false
steady (or p q) = steady p && steady q
steady (and p q) = steady p && steady q
steady (neg p) = steady p
steady (finally p) = steady p && drifts true p || of_atom is_slope p
steady (globally p) = steady p && drifts false p || of_not is_slope p
steady (next p) = steady p && (drifts true p && drifts false p)
steady (until p q) = (steady p && steady q) && (drifts true q && (fixed true p || drifts false p && drifts false q))
steady (weak_until p q) = (steady p && steady q) && (drifts true q && (fixed true p || drifts false p && drifts false q))

-- for refusal 8, which counts the runs of every node at every record: no set at a reading that is left out has more runs than some set at a kept one
abbrev pub calm : Text → Bool
calm p = not (temporal p) || (drifts true p && drifts false p || (fixed true p || fixed false p))

abbrev pub even : Text → Bool
even (atom a) = true
even (listed q) = false
even (or p q) = calm (or p q) && (even p && even q)
even (and p q) = calm (and p q) && (even p && even q)
even (neg p) = calm (neg p) && even p
even (finally p) = even p
even (globally p) = even p
even (next p) = even p
even (until p q) = even p && even q
even (weak_until p q) = even p && even q

-- ---- TEXTS OF FEW RUNS, judged at the first reading

-- the text does not write v
abbrev pub nameless : Text → Bool
nameless (atom a) = not (writes_v a)
nameless (listed q) = false
nameless (or p q) = nameless p && nameless q
nameless (and p q) = nameless p && nameless q
nameless (neg p) = nameless p
nameless (finally p) = nameless p
nameless (globally p) = nameless p
nameless (next p) = nameless p
nameless (until p q) = nameless p && nameless q
nameless (weak_until p q) = nameless p && nameless q

-- in F: c>=v, or T>k&c>=v, with each of the four relations; and G(..) of an atom, for the last reading is kept
abbrev pub somewhere : List ℕ → Text → Bool
somewhere marks p = view is_bound (λ p. false) (λ p q. of_atom (is_after marks) p && of_atom is_bound q) (λ p q. false) (of_atom (λ a. true)) p

-- in G: c>=v, or !(T>k)|c>=v
abbrev pub throughout : List ℕ → Text → Bool
throughout marks p = view is_bound (λ p. false) (λ p q. false) (λ p q. of_not (is_after marks) p && of_atom is_bound q) (λ p. false) p

abbrev pub firstly : List ℕ → Text → Bool
firstly marks (atom a) = true
firstly marks (listed q) = false
firstly marks (or p q) = firstly marks p && firstly marks q
firstly marks (and p q) = firstly marks p && firstly marks q
firstly marks (neg p) = firstly marks p
firstly marks (finally p) = somewhere marks p || steady (finally p) && nameless p
firstly marks (globally p) = throughout marks p || steady (globally p) && nameless p
firstly marks (next p) = steady (next p) && nameless p
firstly marks (until p q) = steady (until p q) && nameless (until p q)
firstly marks (weak_until p q) = steady (weak_until p q) && nameless (weak_until p q)

-- ---- THE CLASS

abbrev pub lasts : List ℕ → Text → Bool
lasts marks p = steady p && even p || firstly marks p

-- AN ASSURED TEXT under these marks: one that writes none of F, G, X, U, W and whose after-times are marks, or one that lasts
abbrev pub Assured : List ℕ → Text → Type 0
Assured marks p = Plain marks p ⊎ (lasts marks p ≡ true)
