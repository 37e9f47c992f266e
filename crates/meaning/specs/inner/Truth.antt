-- The meaning as a Bool, which contracts of code cite: `val r n p i` where p holds of the coded recording r at record i with the number of index n put in.
-- That it is the meaning is the law `val_holds` (laws/Truth), and that the refusals are those of Overfull are `eight_overfull` and `nine_tops` (laws/Overfull).
use Rattle.std.specs.Prelude.{ℕ, zero, suc, ◌+◌, ◌-◌, min, Bool, true, false, cond, not, ◌&&◌, ◌||◌, List, [], ◌∷◌, leb, ltb, eqb, length, get_or}
use Rattle.number.specs.Axis.{origin}
use Rattle.runs.specs.Runs.{run_count, most_runs}
use Rattle.recording.specs.Condition.{some_of}
use Rattle.recording.specs.Reading.{Curve, A, B, a_top, a_dip, a_crossing, an_upcrossing}
use Rattle.grammar.specs.Syntax.{Field, of, T, Relation, ge, le, gt, lt, eq, Operand, v, number, Atom, compare, A-to-B, fall, rise, pigment, Listed, high, low, lowafter, capafter, peaks, dips, cross, crossup, dose, ampl, gaps, steps, lag, Text, atom, listed, or, and, neg, finally, globally, next, until, weak_until}
use Rattle.meaning.specs.inner.Coded.{Coded, blank, coded_value, coded_falls, coded_rises, coded_adds, coded_after, coded_times, coded_additions}
use Rattle.grammar.specs.Size.{temporal}
use Rattle.tops.specs.Tops.{most_tops}

-- ---- lists

module _ {A : Type 0} where
  abbrev pub all_of : (A → Bool) → List A → Bool
  all_of P [] = true
  all_of P (x ∷ r) = P x && all_of P r

-- some two of the list, in order, have R
abbrev pub some_pair : (ℕ → ℕ → Bool) → List ℕ → Bool
some_pair R [] = false
some_pair R (s ∷ l) = some_of (R s) l || some_pair R l

-- some two neighbours have R
abbrev pub some_step : (ℕ → ℕ → Bool) → List ℕ → Bool
some_step R [] = false
some_step R (s ∷ []) = false
some_step R (s ∷ (t ∷ l)) = R s t || some_step R (t ∷ l)

abbrev pub among : ℕ → List ℕ → Bool
among n l = some_of (eqb n) l

-- ---- listed questions

-- n is the index of t − s
abbrev pub apart : ℕ → ℕ → ℕ → Bool
apart n s t = eqb (s + n) (t + origin)

unfoldable pub truth : Listed → List Coded → ℕ → Bool
truth (high c) r n = some_of (λ x. leb n (coded_value c x)) r
truth (low c) r n = some_of (λ x. leb (coded_value c x) n) r
truth (lowafter c k) r n = some_of (λ x. coded_after k x && leb (coded_value c x) n) r
truth (capafter c k) r n = all_of (λ x. not (coded_after k x) || leb (coded_value c x) n) r
truth (peaks c) r n = among n (coded_times (a_top c) r)
truth (dips c) r n = among n (coded_times (a_dip c) r)
truth cross r n = among n (coded_times a_crossing r)
truth crossup r n = among n (coded_times an_upcrossing r)
truth (dose k) r n = among n (coded_additions k r)
truth (ampl c) r n = some_of (λ x. some_of (λ y. leb (coded_value c x + n) (coded_value c y + origin)) r) r
truth (gaps c) r n = some_pair (apart n) (coded_times (a_top c) r)
truth (steps c) r n = some_step (apart n) (coded_times (a_top c) r)
truth lag r n = some_of (λ s. some_of (apart n s) (coded_times (a_top B) r)) (coded_times (a_top A) r)

-- ---- atoms

abbrev pub coded_field : Field → Coded → ℕ
coded_field (of c) x = coded_value c x
coded_field T x = x.time

abbrev pub coded_operand : Operand → ℕ → ℕ
coded_operand v n = n
coded_operand (number k) n = k

abbrev pub relate : Relation → ℕ → ℕ → Bool
relate ge m n = leb n m
relate le m n = leb m n
relate gt m n = ltb n m
relate lt m n = ltb m n
relate eq m n = eqb n m

abbrev pub atom_val : Atom → Coded → ℕ → Bool
atom_val (compare f ρ o) x n = relate ρ (coded_field f x) (coded_operand o n)
atom_val (A-to-B ρ) x n = relate ρ x.a x.b
atom_val (fall c) x n = coded_falls c x
atom_val (rise c) x n = coded_rises c x
atom_val (pigment k) x n = coded_adds k x

-- ---- texts

-- the index of the last record
abbrev pub last_coded : List Coded → ℕ
last_coded r = length r - 1

abbrev pub coded_at : List Coded → ℕ → Coded
coded_at r i = get_or r (min i (last_coded r)) blank

-- F, G, U and W from record i on, where the last record is d further: from the children at this record, and the own value at the next
abbrev pub finally_from : (ℕ → Bool) → ℕ → ℕ → Bool
finally_from f zero i = f i
finally_from f (suc d) i = f i || finally_from f d (suc i)

abbrev pub globally_from : (ℕ → Bool) → ℕ → ℕ → Bool
globally_from f zero i = f i
globally_from f (suc d) i = f i && globally_from f d (suc i)

abbrev pub until_from : (ℕ → Bool) → (ℕ → Bool) → ℕ → ℕ → Bool
until_from f g zero i = g i
until_from f g (suc d) i = g i || (f i && until_from f g d (suc i))

abbrev pub weak_from : (ℕ → Bool) → (ℕ → Bool) → ℕ → ℕ → Bool
weak_from f g zero i = f i || g i
weak_from f g (suc d) i = g i || (f i && weak_from f g d (suc i))

unfoldable pub val : List Coded → ℕ → Text → ℕ → Bool
val r n (atom k) i = atom_val k (coded_at r i) n
val r n (listed q) i = truth q r n
val r n (or p q) i = val r n p i || val r n q i
val r n (and p q) i = val r n p i && val r n q i
val r n (neg p) i = not (val r n p i)
val r n (finally p) i = finally_from (val r n p) (last_coded r - i) i
val r n (globally p) i = globally_from (val r n p) (last_coded r - i) i
val r n (next p) i = val r n p (min (suc i) (last_coded r))
val r n (until p q) i = until_from (val r n p) (val r n q) (last_coded r - i) i
val r n (weak_until p q) i = weak_from (val r n p) (val r n q) (last_coded r - i) i

-- ---- the refusals 8 and 9

-- the number of maximal runs of the node's set at record i
abbrev pub runs_at : List Coded → Text → ℕ → ℕ
runs_at r p i = run_count (λ n. val r n p i)

abbrev pub large_at : List Coded → Text → ℕ → Bool
large_at r p i = ltb most_runs (runs_at r p i)

-- some node of the text has G
unfoldable pub some_node : (Text → Bool) → Text → Bool
some_node G (atom k) = G (atom k)
some_node G (listed q) = G (listed q)
some_node G (or p q) = G (or p q) || (some_node G p || some_node G q)
some_node G (and p q) = G (and p q) || (some_node G p || some_node G q)
some_node G (neg p) = G (neg p) || some_node G p
some_node G (finally p) = G (finally p) || some_node G p
some_node G (globally p) = G (globally p) || some_node G p
some_node G (next p) = G (next p) || some_node G p
some_node G (until p q) = G (until p q) || (some_node G p || some_node G q)
some_node G (weak_until p q) = G (weak_until p q) || (some_node G p || some_node G q)

-- some node of the text has over 256 runs at record i
abbrev pub over_at : List Coded → Text → ℕ → Bool
over_at r p i = some_node (λ q. large_at r q i) p

-- some number below n has f
abbrev pub some_below : (ℕ → Bool) → ℕ → Bool
some_below f zero = false
some_below f (suc n) = f n || some_below f n

-- REFUSAL 8
unfoldable pub refused8 : List Coded → Text → Bool
refused8 r p = cond (temporal p) (some_below (over_at r p) (length r)) (over_at r p 0)

abbrev pub many_tops : Curve → List Coded → Bool
many_tops c r = ltb most_tops (length (coded_times (a_top c) r))

abbrev pub asks_too_many : List Coded → Listed → Bool
asks_too_many r (high c) = false
asks_too_many r (low c) = false
asks_too_many r (lowafter c k) = false
asks_too_many r (capafter c k) = false
asks_too_many r (peaks c) = false
asks_too_many r (dips c) = false
asks_too_many r cross = false
asks_too_many r crossup = false
asks_too_many r (dose k) = false
asks_too_many r (ampl c) = false
asks_too_many r (gaps c) = many_tops c r
asks_too_many r (steps c) = many_tops c r
asks_too_many r lag = many_tops A r || many_tops B r

-- what P says of a listed question; false of every other node
abbrev pub of_listed : (Listed → Bool) → Text → Bool
of_listed P (atom k) = false
of_listed P (listed q) = P q
of_listed P (or p q) = false
of_listed P (and p q) = false
of_listed P (neg p) = false
of_listed P (finally p) = false
of_listed P (globally p) = false
of_listed P (next p) = false
of_listed P (until p q) = false
of_listed P (weak_until p q) = false

-- REFUSAL 9
unfoldable pub refused9 : List Coded → Text → Bool
refused9 r p = some_node (of_listed (asks_too_many r)) p
