-- A listed question's Bool is true exactly where its wording holds: each question by the indices of its records, and then by the indices of its numbers.
use Rattle.std.specs.Prelude.{ℕ, zero, suc, ◌+◌, ◌<◌, ◌≡◌, refl, Bool, ◌&&◌, ◌||◌, ◌↔◌, eqb, length, ℤ, pos, negsuc, ◌+ℤ◌, ◌≤ℤ◌}
use Rattle.std.proofs.Common.{arith, sym, ap, ◌∙◌, leb-true}
use Rattle.std.proofs.Math.Bool.{not, So}
use mathlib.Core.List.{List, [], ◌∷◌, map}
use Rattle.std.proofs.Math.Dec.{leb}
use Rattle.number.specs.Axis.{origin, whole}
use Rattle.recording.specs.Condition.{Condition, pick_from, some_of}
use Rattle.recording.specs.Reading.{Reading, Curve, A, B, value, falls, rises, crossed, top, turn, Event, a_top, a_dip, a_crossing, an_upcrossing, event, adds, added, nothing}
use Rattle.recording.proofs.laws.Turn.{turns_from, turns_to, event-turn}
use Rattle.recording.specs.Recording.{in_range}
use Rattle.grammar.specs.Syntax.{Listed, high, low, lowafter, capafter, peaks, dips, cross, crossup, dose, ampl, gaps, steps, lag}
use Rattle.meaning.specs.Listed.{record_at, SomeRecord, EachRecord, TimeOf, time_of, After, between, Says}
use Rattle.meaning.specs.inner.Recorded.{InRange}
use Rattle.meaning.specs.inner.Coded.{Coded, code, index, coded_value, coded_falls, coded_rises, coded_crossed, coded_after, coded_from, coded_to, coded_adds, times_of, coded_times, coded_additions}
use Rattle.meaning.specs.inner.Truth.{all_of, some_pair, some_step, among, apart, truth}
use Rattle.number.proofs.laws.Boolean.{same, then, both, so_and, and_left, imp_or, or_imp}
use Rattle.meaning.proofs.laws.Whole.{Stands, stands_whole, le_test, le_index, lt_index, eq_index, apart-index, wide_index}
use Rattle.meaning.proofs.laws.Pick.{some_at, some_find, all_at, all_make, keys_of, key_find, key_at, pair_find, pair_at, step_find, step_at, Each, each_make, pick-map, turn-map, map-map}

-- ---- a coded reading holds the indices of its numbers

-- the values of x are on the axis
abbrev pub Settled : Reading → Type 0
Settled x = (c : Curve) → Stands (value c x) (coded_value c (code x)) origin

in_range_stands : (z : ℤ) → So (in_range z) → Stands z (index z) origin
in_range_stands (pos n) h = omega arith
in_range_stands (negsuc n) h = omega (arith, leb-true n 999999999 (and_left (leb n 999999999) _ h))

pub settled : (x : Reading) → ((c : Curve) → So (in_range (value c x))) → Settled x
settled x h A = in_range_stands x.a (h A)
settled x h B = in_range_stands x.b (h B)

pub stands_time : (x : Reading) → Stands (time_of x) (x.time + origin) origin
stands_time x = omega arith

abbrev pub AllSettled : List Reading → Type 0
AllSettled = Each Settled

pub all_settled : (r : List Reading) → InRange r → AllSettled r
all_settled r h = each_make nothing Settled r (λ i k. settled (record_at r i) (h i k))

settled_at : (r : List Reading) → AllSettled r → (i : ℕ) → i < length r → Settled (record_at r i)
settled_at [] s i h = absurd (omega arith)
settled_at (x ∷ r) s zero h = s.0
settled_at (x ∷ r) s (suc i) h = settled_at r s.1 i (omega arith)

-- ---- the events of a coded recording

falls-code : (c : Curve) (x : Reading) → coded_falls c (code x) ≡ falls c x
falls-code A x = refl
falls-code B x = refl

rises-code : (c : Curve) (x : Reading) → coded_rises c (code x) ≡ rises c x
rises-code A x = refl
rises-code B x = refl

crossed-code : (x : Reading) → Settled x → coded_crossed (code x) ≡ crossed x
crossed-code x s = same _ _
    (λ h. (le_test x.a x.b).1 ((le_index x.a x.b (code x).a (code x).b (s A) (s B)).0 h))
    (λ h. (le_index x.a x.b (code x).a (code x).b (s A) (s B)).1 ((le_test x.a x.b).0 h))

-- the index of the time
abbrev pub time_index : Reading → ℕ
time_index x = x.time + origin

times-code : (ρ : Condition Reading) (σ : Condition Coded) (r : List Reading) → AllSettled r
    → ((b : List Reading) (x : Reading) (a : List Reading) → AllSettled b → Settled x → σ (map code b) (code x) (map code a) ≡ ρ b x a)
    → times_of σ (map code r) ≡ keys_of time_index ρ [] r
times-code ρ σ r s turned =
    ap (map (λ (x : Coded). x.time)) (pick-map Settled code ρ σ turned [] r tt s) ∙ map-map code (λ x. x.time) (pick_from ρ [] r)

from-code : (e : Event) (x : Reading) → Settled x → coded_from e (code x) ≡ turns_from e x
from-code (a_top c) x s = rises-code c x
from-code (a_dip c) x s = falls-code c x
from-code a_crossing x s = ap not (crossed-code x s)
from-code an_upcrossing x s = ap (λ (e : Bool). not (not e)) (crossed-code x s)

to_code : (e : Event) (x : Reading) → Settled x → coded_to e (code x) ≡ turns_to e x
to_code (a_top c) x s = falls-code c x
to_code (a_dip c) x s = rises-code c x
to_code a_crossing x s = crossed-code x s
to_code an_upcrossing x s = ap not (crossed-code x s)

pub event-code : (e : Event) (r : List Reading) → AllSettled r → coded_times e (map code r) ≡ keys_of time_index (event e) [] r
event-code e r s =
    times-code (turn (turns_from e) (turns_to e)) (turn (coded_from e) (coded_to e)) r s (turn-map Settled code (turns_from e) (turns_to e) (coded_from e) (coded_to e) (from-code e) (to_code e))
    ∙ ap (λ (ρ : Condition Reading). keys_of time_index ρ [] r) (sym (event-turn e))

pub adds-code : (k : ℕ) (x : Reading) → coded_adds k (code x) ≡ adds k x
adds-code zero x = refl
adds-code (suc k) x = refl

pub additions_code : (k : ℕ) (r : List Reading) → AllSettled r → coded_additions k (map code r) ≡ keys_of time_index (added k) [] r
additions_code k r s = times-code (added k) (λ b x a. coded_adds k x) r s (λ b x a u h. adds-code k x)

-- ---- some record, each record

module _ (P : Coded → Bool) (Q : Reading → Type 0) where
  pub some_record : (r : List Reading) → AllSettled r → ((x : Reading) → Settled x → So (P (code x)) ↔ Q x) → So (some_of P (map code r)) ↔ SomeRecord r Q
  some_record r s is = (
    λ e. let f = some_find nothing (λ x. P (code x)) r (sym (mapped r) ∙ e) in (f.0, f.1, (is (record_at r f.0) (settled_at r s f.0 f.1)).0 f.2),
    λ f. mapped r ∙ some_at nothing (λ x. P (code x)) r f.0 f.1 ((is (record_at r f.0) (settled_at r s f.0 f.1)).1 f.2),
  )
    where
      mapped : (r : List Reading) → some_of P (map code r) ≡ some_of (λ x. P (code x)) r
      mapped [] = refl
      mapped (x ∷ r) = ap (λ (e : Bool). P (code x) || e) (mapped r)

  pub each_record : (r : List Reading) → AllSettled r → ((x : Reading) → Settled x → So (P (code x)) ↔ Q x) → So (all_of P (map code r)) ↔ EachRecord r Q
  each_record r s is = (
    λ e i h. (is (record_at r i) (settled_at r s i h)).0 (all_at nothing (λ x. P (code x)) r (sym (mapped r) ∙ e) i h),
    λ f. mapped r ∙ all_make nothing (λ x. P (code x)) r (λ i h. (is (record_at r i) (settled_at r s i h)).1 (f i h)),
  )
    where
      mapped : (r : List Reading) → all_of P (map code r) ≡ all_of (λ x. P (code x)) r
      mapped [] = refl
      mapped (x ∷ r) = ap (λ (e : Bool). P (code x) && e) (mapped r)

-- T > k
after-code : (k : ℕ) (x : Reading) → So (coded_after k (code x)) ↔ After k x
after-code k x = lt_index (whole k) (time_of x) k (time_index x) (stands_whole k) (stands_time x)

rewritten : {B : Type 0} (e f : Bool) → e ≡ f → So f ↔ B → So e ↔ B
rewritten e f h k = (λ p. k.0 (sym h ∙ p), λ b. h ∙ k.1 b)

-- ---- the questions

module _ (r : List Reading) (s : AllSettled r) (z : ℤ) (n : ℕ) (is : Stands z n origin) where
  of_high : (c : Curve) → So (truth (high c) (map code r) n) ↔ Says (high c) r z
  unfolding truth Says
  of_high c = some_record (λ x. leb n (coded_value c x)) (λ x. z ≤ℤ value c x) r s (λ x h. le_index z (value c x) n (coded_value c (code x)) is (h c))

  of_low : (c : Curve) → So (truth (low c) (map code r) n) ↔ Says (low c) r z
  unfolding truth Says
  of_low c = some_record (λ x. leb (coded_value c x) n) (λ x. value c x ≤ℤ z) r s (λ x h. le_index (value c x) z (coded_value c (code x)) n (h c) is)

  of_lowafter : (c : Curve) (k : ℕ) → So (truth (lowafter c k) (map code r) n) ↔ Says (lowafter c k) r z
  unfolding truth Says
  of_lowafter c k = some_record (λ x. coded_after k x && leb (coded_value c x) n) (λ x. After k x × (value c x ≤ℤ z)) r s
      (λ x h. then (so_and (coded_after k (code x)) (leb (coded_value c (code x)) n))
      (both (after-code k x) (le_index (value c x) z (coded_value c (code x)) n (h c) is)))

  of_capafter : (c : Curve) (k : ℕ) → So (truth (capafter c k) (map code r) n) ↔ Says (capafter c k) r z
  unfolding truth Says
  of_capafter c k = each_record (λ x. not (coded_after k x) || leb (coded_value c x) n) (λ x. After k x → value c x ≤ℤ z) r s
      (λ x h.
      let a = after-code k x in
      let l = le_index (value c x) z (coded_value c (code x)) n (h c) is in (
        λ e t. l.0 (or_imp (coded_after k (code x)) (leb (coded_value c (code x)) n) e (a.1 t)),
        λ f. imp_or (coded_after k (code x)) (leb (coded_value c (code x)) n) (λ t. l.1 (f (a.0 t))),
      ))

  of_ampl : (c : Curve) → So (truth (ampl c) (map code r) n) ↔ Says (ampl c) r z
  unfolding truth Says
  of_ampl c = then
      (some_record (λ x. some_of (λ y. leb (coded_value c x + n) (coded_value c y + origin)) (map code r))
      (λ x. SomeRecord r (λ y. (w : ℤ) × (value c x ≤ℤ w) × ((w +ℤ z) ≤ℤ value c y))) r s
      (λ x h. some_record (λ y. leb (coded_value c (code x) + n) (coded_value c y + origin)) (λ y. (w : ℤ) × (value c x ≤ℤ w) × ((w +ℤ z) ≤ℤ value c y)) r s
      (λ y k. wide_index (value c x) (value c y) z (coded_value c (code x)) (coded_value c (code y)) n (h c) (k c) is))) (
        λ t. (t.2.2.0, (t.0, t.1, t.2.2.1), (t.2.0, t.2.1, t.2.2.2)),
        λ t. (t.1.0, t.1.1, (t.2.0, t.2.1, (t.0, t.1.2, t.2.2))),
      )

  -- v is the time of a record of which the condition holds
  of_times : (ρ : Condition Reading) (l : List ℕ) → l ≡ keys_of time_index ρ [] r → So (among n l) ↔ TimeOf ρ r z
  of_times ρ l e = rewritten (among n l) (among n (keys_of time_index ρ [] r)) (ap (among n) e) (
    λ h. let f = key_find nothing ρ time_index (eqb n) [] r h in (f.0, f.1, sym ((at f.0).0 f.2)),
    λ f. key_at nothing ρ time_index (eqb n) [] r f.0 f.1 ((at f.0).1 (sym f.2)),
  )
    where
      at : (i : ℕ) → So (eqb n (time_index (record_at r i))) ↔ (z ≡ time_of (record_at r i))
      at i = eq_index z (time_of (record_at r i)) n (time_index (record_at r i)) is (stands_time (record_at r i))

  of_event : (e : Event) → So (among n (coded_times e (map code r))) ↔ TimeOf (event e) r z
  of_event e = of_times (event e) (coded_times e (map code r)) (event-code e r s)

  between-index : (i j : ℕ) → So (apart n (time_index (record_at r i)) (time_index (record_at r j))) ↔ (between r i j ≡ z)
  between-index i j = apart-index (time_of (record_at r i)) (time_of (record_at r j)) z (time_index (record_at r i)) (time_index (record_at r j)) n
      (stands_time (record_at r i)) (stands_time (record_at r j)) is

  of_gaps : (c : Curve) → So (truth (gaps c) (map code r) n) ↔ Says (gaps c) r z
  unfolding truth Says
  of_gaps c = rewritten _ (some_pair (apart n) (keys_of time_index (top c) [] r)) (ap (some_pair (apart n)) (event-code (a_top c) r s)) (
    λ h. let f = pair_find nothing (top c) time_index (apart n) [] r h in (f.0, f.1, f.2, f.3, f.4, (between-index f.0 f.1).0 f.5),
    λ f. pair_at nothing (top c) time_index (apart n) [] r f.0 f.1 f.2 f.3 f.4 ((between-index f.0 f.1).1 f.5),
  )

  of_steps : (c : Curve) → So (truth (steps c) (map code r) n) ↔ Says (steps c) r z
  unfolding truth Says
  of_steps c = rewritten _ (some_step (apart n) (keys_of time_index (top c) [] r)) (ap (some_step (apart n)) (event-code (a_top c) r s)) (
    λ h. let f = step_find nothing (top c) time_index (apart n) [] r h in (f.0, f.1, (f.2, f.5), f.3, f.4, (between-index f.0 f.1).0 f.6),
    λ f. step_at nothing (top c) time_index (apart n) [] r f.0 f.1 f.2.0 f.3 f.4 f.2.1 ((between-index f.0 f.1).1 f.5),
  )

  of_lag : So (truth lag (map code r) n) ↔ Says lag r z
  unfolding truth Says
  of_lag = rewritten _ (some_of (λ t. some_of (apart n t) (keys_of time_index (top B) [] r)) (keys_of time_index (top A) [] r))
      (λ i. some_of (λ t. some_of (apart n t) (event-code (a_top B) r s i)) (event-code (a_top A) r s i)) (
        λ h.
            let f = key_find nothing (top A) time_index (λ t. some_of (apart n t) (keys_of time_index (top B) [] r)) [] r h in
            let g = key_find nothing (top B) time_index (apart n (time_index (record_at r f.0))) [] r f.2 in
            (f.0, g.0, f.1, g.1, (between-index f.0 g.0).0 g.2),
        λ f. key_at nothing (top A) time_index (λ t. some_of (apart n t) (keys_of time_index (top B) [] r)) [] r f.0 f.2
            (key_at nothing (top B) time_index (apart n (time_index (record_at r f.0))) [] r f.1 f.3 ((between-index f.0 f.1).1 f.4)),
      )

  -- THE BOOL IS TRUE EXACTLY WHERE THE WORDING HOLDS
  pub says_at : (q : Listed) → So (truth q (map code r) n) ↔ Says q r z
  unfolding truth Says
  says_at (high c) = of_high c
  says_at (low c) = of_low c
  says_at (lowafter c k) = of_lowafter c k
  says_at (capafter c k) = of_capafter c k
  says_at (peaks c) = of_event (a_top c)
  says_at (dips c) = of_event (a_dip c)
  says_at cross = of_event a_crossing
  says_at crossup = of_event an_upcrossing
  says_at (dose k) = of_times (added k) (coded_additions k (map code r)) (additions_code k r s)
  says_at (ampl c) = of_ampl c
  says_at (gaps c) = of_gaps c
  says_at (steps c) = of_steps c
  says_at lag = of_lag

pub truth-says : (r : List Reading) → InRange r → (n : ℕ) (q : Listed) → So (truth q (map code r) n) ↔ Says q r (whole n)
truth-says r h n q = says_at r (all_settled r h) (whole n) n (stands_whole n) q
