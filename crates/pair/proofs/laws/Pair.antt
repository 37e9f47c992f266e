-- Laws of the pair call: the pair that it gives is the first of the tops that fit; the lines of its table one by one.
use Rattle.std.specs.Prelude.{ℕ, ◌-◌, ◌≤◌, ◌<◌, ◌≡◌, List, [], ◌∷◌, ◌++◌, length, get_or, take, drop, ℤ, negsuc, Result, Err, Option}
use native.Mathlib.Omega.{arith}
use Rattle.std.proofs.Common.{eq-or-lt_of_le, ap, ap₂, ◌∙◌, inl, inr, take_all, get_or-take, length-take-le}
use Rattle.std.proofs.Math.Path.{sym, subst}
use Rattle.std.proofs.Math.Bool.{true}
use Rattle.std.proofs.Math.Logic.{⊎_elim}
use Rattle.std.proofs.Math.ListN.{length-map, get_or-map}
use Rattle.std.proofs.Math.Seq.{take-append_seam}
use Rattle.std.proofs.Math.IntN.{pos, sub_ℕ}
use Rattle.std.specs.Int.Signed.{le_z}
use borrow.Author.Tests.{leb-true}
use Rattle.number.specs.Axis.{origin, whole}
use Rattle.refusal.specs.Outcome.{refused, Line, judged, NoneMeets}
use Rattle.refusal.specs.Numbers.{number_of, place_of}
use Rattle.refusal.specs.declared.Refusal.{Refusal}
use Rattle.recording.specs.Condition.{pick}
use Rattle.recording.specs.Reading.{Reading, Curve, top, nothing, a_top}
use Rattle.recording.specs.Recording.{readings, Accepted}
use Rattle.recording.proofs.laws.Outcome.{judged_pass, judged-first, refusal_stands}
use Rattle.tops.specs.Tops.{recorded_time, event_times, top_times}
use Rattle.targets.proofs.laws.Target.{sub_above, sub_below}
use Rattle.tops.specs.inner.Scan.{Scanned}
use Rattle.tops.proofs.laws.Event.{event-times_ascend}
use Rattle.tops.proofs.laws.Pick.{Ascending, picked_index, index_rising, index-found, Found, rank_of, number_rising, number-found, Numbered}
use Rattle.pair.specs.declared.TopPair.{TopPair}
use Rattle.pair.specs.Pair.{time_at, Fits, Given, none, first_pair, OfTops, Foremost, FirstFitting, outcome_of}
use Rattle.pair.specs.inner.Search.{Rising, Apart, FirstApart}
use Rattle.pair.proofs.laws.Search.{none_apart, first-apart, decide_apart, pos_negsuc}

-- ---- the times of tops

-- an array that reaches holds all that a scan found
pub scanned_all : (found old new : List ℕ) (count : ℕ) → Scanned found old count new → count ≤ length old → take count new ≡ found
scanned_all found old new count s h =
    let c = s.counted in
    ap₂ (λ (n : ℕ) (l : List ℕ). take n l) c (s.held ∙ ap (λ (l : List ℕ). l ++ drop (length found) old) (take_all (length old) found (omega arith)))
    ∙ take-append_seam found (drop (length found) old)

-- the first n ascend
pub rising_taken : (ts : List ℕ) (n : ℕ) → n ≤ length ts → Ascending (take n ts) → Rising ts n
rising_taken ts n fits asc a b h l =
    let k = length-take-le n ts fits in
    let x = get_or-take n ts a 0 (omega arith) in
    let y = get_or-take n ts b 0 l in
    let up = asc a b h (omega arith) in
    omega arith

-- ---- places among them, and records

module _ (r : List Reading) (c : Curve) (g : ℤ) where
  abbrev ts : List ℕ
  ts = top_times c r

  time_of_place : (k : ℕ) → get_or (top_times c r) k 0 ≡ recorded_time (get_or (pick (top c) r) k nothing)
  unfolding event_times
  time_of_place k = get_or-map recorded_time (pick (top c) r) k nothing

  pub count-tops : length (top_times c r) ≡ length (pick (top c) r)
  unfolding event_times
  count-tops = length-map (pick (top c) r) recorded_time

  -- a pair that fits stands at two places
  pub record Placed (i j : ℕ) : Type 0 where
    pub k : ℕ
    pub l : ℕ
    pub apart : Apart ts g k l
    pub first : get_or ts k 0 ≡ time_at r i
    pub second : get_or ts l 0 ≡ time_at r j

  fits-placed : (i j : ℕ) → Fits r c g i j → Placed i j
  fits-placed i j f =
      let o = f.order in
      let n = f.inside in
      let k = rank_of nothing (top c) [] r i in
      let l = rank_of nothing (top c) [] r j in
      let kn : Numbered nothing (top c) [] r i k = number-found nothing (top c) [] r i (omega arith) f.earlier in
      let ln : Numbered nothing (top c) [] r j l = number-found nothing (top c) [] r j f.inside f.later in
      let tk : get_or ts k 0 ≡ time_at r i = time_of_place k ∙ ap recorded_time kn.same in
      let tl : get_or ts l 0 ≡ time_at r j = time_of_place l ∙ ap recorded_time ln.same in
      record {
        k = k;
        l = l;
        apart = record {
          order = number_rising nothing (top c) [] r i j o f.inside f.earlier;
          inside = subst (λ (m : ℕ). l < m) (sym count-tops) ln.inside;
          apart = ap₂ sub_ℕ tl tk ∙ f.apart;
        };
        first = tk;
        second = tl;
      }

  -- two places that are g apart show a pair
  places_fit : (k l : ℕ) → Apart ts g k l → OfTops r c g (get_or ts k 0) (get_or ts l 0)
  places_fit k l a =
      let l-in = subst (λ (m : ℕ). l < m) count-tops a.inside in
      let o = a.order in
      let f : Found nothing (top c) [] r (picked_index (top c) [] r k) (get_or (pick (top c) r) k nothing) = index-found nothing (top c) [] r k (omega arith) in
      let s : Found nothing (top c) [] r (picked_index (top c) [] r l) (get_or (pick (top c) r) l nothing) = index-found nothing (top c) [] r l l-in in
      let first : get_or ts k 0 ≡ time_at r (picked_index (top c) [] r k) = time_of_place k ∙ ap recorded_time (sym f.same) in
      let second : get_or ts l 0 ≡ time_at r (picked_index (top c) [] r l) = time_of_place l ∙ ap recorded_time (sym s.same) in
      record {
        i = picked_index (top c) [] r k;
        j = picked_index (top c) [] r l;
        fits = record {
          order = index_rising (top c) [] r k l o l-in;
          inside = s.inside;
          earlier = f.holds;
          later = s.holds;
          apart = sym (ap₂ sub_ℕ second first) ∙ a.apart;
        };
        first = first;
        second = second;
      }

  module _ (asc : Ascending (top_times c r)) where
    -- of ascending times a later place has no lesser time
    no_less : (k l : ℕ) → k ≤ l → l < length ts → get_or ts k 0 ≤ get_or ts l 0
    no_less k l h m = ⊎_elim (λ (e : k ≡ l). let q = ap (λ (n : ℕ). get_or ts n 0) e in omega arith) (λ (b : k < l). let q = asc k l b m in omega arith) (eq-or-lt_of_le h)

    foremost : (k l : ℕ) → FirstApart ts g k l → Foremost r c g (get_or ts k 0) (get_or ts l 0)
    foremost k l f i j fits =
        let p = fits-placed i j fits in
        let pk = p.first in
        let pl = p.second in
        let o = p.apart.order in
        let m = p.apart.inside in
        ⊎_elim (λ (h : k < p.k). let q = asc k p.k h (omega arith) in inl (omega arith))
        (λ h. let q = no_less l p.l h.1 m in inr (ap (λ (n : ℕ). get_or ts n 0) h.0 ∙ pk, omega arith)) (f.before p.k p.l p.apart)

    -- THE PAIR THAT IS GIVEN is the first of those that fit, and none is given exactly where none fits
    pub given-first : FirstFitting r c g (first_pair r c g)
    unfolding first_pair
    given-first = ⊎_elim
        (λ d. subst (FirstFitting r c g) (sym (first-apart g ts d.0 d.1 d.2)) (places_fit d.0 d.1 d.2.places, foremost d.0 d.1 d.2))
        (λ h. subst (FirstFitting r c g) (sym (none_apart g ts h)) (λ i j f. let p = fits-placed i j f in h p.k p.l p.apart))
        (decide_apart g ts)

    -- NO PAIR IS 0 OR LESS APART
    pub none_below : le_z g (pos 0) ≡ true → first_pair r c g ≡ none
    unfolding first_pair
    none_below h = none_apart g ts (λ i j a. let up = asc i j a.order a.inside in above g h (get_or ts i 0) (get_or ts j 0) up a.apart)
      where
        above : (g : ℤ) → le_z g (pos 0) ≡ true → (t u : ℕ) → t < u → sub_ℕ u t ≡ g → ⊥
        above (pos m) h t u b e =
            let z = leb-true m 0 h in
            let q : pos (u - t) ≡ pos m = sym (sub_above u t (omega arith)) ∙ e in
            let k : u - t ≡ m = cc in
            omega arith
        above (negsuc m) h t u b e = pos_negsuc (u - t) m (sym (sub_above u t (omega arith)) ∙ e)

-- of an accepted recording
pub first_fitting : (c : Curve) (bytes : List ℕ) → Accepted bytes → (g : ℤ) → FirstFitting (readings bytes) c g (first_pair (readings bytes) c g)
first_fitting c bytes a g = given-first (readings bytes) c g (event-times_ascend (a_top c) bytes a)

-- so the call has none for a target of 0 or less
pub none_for_low : (c : Curve) (bytes : List ℕ) → Accepted bytes → (g : ℤ) → le_z g (pos 0) ≡ true → first_pair (readings bytes) c g ≡ none
none_for_low c bytes a g h = none_below (readings bytes) c g (event-times_ascend (a_top c) bytes a) h

-- the number at or below the origin
pub whole_below : (n : ℕ) → n ≤ origin → le_z (whole n) (pos 0) ≡ true
whole_below n h =
    ⊎_elim
    (λ (e : n ≡ origin). ap (λ (k : ℕ). le_z (whole k) (pos 0)) e)
    (λ (b : n < origin). ap (λ (z : ℤ). le_z z (pos 0)) (sub_below n origin b))
    (eq-or-lt_of_le h)

-- the number above the origin
pub whole_above : (n : ℕ) → origin ≤ n → whole n ≡ pos (n - origin)
whole_above n h = sub_above n origin h

-- ---- the lines, one by one

module _ (o : Given) where
  -- the first line meets
  pub answer-first : (l : Line) (ls : List Line) (x : Refusal) → l.meets ≡ true → l.number ≡ number_of x → l.place ≡ place_of x
      → outcome_of (Err x) ≡ judged (l ∷ ls) o
  answer-first l ls x m n p = sym (judged-first l ls o m ∙ ap₂ refused n p)

  -- lines that do not meet
  pub answer_pass : (ls ms : List Line) (p : Result (Option TopPair) Refusal) → NoneMeets ls → outcome_of p ≡ judged ms o → outcome_of p ≡ judged (ls ++ ms) o
  answer_pass ls ms p n a = a ∙ sym (judged_pass ls ms o n)

  -- a refusal by the lines in front
  pub answer_refused : (ls ms : List Line) (x : Refusal) (n : ℕ) → refused (number_of x) (place_of x) ≡ judged ls n
      → outcome_of (Err x) ≡ judged (ls ++ ms) o
  answer_refused ls ms x n e = sym (refusal_stands ls ms n o (number_of x) (place_of x) (sym e))
