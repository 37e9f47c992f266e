-- Asked alone, each of the nine questions that have a formula equals it, asked alone, in set and in refusal 8.
-- The set: F and G along the records are some and all of the list. Refusal 8: the nodes below F and G have at most one run, and F has at a later record no more runs
-- than at the first, for one more reading in front puts in a number below all others.
use Prim.Native.Nat.{ℕ, zero, suc, ◌-◌, ◌≤◌, ◌<◌, min}
use Rattle.std.proofs.Common.{arith, le_refl, ◌∙◌, true≢false, inl, inr, ⊎_elim, ltb-true, lt-ltb, le-ltb, leb-true, leb-false, eqb-true, ne_eqb}
use Rattle.std.specs.Prelude.{◌≡◌, Bool, ◌&&◌, ◌||◌, cond, ◌↔◌, ◌⊎◌, ltb, length, get_or, drop}
use Rattle.std.proofs.Math.Path.{refl, sym, ap}
use Rattle.std.proofs.Math.Bool.{true, false, not, and-false, or-false}
use mathlib.Core.List.{List, [], ◌∷◌, map}
use Rattle.std.proofs.Math.Dec.{leb, eqb}
use Rattle.number.specs.Axis.{axis, whole}
use Rattle.runs.specs.Runs.{run_count, most_runs}
use Rattle.recording.specs.Condition.{pick, pick_from, when, some_of}
use Rattle.recording.specs.Reading.{Reading, Curve, last_of_those, turn}
use Rattle.recording.proofs.laws.Turn.{Exclusive, exclusive_swap, one_of, turn_is, not_exclusive}
use Rattle.grammar.specs.Syntax.{of, T, ge, le, gt, eq, v, number, Atom, compare, A-to-B, fall, rise, pigment, Listed, dose, Text, atom, listed, or, and, neg, finally, globally, next, until}
use Rattle.meaning.specs.Meaning.{Holds}
use Rattle.meaning.specs.Overfull.{Overfull}
use Rattle.meaning.specs.inner.Recorded.{Increasing, Recorded}
use Rattle.meaning.specs.Formulas.{Formula, of_high, of_low, of_lowafter, of_capafter, of_peaks, of_cross, of_dips, of_crossup, of_dose}
use Rattle.meaning.specs.inner.Coded.{Coded, code, blank, coded_value, coded_slope, coded_falls, coded_rises, coded_crossed, coded_adds, coded_after, coded_additions}
use Rattle.meaning.specs.inner.Truth.{all_of, among, truth, last_coded, coded_at, atom_val, finally_from, globally_from, until_from, val, runs_at, large_at, some_node, over_at, some_below, refused8}
use Rattle.number.proofs.laws.Boolean.{same, then, back, or_left, or_cases, or_none, none_left, and_right, and_true}
use Rattle.meaning.proofs.laws.Run.{starts, run-count, starts_ext, runs_ext, Convex, Up, Down, up_convex, down_convex, const_convex, const_up, and_convex, point_convex, or_up, and_up, or_down, ray_up, ray_down, convex_few, more-starts}
use Rattle.meaning.proofs.laws.Truth.{val_holds}
use Rattle.meaning.proofs.laws.Overfull.{eight_overfull, below_find, below_at, below_none}

-- ---- readings by index and by list

at_zero : (x : Coded) (r : List Coded) → coded_at (x ∷ r) 0 ≡ x
at_zero x r = let e : min 0 (last_coded (x ∷ r)) ≡ 0 = omega arith in ap (λ (i : ℕ). get_or (x ∷ r) i blank) e

at_suc : (x y : Coded) (r : List Coded) (i : ℕ) → coded_at (x ∷ y ∷ r) (suc i) ≡ coded_at (y ∷ r) i
at_suc x y r i =
    let e : min (suc i) (last_coded (x ∷ y ∷ r)) ≡ suc (min i (last_coded (y ∷ r))) = omega arith in
    ap (λ (i : ℕ). get_or (x ∷ y ∷ r) i blank) e

-- the last index again is the last
at_next : (r : List Coded) (i : ℕ) → coded_at r (min (suc i) (last_coded r)) ≡ coded_at r (suc i)
at_next r i =
    let e : min (min (suc i) (last_coded r)) (last_coded r) ≡ min (suc i) (last_coded r) = omega arith in
    ap (λ (i : ℕ). get_or r i blank) e

some_shift : (f : ℕ → Bool) (d i : ℕ) → finally_from f d (suc i) ≡ finally_from (λ j. f (suc j)) d i
some_shift f zero i = refl
some_shift f (suc d) i = ap (λ (e : Bool). f (suc i) || e) (some_shift f d (suc i))

all_shift : (f : ℕ → Bool) (d i : ℕ) → globally_from f d (suc i) ≡ globally_from (λ j. f (suc j)) d i
all_shift f zero i = refl
all_shift f (suc d) i = ap (λ (e : Bool). f (suc i) && e) (all_shift f d (suc i))

some_same : (f g : ℕ → Bool) → ((j : ℕ) → f j ≡ g j) → (d i : ℕ) → finally_from f d i ≡ finally_from g d i
some_same f g h zero i = h i
some_same f g h (suc d) i = let a = h i in let b = some_same f g h d (suc i) in cc

all_same : (f g : ℕ → Bool) → ((j : ℕ) → f j ≡ g j) → (d i : ℕ) → globally_from f d i ≡ globally_from g d i
all_same f g h zero i = h i
all_same f g h (suc d) i = let a = h i in let b = all_same f g h d (suc i) in cc

until_same : (f g f' g' : ℕ → Bool) → ((j : ℕ) → f j ≡ f' j) → ((j : ℕ) → g j ≡ g' j) → (d i : ℕ) → until_from f g d i ≡ until_from f' g' d i
until_same f g f' g' h k zero i = k i
until_same f g f' g' h k (suc d) i = let a = h i in let b = k i in let c = until_same f g f' g' h k d (suc i) in λ j. b j || (a j && c j)

or_off : (e f : Bool) → f ≡ false → (e || f) ≡ e
or_off true f h = refl
or_off false f h = h

module _ (P : Coded → Bool) where
  some_list : (x : Coded) (r : List Coded) → finally_from (λ i. P (coded_at (x ∷ r) i)) (length r) 0 ≡ some_of P (x ∷ r)
  some_list x [] = ap P (at_zero x []) ∙ sym (or-false (P x))
  some_list x (y ∷ r) =
      let a = ap P (at_zero x (y ∷ r)) in
      let b = some_shift (λ i. P (coded_at (x ∷ y ∷ r) i)) (length r) 0
      ∙ some_same (λ i. P (coded_at (x ∷ y ∷ r) (suc i))) (λ i. P (coded_at (y ∷ r) i)) (λ i. ap P (at_suc x y r i)) (length r) 0
      ∙ some_list y r in
      λ i. a i || b i

  all_list : (x : Coded) (r : List Coded) → globally_from (λ i. P (coded_at (x ∷ r) i)) (length r) 0 ≡ all_of P (x ∷ r)
  all_list x [] = ap P (at_zero x []) ∙ and_true (P x)
  all_list x (y ∷ r) =
      let a = ap P (at_zero x (y ∷ r)) in
      let b = all_shift (λ i. P (coded_at (x ∷ y ∷ r) i)) (length r) 0
      ∙ all_same (λ i. P (coded_at (x ∷ y ∷ r) (suc i))) (λ i. P (coded_at (y ∷ r) i)) (λ i. ap P (at_suc x y r i)) (length r) 0
      ∙ all_list y r in
      λ i. a i && b i

-- ---- turns: P holds now, and of the next record of which P or Q holds Q does, and n is its time

-- from record i on, where the last record is d further, the next record of which P or Q holds is one of which Q holds, and n is its time
abbrev soon_at : (P Q : Coded → Bool) → ℕ → List Coded → ℕ → ℕ → Bool
soon_at P Q n r d i = until_from (λ j. not (P (coded_at r j)) && not (Q (coded_at r j))) (λ j. Q (coded_at r j) && eqb n (coded_at r j).time) d i

abbrev step_at : (P Q : Coded → Bool) → ℕ → List Coded → ℕ → Bool
step_at P Q n r i = P (coded_at r i) && soon_at P Q n r (last_coded r - min (suc i) (last_coded r)) (min (suc i) (last_coded r))

-- the same along the list
abbrev soon : (P Q : Coded → Bool) → List Coded → ℕ → Bool
soon P Q [] n = false
soon P Q (x ∷ r) n = (Q x && eqb n x.time) || ((not (P x) && not (Q x)) && soon P Q r n)

-- n is the time to which one of the records leads
abbrev turns : (P Q : Coded → Bool) → List Coded → ℕ → Bool
turns P Q [] n = false
turns P Q (x ∷ r) n = (P x && soon P Q r n) || turns P Q r n

-- n is the time of a turn among the records r, before which stand b
abbrev hits : (P Q : Coded → Bool) → List Coded → List Coded → ℕ → Bool
hits P Q b r n = some_of (λ x. eqb n x.time) (pick_from (turn P Q) b r)

module _ (P Q : Coded → Bool) (never : Exclusive P Q) (n : ℕ) where
  soon_suc : (x y : Coded) (r : List Coded) (d i : ℕ) → soon_at P Q n (x ∷ y ∷ r) d (suc i) ≡ soon_at P Q n (y ∷ r) d i
  soon_suc x y r zero i = ap (λ (z : Coded). Q z && eqb n z.time) (at_suc x y r i)
  soon_suc x y r (suc d) i =
      let e = at_suc x y r i in let s = soon_suc x y r d (suc i) in
      λ k. (Q (e k) && eqb n (e k).time) || ((not (P (e k)) && not (Q (e k))) && s k)

  soon_list : (x : Coded) (r : List Coded) → soon_at P Q n (x ∷ r) (length r) 0 ≡ soon P Q (x ∷ r) n
  soon_list x [] = ap (λ (z : Coded). Q z && eqb n z.time) (at_zero x []) ∙ last (Q x && eqb n x.time) (not (P x) && not (Q x))
    where
      last : (e f : Bool) → e ≡ (e || (f && false))
      last true f = refl
      last false true = refl
      last false false = refl
  soon_list x (y ∷ r) =
      let e = at_zero x (y ∷ r) in let s = soon_suc x y r (length r) 0 ∙ soon_list y r in
      λ k. (Q (e k) && eqb n (e k).time) || ((not (P (e k)) && not (Q (e k))) && s k)

  step_suc : (x y : Coded) (r : List Coded) (i : ℕ) → step_at P Q n (x ∷ y ∷ r) (suc i) ≡ step_at P Q n (y ∷ r) i
  step_suc x y r i =
      let j : min (suc (suc i)) (last_coded (x ∷ y ∷ r)) ≡ suc (min (suc i) (last_coded (y ∷ r))) = omega arith in
      let d : last_coded (x ∷ y ∷ r) - suc (min (suc i) (last_coded (y ∷ r))) ≡ last_coded (y ∷ r) - min (suc i) (last_coded (y ∷ r)) = omega arith in
      let e = at_suc x y r i in
      let s = ap (λ (j : ℕ). soon_at P Q n (x ∷ y ∷ r) (last_coded (x ∷ y ∷ r) - j) j) j
      ∙ ap (λ (d : ℕ). soon_at P Q n (x ∷ y ∷ r) d (suc (min (suc i) (last_coded (y ∷ r))))) d
      ∙ soon_suc x y r (last_coded (y ∷ r) - min (suc i) (last_coded (y ∷ r))) (min (suc i) (last_coded (y ∷ r))) in
      λ k. P (e k) && s k

  -- at the last record P leads nowhere, for the next record is the last again
  step_last : (x : Coded) → step_at P Q n (x ∷ []) 0 ≡ false
  step_last x =
      let j : min 1 (last_coded (x ∷ [])) ≡ 0 = omega arith in
      let d : last_coded (x ∷ []) - 0 ≡ 0 = omega arith in
      let e = at_zero x [] in
      let s = ap (λ (j : ℕ). soon_at P Q n (x ∷ []) (last_coded (x ∷ []) - j) j) j ∙ ap (λ (d : ℕ). soon_at P Q n (x ∷ []) d 0) d
      ∙ ap (λ (z : Coded). Q z && eqb n z.time) e in
      (λ k. P (e k) && s k) ∙ both (P x) (Q x) (eqb n x.time) (never x)
    where
      both : (p q e : Bool) → (p ≡ true → q ≡ false) → (p && (q && e)) ≡ false
      both true q e h = ap (λ (b : Bool). b && e) (h refl)
      both false q e h = refl

  step_first : (x y : Coded) (r : List Coded) → step_at P Q n (x ∷ y ∷ r) 0 ≡ (P x && soon P Q (y ∷ r) n)
  step_first x y r =
      let j : min 1 (last_coded (x ∷ y ∷ r)) ≡ 1 = omega arith in
      let d : last_coded (x ∷ y ∷ r) - 1 ≡ length r = omega arith in
      let e = at_zero x (y ∷ r) in
      let s = ap (λ (j : ℕ). soon_at P Q n (x ∷ y ∷ r) (last_coded (x ∷ y ∷ r) - j) j) j
      ∙ ap (λ (d : ℕ). soon_at P Q n (x ∷ y ∷ r) d 1) d
      ∙ soon_suc x y r (length r) 0 ∙ soon_list y r in
      λ k. P (e k) && s k

  turns_list : (x : Coded) (r : List Coded) → finally_from (step_at P Q n (x ∷ r)) (length r) 0 ≡ turns P Q (x ∷ r) n
  turns_list x [] = step_last x ∙ nowhere (P x)
    where
      nowhere : (p : Bool) → false ≡ ((p && false) || false)
      nowhere true = refl
      nowhere false = refl
  turns_list x (y ∷ r) =
      let a = step_first x y r in
      let s = some_shift (step_at P Q n (x ∷ y ∷ r)) (length r) 0
      ∙ some_same (λ i. step_at P Q n (x ∷ y ∷ r) (suc i)) (step_at P Q n (y ∷ r)) (step_suc x y r) (length r) 0
      ∙ turns_list y r in
      λ i. a i || s i

  -- THE TIMES OF TURNS: those to which one of the records leads, and the next one, where P holds of the last record before of which one of the two holds
  hits-turns : (b r : List Coded) → hits P Q b r n ≡ ((last_of_those (one_of P Q) P b && soon P Q r n) || turns P Q r n)
  hits-turns b [] = sym (or_off (last_of_those (one_of P Q) P b && false) false refl ∙ and-false (last_of_those (one_of P Q) P b))
  hits-turns b (y ∷ r) =
      ap (λ (e : Bool). some_of (λ x. eqb n x.time) (when e y (pick_from (turn P Q) (y ∷ b) r))) (turn_is P Q never b y r)
      ∙ go (P y) (Q y) (last_of_those (one_of P Q) P b) (never y) (hits-turns (y ∷ b) r)
    where
      go : (p q a : Bool) → (p ≡ true → q ≡ false) → hits P Q (y ∷ b) r n ≡ ((cond (p || q) p a && soon P Q r n) || turns P Q r n)
          → some_of (λ x. eqb n x.time) (when (q && a) y (pick_from (turn P Q) (y ∷ b) r))
          ≡ ((a && ((q && eqb n y.time) || ((not p && not q) && soon P Q r n))) || ((p && soon P Q r n) || turns P Q r n))
      go true true a h e = absurd (true≢false (h refl))
      go true false true h e = e
      go true false false h e = e
      go false true true h e = ap (λ (k : Bool). eqb n y.time || k) e ∙ rest (eqb n y.time) (turns P Q r n)
        where
          rest : (e f : Bool) → (e || f) ≡ ((e || false) || f)
          rest true f = refl
          rest false f = refl
      go false true false h e = e
      go false false true h e = e
      go false false false h e = e

-- ---- THE SET

gt_not : (m n : ℕ) → ltb n m ≡ not (leb m n)
gt_not m n = go (leb m n) refl
  where
    go : (e : Bool) → leb m n ≡ e → ltb n m ≡ not e
    go true h = le-ltb n m (leb-true m n h)
    go false h = lt-ltb n m (leb-false m n h)

last_of : (x : Coded) (r : List Coded) → last_coded (x ∷ r) - 0 ≡ length r
last_of x r = omega arith

-- A TURN FROM P TO Q AS A TEXT: `was` says that P holds, `will` that of the next record of which P or Q holds Q does, at the time put in; no node of either is over
pub record TurnText (P Q : Coded → Bool) (was will : Text) : Type 0 where
  pub never : Exclusive P Q
  pub now : (r : List Coded) (n i : ℕ) → val r n was i ≡ P (coded_at r i)
  pub later : (r : List Coded) (n i : ℕ) → val r n will i ≡ soon_at P Q n r (last_coded r - i) i
  pub quiet_was : (r : List Coded) (i : ℕ) → over_at r was i ≡ false
  pub quiet_will : (r : List Coded) (i : ℕ) → over_at r will i ≡ false

turn_body : {P Q : Coded → Bool} {was will : Text} → TurnText P Q was will → (r : List Coded) (n i : ℕ) → val r n (and was (next will)) i ≡ step_at P Q n r i
unfolding val
turn_body t r n i = let a = t.now r n i in let b = t.later r n (min (suc i) (last_coded r)) in λ k. a k && b k

times_some : (n : ℕ) (l : List Coded) → among n (map (λ (x : Coded). x.time) l) ≡ some_of (λ x. eqb n x.time) l
times_some n [] = refl
times_some n (x ∷ l) = ap (λ (e : Bool). eqb n x.time || e) (times_some n l)

turn-set : {P Q : Coded → Bool} {was will : Text} → TurnText P Q was will → (x : Coded) (r : List Coded) (n : ℕ)
    → val (x ∷ r) n (finally (and was (next will))) 0 ≡ among n (map (λ (x : Coded). x.time) (pick (turn P Q) (x ∷ r)))
unfolding val
turn-set {P} {Q} t x r n =
    some_same _ (step_at P Q n (x ∷ r)) (turn_body t (x ∷ r) n) (last_coded (x ∷ r) - 0) 0
    ∙ ap (λ (d : ℕ). finally_from (step_at P Q n (x ∷ r)) d 0) (last_of x r)
    ∙ turns_list P Q t.never n x r
    ∙ sym (hits-turns P Q t.never n [] (x ∷ r))
    ∙ sym (times_some n (pick (turn P Q) (x ∷ r)))

-- ---- nodes of at most one run

few : (f : ℕ → Bool) → Convex f → ltb most_runs (run_count f) ≡ false
few f h = convex_few f h

few_up : (f : ℕ → Bool) → Up f → ltb most_runs (run_count f) ≡ false
few_up f h = convex_few f (up_convex f h)

few_down : (f : ℕ → Bool) → Down f → ltb most_runs (run_count f) ≡ false
few_down f h = convex_few f (down_convex f h)

few_const : (e : Bool) → ltb most_runs (run_count (λ n. e)) ≡ false
few_const e = convex_few (λ n. e) (const_convex e)

few_as : (f g : ℕ → Bool) → ((n : ℕ) → f n ≡ g n) → Convex g → ltb most_runs (run_count f) ≡ false
few_as f g h c = ap (ltb most_runs) (runs_ext f g (λ n l. h n)) ∙ few g c

point : (e : Bool) (t : ℕ) → Convex (λ n. e && eqb n t)
point e t = and_convex (λ n. e) (λ n. eqb n t) (const_convex e) (point_convex t)

-- the next record of which P or Q holds is one, so there is at most one number
soon_convex : (P Q : Coded → Bool) (r : List Coded) (d i : ℕ) → Convex (λ n. soon_at P Q n r d i)
soon_convex P Q r zero i = point (Q (coded_at r i)) (coded_at r i).time
soon_convex P Q r (suc d) i = go (P (coded_at r i)) (Q (coded_at r i)) (soon_convex P Q r d (suc i))
  where
    sole : (e : Bool) → (e || false) ≡ true → e ≡ true
    sole true h = refl
    sole false h = h

    go : (p q : Bool) → Convex (λ n. soon_at P Q n r d (suc i))
        → Convex (λ n. (q && eqb n (coded_at r i).time) || ((not p && not q) && soon_at P Q n r d (suc i)))
    go true true rest a b c h k u w = or_left (eqb b (coded_at r i).time) _ (point_convex (coded_at r i).time a b c h k (sole _ u) (sole _ w))
    go true false rest a b c h k u w = u
    go false true rest a b c h k u w = or_left (eqb b (coded_at r i).time) _ (point_convex (coded_at r i).time a b c h k (sole _ u) (sole _ w))
    go false false rest a b c h k u w = rest a b c h k u w

-- ---- the four turns: c turns from rising to falling, from falling to rising, A > B to A ≤ B, A ≤ B to A > B

module _ (r : List Coded) (i : ℕ) (k : Atom) (e : Bool) (is : (n : ℕ) → atom_val k (coded_at r i) n ≡ e) where
  quiet_const : over_at r (atom k) i ≡ false
  unfolding some_node val
  quiet_const = few_as (λ n. atom_val k (coded_at r i) n) (λ n. e) is (const_convex e)

  quiet_not : over_at r (neg (atom k)) i ≡ false
  unfolding some_node val
  quiet_not = or_none (few_as (λ n. not (atom_val k (coded_at r i) n)) (λ n. not e) (λ n. ap not (is n)) (const_convex (not e))) quiet_const

  -- with the time put in
  quiet_time : over_at r (and (atom k) (atom (compare T eq v))) i ≡ false
  unfolding some_node val
  quiet_time =
      or_none (few_as (λ n. atom_val k (coded_at r i) n && eqb n (coded_at r i).time) (λ n. e && eqb n (coded_at r i).time)
      (λ n. ap (λ (b : Bool). b && eqb n (coded_at r i).time) (is n)) (point e (coded_at r i).time))
      (or_none quiet_const (few (λ n. eqb n (coded_at r i).time) (point_convex (coded_at r i).time)))

abbrev until-text : Atom → Atom → Text
until-text j k = until (and (neg (atom j)) (neg (atom k))) (and (atom k) (atom (compare T eq v)))

-- two atoms that say P and Q, whatever number is put in
module _ (P Q : Coded → Bool) (excl : Exclusive P Q) (j k : Atom) (p : (x : Coded) (n : ℕ) → atom_val j x n ≡ P x) (q : (x : Coded) (n : ℕ) → atom_val k x n ≡ Q x) where
  past_flat : TurnText P Q (atom j) (until-text j k)
  unfolding some_node val
  past_flat = record {
    never = excl;
    now = λ r n i. p (coded_at r i) n;
    later = λ r n i. until_same _ _ _ _ (λ m. both r m n) (λ m. ap (λ (b : Bool). b && eqb n (coded_at r m).time) (q (coded_at r m) n)) (last_coded r - i) i;
    quiet_was = λ r i. quiet_const r i j (P (coded_at r i)) (p (coded_at r i));
    quiet_will = quiet;
  }
    where
      both : (r : List Coded) (m n : ℕ) → (not (atom_val j (coded_at r m) n) && not (atom_val k (coded_at r m) n)) ≡ (not (P (coded_at r m)) && not (Q (coded_at r m)))
      both r m n = let a = p (coded_at r m) n in let b = q (coded_at r m) n in λ i. not (a i) && not (b i)

      quiet : (r : List Coded) (i : ℕ) → over_at r (until-text j k) i ≡ false
      quiet r i =
          or_none (few_as _ (λ n. soon_at P Q n r (last_coded r - i) i)
          (λ n. until_same _ _ _ _ (λ m. both r m n) (λ m. ap (λ (b : Bool). b && eqb n (coded_at r m).time) (q (coded_at r m) n)) (last_coded r - i) i)
          (soon_convex P Q r (last_coded r - i) i))
          (or_none (or_none (few_as _ (λ n. not (P (coded_at r i)) && not (Q (coded_at r i))) (λ n. both r i n) (const_convex (not (P (coded_at r i)) && not (Q (coded_at r i)))))
          (or_none (quiet_not r i j (P (coded_at r i)) (p (coded_at r i))) (quiet_not r i k (Q (coded_at r i)) (q (coded_at r i)))))
          (quiet_time r i k (Q (coded_at r i)) (q (coded_at r i))))

-- and where of every record one of the two holds, the next record is that one
module _ (S : Coded → Bool) (j k : Atom) (p : (x : Coded) (n : ℕ) → atom_val j x n ≡ not (S x)) (q : (x : Coded) (n : ℕ) → atom_val k x n ≡ S x) where
  at_once : TurnText (λ x. not (S x)) S (atom j) (and (atom k) (atom (compare T eq v)))
  unfolding val
  at_once = record {
    never = not_exclusive S;
    now = λ r n i. p (coded_at r i) n;
    later = λ r n i. ap (λ (b : Bool). b && eqb n (coded_at r i).time) (q (coded_at r i) n) ∙ here r n (last_coded r - i) i;
    quiet_was = λ r i. quiet_const r i j (not (S (coded_at r i))) (p (coded_at r i));
    quiet_will = λ r i. quiet_time r i k (S (coded_at r i)) (q (coded_at r i));
  }
    where
      here : (r : List Coded) (n d i : ℕ) → (S (coded_at r i) && eqb n (coded_at r i).time) ≡ soon_at (λ x. not (S x)) S n r d i
      here r n zero i = refl
      here r n (suc d) i = go (S (coded_at r i)) (eqb n (coded_at r i).time) (soon_at (λ x. not (S x)) S n r d (suc i))
        where
          go : (e f g : Bool) → (e && f) ≡ ((e && f) || ((not (not e) && not e) && g))
          go true true g = refl
          go true false g = refl
          go false f g = refl

rises-falls : (c : Curve) → Exclusive (coded_rises c) (coded_falls c)
rises-falls c x h = ne_eqb (coded_slope c x) 0 (λ e. two (coded_slope c x) (eqb-true (coded_slope c x) 2 h) e)
  where
    two : (s : ℕ) → s ≡ 2 → s ≡ 0 → ⊥
    two s p q = omega arith

a_top_text : (c : Curve) → TurnText (coded_rises c) (coded_falls c) (atom (rise c)) (until-text (rise c) (fall c))
a_top_text c = past_flat (coded_rises c) (coded_falls c) (rises-falls c) (rise c) (fall c) (λ x n. refl) (λ x n. refl)

a_dip_text : (c : Curve) → TurnText (coded_falls c) (coded_rises c) (atom (fall c)) (until-text (fall c) (rise c))
a_dip_text c = past_flat (coded_falls c) (coded_rises c) (exclusive_swap {P = coded_rises c} {Q = coded_falls c} (rises-falls c)) (fall c) (rise c) (λ x n. refl) (λ x n. refl)

down_text : TurnText (λ x. not (coded_crossed x)) coded_crossed (atom (A-to-B gt)) (and (atom (A-to-B le)) (atom (compare T eq v)))
down_text = at_once coded_crossed (A-to-B gt) (A-to-B le) (λ x n. gt_not x.a x.b) (λ x n. refl)

twice_not : (e : Bool) → e ≡ not (not e)
twice_not true = refl
twice_not false = refl

up_text : TurnText (λ x. not (not (coded_crossed x))) (λ x. not (coded_crossed x)) (atom (A-to-B le)) (and (atom (A-to-B gt)) (atom (compare T eq v)))
up_text = at_once (λ x. not (coded_crossed x)) (A-to-B le) (A-to-B gt) (λ x n. twice_not (coded_crossed x)) (λ x n. gt_not x.a x.b)

-- ---- additions

additions_some : (k n : ℕ) (r : List Coded) → among n (coded_additions k r) ≡ some_of (λ x. coded_adds k x && eqb n x.time) r
additions_some k n r = go [] r
  where
    one : (e : Bool) (x : Coded) (l : List Coded) (f : Bool) → among n (map (λ (x : Coded). x.time) l) ≡ f
        → among n (map (λ (x : Coded). x.time) (when e x l)) ≡ ((e && eqb n x.time) || f)
    one true x l f h = ap (λ (b : Bool). eqb n x.time || b) h
    one false x l f h = h

    go : (b r : List Coded) → among n (map (λ (x : Coded). x.time) (pick_from (λ b x a. coded_adds k x) b r)) ≡ some_of (λ x. coded_adds k x && eqb n x.time) r
    go b [] = refl
    go b (x ∷ r) = one (coded_adds k x) x (pick_from (λ b x a. coded_adds k x) (x ∷ b) r) (some_of (λ x. coded_adds k x && eqb n x.time) r) (go (x ∷ b) r)

-- from the first record, the formula and the listed question say the same
pub formula_set : {q : Listed} {p : Text} → Formula q p → (x : Coded) (r : List Coded) (n : ℕ) → val (x ∷ r) n p 0 ≡ truth q (x ∷ r) n
unfolding val truth
formula_set (of_high {c = c}) x r n =
    ap (λ (d : ℕ). finally_from (λ i. leb n (coded_value c (coded_at (x ∷ r) i))) d 0) (last_of x r) ∙ some_list (λ y. leb n (coded_value c y)) x r
formula_set (of_low {c = c}) x r n =
    ap (λ (d : ℕ). finally_from (λ i. leb (coded_value c (coded_at (x ∷ r) i)) n) d 0) (last_of x r) ∙ some_list (λ y. leb (coded_value c y) n) x r
formula_set (of_lowafter {c = c} {k = k}) x r n =
    ap (λ (d : ℕ). finally_from (λ i. coded_after k (coded_at (x ∷ r) i) && leb (coded_value c (coded_at (x ∷ r) i)) n) d 0) (last_of x r)
    ∙ some_list (λ y. coded_after k y && leb (coded_value c y) n) x r
formula_set (of_capafter {c = c} {k = k}) x r n =
    ap (λ (d : ℕ). globally_from (λ i. not (coded_after k (coded_at (x ∷ r) i)) || leb (coded_value c (coded_at (x ∷ r) i)) n) d 0) (last_of x r)
    ∙ all_list (λ y. not (coded_after k y) || leb (coded_value c y) n) x r
formula_set (of_peaks {c = c}) x r n = turn-set (a_top_text c) x r n
formula_set of_cross x r n = turn-set down_text x r n
formula_set (of_dips {c = c}) x r n = turn-set (a_dip_text c) x r n
formula_set (of_dose {k = k}) x r n =
    ap (λ (d : ℕ). finally_from (λ i. coded_adds k (coded_at (x ∷ r) i) && eqb n (coded_at (x ∷ r) i).time) d 0) (last_of x r)
    ∙ some_list (λ y. coded_adds k y && eqb n y.time) x r
    ∙ sym (additions_some k n (x ∷ r))
formula_set of_crossup x r n = turn-set up_text x r n

-- ---- REFUSAL 8

-- F and G of rays are rays
module _ (f : ℕ → ℕ → Bool) where
  some_up : ((i : ℕ) → Up (λ n. f n i)) → (d i : ℕ) → Up (λ n. finally_from (f n) d i)
  some_up h zero i = h i
  some_up h (suc d) i = or_up (λ n. f n i) (λ n. finally_from (f n) d (suc i)) (h i) (some_up h d (suc i))

  some_down : ((i : ℕ) → Down (λ n. f n i)) → (d i : ℕ) → Down (λ n. finally_from (f n) d i)
  some_down h zero i = h i
  some_down h (suc d) i = or_down (λ n. f n i) (λ n. finally_from (f n) d (suc i)) (h i) (some_down h d (suc i))

  all_up : ((i : ℕ) → Up (λ n. f n i)) → (d i : ℕ) → Up (λ n. globally_from (f n) d i)
  all_up h zero i = h i
  all_up h (suc d) i = and_up (λ n. f n i) (λ n. globally_from (f n) d (suc i)) (h i) (all_up h d (suc i))

module _ (r : List Coded) (i : ℕ) where
  over-high : (c : Curve) → over_at r (finally (atom (compare (of c) ge v))) i ≡ false
  unfolding some_node val
  over-high c =
      or_none (few_down (λ n. finally_from (λ i. leb n (coded_value c (coded_at r i))) (last_coded r - i) i)
      (some_down (λ n i. leb n (coded_value c (coded_at r i))) (λ i. ray_down (coded_value c (coded_at r i))) (last_coded r - i) i))
      (few_down (λ n. leb n (coded_value c (coded_at r i))) (ray_down (coded_value c (coded_at r i))))

  over-low : (c : Curve) → over_at r (finally (atom (compare (of c) le v))) i ≡ false
  unfolding some_node val
  over-low c =
      or_none (few_up (λ n. finally_from (λ i. leb (coded_value c (coded_at r i)) n) (last_coded r - i) i)
      (some_up (λ n i. leb (coded_value c (coded_at r i)) n) (λ i. ray_up (coded_value c (coded_at r i))) (last_coded r - i) i))
      (few_up (λ n. leb (coded_value c (coded_at r i)) n) (ray_up (coded_value c (coded_at r i))))

  over_lowafter : (c : Curve) (k : ℕ) → over_at r (finally (and (atom (compare T gt (number k))) (atom (compare (of c) le v)))) i ≡ false
  unfolding some_node val
  over_lowafter c k =
      or_none (few_up (λ n. finally_from (λ i. coded_after k (coded_at r i) && leb (coded_value c (coded_at r i)) n) (last_coded r - i) i)
      (some_up (λ n i. coded_after k (coded_at r i) && leb (coded_value c (coded_at r i)) n) body (last_coded r - i) i))
      (or_none (few_up (λ n. coded_after k (coded_at r i) && leb (coded_value c (coded_at r i)) n) (body i))
      (or_none (few_const (coded_after k (coded_at r i))) (few_up (λ n. leb (coded_value c (coded_at r i)) n) (ray_up (coded_value c (coded_at r i))))))
    where
      body : (i : ℕ) → Up (λ n. coded_after k (coded_at r i) && leb (coded_value c (coded_at r i)) n)
      body i = and_up (λ n. coded_after k (coded_at r i)) (λ n. leb (coded_value c (coded_at r i)) n) (const_up (coded_after k (coded_at r i))) (ray_up (coded_value c (coded_at r i)))

  over_capafter : (c : Curve) (k : ℕ) → over_at r (globally (or (neg (atom (compare T gt (number k)))) (atom (compare (of c) le v)))) i ≡ false
  unfolding some_node val
  over_capafter c k =
      or_none (few_up (λ n. globally_from (λ i. not (coded_after k (coded_at r i)) || leb (coded_value c (coded_at r i)) n) (last_coded r - i) i)
      (all_up (λ n i. not (coded_after k (coded_at r i)) || leb (coded_value c (coded_at r i)) n) body (last_coded r - i) i))
      (or_none (few_up (λ n. not (coded_after k (coded_at r i)) || leb (coded_value c (coded_at r i)) n) (body i))
      (or_none (or_none (few_const (not (coded_after k (coded_at r i)))) (few_const (coded_after k (coded_at r i))))
      (few_up (λ n. leb (coded_value c (coded_at r i)) n) (ray_up (coded_value c (coded_at r i))))))
    where
      body : (i : ℕ) → Up (λ n. not (coded_after k (coded_at r i)) || leb (coded_value c (coded_at r i)) n)
      body i = or_up (λ n. not (coded_after k (coded_at r i))) (λ n. leb (coded_value c (coded_at r i)) n) (const_up (not (coded_after k (coded_at r i)))) (ray_up (coded_value c (coded_at r i)))

-- below F, the nodes of a turn are all, nothing or one number
inner_turn : {P Q : Coded → Bool} {was will : Text} → TurnText P Q was will → (r : List Coded) (i : ℕ) → over_at r (and was (next will)) i ≡ false
unfolding some_node val
inner_turn {P} {Q} t r i =
    or_none (few_as _ (λ n. step_at P Q n r i) (λ n. turn_body t r n i) (and_convex (λ n. P (coded_at r i)) (λ n. soon_at P Q n r (last_coded r - j) j) (const_convex (P (coded_at r i))) (soon_convex P Q r (last_coded r - j) j)))
    (or_none (t.quiet_was r i)
    (or_none (few_as _ (λ n. soon_at P Q n r (last_coded r - j) j) (λ n. t.later r n j) (soon_convex P Q r (last_coded r - j) j)) (t.quiet_will r i)))
  where
    j : ℕ
    j = min (suc i) (last_coded r)

-- times strictly increase
abbrev IncreasingCodes : List Coded → Type 0
IncreasingCodes [] = Unit {0}
IncreasingCodes (x ∷ []) = Unit {0}
IncreasingCodes (x ∷ (y ∷ r)) = (x.time < y.time) × IncreasingCodes (y ∷ r)

tail_rises : (x : Coded) (r : List Coded) → IncreasingCodes (x ∷ r) → IncreasingCodes r
tail_rises x [] h = tt
tail_rises x (y ∷ r) h = h.1

increasing_codes : (r : List Reading) → Increasing r → IncreasingCodes (map code r)
increasing_codes [] h = tt
increasing_codes (x ∷ []) h = tt
increasing_codes (x ∷ (y ∷ r)) h = (omega (arith, h 0 (omega arith)), increasing_codes (y ∷ r) (λ i l. h (suc i) (omega arith)))

-- ---- sets that grow at their low end: one reading more in front puts in at most one number, below all others

abbrev Grown : (ℕ → Bool) → (ℕ → Bool) → Type 0
Grown f g = ((n : ℕ) → g n ≡ f n) ⊎ ((t : ℕ) × ((n : ℕ) → f n ≡ true → t < n) × ((n : ℕ) → g n ≡ (eqb n t || f n)))

abbrev Growing : (List Coded → ℕ → Bool) → Type 0
Growing S = (x y : Coded) (r : List Coded) → IncreasingCodes (x ∷ y ∷ r) → Grown (S (y ∷ r)) (S (x ∷ y ∷ r))

-- it takes no run away
grow : (f g : ℕ → Bool) → Grown f g → (n : ℕ) → starts f n ≤ starts g n
grow f g (inl e) n = let s = starts_ext g f n (λ m h. e m) in omega (arith, s)
grow f g (inr (t, above, e)) n = let s = starts_ext g (λ w. eqb w t || f w) n (λ m h. e m) in omega (arith, s, more-starts f t above n)

-- SO AT A LATER RECORD THERE ARE NOT MORE RUNS THAN AT THE FIRST
fewer_later : (S : List Coded → ℕ → Bool) → Growing S → (n : ℕ) (x : Coded) (r : List Coded) → IncreasingCodes (x ∷ r) → (i : ℕ) → i < length (x ∷ r)
    → starts (S (drop i (x ∷ r))) n ≤ starts (S (x ∷ r)) n
fewer_later S g n x r inc zero h = le_refl (starts (S (x ∷ r)) n)
fewer_later S g n x [] inc (suc i) h = absurd (omega arith)
fewer_later S g n x (y ∷ r) inc (suc i) h =
    omega (arith, fewer_later S g n y r inc.1 i (omega arith), grow (S (y ∷ r)) (S (x ∷ y ∷ r)) (g x y r inc) n)

-- the set of F at record i
abbrev from : (P Q : Coded → Bool) → List Coded → ℕ → ℕ → Bool
from P Q r i n = finally_from (step_at P Q n r) (last_coded r - i) i

module _ (P Q : Coded → Bool) (never : Exclusive P Q) where
  from_suc : (x y : Coded) (r : List Coded) (i n : ℕ) → from P Q (x ∷ y ∷ r) (suc i) n ≡ from P Q (y ∷ r) i n
  from_suc x y r i n =
      let e : last_coded (x ∷ y ∷ r) - suc i ≡ last_coded (y ∷ r) - i = omega arith in
      ap (λ (d : ℕ). finally_from (step_at P Q n (x ∷ y ∷ r)) d (suc i)) e
      ∙ some_shift (step_at P Q n (x ∷ y ∷ r)) (last_coded (y ∷ r) - i) i
      ∙ some_same (λ i. step_at P Q n (x ∷ y ∷ r) (suc i)) (step_at P Q n (y ∷ r)) (step_suc P Q never n x y r) (last_coded (y ∷ r) - i) i

  from-drop : (x : Coded) (r : List Coded) (i : ℕ) → i < length (x ∷ r) → (n : ℕ) → from P Q (x ∷ r) i n ≡ turns P Q (drop i (x ∷ r)) n
  from-drop x r zero h n = ap (λ (d : ℕ). finally_from (step_at P Q n (x ∷ r)) d 0) (last_of x r) ∙ turns_list P Q never n x r
  from-drop x [] (suc i) h n = absurd (omega arith)
  from-drop x (y ∷ r) (suc i) h n = from_suc x y r i n ∙ from-drop y r i (omega arith) n

  -- what the records r lead to lies after the record before them
  soon-later : (x : Coded) (r : List Coded) → IncreasingCodes (x ∷ r) → (n : ℕ) → soon P Q r n ≡ true → x.time < n
  soon-later x [] inc n h = absurd (true≢false (sym h))
  soon-later x (y ∷ r) inc n h =
      or_cases (Q y && eqb n y.time) _ h (λ k. omega (arith, eqb-true n y.time (and_right (Q y) _ k), inc.0))
      (λ k. omega (arith, soon-later y r inc.1 n (and_right (not (P y) && not (Q y)) _ k), inc.0))

  turns-later : (x : Coded) (r : List Coded) → IncreasingCodes (x ∷ r) → (n : ℕ) → turns P Q r n ≡ true → x.time < n
  turns-later x [] inc n h = absurd (true≢false (sym h))
  turns-later x (y ∷ r) inc n h =
      or_cases (P y && soon P Q r n) _ h (λ k. omega (arith, soon-later y r inc.1 n (and_right (P y) _ k), inc.0))
      (λ k. omega (arith, turns-later y r inc.1 n k, inc.0))

  -- the next turn is one number, below all others to which the records lead, or none
  abbrev First : List Coded → Type 0
  First r = ((n : ℕ) → soon P Q r n ≡ false) ⊎ ((t : ℕ) × ((n : ℕ) → turns P Q r n ≡ true → t < n) × ((n : ℕ) → soon P Q r n ≡ eqb n t))

  soon-first : (r : List Coded) → IncreasingCodes r → First r
  soon-first [] inc = inl (λ n. refl)
  soon-first (y ∷ r) inc = go (P y) (Q y) refl refl (soon-first r (tail_rises y r inc))
    where
      go : (p q : Bool) → P y ≡ p → Q y ≡ q → First r → First (y ∷ r)
      go true q u w rest = inl (λ n. rw (never y u, u))
      go false true u w rest = inr (y.time, (λ n h. turns-later y r inc n (rw u at h)), λ n. rw (w, u) (or-false (eqb n y.time)))
      go false false u w rest = ⊎_elim (λ none. inl (λ n. rw (w, u) (none n))) (λ one. inr (one.0, (λ n h. one.1 n (rw u at h)), λ n. rw (w, u) (one.2 n))) rest

  turns_grow : Growing (turns P Q)
  turns_grow x y r inc = go (P x) refl
    where
      go : (p : Bool) → P x ≡ p → Grown (turns P Q (y ∷ r)) (turns P Q (x ∷ y ∷ r))
      go false u = inl (λ n. rw u)
      go true u = ⊎_elim (λ none. inl (λ n. rw (u, none n))) (λ one. inr (one.0, one.1, λ n. rw (u, one.2 n))) (soon-first (y ∷ r) inc.1)

-- the times of the records of which Q holds
module _ (Q : Coded → Bool) where
  abbrev found : List Coded → ℕ → Bool
  found r n = some_of (λ x. Q x && eqb n x.time) r

  found-later : (x y : Coded) (r : List Coded) → IncreasingCodes (x ∷ y ∷ r) → (n : ℕ) → found (y ∷ r) n ≡ true → x.time < n
  found-later x y [] inc n h = or_cases (Q y && eqb n y.time) _ h (λ k. omega (arith, eqb-true n y.time (and_right (Q y) _ k), inc.0)) (λ k. absurd (true≢false (sym k)))
  found-later x y (z ∷ r) inc n h =
      or_cases (Q y && eqb n y.time) _ h (λ k. omega (arith, eqb-true n y.time (and_right (Q y) _ k), inc.0)) (λ k. omega (arith, found-later y z r inc.1 n k, inc.0))

  found_grow : Growing found
  found_grow x y r inc = go (Q x) refl
    where
      go : (e : Bool) → Q x ≡ e → Grown (found (y ∷ r)) (found (x ∷ y ∷ r))
      go true h = inr (x.time, found-later x y r inc, λ n. ap (λ (e : Bool). (e && eqb n x.time) || found (y ∷ r) n) h)
      go false h = inl (λ n. ap (λ (e : Bool). (e && eqb n x.time) || found (y ∷ r) n) h)

  found_drop : (x : Coded) (r : List Coded) (i : ℕ) → i < length (x ∷ r) → (n : ℕ)
      → finally_from (λ j. Q (coded_at (x ∷ r) j) && eqb n (coded_at (x ∷ r) j).time) (last_coded (x ∷ r) - i) i ≡ found (drop i (x ∷ r)) n
  found_drop x r zero h n =
      ap (λ (d : ℕ). finally_from (λ j. Q (coded_at (x ∷ r) j) && eqb n (coded_at (x ∷ r) j).time) d 0) (last_of x r) ∙ some_list (λ y. Q y && eqb n y.time) x r
  found_drop x [] (suc i) h n = absurd (omega arith)
  found_drop x (y ∷ r) (suc i) h n =
      let e : last_coded (x ∷ y ∷ r) - suc i ≡ last_coded (y ∷ r) - i = omega arith in
      ap (λ (d : ℕ). finally_from (λ j. Q (coded_at (x ∷ y ∷ r) j) && eqb n (coded_at (x ∷ y ∷ r) j).time) d (suc i)) e
      ∙ some_shift (λ j. Q (coded_at (x ∷ y ∷ r) j) && eqb n (coded_at (x ∷ y ∷ r) j).time) (last_coded (y ∷ r) - i) i
      ∙ some_same (λ j. Q (coded_at (x ∷ y ∷ r) (suc j)) && eqb n (coded_at (x ∷ y ∷ r) (suc j)).time) (λ j. Q (coded_at (y ∷ r) j) && eqb n (coded_at (y ∷ r) j).time)
      (λ j. ap (λ (z : Coded). Q z && eqb n z.time) (at_suc x y r j)) (last_coded (y ∷ r) - i) i
      ∙ found_drop y r i (omega arith) n

-- ---- the refusal, from the record where it is met to the first

over_up : (m n : ℕ) → m ≤ n → ltb most_runs m ≡ true → ltb most_runs n ≡ true
over_up m n h k = lt-ltb most_runs n (omega (arith, ltb-true most_runs m k))

below-first : (f : ℕ → Bool) (n : ℕ) → ((i : ℕ) → i < suc n → f i ≡ true → f 0 ≡ true) → some_below f (suc n) ≡ f 0
below-first f n h = same _ _ (λ e. let s = below_find f (suc n) e in h s.0 s.1 s.2) (λ e. below_at f (suc n) 0 (omega arith) e)

-- the listed question at the first record
alone : {q : Listed} {p : Text} → Formula q p → (x : Coded) (r : List Coded) → large_at (x ∷ r) p 0 ≡ large_at (x ∷ r) (listed q) 0
unfolding val
alone {q} {p} f x r = ap (ltb most_runs) (runs_ext (λ n. val (x ∷ r) n p 0) (λ n. truth q (x ∷ r) n) (λ n h. formula_set f x r n))

-- a formula that is over nowhere
module _ {q : Listed} {p : Text} (f : Formula q p) (x : Coded) (r : List Coded) (nowhere : (i : ℕ) → over_at (x ∷ r) p i ≡ false)
    (head : large_at (x ∷ r) p 0 ≡ false) where
  quiet : some_below (over_at (x ∷ r) p) (length (x ∷ r)) ≡ over_at (x ∷ r) (listed q) 0
  unfolding some_node
  quiet = below_none (over_at (x ∷ r) p) (length (x ∷ r)) (λ i k. nowhere i) ∙ sym head ∙ alone f x r

-- a formula F(p) where p is over nowhere, and the set of F(p) grows at its low end
module _ {q : Listed} (p : Text) (f : Formula q (finally p)) (S : List Coded → ℕ → Bool) (g : Growing S) (x : Coded) (r : List Coded) (inc : IncreasingCodes (x ∷ r))
    (set : (i : ℕ) → i < length (x ∷ r) → (n : ℕ) → val (x ∷ r) n (finally p) i ≡ S (drop i (x ∷ r)) n) (inner : (i : ℕ) → over_at (x ∷ r) p i ≡ false) where
  by_set : (i : ℕ) → i < length (x ∷ r) → runs_at (x ∷ r) (finally p) i ≡ starts (S (drop i (x ∷ r))) axis
  by_set i h = run-count (λ n. val (x ∷ r) n (finally p) i) ∙ starts_ext (λ n. val (x ∷ r) n (finally p) i) (S (drop i (x ∷ r))) axis (λ n l. set i h n)

  is_large : (i : ℕ) → over_at (x ∷ r) (finally p) i ≡ large_at (x ∷ r) (finally p) i
  unfolding some_node
  is_large i = or_off (large_at (x ∷ r) (finally p) i) (over_at (x ∷ r) p i) (inner i)

  to_first : (i : ℕ) → i < length (x ∷ r) → over_at (x ∷ r) (finally p) i ≡ true → over_at (x ∷ r) (finally p) 0 ≡ true
  to_first i h e =
      is_large 0
      ∙ over_up (runs_at (x ∷ r) (finally p) i) (runs_at (x ∷ r) (finally p) 0)
      (omega (arith, by_set i h, by_set 0 (omega arith), fewer_later S g axis x r inc i h)) (sym (is_large i) ∙ e)

  at_first : some_below (over_at (x ∷ r) (finally p)) (length (x ∷ r)) ≡ over_at (x ∷ r) (listed q) 0
  unfolding some_node
  at_first =
      below-first (over_at (x ∷ r) (finally p)) (length r) (λ i h e. to_first i h e)
      ∙ is_large 0
      ∙ alone f x r

-- a turn, so
at_turn : {P Q : Coded → Bool} {was will : Text} → TurnText P Q was will → {q : Listed} → Formula q (finally (and was (next will)))
    → (x : Coded) (r : List Coded) → IncreasingCodes (x ∷ r) → some_below (over_at (x ∷ r) (finally (and was (next will)))) (length (x ∷ r)) ≡ over_at (x ∷ r) (listed q) 0
unfolding val
at_turn {P} {Q} {was} {will} t f x r inc =
    at_first (and was (next will)) f (turns P Q) (turns_grow P Q t.never) x r inc
    (λ i h n. some_same (val (x ∷ r) n (and was (next will))) (step_at P Q n (x ∷ r)) (turn_body t (x ∷ r) n) (last_coded (x ∷ r) - i) i ∙ from-drop P Q t.never x r i h n)
    (inner_turn t (x ∷ r))

-- and additions
abbrev dose_text : ℕ → Text
dose_text k = and (atom (pigment k)) (atom (compare T eq v))

inner_dose : (k : ℕ) (r : List Coded) (i : ℕ) → over_at r (dose_text k) i ≡ false
unfolding some_node val
inner_dose k r i =
    or_none (few (λ n. coded_adds k (coded_at r i) && eqb n (coded_at r i).time) (point (coded_adds k (coded_at r i)) (coded_at r i).time))
    (or_none (few_const (coded_adds k (coded_at r i))) (few (λ n. eqb n (coded_at r i).time) (point_convex (coded_at r i).time)))

at_dose : (k : ℕ) (x : Coded) (r : List Coded) → IncreasingCodes (x ∷ r)
    → some_below (over_at (x ∷ r) (finally (dose_text k))) (length (x ∷ r)) ≡ over_at (x ∷ r) (listed (dose k)) 0
unfolding val
at_dose k x r inc =
    at_first (dose_text k) of_dose (found (coded_adds k)) (found_grow (coded_adds k)) x r inc (λ i h n. found_drop (coded_adds k) x r i h n) (inner_dose k (x ∷ r))

-- the root is one of the nodes
root_few : (G : Text → Bool) (p : Text) → some_node G (finally p) ≡ false → G (finally p) ≡ false
unfolding some_node
root_few G p h = none_left _ _ h

root_few_all : (G : Text → Bool) (p : Text) → some_node G (globally p) ≡ false → G (globally p) ≡ false
unfolding some_node
root_few_all G p h = none_left _ _ h

-- REFUSAL 8 IS THE SAME
pub formula_eight : {q : Listed} {p : Text} → Formula q p → (x : Coded) (r : List Coded) → IncreasingCodes (x ∷ r) → refused8 (x ∷ r) p ≡ refused8 (x ∷ r) (listed q)
unfolding refused8
formula_eight (of_high {c = c}) x r inc =
    quiet of_high x r (λ i. over-high (x ∷ r) i c) (root_few (λ t. large_at (x ∷ r) t 0) _ (over-high (x ∷ r) 0 c))
formula_eight (of_low {c = c}) x r inc =
    quiet of_low x r (λ i. over-low (x ∷ r) i c) (root_few (λ t. large_at (x ∷ r) t 0) _ (over-low (x ∷ r) 0 c))
formula_eight (of_lowafter {c = c} {k = k}) x r inc =
    quiet of_lowafter x r (λ i. over_lowafter (x ∷ r) i c k) (root_few (λ t. large_at (x ∷ r) t 0) _ (over_lowafter (x ∷ r) 0 c k))
formula_eight (of_capafter {c = c} {k = k}) x r inc =
    quiet of_capafter x r (λ i. over_capafter (x ∷ r) i c k) (root_few_all (λ t. large_at (x ∷ r) t 0) _ (over_capafter (x ∷ r) 0 c k))
formula_eight (of_peaks {c = c}) x r inc = at_turn (a_top_text c) of_peaks x r inc
formula_eight of_cross x r inc = at_turn down_text of_cross x r inc
formula_eight (of_dips {c = c}) x r inc = at_turn (a_dip_text c) of_dips x r inc
formula_eight of_crossup x r inc = at_turn up_text of_crossup x r inc
formula_eight (of_dose {k = k}) x r inc = at_dose k x r inc

-- ---- in the words of the meaning

module _ {q : Listed} {p : Text} (f : Formula q p) where
  -- ASKED ALONE, THE QUESTION AND ITS FORMULA HAVE THE SAME SET
  pub formula_holds : (r : List Reading) → Recorded r → 0 < length r → (n : ℕ) → Holds r (whole n) p 0 ↔ Holds r (whole n) (listed q) 0
  unfolding val
  formula_holds [] h l n = absurd (omega arith)
  formula_holds (x ∷ r) h l n =
      then (back (val_holds (x ∷ r) h.in-range n p 0 (omega arith)))
      (then (λ e. sym same_set ∙ e, λ e. same_set ∙ e) (val_holds (x ∷ r) h.in-range n (listed q) 0 (omega arith)))
    where
      same_set : val (map code (x ∷ r)) n p 0 ≡ val (map code (x ∷ r)) n (listed q) 0
      same_set = formula_set f (code x) (map code r) n

  -- AND THE SAME REFUSAL 8
  pub formula_overfull : (r : List Reading) → Recorded r → 0 < length r → Overfull r p ↔ Overfull r (listed q)
  formula_overfull [] h l = absurd (omega arith)
  formula_overfull (x ∷ r) h l =
      let e = formula_eight f (code x) (map code r) (increasing_codes (x ∷ r) h.increasing) in
      then (back (eight_overfull (x ∷ r) h.in-range l p))
      (then (λ k. sym e ∙ k, λ k. e ∙ k) (eight_overfull (x ∷ r) h.in-range l (listed q)))
