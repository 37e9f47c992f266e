-- The ends, over lists of numbers: a run of `bands_of` holds exactly the numbers with which a test passes of every list within e, and of at least one.
use Rattle.std.specs.Prelude.{ℕ, ◌+◌, ◌-◌, ◌*◌, ◌≤◌, ◌<◌, max, min, ◌≡◌, refl, Bool, ◌↔◌, List, [], ◌∷◌, map, leb}
use Rattle.std.proofs.Common.{arith, sym, ap, ◌∙◌, ⊎_elim, leb-true, le-leb}
use Rattle.std.proofs.Math.Path.{fun_ext}
use Rattle.std.proofs.Math.Bool.{So}
use Rattle.std.proofs.lemmas.Bool.{false≢true}
use Rattle.number.specs.Axis.{origin, axis}
use Rattle.number.proofs.laws.Order.{less_or_not}
use Rattle.recording.specs.Condition.{some_of}
use Rattle.meaning.specs.inner.Truth.{all_of}
use Rattle.band.specs.Means.{InPart, Bands}
use Rattle.band.specs.inner.Ends.{greatest_of, least_of, to_greatest, from_least, from_greatest, spread_of, to_spread}
use Rattle.meaning.proofs.laws.Pick.{Each}
use Rattle.band.proofs.laws.Values.{Closely, closely_map, greatest_close, least_close, least_greatest, all-between, greatest_in, least_in, greatest_map, least-map, Upward, Downward, some_greatest, some_least, all_greatest}

-- ---- what a question asks of the values with the number at index n put in

-- some value is at least n; some is at most n; all are at most n
abbrev pub reaches : ℕ → List ℕ → Bool
reaches n v = some_of (λ x. leb n x) v

abbrev pub sinks : ℕ → List ℕ → Bool
sinks n v = some_of (λ x. leb x n) v

abbrev pub stays : ℕ → List ℕ → Bool
stays n v = all_of (λ x. leb x n) v

-- two values lie n apart, or farther
abbrev pub lie_apart : ℕ → List ℕ → Bool
lie_apart n v = some_of (λ x. some_of (λ y. leb (x + n) (y + origin)) v) v

-- ---- every list within e, and some list

abbrev pub EveryList : ℕ → List ℕ → (List ℕ → Bool) → Type 0
EveryList e v T = (w : List ℕ) → Closely e v w → So (T w)

abbrev pub SomeList : ℕ → List ℕ → (List ℕ → Bool) → Type 0
SomeList e v T = (w : List ℕ) × Closely e v w × So (T w)

-- the two runs hold these numbers
pub record Tells (e : ℕ) (v : List ℕ) (T : ℕ → List ℕ → Bool) (b : Bands) : Type 0 where
  pub certain : (n : ℕ) → n < axis → InPart b.certain n ↔ EveryList e v (T n)
  pub possible : (n : ℕ) → n < axis → InPart b.possible n ↔ SomeList e v (T n)

-- a value that stays on the axis wherever it moves
abbrev pub Inner : ℕ → ℕ → Type 0
Inner e x = (e ≤ x) × (x + e < axis)

-- ---- lists within e of a list

module _ (e : ℕ) where
  none_else : (P : List ℕ → Type 0) → P [] → (w : List ℕ) → Closely e [] w → P w
  none_else P p [] c = p
  none_else P p (y ∷ w) c = absurd c

  some_else : (P : List ℕ → Type 0) (x : ℕ) (v : List ℕ) → ((y : ℕ) (w : List ℕ) → Closely e (x ∷ v) (y ∷ w) → P (y ∷ w)) → (w : List ℕ) → Closely e (x ∷ v) w → P w
  some_else P x v f [] c = absurd c
  some_else P x v f (y ∷ w) c = f y w c

  -- all lowered by e, all raised by e
  lowered : (v : List ℕ) → Each (Inner e) v → Closely e v (map (λ x. x - e) v)
  lowered v a = closely_map e (λ x. x - e) (Inner e) (λ x h. let l = h.0 in record { up = omega arith; down = omega arith }) v a

  raised : (v : List ℕ) → Each (Inner e) v → Closely e v (map (λ x. x + e) v)
  raised v a = closely_map e (λ x. x + e) (Inner e) (λ x h. record { up = omega arith; down = omega arith }) v a

  module _ (x : ℕ) (v : List ℕ) where
    greatest_lowered : greatest_of (x - e) (map (λ x. x - e) v) ≡ greatest_of x v - e
    greatest_lowered = greatest_map (λ x. x - e) (λ x y. omega arith) x v

    greatest_raised : greatest_of (x + e) (map (λ x. x + e) v) ≡ greatest_of x v + e
    greatest_raised = greatest_map (λ x. x + e) (λ x y. omega arith) x v

    least_lowered : least_of (x - e) (map (λ x. x - e) v) ≡ least_of x v - e
    least_lowered = least-map (λ x. x - e) (λ x y. omega arith) x v

    least_raised : least_of (x + e) (map (λ x. x + e) v) ≡ least_of x v + e
    least_raised = least-map (λ x. x + e) (λ x y. omega arith) x v

-- ---- the tests, by the greatest and the least

module _ (n : ℕ) where
  above : Upward (λ x. leb n x)
  above x y h t = le-leb n y (omega (arith, leb-true n x t))

  below : Downward (λ x. leb x n)
  below x y h t = le-leb x n (omega (arith, leb-true y n t))

  module _ (x : ℕ) (v : List ℕ) where
    pub reaches_is : So (reaches n (x ∷ v)) ↔ (n ≤ greatest_of x v)
    reaches_is = (
      λ h. leb-true n (greatest_of x v) (sym (some_greatest (λ y. leb n y) above x v) ∙ h),
      λ h. some_greatest (λ y. leb n y) above x v ∙ le-leb n (greatest_of x v) h,
    )

    pub sinks_is : So (sinks n (x ∷ v)) ↔ (least_of x v ≤ n)
    sinks_is = (
      λ h. leb-true (least_of x v) n (sym (some_least (λ y. leb y n) below x v) ∙ h),
      λ h. some_least (λ y. leb y n) below x v ∙ le-leb (least_of x v) n h,
    )

    pub stays_is : So (stays n (x ∷ v)) ↔ (greatest_of x v ≤ n)
    stays_is = (
      λ h. leb-true (greatest_of x v) n (sym (all_greatest (λ y. leb y n) below x v) ∙ h),
      λ h. all_greatest (λ y. leb y n) below x v ∙ le-leb (greatest_of x v) n h,
    )

    lie_by : lie_apart n (x ∷ v) ≡ leb (least_of x v + n) (greatest_of x v + origin)
    lie_by =
        ap (λ (Q : ℕ → Bool). some_of Q (x ∷ v)) (fun_ext inner)
        ∙ some_least (λ y. leb (y + n) (greatest_of x v + origin))
        (λ a b h t. le-leb (a + n) (greatest_of x v + origin) (omega (arith, leb-true (b + n) (greatest_of x v + origin) t))) x v
      where
        inner : (y : ℕ) → some_of (λ z. leb (y + n) (z + origin)) (x ∷ v) ≡ leb (y + n) (greatest_of x v + origin)
        inner y = some_greatest (λ z. leb (y + n) (z + origin)) (λ a b h t. le-leb (y + n) (b + origin) (omega (arith, leb-true (y + n) (a + origin) t))) x v

    pub lie_is : So (lie_apart n (x ∷ v)) ↔ (least_of x v + n ≤ greatest_of x v + origin)
    lie_is = (
      λ h. leb-true (least_of x v + n) (greatest_of x v + origin) (sym lie_by ∙ h),
      λ h. lie_by ∙ le-leb (least_of x v + n) (greatest_of x v + origin) h,
    )

-- ---- no value

module _ (e : ℕ) (Q : ℕ → ℕ → Bool) where
  -- what needs a value is neither certain nor possible
  pub none_some : Tells e [] (λ n w. some_of (Q n) w) (record { certain = Rattle.band.specs.Means.empty; possible = Rattle.band.specs.Means.empty })
  none_some = record {
    certain = λ n h. (λ a. absurd a, λ f. false≢true (f [] tt));
    possible = λ n h. (λ a. absurd a, λ t. none_else e (λ w. So (some_of (Q n) w) → ⊥) false≢true t.0 t.1 t.2);
  }

-- ---- the four kinds

module _ (e : ℕ) where
  pub tells_greatest : (v : List ℕ) → Each (Inner e) v → Tells e v reaches (to_greatest e v)
  tells_greatest [] a = none_some e (λ n x. leb n x)
  tells_greatest (x ∷ v) a = record {
    certain = λ n h. (
      λ p. let k = p.1 in some_else e (λ w. So (reaches n w)) x v
          (λ y w c. let d = (greatest_close e x v y w c).up in let g = (greatest_in (Inner e) x v a).0 in (reaches_is n y w).1 (omega arith)),
      λ f. (omega arith, omega (arith, (reaches_is n (x - e) (map (λ x. x - e) v)).0 (f (map (λ x. x - e) (x ∷ v)) (lowered e (x ∷ v) a)), greatest_lowered e x v)),
    );
    possible = λ n h. (
      λ p. let k = p.1 in (map (λ x. x + e) (x ∷ v), raised e (x ∷ v) a, (reaches_is n (x + e) (map (λ x. x + e) v)).1 (omega (arith, greatest_raised e x v))),
      λ t. some_else e (λ w. So (reaches n w) → (0 ≤ n) × (n ≤ greatest_of x v + e)) x v
          (λ y w c s. let d = (greatest_close e x v y w c).down in (omega arith, omega (arith, (reaches_is n y w).0 s))) t.0 t.1 t.2,
    );
  }

  pub tells_least : (v : List ℕ) → Each (Inner e) v → Tells e v sinks (from_least e v)
  tells_least [] a = none_some e (λ n x. leb x n)
  tells_least (x ∷ v) a = record {
    certain = λ n h. (
      λ p. let k = p.0 in some_else e (λ w. So (sinks n w)) x v
          (λ y w c. let d = (least_close e x v y w c).down in (sinks_is n y w).1 (omega arith)),
      λ f. (omega (arith, (sinks_is n (x + e) (map (λ x. x + e) v)).0 (f (map (λ x. x + e) (x ∷ v)) (raised e (x ∷ v) a)), least_raised e x v), omega arith),
    );
    possible = λ n h. (
      λ p. let k = p.0 in (map (λ x. x - e) (x ∷ v), lowered e (x ∷ v) a, (sinks_is n (x - e) (map (λ x. x - e) v)).1 (omega (arith, least_lowered e x v))),
      λ t. some_else e (λ w. So (sinks n w) → (least_of x v - e ≤ n) × (n ≤ axis - 1)) x v
          (λ y w c s. let d = (least_close e x v y w c).up in (omega (arith, (sinks_is n y w).0 s), omega arith)) t.0 t.1 t.2,
    );
  }

  pub tells_cap : (v : List ℕ) → Each (Inner e) v → Tells e v stays (from_greatest e v)
  tells_cap [] a = record {
    certain = λ n h. (λ p. none_else e (λ w. So (stays n w)) refl, λ f. (omega arith, omega arith));
    possible = λ n h. (λ p. ([], tt, refl), λ t. (omega arith, omega arith));
  }
  tells_cap (x ∷ v) a = record {
    certain = λ n h. (
      λ p. let k = p.0 in some_else e (λ w. So (stays n w)) x v
          (λ y w c. let d = (greatest_close e x v y w c).down in (stays_is n y w).1 (omega arith)),
      λ f. (omega (arith, (stays_is n (x + e) (map (λ x. x + e) v)).0 (f (map (λ x. x + e) (x ∷ v)) (raised e (x ∷ v) a)), greatest_raised e x v), omega arith),
    );
    possible = λ n h. (
      λ p. let k = p.0 in (map (λ x. x - e) (x ∷ v), lowered e (x ∷ v) a, (stays_is n (x - e) (map (λ x. x - e) v)).1 (omega (arith, greatest_lowered e x v))),
      λ t. some_else e (λ w. So (stays n w) → (greatest_of x v - e ≤ n) × (n ≤ axis - 1)) x v
          (λ y w c s. let d = (greatest_close e x v y w c).up in (omega (arith, (stays_is n y w).0 s), omega arith)) t.0 t.1 t.2,
    );
  }

  -- ---- `ampl`

  -- the nearest that the values come: each moves to the same middle, or the outer ones inward by e
  module _ (x : ℕ) (v : List ℕ) (a : Each (Inner e) (x ∷ v)) where
    abbrev inward : ℕ → ℕ
    inward y = max (least_of x v + e) (min y (greatest_of x v - e))

    inward_close : Closely e (x ∷ v) (map inward (x ∷ v))
    inward_close =
        let g = (greatest_in (Inner e) x v a).0 in
        closely_map e inward (λ y. (least_of x v ≤ y) × (y ≤ greatest_of x v))
        (λ y h. let l = h.0 in let u = h.1 in record { up = omega arith; down = omega arith }) (x ∷ v) (all-between x v)

    inward_in : (w : List ℕ) → Each (λ z. (least_of x v + e ≤ z) × (z ≤ max (least_of x v + e) (greatest_of x v - e))) (map inward w)
    inward_in [] = tt
    inward_in (y ∷ w) = ((omega arith, omega arith), inward_in w)

    inward-lie_apart : (n : ℕ) → So (lie_apart n (map inward (x ∷ v))) → n ≤ origin + (spread_of x v - 2 * e)
    inward-lie_apart n s =
        let g = (greatest_in (Inner e) x v a).0 in
        let h = (lie_is n (inward x) (map inward v)).0 s in
        let u = (greatest_in (λ z. (least_of x v + e ≤ z) × (z ≤ max (least_of x v + e) (greatest_of x v - e))) (inward x) (map inward v) (inward_in (x ∷ v))).1 in
        let l = (least_in (λ z. (least_of x v + e ≤ z) × (z ≤ max (least_of x v + e) (greatest_of x v - e))) (inward x) (map inward v) (inward_in (x ∷ v))).0 in
        let o = least_greatest x v in
        omega arith

  -- the farthest that they come: the least and the greatest are two records, which move apart
  pub record Apart (x : ℕ) (v : List ℕ) : Type 0 where
    pub first : ℕ
    pub others : List ℕ
    pub close : Closely e (x ∷ v) (first ∷ others)
    pub lowest : least_of first others ≤ least_of x v - e
    pub highest : greatest_of x v + e ≤ greatest_of first others

  -- by the place of x: at the top, at the bottom, or between two others
  apart_by : (x y : ℕ) (v : List ℕ) → Each (Inner e) (x ∷ (y ∷ v)) → (x < greatest_of y v → least_of y v < x → Apart y v) → Apart x (y ∷ v)
  apart_by x y v a rest = ⊎_elim
      (λ below. ⊎_elim
      (λ over.
      let p : Apart y v = rest below over in
      let l = p.lowest in let g = p.highest in
      record {
        first = x;
        others = p.first ∷ p.others;
        close = (record { up = omega arith; down = omega arith }, p.close);
        lowest = omega arith;
        highest = omega arith;
      })
      (λ h. record {
        first = x - e;
        others = map (λ z. z + e) (y ∷ v);
        close = (let l = a.0.0 in record { up = omega arith; down = omega arith }, raised e (y ∷ v) a.1);
        lowest = omega arith;
        highest = omega (arith, greatest_raised e y v, least_greatest y v);
      }) (less_or_not (least_of y v) x))
      (λ h. record {
        first = x + e;
        others = map (λ z. z - e) (y ∷ v);
        close = (record { up = omega arith; down = omega arith }, lowered e (y ∷ v) a.1);
        lowest = omega (arith, least_lowered e y v, least_greatest y v);
        highest = omega arith;
      }) (less_or_not x (greatest_of y v))

  apart : (x y : ℕ) (v : List ℕ) → Each (Inner e) (x ∷ (y ∷ v)) → Apart x (y ∷ v)
  apart x y [] a = apart_by x y [] a (λ h k. absurd (omega arith))
  apart x y (z ∷ v) a = apart_by x y (z ∷ v) a (λ h k. apart y z v a.1)

  pub tells_spread : (v : List ℕ) → Each (Inner e) v → Tells e v lie_apart (to_spread e v)
  tells_spread [] a = none_lie_apart
    where
      none_lie_apart : Tells e [] lie_apart (to_spread e [])
      none_lie_apart = record {
        certain = λ n h. (λ q. absurd q, λ f. false≢true (f [] tt));
        possible = λ n h. (λ q. absurd q, λ t. none_else e (λ w. So (lie_apart n w) → ⊥) false≢true t.0 t.1 t.2);
      }
  tells_spread (x ∷ []) a = record {
    certain = λ n h. (
      λ p. let k = p.1 in some_else e (λ w. So (lie_apart n w)) x [] (λ y w c. let o = least_greatest y w in (lie_is n y w).1 (omega arith)),
      λ f. (omega arith, omega (arith, (lie_is n x []).0 (f (x ∷ []) (record { up = omega arith; down = omega arith }, tt)))),
    );
    possible = λ n h. (
      λ p. let k = p.1 in (x ∷ [], (record { up = omega arith; down = omega arith }, tt), (lie_is n x []).1 (omega arith)),
      λ t. some_else e (λ w. So (lie_apart n w) → (0 ≤ n) × (n ≤ origin)) x [] alone t.0 t.1 t.2,
    );
  }
    where
      alone : {n : ℕ} (y : ℕ) (w : List ℕ) → Closely e (x ∷ []) (y ∷ w) → So (lie_apart n (y ∷ w)) → (0 ≤ n) × (n ≤ origin)
      alone {n} y [] c s = (omega arith, omega (arith, (lie_is n y []).0 s))
      alone {n} y (z ∷ w) c s = absurd c.1
  tells_spread (x ∷ (y ∷ v)) a = record {
    certain = λ n h. (
      λ p. let k = p.1 in some_else e (λ w. So (lie_apart n w)) x (y ∷ v)
          (λ z w c.
          let u = (greatest_close e x (y ∷ v) z w c).up in
          let d = (least_close e x (y ∷ v) z w c).down in
          let o = least_greatest z w in let i = least_greatest x (y ∷ v) in
          (lie_is n z w).1 (omega arith)),
      λ f. (omega arith, inward-lie_apart x (y ∷ v) a n (f (map (inward x (y ∷ v) a) (x ∷ (y ∷ v))) (inward_close x (y ∷ v) a))),
    );
    possible = λ n h. (
      λ p.
          let k = p.1 in
          let q : Apart x (y ∷ v) = apart x y v a in
          let l = q.lowest in let g = q.highest in let i = least_greatest x (y ∷ v) in let m = (least_in (Inner e) x (y ∷ v) a).0 in
          (q.first ∷ q.others, q.close, (lie_is n q.first q.others).1 (omega arith)),
      λ t. some_else e (λ w. So (lie_apart n w) → InPart (to_spread e (x ∷ (y ∷ v))).possible n) x (y ∷ v)
          (λ z w c s.
          let u = (greatest_close e x (y ∷ v) z w c).down in
          let d = (least_close e x (y ∷ v) z w c).up in
          let i = least_greatest x (y ∷ v) in
          (omega arith, omega (arith, (lie_is n z w).0 s))) t.0 t.1 t.2,
    );
  }
