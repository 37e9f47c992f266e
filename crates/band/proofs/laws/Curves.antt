-- Curves within the band and the values of their records: each curve's values are close to those recorded, and all close values are those of a curve.
use Rattle.std.specs.Prelude.{ℕ, suc, ◌+◌, ◌≤◌, ◌≡◌, Bool, true, false, ◌↔◌, List, [], ◌∷◌, map, leb, ℤ, pos, negsuc, ◌+ℤ◌}
use Rattle.std.proofs.Common.{arith, sym, ap, ◌∙◌, subst, leb-true, le-leb}
use Rattle.std.proofs.Math.Path.{refl}
use Rattle.std.proofs.Math.Bool.{So}
use Rattle.number.specs.Axis.{origin, whole}
use Rattle.number.proofs.laws.Boolean.{and_left}
use Rattle.recording.specs.Condition.{when}
use Rattle.recording.specs.Reading.{Reading, Curve, A, B, value, slope, nothing}
use Rattle.recording.specs.Recording.{in_range}
use Rattle.meaning.specs.inner.Recorded.{InRange}
use Rattle.meaning.specs.inner.Coded.{Coded, code, index, coded_value}
use Rattle.meaning.proofs.laws.Whole.{Stands, stands_whole, index-whole, coded-value, stands_le, stands_add, le_test}
use Rattle.meaning.proofs.laws.Listed.{Settled, AllSettled, settled}
use Rattle.meaning.proofs.laws.Pick.{Each, each_make}
use Rattle.band.specs.Band.{NoFarther, Moved, Within}
use Rattle.band.specs.inner.Ends.{values_where}
use Rattle.band.proofs.laws.Values.{Close, Closely}
use Rattle.band.proofs.laws.Lists.{Inner}

-- ---- a number within e, by its index

-- x stands at m over o, y at p over q
pub near_stands : (e : ℕ) (x y : ℤ) (m o p q : ℕ) → Stands x m o → Stands y p q → NoFarther e x y ↔ ((m + q ≤ p + e + o) × (p + o ≤ m + e + q))
near_stands e x y m o p q h k =
    let moves : Stands (pos e) e 0 = omega arith in
    let more-y : Stands (y +ℤ pos e) (p + e) (q + 0) = stands_add y (pos e) p q e 0 k moves in
    let more-x : Stands (x +ℤ pos e) (m + e) (o + 0) = stands_add x (pos e) m o e 0 h moves in
    let up = stands_le x (y +ℤ pos e) m o (p + e) (q + 0) h more-y in
    let down = stands_le y (x +ℤ pos e) p q (m + e) (o + 0) k more-x in (
      λ n. (
        omega (arith, leb-true (m + (q + 0)) (p + e + o) (sym up ∙ (le_test x (y +ℤ pos e)).1 n.0)),
        omega (arith, leb-true (p + (o + 0)) (m + e + q) (sym down ∙ (le_test y (x +ℤ pos e)).1 n.1)),
      ),
      λ n. (
        (le_test x (y +ℤ pos e)).0 (up ∙ le-leb (m + (q + 0)) (p + e + o) (omega (arith, n.0))),
        (le_test y (x +ℤ pos e)).0 (down ∙ le-leb (p + (o + 0)) (m + e + q) (omega (arith, n.1))),
      ),
    )

-- wherever it moves, a value that stands over e stands on the axis
pub near-index : (e : ℕ) (x y : ℤ) (m : ℕ) → Stands x m origin → e ≤ m → NoFarther e x y → Stands y (index y) origin × Close e m (index y)
near-index e x (pos k) m h l n =
    let b = (near_stands e x (pos k) m origin (k + origin) origin h (omega arith)).0 n in
    let u = b.0 in let d = b.1 in
    (omega arith, record { up = omega arith; down = omega arith })
near-index e x (negsuc k) m h l n =
    let b = (near_stands e x (negsuc k) m origin 0 (suc k) h (omega arith)).0 n in
    let u = b.0 in let d = b.1 in
    (omega arith, record { up = omega arith; down = omega arith })

pub close_near : (e : ℕ) (x y : ℤ) (m n : ℕ) → Stands x m origin → Stands y n origin → Close e m n → NoFarther e x y
close_near e x y m n h k c = let u = c.up in let d = c.down in (near_stands e x y m origin n origin h k).1 (omega arith, omega arith)

-- ---- readings in range

-- the values are within the record's limits
abbrev pub Ranged : Reading → Type 0
Ranged x = (c : Curve) → So (in_range (value c x))

pub all_ranged : (r : List Reading) → InRange r → Each Ranged r
all_ranged r h = each_make nothing Ranged r (λ i k. h i k)

range_index : (z : ℤ) → So (in_range z) → (1000000000 ≤ index z) × (index z ≤ 3000000000)
range_index (pos n) h = (omega arith, omega (arith, leb-true n 1000000000 h))
range_index (negsuc n) h = let l = leb-true n 999999999 (and_left (leb n 999999999) _ h) in (omega arith, omega arith)

-- how far a value within the record's limits may move and stay on the axis
abbrev pub margin : ℕ
margin = 1000000000

module _ (e : ℕ) (narrow : e ≤ margin) where
  ranged_inner : (c : Curve) (x : Reading) → Ranged x → Inner e (coded_value c (code x))
  ranged_inner c x h =
      let b = range_index (value c x) (h c) in let l = b.0 in let u = b.1 in let q = coded-value c x in (omega arith, omega arith)

  -- where a moved reading stands
  pub moved_index : (c : Curve) (x y : Reading) → Ranged x → Moved e x y → Stands (value c y) (index (value c y)) origin × Close e (coded_value c (code x)) (index (value c y))
  moved_index c x y h m = near-index e (value c x) (value c y) (coded_value c (code x)) (settled x h c) (ranged_inner c x h).0 (m.near c)

  moved_settled : (x y : Reading) → Ranged x → Moved e x y → Settled y
  moved_settled x y h m c = subst (λ (n : ℕ). Stands (value c y) n origin) (sym (coded-value c y)) (moved_index c x y h m).0

  pub within_settled : (r s : List Reading) → Each Ranged r → Within e r s → AllSettled s
  within_settled [] [] h w = tt
  within_settled [] (y ∷ s) h w = absurd w
  within_settled (x ∷ r) [] h w = absurd w
  within_settled (x ∷ r) (y ∷ s) h w = (moved_settled x y h.0 w.0, within_settled r s h.1 w.1)

  -- ---- the values of the records of which P holds, which goes by the time

  module _ (P : Coded → Bool) (timely : (x y : Coded) → x.time ≡ y.time → P x ≡ P y) (c : Curve) where
    pub all_inner : (r : List Reading) → Each Ranged r → Each (Inner e) (values_where P c (map code r))
    all_inner [] h = tt
    all_inner (x ∷ r) h = by (P (code x)) (all_inner r h.1)
      where
        by : (b : Bool) → Each (Inner e) (values_where P c (map code r)) → Each (Inner e) (when b (coded_value c (code x)) (values_where P c (map code r)))
        by true a = (ranged_inner c x h.0, a)
        by false a = a

    -- A CURVE WITHIN THE BAND HAS CLOSE VALUES
    pub within-values : (r s : List Reading) → Each Ranged r → Within e r s → Closely e (values_where P c (map code r)) (values_where P c (map code s))
    within-values [] [] h w = tt
    within-values [] (y ∷ s) h w = absurd w
    within-values (x ∷ r) [] h w = absurd w
    within-values (x ∷ r) (y ∷ s) h w =
        subst (λ (b : Bool). Closely e (when (P (code x)) (coded_value c (code x)) (values_where P c (map code r))) (when b (coded_value c (code y)) (values_where P c (map code s))))
        (timely (code x) (code y) (ap (λ (t : ℕ). t + origin) (sym w.0.same_time)))
        (by (P (code x)) (within-values r s h.1 w.1))
      where
        by : (b : Bool) → Closely e (values_where P c (map code r)) (values_where P c (map code s))
            → Closely e (when b (coded_value c (code x)) (values_where P c (map code r))) (when b (coded_value c (code y)) (values_where P c (map code s)))
        by true rest =
            (subst (λ (n : ℕ). Close e (coded_value c (code x)) n) (sym (coded-value c y)) (moved_index c x y h.0 w.0).1, rest)
        by false rest = rest

    -- ---- a curve with given values

    -- the reading with the value z of c
    put : Curve → ℤ → Reading → Reading
    put A z x = record { time = x.time; a = z; b = x.b; slope_a = x.slope_a; slope_b = x.slope_b; pigment = x.pigment }
    put B z x = record { time = x.time; a = x.a; b = z; slope_a = x.slope_a; slope_b = x.slope_b; pigment = x.pigment }

    pub record Curved (r : List Reading) (v : List ℕ) : Type 0 where
      pub curve : List Reading
      pub within : Within e r curve
      pub has : values_where P c (map code curve) ≡ v

    unmoved : (x : Reading) → Ranged x → Moved e x x
    unmoved x h = record {
      same_time = refl;
      same_slope = λ d. refl;
      same_pigment = refl;
      near = λ d. close_near e (value d x) (value d x) (coded_value d (code x)) (coded_value d (code x)) (settled x h d) (settled x h d) (record { up = omega arith; down = omega arith });
    }

    put-near : (d : Curve) (x : Reading) → Ranged x → (n : ℕ) → Close e (coded_value d (code x)) n → Moved e x (put d (whole n) x)
    unfolding put
    put-near A x h n k = record {
      same_time = refl;
      same_slope = λ d. same d;
      same_pigment = refl;
      near = λ d. near d;
    }
      where
        same : (d : Curve) → slope d (record { time = x.time; a = whole n; b = x.b; slope_a = x.slope_a; slope_b = x.slope_b; pigment = x.pigment }) ≡ slope d x
        same A = refl
        same B = refl

        near : (d : Curve) → NoFarther e (value d x) (value d (record { time = x.time; a = whole n; b = x.b; slope_a = x.slope_a; slope_b = x.slope_b; pigment = x.pigment }))
        near A = close_near e x.a (whole n) (index x.a) n (settled x h A) (stands_whole n) k
        near B = (unmoved x h).near B
    put-near B x h n k = record {
      same_time = refl;
      same_slope = λ d. same d;
      same_pigment = refl;
      near = λ d. near d;
    }
      where
        same : (d : Curve) → slope d (record { time = x.time; a = x.a; b = whole n; slope_a = x.slope_a; slope_b = x.slope_b; pigment = x.pigment }) ≡ slope d x
        same A = refl
        same B = refl

        near : (d : Curve) → NoFarther e (value d x) (value d (record { time = x.time; a = x.a; b = whole n; slope_a = x.slope_a; slope_b = x.slope_b; pigment = x.pigment }))
        near A = (unmoved x h).near A
        near B = close_near e x.b (whole n) (index x.b) n (settled x h B) (stands_whole n) k

    put-time : (d : Curve) (z : ℤ) (x : Reading) → (put d z x).time ≡ x.time
    unfolding put
    put-time A z x = refl
    put-time B z x = refl

    put-value : (d : Curve) (n : ℕ) (x : Reading) → coded_value d (code (put d (whole n) x)) ≡ n
    unfolding put
    put-value A n x = index-whole n
    put-value B n x = index-whole n

    -- CLOSE VALUES ARE THOSE OF A CURVE WITHIN THE BAND
    pub curved : (r : List Reading) → Each Ranged r → (v : List ℕ) → Closely e (values_where P c (map code r)) v → Curved r v
    curved [] h [] k = record { curve = []; within = tt; has = refl }
    curved [] h (n ∷ v) k = absurd k
    curved (x ∷ r) h v k = by (P (code x)) refl v k (λ w q. curved r h.1 w q)
      where
        keeps : (n : ℕ) → P (code (put c (whole n) x)) ≡ P (code x)
        keeps n = timely (code (put c (whole n) x)) (code x) (ap (λ (t : ℕ). t + origin) (put-time c (whole n) x))

        by : (b : Bool) → P (code x) ≡ b → (v : List ℕ) → Closely e (when b (coded_value c (code x)) (values_where P c (map code r))) v
            → ((w : List ℕ) → Closely e (values_where P c (map code r)) w → Curved r w) → Curved (x ∷ r) v
        by false p v k rest =
            let s : Curved r v = rest v k in
            record {
              curve = x ∷ s.curve;
              within = (unmoved x h.0, s.within);
              has = ap (λ (b : Bool). when b (coded_value c (code x)) (values_where P c (map code s.curve))) p ∙ s.has;
            }
        by true p [] k rest = absurd k
        by true p (n ∷ v) k rest =
            let s : Curved r v = rest v k.1 in
            record {
              curve = put c (whole n) x ∷ s.curve;
              within = (put-near c x h.0 n k.0, s.within);
              has =
                  ap (λ (b : Bool). when b (coded_value c (code (put c (whole n) x))) (values_where P c (map code s.curve))) (keeps n ∙ p)
                  ∙ ap (λ (m : ℕ). m ∷ values_where P c (map code s.curve)) (put-value c n x)
                  ∙ ap (λ (w : List ℕ). n ∷ w) s.has;
            }
