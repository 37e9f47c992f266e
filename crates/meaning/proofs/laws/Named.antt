-- A text looks at the times and at what it names: it means the same of two recordings that agree in these.
use Rattle.std.specs.Prelude.{ℕ, zero, suc, ◌-◌, min, ◌≡◌, Bool, true, false, ◌&&◌, ◌||◌, not, cond, eqb, ◌↔◌, length, ℤ, pos, ◌+ℤ◌, ◌≤ℤ◌, ◌<ℤ◌}
use Rattle.std.proofs.Common.{arith, sym, ap, ap₂, ◌∙◌, subst}
use Rattle.std.proofs.Math.Path.{refl}
use Rattle.std.proofs.Math.Bool.{So}
use mathlib.Core.List.{List, [], ◌∷◌, map, Memᴰ}
use Rattle.std.proofs.lemmas.List.{length-map}
use Rattle.std.specs.Int.Signed.{le_z}
use Rattle.number.specs.Axis.{whole}
use Rattle.recording.specs.Condition.{Condition, when, pick_from, pick, some_of}
use Rattle.recording.specs.Reading.{Reading, Curve, A, B, value, falls, rises, adds, crossed, edge, last_of_those, turn, top, a_top, a_dip, a_crossing, an_upcrossing, event, added, nothing}
use Rattle.grammar.specs.Syntax.{of, T, Atom, compare, A-to-B, fall, rise, pigment, Listed, high, low, lowafter, capafter, peaks, dips, cross, crossup, dose, ampl, gaps, steps, lag, Text, atom, listed, or, and, neg, finally, globally, next, until, weak_until}
use Rattle.meaning.specs.Listed.{record_at, SomeRecord, EachRecord, TimeOf, After, Says}
use Rattle.meaning.specs.Meaning.{last_of, reading_at, operand, Relates, AtomSays, Finally, Globally, Until, WeakUntil, Holds}
use Rattle.meaning.specs.Overfull.{children, Node, itself, of_child, IsSet, Overfull, TooManyTops, Differences, of_gaps, of_steps, of_lag}
use Rattle.meaning.specs.Alike.{picked_times}
use Rattle.meaning.specs.Named.{Channel, curve, additions, atom_names, listed_names, Names, SameChannel, Agree, Agreeing, agree_none, agree_more, SameMeaning}
use Rattle.meaning.specs.inner.Truth.{some_pair, some_step}
use Rattle.number.proofs.laws.Boolean.{then, back, either, both}
use Rattle.meaning.proofs.laws.Alike as alike

-- a map of readings that changes none of these channels
pub map_agreeing : (N : Channel → Type 0) (f : Reading → Reading) → ((x : Reading) → Agree N x (f x)) → (r : List Reading) → Agreeing N r (map f r)
map_agreeing N f h [] = agree_none
map_agreeing N f h (x ∷ r) = agree_more (h x) (map_agreeing N f h r)

-- ---- the nodes of a text name what it names

pub node_of : {x q p : Text} → Node x q → Node q p → Node x p
node_of n itself = n
node_of n (of_child m k) = of_child m (node_of n k)

-- the channels N are among them what the text names
abbrev pub Covers : (Channel → Type 0) → Text → Type 0
Covers N p = (n : Channel) → Names p n → N n

covers-node : {N : Channel → Type 0} {q p : Text} → Node q p → Covers N p → Covers N q
covers-node m h n k = h n (k.0, node_of k.1 m, k.2)

-- the first child, and the second
covers-first : {N : Channel → Type 0} {p c : Text} {cs : List Text} → children p ≡ c ∷ cs → Covers N p → Covers N c
covers-first {c = c} e h = covers-node (of_child (subst (Memᴰ c) (sym e) (Memᴰ.head refl)) itself) h

covers-second : {N : Channel → Type 0} {p c d : Text} {cs : List Text} → children p ≡ d ∷ (c ∷ cs) → Covers N p → Covers N c
covers-second {c = c} e h = covers-node (of_child (subst (Memᴰ c) (sym e) (Memᴰ.tail (Memᴰ.head refl))) itself) h

-- the condition takes place alike where these channels agree
abbrev pub Blind : (Channel → Type 0) → Condition Reading → Type 0
Blind N ρ = (b b' : List Reading) (x x' : Reading) (a a' : List Reading) → Agreeing N b b' → Agree N x x' → Agreeing N a a' → ρ b x a ≡ ρ b' x' a'

module _ {N : Channel → Type 0} where
  -- ---- readings that agree

  agree_itself : (x : Reading) → Agree N x x
  agree_itself x = record { time = refl; same = λ n h. same n }
    where
      same : (n : Channel) → SameChannel n x x
      same (curve c) = (refl, refl)
      same additions = refl

  module _ {x y : Reading} (h : Agree N x y) where
    same_falls : (c : Curve) → N (curve c) → falls c x ≡ falls c y
    same_falls c n = ap (λ (s : ℕ). eqb s 0) (h.same (curve c) n).1

    same_rises : (c : Curve) → N (curve c) → rises c x ≡ rises c y
    same_rises c n = ap (λ (s : ℕ). eqb s 2) (h.same (curve c) n).1

    same_crossed : N (curve A) → N (curve B) → crossed x ≡ crossed y
    same_crossed a b = ap₂ le_z (h.same (curve A) a).0 (h.same (curve B) b).0

    same_adds : N additions → (k : ℕ) → adds k x ≡ adds k y
    same_adds n zero = refl
    same_adds n (suc k) = ap (λ (p : ℕ). eqb p (suc k)) (h.same additions n)

    -- a claim on a value, and on the time
    of-value : (c : Curve) → N (curve c) → (P : ℤ → Type 0) → P (value c x) ↔ P (value c y)
    of-value c n P = let e = (h.same (curve c) n).0 in (subst P e, subst P (sym e))

    of-time : (P : ℤ → Type 0) → P (pos x.time) ↔ P (pos y.time)
    of-time P = (subst (λ (t : ℕ). P (pos t)) h.time, subst (λ (t : ℕ). P (pos t)) (sym h.time))

    of_test : {e f : Bool} → e ≡ f → So e ↔ So f
    of_test e = (λ s. sym e ∙ s, λ s. e ∙ s)

    atom_agree : (k : Atom) → ((n : Channel) → Memᴰ n (atom_names k) → N n) → (z : ℤ) → AtomSays k x z ↔ AtomSays k y z
    atom_agree (compare (of c) ρ o) n z = of-value c (n (curve c) (Memᴰ.head refl)) (λ t. Relates ρ t (operand o z))
    atom_agree (compare T ρ o) n z = of-time (λ t. Relates ρ t (operand o z))
    atom_agree (A-to-B ρ) n z =
        let a = (h.same (curve A) (n (curve A) (Memᴰ.head refl))).0 in
        let b = (h.same (curve B) (n (curve B) (Memᴰ.tail (Memᴰ.head refl)))).0 in (
          λ s. subst (λ (t : ℤ). Relates ρ t y.b) a (subst (λ (t : ℤ). Relates ρ x.a t) b s),
          λ s. subst (λ (t : ℤ). Relates ρ t x.b) (sym a) (subst (λ (t : ℤ). Relates ρ y.a t) (sym b) s),
        )
    atom_agree (fall c) n z = of_test (same_falls c (n (curve c) (Memᴰ.head refl)))
    atom_agree (rise c) n z = of_test (same_rises c (n (curve c) (Memᴰ.head refl)))
    atom_agree (pigment k) n z = of_test (same_adds (n additions (Memᴰ.head refl)) k)

  -- ---- conditions that look at these channels only

  module _ (P : Reading → Bool) (p : (x y : Reading) → Agree N x y → P x ≡ P y) where
    edge_blind : Blind N (edge P)
    edge_blind b b' x x' a a' agree_none h k = refl
    edge_blind b b' x x' a a' (agree_more {x = y} {y = y'} g bs) h k = ap₂ (λ (e f : Bool). e && not f) (p x x' h) (p y y' g)

    module _ (Q : Reading → Bool) (q : (x y : Reading) → Agree N x y → Q x ≡ Q y) where
      last_blind : {b b' : List Reading} → Agreeing N b b' → last_of_those (λ y. P y || Q y) P b ≡ last_of_those (λ y. P y || Q y) P b'
      last_blind agree_none = refl
      last_blind (agree_more {x = y} {y = y'} g bs) = λ i. cond (p y y' g i || q y y' g i) (p y y' g i) (last_blind bs i)

      turn_blind : Blind N (turn P Q)
      turn_blind b b' x x' a a' agree_none h k = refl
      turn_blind b b' x x' a a' (agree_more {x = y} {y = y'} g bs) h k = λ i. q x x' h i && (not (q y y' g i) && last_blind (agree_more g bs) i)

  pub top_blind : (c : Curve) → N (curve c) → Blind N (top c)
  top_blind c n = turn_blind (rises c) (λ x y h. same_rises h c n) (falls c) (λ x y h. same_falls h c n)

  dip_blind : (c : Curve) → N (curve c) → Blind N (event (a_dip c))
  dip_blind c n = turn_blind (falls c) (λ x y h. same_falls h c n) (rises c) (λ x y h. same_rises h c n)

  crossing_blind : N (curve A) → N (curve B) → Blind N (event a_crossing)
  crossing_blind a b = edge_blind crossed (λ x y h. same_crossed h a b)

  upcrossing_blind : N (curve A) → N (curve B) → Blind N (event an_upcrossing)
  upcrossing_blind a b = edge_blind (λ x. not (crossed x)) (λ x y h. ap not (same_crossed h a b))

  added_blind : N additions → (k : ℕ) → Blind N (added k)
  added_blind n k b b' x x' a a' bs h as' = same_adds h n k

  -- they pick records at the same times
  times-from : (ρ : Condition Reading) → Blind N ρ → {b b' r s : List Reading} → Agreeing N b b' → Agreeing N r s
      → map (λ (x : Reading). x.time) (pick_from ρ b r) ≡ map (λ (x : Reading). x.time) (pick_from ρ b' s)
  times-from ρ h b agree_none = refl
  times-from ρ h {b} {b'} ab (agree_more {x} {y} {r} {s} e rs) =
      ap (λ (k : Bool). map (λ (y : Reading). y.time) (when k x (pick_from ρ (x ∷ b) r))) (h b b' x y r s ab e rs)
      ∙ go (ρ b' y s) (times-from ρ h (agree_more e ab) rs)
    where
      go : (k : Bool) → map (λ (y : Reading). y.time) (pick_from ρ (x ∷ b) r) ≡ map (λ (y : Reading). y.time) (pick_from ρ (y ∷ b') s)
          → map (λ (y : Reading). y.time) (when k x (pick_from ρ (x ∷ b) r)) ≡ map (λ (y : Reading). y.time) (when k y (pick_from ρ (y ∷ b') s))
      go true f = λ i. e.time i ∷ f i
      go false f = f

  -- ---- recordings that agree

  pub length_agreeing : {r s : List Reading} → Agreeing N r s → length r ≡ length s
  length_agreeing agree_none = refl
  length_agreeing (agree_more e rs) = ap suc (length_agreeing rs)

  record_agreeing : {r s : List Reading} → Agreeing N r s → (i : ℕ) → Agree N (record_at r i) (record_at s i)
  record_agreeing agree_none i = agree_itself nothing
  record_agreeing (agree_more e rs) zero = e
  record_agreeing (agree_more e rs) (suc i) = record_agreeing rs i

  module _ {r s : List Reading} (rs : Agreeing N r s) where
    reading_agreeing : (i : ℕ) → Agree N (reading_at r i) (reading_at s i)
    reading_agreeing i =
        subst (λ (n : ℕ). Agree N (reading_at r i) (record_at s (min i (n - 1)))) (length_agreeing rs) (record_agreeing rs (min i (last_of r)))

    module _ (Q : Reading → Type 0) (is : (x y : Reading) → Agree N x y → Q x ↔ Q y) where
      some_record : SomeRecord r Q ↔ SomeRecord s Q
      some_record =
          let l = length_agreeing rs in (
            λ f. let h = f.1 in (f.0, omega arith, (is _ _ (record_agreeing rs f.0)).0 f.2),
            λ f. let h = f.1 in (f.0, omega arith, (is _ _ (record_agreeing rs f.0)).1 f.2),
          )

      each_record : EachRecord r Q ↔ EachRecord s Q
      each_record =
          let l = length_agreeing rs in
          (λ f i h. (is _ _ (record_agreeing rs i)).0 (f i (omega arith)), λ f i h. (is _ _ (record_agreeing rs i)).1 (f i (omega arith)))

    pub same_times : (ρ : Condition Reading) → Blind N ρ → picked_times ρ r ≡ picked_times ρ s
    same_times ρ h = times-from ρ h agree_none rs

    -- ---- listed questions

    module _ (z : ℤ) where
      time_agree : (ρ : Condition Reading) → Blind N ρ → TimeOf ρ r z ↔ TimeOf ρ s z
      time_agree ρ h = alike.through _ _ (ap (some_of (alike.is-time z)) (same_times ρ h)) (alike.of_times r z ρ) (alike.of_times s z ρ)

      says_agree : (q : Listed) → ((n : Channel) → Memᴰ n (listed_names q) → N n) → Says q r z ↔ Says q s z
      unfolding Says
      says_agree (high c) n = some_record (λ x. z ≤ℤ value c x) (λ x y h. of-value h c (n (curve c) (Memᴰ.head refl)) (λ t. z ≤ℤ t))
      says_agree (low c) n = some_record (λ x. value c x ≤ℤ z) (λ x y h. of-value h c (n (curve c) (Memᴰ.head refl)) (λ t. t ≤ℤ z))
      says_agree (lowafter c k) n = some_record (λ x. After k x × (value c x ≤ℤ z))
          (λ x y h. both (of-time h (λ t. whole k <ℤ t)) (of-value h c (n (curve c) (Memᴰ.head refl)) (λ t. t ≤ℤ z)))
      says_agree (capafter c k) n = each_record (λ x. After k x → value c x ≤ℤ z)
          (λ x y h. let t = of-time h (λ t. whole k <ℤ t) in let v = of-value h c (n (curve c) (Memᴰ.head refl)) (λ t. t ≤ℤ z) in
          (λ f a. v.0 (f (t.1 a)), λ f a. v.1 (f (t.0 a))))
      says_agree (peaks c) n = time_agree (event (a_top c)) (top_blind c (n (curve c) (Memᴰ.head refl)))
      says_agree (dips c) n = time_agree (event (a_dip c)) (dip_blind c (n (curve c) (Memᴰ.head refl)))
      says_agree cross n = time_agree (event a_crossing) (crossing_blind (n (curve A) (Memᴰ.head refl)) (n (curve B) (Memᴰ.tail (Memᴰ.head refl))))
      says_agree crossup n = time_agree (event an_upcrossing) (upcrossing_blind (n (curve A) (Memᴰ.head refl)) (n (curve B) (Memᴰ.tail (Memᴰ.head refl))))
      says_agree (dose k) n = time_agree (added k) (added_blind (n additions (Memᴰ.head refl)) k)
      says_agree (ampl c) n =
          let m = n (curve c) (Memᴰ.head refl) in
          let down : (w : ℤ) → SomeRecord r (λ x. value c x ≤ℤ w) ↔ SomeRecord s (λ x. value c x ≤ℤ w) = λ w. some_record (λ x. value c x ≤ℤ w) (λ x y h. of-value h c m (λ t. t ≤ℤ w)) in
          let up : (w : ℤ) → SomeRecord r (λ x. (w +ℤ z) ≤ℤ value c x) ↔ SomeRecord s (λ x. (w +ℤ z) ≤ℤ value c x) = λ w. some_record (λ x. (w +ℤ z) ≤ℤ value c x) (λ x y h. of-value h c m (λ t. (w +ℤ z) ≤ℤ t)) in
          (λ f. (f.0, (down f.0).0 f.1, (up f.0).0 f.2), λ f. (f.0, (down f.0).1 f.1, (up f.0).1 f.2))
      says_agree (gaps c) n = alike.through _ _ (ap (some_pair (alike.is_apart z)) (same_times (top c) (top_blind c (n (curve c) (Memᴰ.head refl))))) (alike.of_gaps r z c) (alike.of_gaps s z c)
      says_agree (steps c) n = alike.through _ _ (ap (some_step (alike.is_apart z)) (same_times (top c) (top_blind c (n (curve c) (Memᴰ.head refl))))) (alike.of_steps r z c) (alike.of_steps s z c)
      says_agree lag n =
          let a = same_times (top A) (top_blind A (n (curve A) (Memᴰ.head refl))) in
          let b = same_times (top B) (top_blind B (n (curve B) (Memᴰ.tail (Memᴰ.head refl)))) in
          alike.through _ _ (λ i. some_of (λ t. some_of (alike.is_apart z t) (b i)) (a i)) (alike.of_lag r z) (alike.of_lag s z)

    same_tops : (c : Curve) → N (curve c) → length (pick (top c) r) ≡ length (pick (top c) s)
    same_tops c n =
        sym (length-map (pick (top c) r) (λ x. x.time)) ∙ ap length (same_times (top c) (top_blind c n)) ∙ length-map (pick (top c) s) (λ x. x.time)

-- ---- texts

-- F, G, U and W of claims that are the same at each record
module _ {P P' : ℕ → Type 0} (p : (i : ℕ) → P i ↔ P' i) where
  same_finally : (i : ℕ) → Finally P i ↔ Finally P' i
  same_finally i = (λ f. (f.0, f.1, (p f.0).0 f.2), λ f. (f.0, f.1, (p f.0).1 f.2))

  same_globally : (i : ℕ) → Globally P i ↔ Globally P' i
  same_globally i = (λ f j h. (p j).0 (f j h), λ f j h. (p j).1 (f j h))

  module _ {Q Q' : ℕ → Type 0} (q : (i : ℕ) → Q i ↔ Q' i) where
    same_until : (i : ℕ) → Until P Q i ↔ Until P' Q' i
    same_until i = (
      λ f. (f.0, f.1, (q f.0).0 f.2, λ k h l. (p k).0 (f.3 k h l)),
      λ f. (f.0, f.1, (q f.0).1 f.2, λ k h l. (p k).1 (f.3 k h l)),
    )

    same_weak_until : (i : ℕ) → WeakUntil P Q i ↔ WeakUntil P' Q' i
    same_weak_until i = either (same_globally i) (same_until i)

module _ {N : Channel → Type 0} {r s : List Reading} (rs : Agreeing N r s) where
  module _ (z : ℤ) where
    holds_agree : (p : Text) → Covers N p → (i : ℕ) → Holds r z p i ↔ Holds s z p i
    unfolding Holds
    holds_agree (atom k) h i = atom_agree (reading_agreeing rs i) k (λ n m. h n (atom k, itself, m)) z
    holds_agree (listed q) h i = says_agree rs z q (λ n m. h n (listed q, itself, m))
    holds_agree (or p q) h i = either (holds_agree p (covers-first refl h) i) (holds_agree q (covers-second refl h) i)
    holds_agree (and p q) h i = both (holds_agree p (covers-first refl h) i) (holds_agree q (covers-second refl h) i)
    holds_agree (neg p) h i = let a = holds_agree p (covers-first refl h) i in (λ f x. f (a.1 x), λ f x. f (a.0 x))
    holds_agree (finally p) h i = same_finally (holds_agree p (covers-first refl h)) i
    holds_agree (globally p) h i = same_globally (holds_agree p (covers-first refl h)) i
    holds_agree (next p) h i = holds_agree p (covers-first refl h) (suc i)
    holds_agree (until p q) h i = same_until (holds_agree p (covers-first refl h)) (holds_agree q (covers-second refl h)) i
    holds_agree (weak_until p q) h i = same_weak_until (holds_agree p (covers-first refl h)) (holds_agree q (covers-second refl h)) i

  module _ (p : Text) (h : Covers N p) where
    -- the sets of the nodes are the same
    set_agree : (q : Text) → Node q p → (i : ℕ) (f : ℕ → Bool) → IsSet f r q i ↔ IsSet f s q i
    set_agree q m i f =
        let a : (z : ℤ) → Holds r z q i ↔ Holds s z q i = λ z. holds_agree z q (covers-node m h) i in
        (λ s m l. then (s m l) (a (whole m)), λ s m l. then (s m l) (back (a (whole m))))

    eight_agree : Overfull r p ↔ Overfull s p
    eight_agree =
        let l = length_agreeing rs in (
          λ o. let k = o.inside in record {
            node = o.node;
            of_text = o.of_text;
            at = o.at;
            inside = omega arith;
            first = o.first;
            set = o.set;
            is-set = (set_agree o.node o.of_text o.at o.set).0 o.is-set;
            many = o.many;
          },
          λ o. let k = o.inside in record {
            node = o.node;
            of_text = o.of_text;
            at = o.at;
            inside = omega arith;
            first = o.first;
            set = o.set;
            is-set = (set_agree o.node o.of_text o.at o.set).1 o.is-set;
            many = o.many;
          },
        )

    -- a question that takes differences names the curve
    names_curve : (q : Listed) (c : Curve) → Differences q c → Memᴰ (curve c) (listed_names q)
    names_curve q c of_gaps = Memᴰ.head refl
    names_curve q c of_steps = Memᴰ.head refl
    names_curve q A of_lag = Memᴰ.head refl
    names_curve q B of_lag = Memᴰ.tail (Memᴰ.head refl)

    tops_agree : (q : Listed) (c : Curve) → Node (listed q) p → Differences q c → length (pick (top c) r) ≡ length (pick (top c) s)
    tops_agree q c m d = same_tops rs c (h (curve c) (listed q, m, names_curve q c d))

    nine_agree : TooManyTops r p ↔ TooManyTops s p
    nine_agree = (
      λ t. let e = tops_agree t.question t.curve t.of_text t.over in let m = t.many in
          record { question = t.question; of_text = t.of_text; curve = t.curve; over = t.over; many = omega arith },
      λ t. let e = tops_agree t.question t.curve t.of_text t.over in let m = t.many in
          record { question = t.question; of_text = t.of_text; curve = t.curve; over = t.over; many = omega arith },
    )

    -- A TEXT THAT NAMES NO MORE THAN IN WHAT TWO RECORDINGS AGREE MEANS THE SAME OF BOTH
    pub agreeing_same : SameMeaning r s p
    agreeing_same = record { truth = λ z. holds_agree z p h; eight = eight_agree; nine = nine_agree }
