-- Recordings with the same observation are the same to every plain text: each listed question asks for the observation only, and the nodes of a plain text are plain.
use Rattle.std.specs.Prelude.{ℕ, ◌+◌, ◌<◌, ◌≡◌, refl, Bool, true, false, ◌&&◌, ◌||◌, ◌↔◌, ltb, length, ℤ, pos, ◌+ℤ◌, ◌-ℤ◌, ◌≤ℤ◌, ◌<ℤ◌}
use Rattle.std.proofs.Common.{arith, sym, ap, ◌∙◌, true≢false, ⊎_elim, ltb-true, lt-ltb}
use Rattle.std.proofs.Math.Path.{subst}
use Rattle.std.proofs.Math.Bool.{So}
use Rattle.std.proofs.lemmas.Bool.{false≢true}
use mathlib.Core.List.Memᴰ
use mathlib.Core.List.{List, [], ◌∷◌, ◌++◌, map, Memᴰ}
use Rattle.std.proofs.Math.Dec.{not_T}
use Rattle.std.proofs.lemmas.List.{length-map}
use Rattle.std.proofs.Math.IntN.{ℤ_discrete}
use Rattle.std.specs.Int.Signed.{le_z, lt_z, lt_z_no, clash_ℤ}
use Rattle.number.specs.Axis.{origin, whole}
use Rattle.recording.specs.Condition.{Condition, pick, some_of}
use Rattle.recording.specs.Reading.{Reading, Curve, A, B, value, top, Event, a_top, a_dip, a_crossing, an_upcrossing, event, added, nothing}
use Rattle.grammar.specs.Syntax.{Listed, high, low, lowafter, capafter, peaks, dips, cross, crossup, dose, ampl, gaps, steps, lag, Text, atom, listed, or, and, neg, finally, globally, next, until, weak_until}
use Rattle.meaning.specs.Listed.{record_at, SomeRecord, EachRecord, TimeOf, time_of, After, between, Says}
use Rattle.meaning.specs.Meaning.{reading_at, AtomSays, Holds}
use Rattle.meaning.specs.Overfull.{children, Node, itself, of_child, Overfull, TooManyTops}
use Rattle.grammar.specs.Size.{temporal, after_time, after_times}
use Rattle.meaning.specs.Alike.{mark_index, Plain, picked_times, Alike, Same}
use Rattle.meaning.specs.inner.Truth.{some_pair, some_step}
use Rattle.number.proofs.laws.Boolean.{then, back, either, both, so_and, none_left, or_right, off}
use Rattle.meaning.proofs.laws.Whole.{le_test, lt_test, lt_index, stands_whole}
use Rattle.meaning.proofs.laws.Pick.{some_at, some_find, key_find, key_at, pair_find, pair_at, step_find, step_at}
use Rattle.meaning.proofs.laws.Listed.{stands_time}

-- ---- questions on the times of picked records

-- a decision as a Bool
decided : {P : Type 0} → Dec P → Bool
decided (yes p) = true
decided (no p) = false

so_decided : {P : Type 0} (d : Dec P) → So (decided d) ↔ P
unfolding decided
so_decided (yes p) = (λ e. p, λ q. refl)
so_decided (no p) = (λ e. absurd (false≢true e), λ q. absurd (p q))

-- t is z; t − s is z
pub is-time : ℤ → ℕ → Bool
is-time z t = decided (ℤ_discrete (pos t) z)

pub is_apart : ℤ → ℕ → ℕ → Bool
is_apart z s t = decided (ℤ_discrete (pos t -ℤ pos s) z)

module _ (r : List Reading) (z : ℤ) where
  time-at : (i : ℕ) → So (is-time z (record_at r i).time) ↔ (time_of (record_at r i) ≡ z)
  unfolding is-time
  time-at i = so_decided (ℤ_discrete (time_of (record_at r i)) z)

  apart_at : (i j : ℕ) → So (is_apart z (record_at r i).time (record_at r j).time) ↔ (between r i j ≡ z)
  unfolding is_apart
  apart_at i j = so_decided (ℤ_discrete (between r i j) z)

  pub of_times : (ρ : Condition Reading) → So (some_of (is-time z) (picked_times ρ r)) ↔ TimeOf ρ r z
  of_times ρ = (
    λ h. let f = key_find nothing ρ (λ x. x.time) (is-time z) [] r h in (f.0, f.1, (time-at f.0).0 f.2),
    λ f. key_at nothing ρ (λ x. x.time) (is-time z) [] r f.0 f.1 ((time-at f.0).1 f.2),
  )

  pub of_gaps : (c : Curve) → So (some_pair (is_apart z) (picked_times (top c) r)) ↔ Says (gaps c) r z
  unfolding Says
  of_gaps c = (
    λ h. let f = pair_find nothing (top c) (λ x. x.time) (is_apart z) [] r h in (f.0, f.1, f.2, f.3, f.4, (apart_at f.0 f.1).0 f.5),
    λ f. pair_at nothing (top c) (λ x. x.time) (is_apart z) [] r f.0 f.1 f.2 f.3 f.4 ((apart_at f.0 f.1).1 f.5),
  )

  pub of_steps : (c : Curve) → So (some_step (is_apart z) (picked_times (top c) r)) ↔ Says (steps c) r z
  unfolding Says
  of_steps c = (
    λ h. let f = step_find nothing (top c) (λ x. x.time) (is_apart z) [] r h in (f.0, f.1, (f.2, f.5), f.3, f.4, (apart_at f.0 f.1).0 f.6),
    λ f. step_at nothing (top c) (λ x. x.time) (is_apart z) [] r f.0 f.1 f.2.0 f.3 f.4 f.2.1 ((apart_at f.0 f.1).1 f.5),
  )

  pub of_lag : So (some_of (λ t. some_of (is_apart z t) (picked_times (top B) r)) (picked_times (top A) r)) ↔ Says lag r z
  unfolding Says
  of_lag = (
    λ h.
        let f = key_find nothing (top A) (λ x. x.time) (λ t. some_of (is_apart z t) (picked_times (top B) r)) [] r h in
        let g = key_find nothing (top B) (λ x. x.time) (is_apart z (record_at r f.0).time) [] r f.2 in
        (f.0, g.0, f.1, g.1, (apart_at f.0 g.0).0 g.2),
    λ f. key_at nothing (top A) (λ x. x.time) (λ t. some_of (is_apart z t) (picked_times (top B) r)) [] r f.0 f.2
        (key_at nothing (top B) (λ x. x.time) (is_apart z (record_at r f.0).time) [] r f.1 f.3 ((apart_at f.0 f.1).1 f.4)),
  )

pub through : {P Q : Type 0} (e f : Bool) → e ≡ f → So e ↔ P → So f ↔ Q → P ↔ Q
through e f h p q = (λ x. q.0 (sym h ∙ p.1 x), λ x. p.0 (h ∙ q.1 x))

-- ---- listed questions

module _ {marks : List ℕ} {r s : List Reading} (l : Alike marks r s) where
  -- not above z
  capped : (k : ℕ) (c : Curve) (z : ℤ) (r s : List Reading)
      → (SomeRecord s (λ x. After k x × (z <ℤ value c x)) → SomeRecord r (λ x. After k x × (z <ℤ value c x)))
      → EachRecord r (λ x. After k x → value c x ≤ℤ z) → EachRecord s (λ x. After k x → value c x ≤ℤ z)
  capped k c z r s found cap i h a = lt_z_no (not_T (lt_z z (value c (record_at s i))) (λ t.
      let f = found (i, h, (a, record { lt = t })) in clash_ℤ f.2.1 (cap f.0 f.1 f.2.0)))

  times_alike : (ρ : Condition Reading) → picked_times ρ r ≡ picked_times ρ s → (z : ℤ) → TimeOf ρ r z ↔ TimeOf ρ s z
  times_alike ρ e z = through (some_of (is-time z) (picked_times ρ r)) (some_of (is-time z) (picked_times ρ s)) (ap (some_of (is-time z)) e) (of_times r z ρ) (of_times s z ρ)

  event_alike : (e : Event) (z : ℤ) → TimeOf (event e) r z ↔ TimeOf (event e) s z
  event_alike e = times_alike (event e) (l.events e)

  says_alike : (q : Listed) → ((k : ℕ) → Memᴰ k (after_time q) → Memᴰ k (map mark_index marks)) → (z : ℤ) → Says q r z ↔ Says q s z
  unfolding Says
  says_alike (high c) m z = l.up c z
  says_alike (low c) m z = l.down c z
  says_alike (lowafter c k) m z = l.down_after k (m k (Memᴰ.head refl)) c z
  says_alike (capafter c k) m z =
      let a = l.up_after k (m k (Memᴰ.head refl)) c z in
      (capped k c z r s a.1, capped k c z s r a.0)
  says_alike (peaks c) m z = event_alike (a_top c) z
  says_alike (dips c) m z = event_alike (a_dip c) z
  says_alike cross m z = event_alike a_crossing z
  says_alike crossup m z = event_alike an_upcrossing z
  says_alike (dose k) m z = times_alike (added k) (l.additions k) z
  says_alike (ampl c) m z = (
    λ h. (h.0, (l.down c h.0).0 h.1, (l.up c (h.0 +ℤ z)).0 h.2),
    λ h. (h.0, (l.down c h.0).1 h.1, (l.up c (h.0 +ℤ z)).1 h.2),
  )
  says_alike (gaps c) m z = through (some_pair (is_apart z) (picked_times (top c) r)) (some_pair (is_apart z) (picked_times (top c) s))
      (ap (some_pair (is_apart z)) (l.events (a_top c))) (of_gaps r z c) (of_gaps s z c)
  says_alike (steps c) m z = through (some_step (is_apart z) (picked_times (top c) r)) (some_step (is_apart z) (picked_times (top c) s))
      (ap (some_step (is_apart z)) (l.events (a_top c))) (of_steps r z c) (of_steps s z c)
  says_alike lag m z =
      let a = l.events (a_top A) in let b = l.events (a_top B) in
      through (some_of (λ t. some_of (is_apart z t) (picked_times (top B) r)) (picked_times (top A) r)) (some_of (λ t. some_of (is_apart z t) (picked_times (top B) s)) (picked_times (top A) s))
      (λ i. some_of (λ t. some_of (is_apart z t) (b i)) (a i)) (of_lag r z) (of_lag s z)

-- ---- the nodes of a plain text

two_propositional : (p q c : Text) → Memᴰ c (p ∷ q ∷ []) → (temporal p || temporal q) ≡ false → temporal c ≡ false
two_propositional p q c m h = ⊎_elim (λ e. ap temporal e ∙ none_left (temporal p) (temporal q) h)
    (λ m. ap temporal (Memᴰ.eq_of_singleton m) ∙ off (or_right (temporal p) (temporal q)) h) (Memᴰ.cases_cons m)

child_propositional : (p c : Text) → Memᴰ c (children p) → temporal p ≡ false → temporal c ≡ false
child_propositional (atom k) c m h = absurd (Memᴰ.not-nil m)
child_propositional (listed q) c m h = absurd (Memᴰ.not-nil m)
child_propositional (or p q) c m h = two_propositional p q c m h
child_propositional (and p q) c m h = two_propositional p q c m h
child_propositional (neg p) c m h = ap temporal (Memᴰ.eq_of_singleton m) ∙ h
child_propositional (finally p) c m h = absurd (true≢false h)
child_propositional (globally p) c m h = absurd (true≢false h)
child_propositional (next p) c m h = absurd (true≢false h)
child_propositional (until p q) c m h = absurd (true≢false h)
child_propositional (weak_until p q) c m h = absurd (true≢false h)

two-marked : (p q c : Text) → Memᴰ c (p ∷ q ∷ []) → (k : ℕ) → Memᴰ k (after_times c) → Memᴰ k (after_times p ++ after_times q)
two-marked p q c m k n = ⊎_elim (λ e. Memᴰ.append_left (after_times q) (subst (λ (t : Text). Memᴰ k (after_times t)) e n))
    (λ m. Memᴰ.append_right (after_times p) (subst (λ (t : Text). Memᴰ k (after_times t)) (Memᴰ.eq_of_singleton m) n)) (Memᴰ.cases_cons m)

one-marked : (p c : Text) → Memᴰ c (p ∷ []) → (k : ℕ) → Memᴰ k (after_times c) → Memᴰ k (after_times p)
one-marked p c m k n = subst (λ (t : Text). Memᴰ k (after_times t)) (Memᴰ.eq_of_singleton m) n

child_marked : (p c : Text) → Memᴰ c (children p) → (k : ℕ) → Memᴰ k (after_times c) → Memᴰ k (after_times p)
child_marked (atom a) c m k n = absurd (Memᴰ.not-nil m)
child_marked (listed q) c m k n = absurd (Memᴰ.not-nil m)
child_marked (or p q) c m k n = two-marked p q c m k n
child_marked (and p q) c m k n = two-marked p q c m k n
child_marked (neg p) c m k n = one-marked p c m k n
child_marked (finally p) c m k n = one-marked p c m k n
child_marked (globally p) c m k n = one-marked p c m k n
child_marked (next p) c m k n = one-marked p c m k n
child_marked (until p q) c m k n = two-marked p q c m k n
child_marked (weak_until p q) c m k n = two-marked p q c m k n

plain_child : {marks : List ℕ} {p c : Text} → Memᴰ c (children p) → Plain marks p → Plain marks c
plain_child {marks} {p} {c} m h = record {
  propositional = child_propositional p c m h.propositional;
  marked = λ k n. h.marked k (child_marked p c m k n);
}

pub plain-node : {marks : List ℕ} {q p : Text} → Node q p → Plain marks p → Plain marks q
plain-node itself h = h
plain-node (of_child m n) h = plain-node n (plain_child m h)

-- ---- texts

module _ {marks : List ℕ} {r s : List Reading} (l : Alike marks r s) where
  holds_alike : (p : Text) → Plain marks p → (z : ℤ) → Holds r z p 0 ↔ Holds s z p 0
  unfolding Holds
  holds_alike (atom k) h z = (subst (λ (x : Reading). AtomSays k x z) l.first, subst (λ (x : Reading). AtomSays k x z) (sym l.first))
  holds_alike (listed q) h z = says_alike l q h.marked z
  holds_alike (or p q) h z =
      either (holds_alike p (plain_child (Memᴰ.head refl) h) z) (holds_alike q (plain_child (Memᴰ.tail (Memᴰ.head refl)) h) z)
  holds_alike (and p q) h z =
      both (holds_alike p (plain_child (Memᴰ.head refl) h) z) (holds_alike q (plain_child (Memᴰ.tail (Memᴰ.head refl)) h) z)
  holds_alike (neg p) h z = let a = holds_alike p (plain_child (Memᴰ.head refl) h) z in (λ f x. f (a.1 x), λ f x. f (a.0 x))
  holds_alike (finally p) h z = absurd (true≢false h.propositional)
  holds_alike (globally p) h z = absurd (true≢false h.propositional)
  holds_alike (next p) h z = absurd (true≢false h.propositional)
  holds_alike (until p q) h z = absurd (true≢false h.propositional)
  holds_alike (weak_until p q) h z = absurd (true≢false h.propositional)

flipped : {marks : List ℕ} {r s : List Reading} → Alike marks r s → Alike marks s r
flipped l = record {
  first = sym l.first;
  up = λ c z. back (l.up c z);
  down = λ c z. back (l.down c z);
  up_after = λ k m c z. back (l.up_after k m c z);
  down_after = λ k m c z. back (l.down_after k m c z);
  events = λ e. sym (l.events e);
  additions = λ k. sym (l.additions k);
}

overfull_alike : {marks : List ℕ} {r s : List Reading} → Alike marks r s → (p : Text) → Plain marks p → 0 < length s → Overfull r p → Overfull s p
overfull_alike {marks} {r} {s} l p h long o = record {
  node = o.node;
  of_text = o.of_text;
  at = 0;
  inside = long;
  first = λ e. refl;
  set = o.set;
  is-set = λ n k. then (o.is-set n k) (then (here o.at (o.first h.propositional) n) (holds_alike l o.node (plain-node o.of_text h) (whole n)));
  many = o.many;
}
  where
    here : (i : ℕ) → i ≡ 0 → (n : ℕ) → Holds r (whole n) o.node i ↔ Holds r (whole n) o.node 0
    here i e n = (subst (Holds r (whole n) o.node) e, subst (Holds r (whole n) o.node) (sym e))

tops_alike : {marks : List ℕ} {r s : List Reading} → Alike marks r s → (p : Text) → TooManyTops r p → TooManyTops s p
tops_alike {marks} {r} {s} l p t = record {
  question = t.question;
  of_text = t.of_text;
  curve = t.curve;
  over = t.over;
  many =
      let a = length-map (pick (top t.curve) r) (λ x. x.time) in
      let b = length-map (pick (top t.curve) s) (λ x. x.time) in
      let e = ap length (l.events (a_top t.curve)) in
      omega (arith, t.many);
}

-- RECORDINGS WITH THE SAME OBSERVATION ARE THE SAME TO EVERY PLAIN TEXT
pub alike_same : {marks : List ℕ} {r s : List Reading} → Alike marks r s → 0 < length r → 0 < length s → (p : Text) → Plain marks p → Same r s p
alike_same l longr longs p h = record {
  truth = holds_alike l p h;
  eight = (overfull_alike l p h longs, overfull_alike (flipped l) p h longr);
  nine = (tops_alike l p, tops_alike (flipped l) p);
}

-- ---- how an observation is seen to be the same: by tests that some record passes

pub some_alike : (P : Reading → Bool) (Q : Reading → Type 0) → ((x : Reading) → So (P x) ↔ Q x) → (r s : List Reading) → some_of P r ≡ some_of P s
    → SomeRecord r Q ↔ SomeRecord s Q
some_alike P Q is r s e = (found r s (λ h. sym e ∙ h), found s r (λ h. e ∙ h))
  where
    found : (r s : List Reading) → (So (some_of P r) → So (some_of P s)) → SomeRecord r Q → SomeRecord s Q
    found r s h f =
        let g = some_find nothing P s (h (some_at nothing P r f.0 f.1 ((is (record_at r f.0)).1 f.2))) in
        (g.0, g.1, (is (record_at s g.0)).0 g.2)

-- T > k for a mark
pub after_mark : (m : ℕ) (x : Reading) → So (ltb m x.time) ↔ After (mark_index m) x
after_mark m x = then shift (lt_index (whole (mark_index m)) (time_of x) (mark_index m) (x.time + origin) (stands_whole (mark_index m)) (stands_time x))
  where
    shift : So (ltb m x.time) ↔ So (ltb (mark_index m) (x.time + origin))
    shift = (
      λ h. lt-ltb (mark_index m) (x.time + origin) (omega (arith, ltb-true m x.time h)),
      λ h. lt-ltb m x.time (omega (arith, ltb-true (mark_index m) (x.time + origin) h)),
    )

-- a mark's index comes from a mark
mark_of : (marks : List ℕ) (k : ℕ) → Memᴰ k (map mark_index marks) → (m : ℕ) × Memᴰ m marks × (mark_index m ≡ k)
mark_of [] k e = absurd (Memᴰ.not-nil e)
mark_of (m ∷ marks) k e = ⊎_elim (λ q. (m, Memᴰ.head refl, sym q))
    (λ n. let f = mark_of marks k n in (f.0, Memᴰ.tail f.1, f.2)) (Memᴰ.cases_cons e)

-- the tests that tell how far a curve goes up and down, and the picked records, come out the same
pub record Tested (marks : List ℕ) (r s : List Reading) : Type 0 where
  pub first : reading_at r 0 ≡ reading_at s 0
  pub up : (c : Curve) (z : ℤ) → some_of (λ x. le_z z (value c x)) r ≡ some_of (λ x. le_z z (value c x)) s
  pub down : (c : Curve) (z : ℤ) → some_of (λ x. le_z (value c x) z) r ≡ some_of (λ x. le_z (value c x) z) s
  pub up_after : (m : ℕ) → Memᴰ m marks → (c : Curve) (z : ℤ)
      → some_of (λ x. ltb m x.time && lt_z z (value c x)) r ≡ some_of (λ x. ltb m x.time && lt_z z (value c x)) s
  pub down_after : (m : ℕ) → Memᴰ m marks → (c : Curve) (z : ℤ)
      → some_of (λ x. ltb m x.time && le_z (value c x) z) r ≡ some_of (λ x. ltb m x.time && le_z (value c x) z) s
  pub events : (e : Event) → pick (event e) r ≡ pick (event e) s
  pub additions : (k : ℕ) → pick (added k) r ≡ pick (added k) s

pub tested_alike : {marks : List ℕ} {r s : List Reading} → Tested marks r s → Alike marks r s
tested_alike {marks} {r} {s} t = record {
  first = t.first;
  up = λ c z. some_alike (λ x. le_z z (value c x)) (λ x. z ≤ℤ value c x) (λ x. le_test z (value c x)) r s (t.up c z);
  down = λ c z. some_alike (λ x. le_z (value c x) z) (λ x. value c x ≤ℤ z) (λ x. le_test (value c x) z) r s (t.down c z);
  up_after = λ k e c z. up k (mark_of marks k e) c z;
  down_after = λ k e c z. down k (mark_of marks k e) c z;
  events = λ e. ap (map (λ (x : Reading). x.time)) (t.events e);
  additions = λ k. ap (map (λ (x : Reading). x.time)) (t.additions k);
}
  where
    up : (k : ℕ) → ((m : ℕ) × Memᴰ m marks × (mark_index m ≡ k)) → (c : Curve) (z : ℤ)
        → SomeRecord r (λ x. After k x × (z <ℤ value c x)) ↔ SomeRecord s (λ x. After k x × (z <ℤ value c x))
    up k f c z = subst (λ (k : ℕ). SomeRecord r (λ x. After k x × (z <ℤ value c x)) ↔ SomeRecord s (λ x. After k x × (z <ℤ value c x))) f.2
        (some_alike (λ x. ltb f.0 x.time && lt_z z (value c x)) (λ x. After (mark_index f.0) x × (z <ℤ value c x))
        (λ x. then (so_and (ltb f.0 x.time) (lt_z z (value c x))) (both (after_mark f.0 x) (lt_test z (value c x)))) r s (t.up_after f.0 f.1 c z))

    down : (k : ℕ) → ((m : ℕ) × Memᴰ m marks × (mark_index m ≡ k)) → (c : Curve) (z : ℤ)
        → SomeRecord r (λ x. After k x × (value c x ≤ℤ z)) ↔ SomeRecord s (λ x. After k x × (value c x ≤ℤ z))
    down k f c z = subst (λ (k : ℕ). SomeRecord r (λ x. After k x × (value c x ≤ℤ z)) ↔ SomeRecord s (λ x. After k x × (value c x ≤ℤ z))) f.2
        (some_alike (λ x. ltb f.0 x.time && le_z (value c x) z) (λ x. After (mark_index f.0) x × (value c x ≤ℤ z))
        (λ x. then (so_and (ltb f.0 x.time) (le_z (value c x) z)) (both (after_mark f.0 x) (le_test (value c x) z))) r s (t.down_after f.0 f.1 c z))
