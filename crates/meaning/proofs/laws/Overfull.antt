-- The refusals 8 and 9 as Bools are those of Overfull: by the nodes of the text, and because the number of runs depends on membership only.
use Rattle.std.specs.Prelude.{ℕ, zero, suc, ◌<◌, ◌≡◌, Bool, cond, ◌||◌, ◌↔◌, length}
use Rattle.std.proofs.Common.{arith, sym, ap, ◌∙◌, ⊎_elim, ltb-true, lt-ltb}
use Rattle.std.proofs.Math.Decide.{dec_lt}
use Rattle.std.proofs.Math.Path.{refl, subst}
use Rattle.std.proofs.Math.Bool.{true, false, So}
use Rattle.std.proofs.lemmas.Bool.{false≢true}
use mathlib.Core.List.Memᴰ
use mathlib.Core.List.{List, [], ◌∷◌, map, Memᴰ}
use Rattle.std.proofs.Math.ListN.{length-map}
use Rattle.runs.specs.Runs.{run_count, most_runs}
use Rattle.recording.specs.Condition.{pick}
use Rattle.recording.specs.Reading.{Reading, Curve, A, B, top, a_top}
use Rattle.grammar.specs.Syntax.{Listed, high, low, lowafter, capafter, peaks, dips, cross, crossup, dose, ampl, gaps, steps, lag, Text, atom, listed, or, and, neg, finally, globally, next, until, weak_until}
use Rattle.meaning.specs.Overfull.{children, Node, itself, of_child, IsSet, Overfull, Differences, of_gaps, of_steps, of_lag, TooManyTops}
use Rattle.grammar.specs.Size.{temporal}
use Rattle.tops.specs.Tops.{most_tops}
use Rattle.meaning.specs.inner.Recorded.{InRange}
use Rattle.meaning.specs.inner.Coded.{code, coded_times}
use Rattle.meaning.specs.inner.Truth.{val, some_node, runs_at, large_at, over_at, some_below, refused8, many_tops, asks_too_many, of_listed, refused9}
use Rattle.number.proofs.laws.Boolean.{same, or_left, or_right, or_cases, or_none}
use Rattle.meaning.proofs.laws.Listed.{all_settled, time_index, event-code}
use Rattle.meaning.proofs.laws.Truth.{val_holds}
use Rattle.meaning.proofs.laws.Run.{runs_ext}

-- ---- some node

module _ (G : Text → Bool) where
  child : (c q : Text) → Memᴰ q (c ∷ []) → So (some_node G q) → So (some_node G c)
  child c q m h = subst (λ (t : Text). So (some_node G t)) (Memᴰ.eq_of_singleton m) h

  children-two : (c d q : Text) → Memᴰ q (c ∷ d ∷ []) → So (some_node G q) → So (some_node G c || some_node G d)
  children-two c d q m h = ⊎_elim
      (λ e. or_left (some_node G c) _ (subst (λ (t : Text). So (some_node G t)) e h))
      (λ m. or_right (some_node G c) _ (child d q m h)) (Memᴰ.cases_cons m)

  from_child : (p q : Text) → Memᴰ q (children p) → So (some_node G q) → So (some_node G p)
  unfolding some_node
  from_child (atom k) q m h = absurd (Memᴰ.not-nil m)
  from_child (listed l) q m h = absurd (Memᴰ.not-nil m)
  from_child (or c d) q m h = or_right (G (or c d)) _ (children-two c d q m h)
  from_child (and c d) q m h = or_right (G (and c d)) _ (children-two c d q m h)
  from_child (neg c) q m h = or_right (G (neg c)) _ (child c q m h)
  from_child (finally c) q m h = or_right (G (finally c)) _ (child c q m h)
  from_child (globally c) q m h = or_right (G (globally c)) _ (child c q m h)
  from_child (next c) q m h = or_right (G (next c)) _ (child c q m h)
  from_child (until c d) q m h = or_right (G (until c d)) _ (children-two c d q m h)
  from_child (weak_until c d) q m h = or_right (G (weak_until c d)) _ (children-two c d q m h)

  from_itself : (p : Text) → So (G p) → So (some_node G p)
  unfolding some_node
  from_itself (atom k) h = h
  from_itself (listed q) h = h
  from_itself (or p q) h = or_left (G (or p q)) _ h
  from_itself (and p q) h = or_left (G (and p q)) _ h
  from_itself (neg p) h = or_left (G (neg p)) _ h
  from_itself (finally p) h = or_left (G (finally p)) _ h
  from_itself (globally p) h = or_left (G (globally p)) _ h
  from_itself (next p) h = or_left (G (next p)) _ h
  from_itself (until p q) h = or_left (G (until p q)) _ h
  from_itself (weak_until p q) h = or_left (G (weak_until p q)) _ h

  node_some : (q p : Text) → Node q p → So (G q) → So (some_node G p)
  node_some q p (itself {p = t}) h = from_itself t h
  node_some q p (of_child {p = t} {c = c} m n) h = from_child t c m (node_some q c n h)

  Found : Text → Type 0
  Found p = (q : Text) × Node q p × So (G q)

  lower : (p c : Text) → Memᴰ c (children p) → Found c → Found p
  unfolding Found
  lower p c m f = (f.0, of_child m f.1, f.2)

  some_find : (p : Text) → So (some_node G p) → Found p
  unfolding some_node Found
  some_find (atom k) h = (atom k, itself, h)
  some_find (listed q) h = (listed q, itself, h)
  some_find (or p q) h = or_cases (G (or p q)) _ h (λ g. (or p q, itself, g)) (λ g. or_cases (some_node G p) (some_node G q) g
      (λ e. lower (or p q) p (Memᴰ.head refl) (some_find p e)) (λ e. lower (or p q) q (Memᴰ.tail (Memᴰ.head refl)) (some_find q e)))
  some_find (and p q) h = or_cases (G (and p q)) _ h (λ g. (and p q, itself, g)) (λ g. or_cases (some_node G p) (some_node G q) g
      (λ e. lower (and p q) p (Memᴰ.head refl) (some_find p e)) (λ e. lower (and p q) q (Memᴰ.tail (Memᴰ.head refl)) (some_find q e)))
  some_find (neg p) h = or_cases (G (neg p)) _ h (λ g. (neg p, itself, g)) (λ e. lower (neg p) p (Memᴰ.head refl) (some_find p e))
  some_find (finally p) h = or_cases (G (finally p)) _ h (λ g. (finally p, itself, g)) (λ e. lower (finally p) p (Memᴰ.head refl) (some_find p e))
  some_find (globally p) h = or_cases (G (globally p)) _ h (λ g. (globally p, itself, g)) (λ e. lower (globally p) p (Memᴰ.head refl) (some_find p e))
  some_find (next p) h = or_cases (G (next p)) _ h (λ g. (next p, itself, g)) (λ e. lower (next p) p (Memᴰ.head refl) (some_find p e))
  some_find (until p q) h = or_cases (G (until p q)) _ h (λ g. (until p q, itself, g)) (λ g. or_cases (some_node G p) (some_node G q) g
      (λ e. lower (until p q) p (Memᴰ.head refl) (some_find p e)) (λ e. lower (until p q) q (Memᴰ.tail (Memᴰ.head refl)) (some_find q e)))
  some_find (weak_until p q) h = or_cases (G (weak_until p q)) _ h (λ g. (weak_until p q, itself, g)) (λ g. or_cases (some_node G p) (some_node G q) g
      (λ e. lower (weak_until p q) p (Memᴰ.head refl) (some_find p e)) (λ e. lower (weak_until p q) q (Memᴰ.tail (Memᴰ.head refl)) (some_find q e)))

  -- SOME NODE OF THE TEXT HAS G
  pub some-node : (p : Text) → So (some_node G p) ↔ ((q : Text) × Node q p × So (G q))
  unfolding Found
  some-node p = (some_find p, λ f. node_some f.0 p f.1 f.2)

-- ---- some record

pub below_find : (f : ℕ → Bool) (n : ℕ) → So (some_below f n) → (i : ℕ) × (i < n) × So (f i)
below_find f zero h = absurd (false≢true h)
below_find f (suc n) h = or_cases (f n) (some_below f n) h (λ e. (n, omega arith, e)) (λ e. let s = below_find f n e in (s.0, omega (arith, s.1), s.2))

pub below_at : (f : ℕ → Bool) (n i : ℕ) → i < n → So (f i) → So (some_below f n)
below_at f zero i h e = absurd (omega arith)
below_at f (suc n) i h e = by (dec_lt i n) (λ l. below_at f n i l e)
  where
    by : Dec (i < n) → (i < n → So (some_below f n)) → So (some_below f (suc n))
    by (yes l) under = or_right (f n) _ (under l)
    by (no l) under = or_left (f n) _ (let q : i ≡ n = omega arith in subst (λ (m : ℕ). So (f m)) q e)

pub below_none : (f : ℕ → Bool) (n : ℕ) → ((i : ℕ) → i < n → f i ≡ false) → some_below f n ≡ false
below_none f zero h = refl
below_none f (suc n) h = or_none (h n (omega arith)) (below_none f n (λ i k. h i (omega arith)))

-- ---- REFUSAL 8

module _ (r : List Reading) (h : InRange r) where
  set-of : (q : Text) (i : ℕ) → i < length r → IsSet (λ n. val (map code r) n q i) r q i
  set-of q i l n k = val_holds r h n q i (omega arith)

  -- the node's set is one only
  one_set : (q : Text) (i : ℕ) → i < length r → (f : ℕ → Bool) → IsSet f r q i → run_count f ≡ runs_at (map code r) q i
  one_set q i l f s = runs_ext f (λ n. val (map code r) n q i)
      (λ n k. same _ _ (λ e. (set-of q i l n k).1 ((s n k).0 e)) (λ e. (s n k).1 ((set-of q i l n k).0 e)))

  over_make : (p : Text) (i : ℕ) → i < length r → (temporal p ≡ false → i ≡ 0) → So (over_at (map code r) p i) → Overfull r p
  over_make p i l first e =
      let s = (some-node (λ q. large_at (map code r) q i) p).0 e in
      record {
        node = s.0;
        of_text = s.1;
        at = i;
        inside = l;
        first = first;
        set = λ n. val (map code r) n s.0 i;
        is-set = set-of s.0 i l;
        many = ltb-true most_runs (runs_at (map code r) s.0 i) s.2;
      }

  over-at : (p : Text) (o : Overfull r p) → So (over_at (map code r) p o.at)
  over-at p o = (some-node (λ q. large_at (map code r) q o.at) p).1
      (o.node, o.of_text, lt-ltb most_runs (runs_at (map code r) o.node o.at) (omega (arith, o.many, one_set o.node o.at o.inside o.set o.is-set)))

  pub eight_overfull : 0 < length r → (p : Text) → So (refused8 (map code r) p) ↔ Overfull r p
  unfolding refused8
  eight_overfull l p = by (temporal p) refl
    where
      by : (t : Bool) → temporal p ≡ t
          → So (cond t (some_below (over_at (map code r) p) (length (map code r))) (over_at (map code r) p 0)) ↔ Overfull r p
      by false e = (over_make p 0 l (λ k. refl), λ o. subst (λ (i : ℕ). So (over_at (map code r) p i)) (o.first e) (over-at p o))
      by true e = (
        λ g. let s = below_find (over_at (map code r) p) (length (map code r)) g in
            over_make p s.0 (omega (arith, s.1, length-map r code)) (λ k. absurd (false≢true (sym k ∙ e))) s.2,
        λ o. below_at (over_at (map code r) p) (length (map code r)) o.at (omega (arith, o.inside, length-map r code)) (over-at p o),
      )

-- ---- REFUSAL 9

module _ (r : List Reading) (h : InRange r) where
  tops-count : (c : Curve) → length (coded_times (a_top c) (map code r)) ≡ length (pick (top c) r)
  tops-count c = ap length (event-code (a_top c) r (all_settled r h)) ∙ length-map (pick (top c) r) time_index

  many-tops : (c : Curve) → So (many_tops c (map code r)) ↔ (most_tops < length (pick (top c) r))
  many-tops c = (
    λ e. omega (arith, ltb-true most_tops (length (coded_times (a_top c) (map code r))) e, tops-count c),
    λ l. lt-ltb most_tops (length (coded_times (a_top c) (map code r))) (omega (arith, tops-count c)),
  )

  abbrev Asks : Listed → Type 0
  Asks q = (c : Curve) × Differences q c × (most_tops < length (pick (top c) r))

  asks_find : (q : Listed) → So (asks_too_many (map code r) q) → Asks q
  asks_find (high c) e = absurd (false≢true e)
  asks_find (low c) e = absurd (false≢true e)
  asks_find (lowafter c k) e = absurd (false≢true e)
  asks_find (capafter c k) e = absurd (false≢true e)
  asks_find (peaks c) e = absurd (false≢true e)
  asks_find (dips c) e = absurd (false≢true e)
  asks_find cross e = absurd (false≢true e)
  asks_find crossup e = absurd (false≢true e)
  asks_find (dose k) e = absurd (false≢true e)
  asks_find (ampl c) e = absurd (false≢true e)
  asks_find (gaps c) e = (c, of_gaps, (many-tops c).0 e)
  asks_find (steps c) e = (c, of_steps, (many-tops c).0 e)
  asks_find lag e = or_cases (many_tops A (map code r)) _ e (λ k. (A, of_lag, (many-tops A).0 k)) (λ k. (B, of_lag, (many-tops B).0 k))

  asks_at : (q : Listed) (c : Curve) → Differences q c → most_tops < length (pick (top c) r) → So (asks_too_many (map code r) q)
  asks_at q c (of_gaps {c = d}) l = (many-tops d).1 l
  asks_at q c (of_steps {c = d}) l = (many-tops d).1 l
  asks_at q c (of_lag {c = A}) l = or_left (many_tops A (map code r)) _ ((many-tops A).1 l)
  asks_at q c (of_lag {c = B}) l = or_right (many_tops A (map code r)) _ ((many-tops B).1 l)

  tops_make : (p q : Text) → Node q p → So (of_listed (asks_too_many (map code r)) q) → TooManyTops r p
  tops_make p (atom k) n e = absurd (false≢true e)
  tops_make p (listed q) n e = let s = asks_find q e in record { question = q; of_text = n; curve = s.0; over = s.1; many = s.2 }
  tops_make p (or c d) n e = absurd (false≢true e)
  tops_make p (and c d) n e = absurd (false≢true e)
  tops_make p (neg c) n e = absurd (false≢true e)
  tops_make p (finally c) n e = absurd (false≢true e)
  tops_make p (globally c) n e = absurd (false≢true e)
  tops_make p (next c) n e = absurd (false≢true e)
  tops_make p (until c d) n e = absurd (false≢true e)
  tops_make p (weak_until c d) n e = absurd (false≢true e)

  pub nine_tops : (p : Text) → So (refused9 (map code r) p) ↔ TooManyTops r p
  unfolding refused9
  nine_tops p = (
    λ e. let s = (some-node (of_listed (asks_too_many (map code r))) p).0 e in tops_make p s.0 s.1 s.2,
    λ t. (some-node (of_listed (asks_too_many (map code r))) p).1 (listed t.question, t.of_text, asks_at t.question t.curve t.over t.many),
  )
