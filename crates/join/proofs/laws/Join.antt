-- Joining two sets run by run: the run at hand is open, those before it are stored, those behind it are still in the lists.
use Rattle.std.specs.Prelude.{ℕ, ◌+◌, ◌*◌, ◌≤◌, ◌<◌, max, ◌≡◌, refl, Bool, true, false, ◌||◌, ◌&&◌, List, [], ◌∷◌, ◌++◌, ◌⊎◌, leb, ltb, length, take, drop, get_or, set, Result, Ok, Err}
use Rattle.std.proofs.Common.{arith, sym, ap, ap₂, subst, ◌∙◌, true≢false, inl, inr, ⊎_elim, length-append, length-set, length-take-le, get_or-set_same, le-leb, lt-ltb, le-ltb, ltb-true, leb-true}
use Rattle.std.proofs.Math.Decide.{dec_lt}
use Rattle.std.proofs.lemmas.Bool.{false≢true, lt-leb}
use Rattle.std.proofs.Math.Seq.{drop-length}
use Rattle.number.specs.Axis.{axis}
use Rattle.number.proofs.laws.Boolean.{same, or_left, or_right, or_cases, and_left, and_right, and_make}
use Rattle.number.proofs.laws.Order.{less_or_not}
use Rattle.runs.specs.Runs.{most_runs, run_count}
use Rattle.runs.specs.Set.{slot_words, inside, Ascending, Canonical}
use Rattle.join.specs.inner.Join.{Rest, within, Next, with_run, Open, opened, Joins}
use Rattle.runs.proofs.laws.Cuts.{none, outside, weaken, before-run, in_run, behind_run, rest_outside, nil_canonical}
use Rattle.runs.proofs.laws.Place.{two_left, first_run, run-ascends, behind_first}
use Rattle.runs.proofs.laws.Runs.{cuts-count, fewer_below}
use Rattle.runs.proofs.laws.Set.{holds_makes, nothing-held}
use Rattle.runs.proofs.laws.Added.{put_two, grown_behind}
use Rattle.join.specs.declared.Head.{Head}
use Rattle.runs.specs.declared.TooManyRuns.{TooManyRuns}

-- ---- the run that begins first

-- a run and the rest, by membership
pub run_split : (lo c d : ℕ) (r : List ℕ) → Ascending lo axis (c ∷ d ∷ r) → (v : ℕ) → inside (c ∷ d ∷ r) v ≡ (within c d v || inside r v)
run_split lo c d r a v = by (dec_lt v c) (dec_lt v d)
  where
    by : Dec (v < c) → Dec (v < d) → inside (c ∷ d ∷ r) v ≡ (within c d v || inside r v)
    by (yes h) k = before-run lo axis c d r a v h ∙ sym (ap₂ (λ (x y : Bool). (x && ltb v d) || y) (lt-leb c v h) (rest_outside lo axis c d r a v (omega arith)))
    by (no h) (yes k) = in_run lo axis c d r a v (omega arith) k ∙ sym (ap₂ (λ (x y : Bool). (x && y) || inside r v) (le-leb c v (omega arith)) (lt-ltb v d k))
    by (no h) (no k) = behind_run lo axis c d r a v (omega arith) ∙ sym (ap₂ (λ (x y : Bool). (x && y) || inside r v) (le-leb c v (omega arith)) (le-ltb v d (omega arith)))

in_run_of : (low end v : ℕ) → within low end v ≡ true → (low ≤ v) × (v < end)
in_run_of low end v t = (leb-true low v (and_left (leb low v) (ltb v end) t), ltb-true v end (and_right (leb low v) (ltb v end) t))

run_has : (low end v : ℕ) → low ≤ v → v < end → within low end v ≡ true
run_has low end v g k = and_make (leb low v) (ltb v end) (le-leb low v g) (lt-ltb v end k)

-- two runs that meet are one
pub one-run : (low end low' end' e v : ℕ) → low ≤ low' → low' ≤ end → e ≡ max end end' → (within low end v || within low' end' v) ≡ within low e v
one-run low end low' end' e v g h is = same _ _
    (λ t. or_cases (within low end v) (within low' end' v) t
    (λ y. let z = in_run_of low end v y in run_has low e v z.0 (omega (arith, z.1)))
    (λ y. let z = in_run_of low' end' v y in run_has low e v (omega (arith, z.0)) (omega (arith, z.1))))
    (λ t. let z = in_run_of low e v t in
    ⊎_elim (λ y. or_left (within low end v) _ (run_has low end v z.0 y))
    (λ y. or_right (within low end v) _ (run_has low' end' v (omega arith) (omega (arith, z.1))))
    (less_or_not v end))

pub whole_runs : {l : List ℕ} {i : ℕ} → Rest 0 l i → Canonical (drop i l)
whole_runs w = record { ascending = w.ascending; ended = w.ended }

-- the rest of a list that is not at its end: a run, and what is behind it
module _ (a : List ℕ) (i : ℕ) (w : Rest 0 a i) (h : i < length a) where
  ascends : Ascending 0 axis (get_or a i 0 ∷ get_or a (i + 1) 0 ∷ drop (i + 2) a)
  ascends = run-ascends a i (whole_runs w) h

  pub run_grows : get_or a i 0 < get_or a (i + 1) 0
  run_grows = omega (arith, ascends.2.0)

  pub run_on_axis : get_or a (i + 1) 0 ≤ axis
  run_on_axis = ascends.2.1

  pub behind : Rest (get_or a i 0) a (i + 2)
  behind = record {
    place = omega (arith, two_left a i (whole_runs w) h);
    ascending = weaken (get_or a i 0) (get_or a (i + 1) 0 + 1) axis (drop (i + 2) a) (omega (arith, run_grows)) ascends.2.2;
    ended = (behind_first a i (whole_runs w) h).ended;
  }

  pub split : (v : ℕ) → inside (drop i a) v ≡ (within (get_or a i 0) (get_or a (i + 1) 0) v || inside (drop (i + 2) a) v)
  split v = ap (λ (l : List ℕ). inside l v) (first_run a i (whole_runs w) h) ∙ run_split 0 (get_or a i 0) (get_or a (i + 1) 0) (drop (i + 2) a) ascends v

  pub first_cut : (low : ℕ) → Ascending low axis (drop i a) → low ≤ get_or a i 0
  first_cut low s = (subst (Ascending low axis) (first_run a i (whole_runs w) h) s).0

-- a list that is at its end, or goes on not below x
pub rest_from : (x : ℕ) (b : List ℕ) (j : ℕ) → Rest 0 b j → (j ≡ length b) ⊎ ((j < length b) × (x ≤ get_or b j 0)) → Rest x b j
rest_from x b j w (inl e) = record { place = w.place; ascending = subst (Ascending x axis) (sym (ap (λ (k : ℕ). drop k b) e ∙ drop-length b)) tt; ended = w.ended }
rest_from x b j w (inr h) =
    record { place = w.place; ascending = subst (Ascending x axis) (sym (first_run b j (whole_runs w) h.0)) (h.1, (ascends b j w h.0).1, (ascends b j w h.0).2); ended = w.ended }

pub or_assoc : (a b c : Bool) → ((a || b) || c) ≡ (a || (b || c))
or_assoc true b c = refl
or_assoc false b c = refl

or_swap : (a b c : Bool) → (a || (b || c)) ≡ (b || (a || c))
or_swap true true c = refl
or_swap true false c = refl
or_swap false b c = refl

module _ (a : List ℕ) (i : ℕ) (b : List ℕ) (j : ℕ) (wa : Rest 0 a i) (wb : Rest 0 b j) where
  pub next_left : (h : i < length a) → (j ≡ length b) ⊎ ((j < length b) × (get_or a i 0 ≤ get_or b j 0))
      → Next a i b j (record { low = get_or a i 0; end = get_or a (i + 1) 0; i = i + 2; j = j })
  next_left h o = record {
    first = λ low s t. first_cut a i wa h low s;
    grows = run_grows a i wa h;
    on-axis = run_on_axis a i wa h;
    left = behind a i wa h;
    right = rest_from (get_or a i 0) b j wb o;
    step = omega arith;
    members = λ v. ap (λ (x : Bool). x || inside (drop j b) v) (split a i wa h v) ∙ or_assoc (within (get_or a i 0) (get_or a (i + 1) 0) v) (inside (drop (i + 2) a) v) (inside (drop j b) v);
  }

  pub next_right : (h : j < length b) → (i ≡ length a) ⊎ ((i < length a) × (get_or b j 0 ≤ get_or a i 0))
      → Next a i b j (record { low = get_or b j 0; end = get_or b (j + 1) 0; i = i; j = j + 2 })
  next_right h o = record {
    first = λ low s t. first_cut b j wb h low t;
    grows = run_grows b j wb h;
    on-axis = run_on_axis b j wb h;
    left = rest_from (get_or b j 0) a i wa o;
    right = behind b j wb h;
    step = omega arith;
    members = λ v. ap (λ (x : Bool). inside (drop i a) v || x) (split b j wb h v) ∙ or_swap (inside (drop i a) v) (within (get_or b j 0) (get_or b (j + 1) 0) v) (inside (drop (j + 2) b) v);
  }

-- ---- the joining

joins_ext : (f g : ℕ → Bool) (words : List ℕ) (r : Result ℕ TooManyRuns) → ((v : ℕ) → f v ≡ g v) → Joins f words r → Joins g words r
joins_ext f g words r e w = subst (λ (h : ℕ → Bool). Joins h words r) (λ i v. e v i) w

-- the first n runs are stored in the words, the run is open, and the others are left in the lists
pub record Joining (a b : List ℕ) (words : List ℕ) (n : ℕ) (r : Head) : Type 0 where
  pub size : length words ≡ slot_words
  pub few : n ≤ most_runs
  pub stored : Canonical (take (2 * n) words)
  pub apart : (v : ℕ) → inside (take (2 * n) words) v ≡ true → v + 1 < r.low
  pub grows : r.low < r.end
  pub on-axis : r.end ≤ axis
  pub left : Rest r.low a r.i
  pub right : Rest r.low b r.j
  pub members : (v : ℕ) → (inside a v || inside b v) ≡ (inside (take (2 * n) words) v || (within r.low r.end v || (inside (drop r.i a) v || inside (drop r.j b) v)))

pub rest_weak : (low lo : ℕ) (l : List ℕ) (i : ℕ) → lo ≤ low → Rest low l i → Rest lo l i
rest_weak low lo l i h w = record { place = w.place; ascending = weaken lo low axis (drop i l) h w.ascending; ended = w.ended }

pub rest-any : (low : ℕ) (l : List ℕ) (i : ℕ) → Rest low l i → Rest 0 l i
rest-any low l i w = rest_weak low 0 l i (omega arith) w

pub whole-rest : (l : List ℕ) → Canonical l → Rest 0 l 0
whole-rest l c = record { place = omega arith; ascending = c.ascending; ended = c.ended }

module _ (a b words : List ℕ) (size : length words ≡ slot_words) where
  pub joining_start : (r : Head) → Next a 0 b 0 r → Joining a b words 0 r
  joining_start r w = record {
    size = size;
    few = omega arith;
    stored = nil_canonical;
    apart = λ v t. absurd (false≢true (sym (none v) ∙ t));
    grows = w.grows;
    on-axis = w.on-axis;
    left = w.left;
    right = w.right;
    members = λ v. w.members v ∙ sym (ap (λ (x : Bool). x || (within r.low r.end v || (inside (drop r.i a) v || inside (drop r.j b) v))) (none v));
  }

  -- both lists are empty
  pub joins_none : length a + length b ≡ 0 → Joins (λ v. inside a v || inside b v) (set words (2 * most_runs) 0) (Ok 0)
  joins_none e =
      let m = nothing-held (set words (2 * most_runs) 0) (length-set words (2 * most_runs) 0 ∙ size) (get_or-set_same words (2 * most_runs) 0 0 (omega arith)) in
      let f : (v : ℕ) → (inside a v || inside b v) ≡ false = λ v. ap₂ (λ (x y : List ℕ). inside x v || inside y v) (nil a (omega arith)) (nil b (omega arith)) ∙ ap₂ ◌||◌ (none v) (none v) in
      record {
        makes = holds_makes (λ v. inside a v || inside b v) _ (record { valid = m.valid; members = λ v h. m.members v h ∙ sym (f v) });
        stores = let c = cuts-count (λ v. inside a v || inside b v) [] nil_canonical (λ v h. none v ∙ sym (f v)) in omega arith;
      }
    where
      nil : (l : List ℕ) → length l ≡ 0 → l ≡ []
      nil [] h = refl
      nil (x ∷ l) h = absurd (omega arith)

module _ (a b words : List ℕ) (n : ℕ) (r : Head) (w : Joining a b words n r) where
  abbrev f : ℕ → Bool
  f v = inside a v || inside b v

  abbrev stored_cuts : List ℕ
  stored_cuts = take (2 * n) words

  -- the stored runs and the open one
  abbrev closed : List ℕ
  closed = stored_cuts ++ r.low ∷ r.end ∷ []

  closed_canonical : Canonical closed
  closed_canonical = (grown_behind stored_cuts w.stored r.low r.end w.grows w.on-axis w.apart).0

  closed-members : (v : ℕ) → inside closed v ≡ (inside stored_cuts v || within r.low r.end v)
  closed-members = (grown_behind stored_cuts w.stored r.low r.end w.grows w.on-axis w.apart).1

  stored_length : length stored_cuts ≡ 2 * n
  stored_length = length-take-le (2 * n) words (omega (arith, w.size, w.few))

  closed-length : length closed ≡ 2 * n + 2
  closed-length = length-append stored_cuts (r.low ∷ r.end ∷ []) ∙ ap (λ (k : ℕ). k + 2) stored_length

  pub with_size : (o : List ℕ) → o ≡ with_run words n r.low r.end → length o ≡ slot_words
  with_size o e = ap length e ∙ length-set (set words (2 * n) r.low) (2 * n + 1) r.end ∙ length-set words (2 * n) r.low ∙ w.size

  -- there is room for the open run
  pub joining_room : (n ≡ most_runs → ⊥) → n < most_runs
  joining_room ne = omega (arith, w.few)

  members-closed : (v : ℕ) → f v ≡ (inside closed v || (inside (drop r.i a) v || inside (drop r.j b) v))
  members-closed v = w.members v ∙ sym (or_assoc (inside stored_cuts v) (within r.low r.end v) _) ∙ ap (λ (x : Bool). x || (inside (drop r.i a) v || inside (drop r.j b) v)) (sym (closed-members v))

  pub place_left : r.i ≤ length a
  place_left = w.left.place

  pub place_right : r.j ≤ length b
  place_right = w.right.place

  pub left_any : Rest 0 a r.i
  left_any = rest-any r.low a r.i w.left

  pub right_any : Rest 0 b r.j
  right_any = rest-any r.low b r.j w.right

  -- one list is at its end: what is left is in the other
  pub open_right : Open words n r.low r.end b r.j
  open_right = record { size = w.size; few = w.few; stored = w.stored; apart = w.apart; grows = w.grows; on-axis = w.on-axis; left = w.right }

  pub open_left : Open words n r.low r.end a r.i
  open_left = record { size = w.size; few = w.few; stored = w.stored; apart = w.apart; grows = w.grows; on-axis = w.on-axis; left = w.left }

  rest_none : (l : List ℕ) (i : ℕ) → i ≡ length l → (v : ℕ) → inside (drop i l) v ≡ false
  rest_none l i e v = ap (λ (k : ℕ). inside (drop k l) v) e ∙ ap (λ (k : List ℕ). inside k v) (drop-length l) ∙ none v

  abbrev held_so_far : ℕ → Bool → Bool
  held_so_far v x = inside stored_cuts v || (within r.low r.end v || x)

  pub joins_right : length a ≤ r.i → (o : List ℕ) (j : Result ℕ TooManyRuns) → Joins (opened words n r.low r.end b r.j) o j → Joins f o j
  joins_right h o j = joins_ext _ f o j (λ v. sym (w.members v ∙ ap (λ (x : Bool). held_so_far v (x || inside (drop r.j b) v)) (rest_none a r.i (omega (arith, place_left)) v)))

  pub joins_left : r.j ≡ length b → (o : List ℕ) (j : Result ℕ TooManyRuns) → Joins (opened words n r.low r.end a r.i) o j → Joins f o j
  joins_left h o j = joins_ext _ f o j (λ v. sym (w.members v ∙ ap (λ (x : Bool). held_so_far v (inside (drop r.i a) v || x)) (rest_none b r.j h v) ∙ ap (held_so_far v) (or_false (inside (drop r.i a) v))))
    where
      or_false : (x : Bool) → (x || false) ≡ x
      or_false true = refl
      or_false false = refl

  -- the next run
  module _ (q : Head) (x : Next a r.i b r.j q) where
    next_low : r.low ≤ q.low
    next_low = x.first r.low w.left.ascending w.right.ascending

    -- it meets the open one
    pub joining_meet : q.low ≤ r.end → (e : ℕ) → e ≡ max r.end q.end → Joining a b words n (record { low = r.low; end = e; i = q.i; j = q.j })
    joining_meet h e is = record {
      size = w.size;
      few = w.few;
      stored = w.stored;
      apart = w.apart;
      grows = omega (arith, w.grows);
      on-axis = omega (arith, w.on-axis, x.on-axis);
      left = rest_weak q.low r.low a q.i next_low x.left;
      right = rest_weak q.low r.low b q.j next_low x.right;
      members = λ v.
          w.members v ∙ ap (λ (y : Bool). inside stored_cuts v || (within r.low r.end v || y)) (x.members v)
          ∙ ap (λ (y : Bool). inside stored_cuts v || y) (sym (or_assoc (within r.low r.end v) (within q.low q.end v) _))
          ∙ ap (λ (y : Bool). inside stored_cuts v || (y || (inside (drop q.i a) v || inside (drop q.j b) v))) (one-run r.low r.end q.low q.end e v next_low h is);
    }

    -- it lies apart: the open one is stored
    module _ (h : r.end < q.low) where
      closed-below : (v : ℕ) → inside closed v ≡ true → v + 1 < q.low
      closed-below v t = or_cases (inside stored_cuts v) (within r.low r.end v) (sym (closed-members v) ∙ t)
          (λ y. omega (arith, w.apart v y, next_low))
          (λ y. omega (arith, ltb-true v r.end (and_right (leb r.low v) (ltb v r.end) y)))

      -- what is below the next run
      abbrev part : ℕ → Bool
      part v = ltb v q.low && f v

      -- there is no room for it: the part of f below the next run has too many runs already
      pub joining_full : n ≡ most_runs → {y : TooManyRuns} → Joins f words (Err y)
      joining_full e = record {
        makes = record { flag = sym (lt-ltb most_runs (run_count f) (omega (arith, closed-length, cuts-count part closed closed_canonical part-members, fewer_below f q.low))); holds = λ z. absurd (true≢false z) };
        stores = tt;
      }
        where
          part-members : (v : ℕ) → v < axis → inside closed v ≡ part v
          part-members v g = by (dec_lt v q.low)
            where
              later : v < q.low → (inside (drop r.i a) v || inside (drop r.j b) v) ≡ false
              later k =
                  x.members v
                  ∙ ap₂ (λ (p y : Bool). (p && ltb v q.end) || y) (lt-leb q.low v k)
                  (ap₂ ◌||◌ (outside q.low axis (drop q.i a) v x.left.ascending k) (outside q.low axis (drop q.j b) v x.right.ascending k))

              or_none : (y z : Bool) → z ≡ false → y ≡ (y || z)
              or_none true z e = refl
              or_none false z e = sym e

              off : (y : Bool) → (y ≡ true → ⊥) → y ≡ false
              off true k = absurd (k refl)
              off false k = refl

              by : Dec (v < q.low) → inside closed v ≡ part v
              by (yes k) =
                  or_none (inside closed v) (inside (drop r.i a) v || inside (drop r.j b) v) (later k) ∙ sym (members-closed v)
                  ∙ sym (ap (λ (y : Bool). y && f v) (lt-ltb v q.low k))
              by (no k) = off (inside closed v) (λ t. absurd (omega (arith, closed-below v t))) ∙ sym (ap (λ (y : Bool). y && f v) (le-ltb v q.low (omega arith)))

      pub joining_apart : (n ≡ most_runs → ⊥) → (o : List ℕ) → o ≡ with_run words n r.low r.end → Joining a b o (n + 1) q
      joining_apart ne o c =
          let two : 2 * (n + 1) ≡ 2 * n + 2 = omega arith in
          let e : take (2 * (n + 1)) o ≡ closed =
          ap₂ (λ (m : ℕ) (l : List ℕ). take m l) two c ∙ put_two words (2 * n) r.low r.end (omega (arith, w.size, joining_room ne)) in
          record {
            size = with_size o c;
            few = omega (arith, joining_room ne);
            stored = subst Canonical (sym e) closed_canonical;
            apart = λ v t. closed-below v (ap (λ (l : List ℕ). inside l v) (sym e) ∙ t);
            grows = x.grows;
            on-axis = x.on-axis;
            left = x.left;
            right = x.right;
            members = λ v.
                members-closed v ∙ ap (λ (y : Bool). inside closed v || y) (x.members v)
                ∙ ap (λ (l : List ℕ). inside l v || (within q.low q.end v || (inside (drop q.i a) v || inside (drop q.j b) v))) (sym e);
          }

-- the same lists
pub joins_lists : (words : List ℕ) (r : Result ℕ TooManyRuns) {a a' b b' : List ℕ} → a ≡ a' → b ≡ b'
    → Joins (λ v. inside a v || inside b v) words r → Joins (λ v. inside a' v || inside b' v) words r
joins_lists words r e g w = subst (λ (h : ℕ → Bool). Joins h words r) (λ i v. inside (e i) v || inside (g i) v) w
