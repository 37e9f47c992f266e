-- What is left of one list when the other is at its end: the runs that meet the open one are joined with it, the others are stored as they are.
use Rattle.std.specs.Prelude.{ℕ, ◌+◌, ◌-◌, ◌*◌, ◌≤◌, ◌<◌, max, ◌≡◌, refl, Bool, true, false, ◌||◌, List, [], ◌∷◌, ◌++◌, leb, ltb, length, take, drop, get_or, set, Ok, Err}
use Rattle.std.proofs.Common.{arith, sym, ap, ap₂, subst, ◌∙◌, append_assoc, append-nil, inl, inr, length-append, length-set, length-drop, length-take-le, get_or-set_same, ltb-true}
use Rattle.std.proofs.Math.Seq.{drop-length}
use Rattle.std.proofs.lemmas.List.{take-set-le}
use Rattle.number.specs.Axis.{axis}
use Rattle.number.proofs.laws.Boolean.{or_cases, and_right}
use Rattle.runs.specs.Runs.{most_runs}
use Rattle.runs.specs.Set.{slot_words, inside, Ascending, Canonical}
use Rattle.runs.proofs.laws.Place.{first_run}
use Rattle.runs.proofs.laws.Cuts.{none, rest_ended, lone}
use Rattle.runs.proofs.laws.Runs.{cuts-count}
use Rattle.runs.proofs.laws.Set.{held, holds_makes, too_many}
use Rattle.runs.proofs.laws.Added.{put_two, grown_behind}
use Rattle.join.specs.inner.Join.{Rest, within, Reached, with_run, Appended, Open, opened, Joins}
use Rattle.join.proofs.laws.Join.{run_split, one-run, whole_runs, run_on_axis, behind, split, first_cut, rest_from, or_assoc, rest_weak, Joining, right_any, place_right, open_right, joins_right}
use Rattle.join.specs.declared.Head.{Head}
use Rattle.join.specs.declared.Reach.{Reach}
use Rattle.runs.specs.declared.TooManyRuns.{TooManyRuns}

-- ---- how far the open run goes

-- all runs of l from place i to place `at` meet the open run, which now goes up to `far`
pub record Reaching (l : List ℕ) (i end at far : ℕ) : Type 0 where
  pub left : Rest 0 l at
  pub beyond : end ≤ far
  pub on-axis : far ≤ axis
  pub members : (low : ℕ) → low < end → Rest low l i → Rest low l at × ((v : ℕ) → (within low end v || inside (drop i l) v) ≡ (within low far v || inside (drop at l) v))

pub reaching_start : (l : List ℕ) (i end : ℕ) → Rest 0 l i → end ≤ axis → Reaching l i end i end
reaching_start l i end w h = record { left = w; beyond = omega arith; on-axis = h; members = λ low g u. (u, λ v. refl) }

module _ (l : List ℕ) (i end at far : ℕ) (w : Reaching l i end at far) where
  pub reached-end : length l ≤ at → Reached l i end (record { end = far; i = at })
  reached-end h = record {
    beyond = w.beyond;
    on-axis = w.on-axis;
    left = rest_from (far + 1) l at w.left (inl (omega (arith, w.left.place)));
    members = λ low v g u. (w.members low g u).1 v;
  }

  module _ (h : at < length l) where
    pub reached_gap : far < get_or l at 0 → Reached l i end (record { end = far; i = at })
    reached_gap g = record {
      beyond = w.beyond;
      on-axis = w.on-axis;
      left = rest_from (far + 1) l at w.left (inr (h, omega arith));
      members = λ low v g u. (w.members low g u).1 v;
    }

    pub reaching_on : get_or l at 0 ≤ far → (e : ℕ) → e ≡ max far (get_or l (at + 1) 0) → Reaching l i end (at + 2) e
    reaching_on g e is = record {
      left = rest_weak (get_or l at 0) 0 l (at + 2) (omega arith) (behind l at w.left h);
      beyond = omega (arith, w.beyond);
      on-axis = omega (arith, w.on-axis, run_on_axis l at w.left h);
      members = λ low k u.
          let m = w.members low k u in
          let b = first_cut l at w.left h low m.0.ascending in (
            rest_weak (get_or l at 0) low l (at + 2) b (behind l at w.left h),
            λ v. m.1 v ∙ ap (λ (x : Bool). within low far v || x) (split l at w.left h v)
                ∙ sym (or_assoc (within low far v) (within (get_or l at 0) (get_or l (at + 1) 0) v) (inside (drop (at + 2) l) v))
                ∙ ap (λ (x : Bool). x || inside (drop (at + 2) l) v) (one-run low far (get_or l at 0) (get_or l (at + 1) 0) e v b g is),
          );
    }

-- ---- the others are stored as they are

-- the runs from place i to place `from` are stored
pub record Appending (l : List ℕ) (i : ℕ) (words : List ℕ) (n from at : ℕ) (after : List ℕ) : Type 0 where
  pub left : Rest 0 l from
  pub size : length after ≡ length words
  pub count : 2 * at + i ≡ 2 * n + from
  pub cuts : take (2 * at) after ++ drop from l ≡ take (2 * n) words ++ drop i l

pub appending_start : (l : List ℕ) (i : ℕ) (words : List ℕ) (n : ℕ) → Rest 0 l i → Appending l i words n i n words
appending_start l i words n w = record { left = w; size = refl; count = refl; cuts = refl }

module _ (l : List ℕ) (i : ℕ) (words : List ℕ) (n from at : ℕ) (after : List ℕ) (w : Appending l i words n from at after) where
  pub appended : length l ≤ from → Appended l i words n after at
  appended h =
      let e : from ≡ length l = omega (arith, w.left.place) in
      record {
        size = w.size;
        count = omega (arith, w.count);
        cuts = sym (append-nil (take (2 * at) after)) ∙ ap (λ (x : List ℕ). take (2 * at) after ++ x) (sym (ap (λ (k : ℕ). drop k l) e ∙ drop-length l)) ∙ w.cuts;
      }

  pub appending_on : from < length l → 2 * at + 2 ≤ length words → (o : List ℕ) → o ≡ with_run after at (get_or l from 0) (get_or l (from + 1) 0)
      → Appending l i words n (from + 2) (at + 1) o
  appending_on h room o e =
      let two : 2 * (at + 1) ≡ 2 * at + 2 = omega arith in
      let t : take (2 * (at + 1)) o ≡ take (2 * at) after ++ get_or l from 0 ∷ get_or l (from + 1) 0 ∷ [] =
      ap₂ (λ (m : ℕ) (x : List ℕ). take m x) two e ∙ put_two after (2 * at) (get_or l from 0) (get_or l (from + 1) 0) (omega (arith, w.size)) in
      record {
        left = rest_weak (get_or l from 0) 0 l (from + 2) (omega arith) (behind l from w.left h);
        size = ap length e ∙ length-set (set after (2 * at) (get_or l from 0)) (2 * at + 1) (get_or l (from + 1) 0) ∙ length-set after (2 * at) (get_or l from 0) ∙ w.size;
        count = omega (arith, w.count);
        cuts = ap (λ (x : List ℕ). x ++ drop (from + 2) l) t ∙ append_assoc (take (2 * at) after) (get_or l from 0 ∷ get_or l (from + 1) 0 ∷ []) (drop (from + 2) l)
            ∙ ap (λ (x : List ℕ). take (2 * at) after ++ x) (sym (first_run l from (whole_runs w.left) h)) ∙ w.cuts;
      }

-- ---- a list of cuts behind another, with a gap

pub behind_all : (x : ℕ) (l m : List ℕ) → Canonical l → Ascending x axis m → inside m axis ≡ false → ((v : ℕ) → inside l v ≡ true → v + 1 < x)
    → Canonical (l ++ m) × ((v : ℕ) → inside (l ++ m) v ≡ (inside l v || inside m v))
behind_all x l [] c a e apart = (subst Canonical (sym (append-nil l)) c, λ v. ap (λ (k : List ℕ). inside k v) (append-nil l) ∙ sym (ap (λ (b : Bool). inside l v || b) (none v) ∙ or_false (inside l v)))
  where
    or_false : (x : Bool) → (x || false) ≡ x
    or_false true = refl
    or_false false = refl
behind_all x l (y ∷ []) c a e apart = lone x axis y a e
behind_all x l (y ∷ z ∷ m) c a e apart =
    let g = grown_behind l c y z (omega (arith, a.2.0)) a.2.1 (λ v t. omega (arith, apart v t, a.0)) in
    let k = behind_all (z + 1) (l ++ y ∷ z ∷ []) m g.0 a.2.2 (rest_ended x axis y z m a e) (λ v t.
    or_cases (inside l v) (within y z v) (sym (g.1 v) ∙ t) (λ u. omega (arith, apart v u, a.0, a.2.0)) (λ u. omega (arith, ltb-true v z (and_right (leb y v) (ltb v z) u)))) in
    let s = append_assoc l (y ∷ z ∷ []) m in (
      subst Canonical s k.0,
      λ v.
          ap (λ (b : List ℕ). inside b v) (sym s) ∙ k.1 v ∙ ap (λ (b : Bool). b || inside m v) (g.1 v) ∙ or_assoc (inside l v) (within y z v) (inside m v)
          ∙ ap (λ (b : Bool). inside l v || b) (sym (run_split x y z m a v)),
    )

-- ---- the end of the joining

module _ (words : List ℕ) (n low end : ℕ) (l : List ℕ) (i : ℕ) (w : Open words n low end l i) (r : Reach) (q : Reached l i end r) where
  abbrev f : ℕ → Bool
  f = opened words n low end l i

  -- the stored runs, the open one, and what is left
  abbrev closed : List ℕ
  closed = take (2 * n) words ++ low ∷ r.end ∷ []

  abbrev cuts : List ℕ
  cuts = closed ++ drop r.i l

  closing : Canonical closed × ((v : ℕ) → inside closed v ≡ (inside (take (2 * n) words) v || within low r.end v))
  closing = grown_behind (take (2 * n) words) w.stored low r.end (omega (arith, w.grows, q.beyond)) q.on-axis w.apart

  ordered : Canonical cuts × ((v : ℕ) → inside cuts v ≡ (inside closed v || inside (drop r.i l) v))
  ordered = behind_all (r.end + 1) closed (drop r.i l) closing.0 q.left.ascending q.left.ended
      (λ v t. or_cases (inside (take (2 * n) words) v) (within low r.end v) (sym (closing.1 v) ∙ t)
      (λ u. omega (arith, w.apart v u, w.grows, q.beyond)) (λ u. omega (arith, ltb-true v r.end (and_right (leb low v) (ltb v r.end) u))))

  all-members : (v : ℕ) → inside cuts v ≡ f v
  all-members v =
      ordered.1 v ∙ ap (λ (b : Bool). b || inside (drop r.i l) v) (closing.1 v) ∙ or_assoc (inside (take (2 * n) words) v) (within low r.end v) (inside (drop r.i l) v)
      ∙ ap (λ (b : Bool). inside (take (2 * n) words) v || b) (sym (q.members low v w.grows w.left))

  all-length : length cuts ≡ 2 * n + 2 + (length l - r.i)
  all-length =
      length-append closed (drop r.i l) ∙ ap₂ ◌+◌ (length-append (take (2 * n) words) (low ∷ r.end ∷ []) ∙ ap (λ (k : ℕ). k + 2) (length-take-le (2 * n) words (omega (arith, w.size, w.few)))) (length-drop r.i l)

  pub finish_over : 2 * most_runs < 2 * n + 2 + (length l - r.i) → {x : TooManyRuns} → Joins f words (Err x)
  finish_over h = record { makes = too_many f cuts words ordered.0 (λ v g. all-members v) (omega (arith, all-length)); stores = tt }

  pub run_size : (o : List ℕ) → o ≡ with_run words n low r.end → length o ≡ slot_words
  run_size o e = ap length e ∙ length-set (set words (2 * n) low) (2 * n + 1) r.end ∙ length-set words (2 * n) low ∙ w.size

  pub finish_all : (all : ℕ) → all ≡ 2 * n + 2 + (length l - r.i) → all ≤ 2 * most_runs → (o : List ℕ) → o ≡ with_run words n low r.end
      → (p : List ℕ) (k : ℕ) → Appended l r.i o (n + 1) p k → Joins f (set p (2 * most_runs) all) (Ok k)
  finish_all all is few o e p k x =
      let two : 2 * (n + 1) ≡ 2 * n + 2 = omega arith in
      let s : length p ≡ slot_words = x.size ∙ run_size o e in
      let c : 2 * k ≡ all = omega (arith, x.count, q.left.place) in
      let t : take (2 * (n + 1)) o ≡ closed = ap₂ (λ (m : ℕ) (y : List ℕ). take m y) two e ∙ put_two words (2 * n) low r.end (omega (arith, w.size)) in
      record {
        makes = holds_makes f _
            (held cuts (set p (2 * most_runs) all) ordered.0 (omega (arith, all-length)) (length-set p (2 * most_runs) all ∙ s)
            (get_or-set_same p (2 * most_runs) all 0 (omega arith) ∙ is ∙ sym all-length)
            (ap (λ (m : ℕ). take m (set p (2 * most_runs) all)) (all-length ∙ sym is) ∙ take-set-le all p (2 * most_runs) all few
            ∙ ap (λ (m : ℕ). take m p) (sym c) ∙ x.cuts ∙ ap (λ (m : List ℕ). m ++ drop r.i l) t)
            f (λ v h. all-members v));
        stores = omega (arith, all-length, cuts-count f cuts ordered.0 (λ v h. all-members v));
      }

-- nothing is left: the open run is the last
pub joins_last : (a b words : List ℕ) (n : ℕ) (r : Head) (w : Joining a b words n r) → length a ≤ r.i → length b ≤ r.j → n < most_runs
    → (o : List ℕ) → o ≡ with_run words n r.low r.end → (k : ℕ) → k ≡ n + 1 → Joins (λ v. inside a v || inside b v) (set o (2 * most_runs) (2 * n + 2)) (Ok k)
joins_last a b words n r w ha hb few o e k is =
    let q = reached-end b r.j r.end r.j r.end (reaching_start b r.j r.end (right_any a b words n r w) w.on-axis) hb in
    let x = appended b r.j o (n + 1) r.j (n + 1) o (appending_start b r.j o (n + 1) (right_any a b words n r w)) hb in
    joins_right a b words n r w ha _ _
    (finish_all words n r.low r.end b r.j (open_right a b words n r w) _ q (2 * n + 2) (omega (arith, place_right a b words n r w)) (omega arith) o e o k
    (subst (Appended b r.j o (n + 1) o) (sym is) x))
