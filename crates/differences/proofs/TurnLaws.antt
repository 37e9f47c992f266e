-- From what is seen of a window to the members of a set, and from turn to turn.
use Prim.Native.Nat.{ℕ, ◌+◌, ◌-◌, ◌≤◌, ◌<◌}
use native.Mathlib.Omega.{arith}
use native.Mathlib.Decide.{dec_lt}
use mathlib.Core.Path.{◌≡◌, refl, sym, ap, subst, ◌∙◌}
use mathlib.Core.Bool.{Bool, true, false, ◌&&◌, ◌||◌, true≢false}
use mathlib.Core.List.{List}
use lib.Dec.{leb, ltb}
use lib.ListN.{get_or, replicate, get_or-replicate}
use borrow.Author.Tests.{le-leb, lt-leb, lt-ltb, le-ltb}
use Rattle.number.specs.Axis.{axis}
use Rattle.number.proofs.laws.Boolean.{or_pass}
use Rattle.std.specs.Prelude.{Result, Ok, IfOk}
use Rattle.std.specs.Result.{is_err}
use Rattle.runs.specs.declared.TooManyRuns.{TooManyRuns}
use Rattle.runs.specs.Set.{member, Valid, Holds, Makes}
use Rattle.runs.proofs.laws.Set.{holds_makes, makes_ext, makes_beside}
use Rattle.differences.specs.inner.Sweep.{window_size, from, shown, Least, Seen, Found, Extends, Begins}
use Rattle.differences.proofs.GatherLaws.{Gathered, gathered_none, gathered_end, gathered_more, gathered_many, one-part, or_false}

-- ---- the seen numbers

-- one more, where k is set
pub one_more : {A : Type 0} (words after : List ℕ) (d : ℕ) (k : Bool) (r : Result A TooManyRuns) → k ≡ true → Makes (λ v. member words v || (leb d v && leb v d)) after r
    → Makes (λ v. member words v || (k && (leb d v && leb v d))) after r
one_more words after d true r e m = m
one_more words after d false r e m = absurd (true≢false (sym e))

-- else none
pub none_more : {A : Type 0} {x : A} (words : List ℕ) (d : ℕ) (k : Bool) → k ≡ false → Valid words → Makes (λ v. member words v || (k && (leb d v && leb v d))) words (Ok x)
none_more words d true e h = absurd (true≢false e)
none_more words d false e h = holds_makes (λ v. member words v || false) words (record { valid = h; members = λ v k. sym (or_false (member words v)) })

-- the members of the words, and the seen numbers
abbrev pub with_shown : List ℕ → List Bool → ℕ → ℕ → ℕ → Bool
with_shown words w x end v = member words v || shown w x end v

module _ (words : List ℕ) (w : List Bool) (x end : ℕ) (valid : Valid words) (below : (v : ℕ) → v < axis → member words v ≡ true → v < x) where
  not_yet : (v : ℕ) → v < axis → x ≤ v → member words v ≡ false
  not_yet v h k = go (member words v) refl
    where
      go : (e : Bool) → member words v ≡ e → e ≡ false
      go false q = refl
      go true q = absurd (omega (arith, below v h q))

  pub shown-start : x ≤ axis → Gathered (with_shown words w x end) x words
  shown-start h = record { end = h; held = record { valid = valid; members = λ v k. by v k (dec_lt v x) } }
    where
      by : (v : ℕ) → v < axis → Dec (v < x) → member words v ≡ (ltb v x && with_shown words w x end v)
      by v k (yes a) = rw (lt-ltb v x a, lt-leb x v a) (sym (or_false (member words v)))
      by v k (no a) = rw (le-ltb v x (omega arith)) (not_yet v k (omega arith))

  shown_at : (d : ℕ) → x ≤ d → d < end → d < axis → with_shown words w x end d ≡ get_or w (d - x) false
  shown_at d a b c = rw (not_yet d c a, le-leb x d a, lt-ltb d end b)

  -- the number d, which is at place t of the window
  module _ {A : Type 0} (d t : ℕ) (now after : List ℕ) (r : Result A TooManyRuns) (g : Gathered (with_shown words w x end) d now) (low : x ≤ d) (high : d < end) (fits : end ≤ axis)
      (at : t ≡ d - x) (m : Makes (λ v. member now v || (get_or w t false && (leb d v && leb v d))) after r) where
    here : with_shown words w x end d ≡ get_or w t false
    here = shown_at d low high (omega arith) ∙ ap (λ (t : ℕ). get_or w t false) (sym at)

    pub shown-more : is_err r ≡ false → Gathered (with_shown words w x end) (d + 1) after
    shown-more = gathered_more (with_shown words w x end) (d + 1) (omega arith) _ (one-part (with_shown words w x end) d now g (get_or w t false) here) after r m

    pub shown-many : is_err r ≡ true → Makes (with_shown words w x end) after r
    shown-many = gathered_many (with_shown words w x end) (d + 1) (omega arith) _ (one-part (with_shown words w x end) d now g (get_or w t false) here) after r m

  pub shown-end : (d : ℕ) (after : List ℕ) → x ≤ d → end ≤ d → Gathered (with_shown words w x end) d after → {A : Type 0} {a : A} → Makes (with_shown words w x end) after (Ok a)
  shown-end d after h k g = gathered_end (with_shown words w x end) d after g (λ v a b. none v a b)
    where
      none : (v : ℕ) → d ≤ v → v < axis → with_shown words w x end v ≡ false
      none v a b = rw (not_yet v b (omega arith), le-leb x v (omega arith), le-ltb v end (omega arith))

-- ---- one turn

-- what is seen are the members of f up to the next sweep
module _ (f : ℕ → Bool) (x end next : ℕ) (u w : List Bool) (found : Found f x end next) (seen : Seen f x u w) (clear : u ≡ replicate window_size false) where
  shown_is : (v : ℕ) → shown w x end v ≡ (leb x v && (ltb v next && f v))
  shown_is v = by (dec_lt v x) (dec_lt v end) (dec_lt v next)
    where
      at : x ≤ v → v < end → get_or w (v - x) false ≡ f v
      at a b =
          let few : v - x < window_size = omega (arith, found.few) in
          let e : x + (v - x) ≡ v = omega arith in
          seen.is (v - x) few ∙ or_pass (get_or u (v - x) false) (f (x + (v - x))) (ap (λ (u : List Bool). get_or u (v - x) false) clear ∙ get_or-replicate window_size (v - x) false false few) ∙ ap f e

      by : Dec (v < x) → Dec (v < end) → Dec (v < next) → shown w x end v ≡ (leb x v && (ltb v next && f v))
      by (yes a) b c = rw (lt-leb x v a)
      by (no a) (yes b) (yes c) = rw (le-leb x v (omega arith), lt-ltb v end b, lt-ltb v next c) (at (omega arith) b)
      by (no a) (yes b) (no c) = absurd (omega (arith, found.few, found.on-axis, found.on))
      by (no a) (no b) (yes c) = rw (le-leb x v (omega arith), le-ltb v end (omega arith), lt-ltb v next c) (sym (found.gap v (omega arith) c))
      by (no a) (no b) (no c) = rw (le-leb x v (omega arith), le-ltb v end (omega arith), le-ltb v next (omega arith))

  -- all of them are in the set, or it has too many runs
  pub window_extends : {A : Type 0} → x < axis → (words after : List ℕ) (r : Result A TooManyRuns) (s : Result ℕ TooManyRuns) → is_err r ≡ is_err s → IfOk s (λ n. n ≡ next)
      → Makes (with_shown words w x end) after r → Extends f x words after s
  window_extends h words after r s e i m = record {
    next = next;
    is = i;
    on = omega (arith, found.on);
    stop = found.stop;
    here = found.here;
    made = makes_beside _ after e (makes_ext (with_shown words w x end) (λ v. member words v || (leb x v && (ltb v next && f v))) after r (λ v h. ap (λ (b : Bool). member words v || b) (shown_is v)) m);
  }

-- x is a member, and `next` the one after it
pub alone_extends : (f : ℕ → Bool) (x next : ℕ) → f x ≡ true → Least f (x + 1) next → {A : Type 0} (words after : List ℕ) (r : Result A TooManyRuns) (s : Result ℕ TooManyRuns) → is_err r ≡ is_err s → IfOk s (λ n. n ≡ next)
    → Makes (λ v. member words v || (leb x v && leb v x)) after r → Extends f x words after s
alone_extends f x next e l words after r s g i m = record {
  next = next;
  is = i;
  on = omega (arith, l.low);
  stop = l.end;
  here = l.here;
  made = makes_beside _ after g (makes_ext (λ v. member words v || (leb x v && leb v x)) (λ v. member words v || (leb x v && (ltb v next && f v))) after r (λ v h. ap (λ (b : Bool). member words v || b) (by v (dec_lt v x) (dec_lt x v) (dec_lt v next))) m);
}
  where
    by : (v : ℕ) → Dec (v < x) → Dec (x < v) → Dec (v < next) → (leb x v && leb v x) ≡ (leb x v && (ltb v next && f v))
    by v (yes a) b c = rw (lt-leb x v a)
    by v (no a) (yes b) (yes c) = rw (le-leb x v (omega arith), lt-leb v x b, lt-ltb v next c) (sym (l.gap v (omega arith) c))
    by v (no a) (yes b) (no c) = rw (le-leb x v (omega arith), lt-leb v x b, le-ltb v next (omega arith))
    by v (no a) (no b) c = let q : v ≡ x = omega arith in rw (le-leb x v (omega arith), le-leb v x (omega arith), lt-ltb v next (omega (arith, l.low))) (sym (ap f q ∙ e))

-- ---- turn by turn

pub begins-low : (f : ℕ → Bool) (low : ℕ) → low ≤ axis → Begins f low low
begins-low f low h = record { begun = omega arith; end = h; gap = λ v a b. absurd (omega arith) }

pub begins-least : (f : ℕ → Bool) (low x : ℕ) → Least f low x → Begins f low x
begins-least f low x l = record { begun = l.low; end = l.end; gap = l.gap }

-- what a turn adds is the part of f up to the next
module _ (f : ℕ → Bool) (low x : ℕ) (words after : List ℕ) (r : Result ℕ TooManyRuns) (g : Gathered (from low f) x words) (h : low ≤ x) (m : Extends f x words after r) where
  part : (v : ℕ) → v < axis → (member words v || (leb x v && (ltb v m.next && f v))) ≡ (ltb v m.next && from low f v)
  part v k = ap (λ (b : Bool). b || (leb x v && (ltb v m.next && f v))) (g.held.members v k) ∙ by (dec_lt v x)
    where
      by : Dec (v < x) → ((ltb v x && from low f v) || (leb x v && (ltb v m.next && f v))) ≡ (ltb v m.next && from low f v)
      by (yes a) = rw (lt-ltb v x a, lt-leb x v a, lt-ltb v m.next (omega (arith, m.on))) (or_false (from low f v))
      by (no a) = rw (le-ltb v x (omega arith), le-leb x v (omega arith), le-leb low v (omega arith))

  pub turn_more : is_err r ≡ false → Gathered (from low f) m.next after
  turn_more = gathered_more (from low f) m.next m.stop _ part after r m.made

  -- the next turn starts at n
  pub turn_on : (n : ℕ) → n ≡ m.next → is_err r ≡ false → (starts : ℕ → Type 0) → ((v : ℕ) → f v ≡ true → starts v) → (low ≤ n) × Gathered (from low f) n after × (n < axis → starts n)
  turn_on n e o starts each = (omega (arith, m.on), subst (λ (n : ℕ). Gathered (from low f) n after) (sym e) (turn_more o), λ k. each n (ap f e ∙ m.here (omega arith)))

  pub turn_many : is_err r ≡ true → Makes (from low f) after r
  turn_many = gathered_many (from low f) m.next m.stop _ part after r m.made

pub turn-start : (f : ℕ → Bool) (low x : ℕ) (words : List ℕ) → Begins f low x → Holds (λ v. false) words → Gathered (from low f) x words
turn-start f low x words s = gathered_none (from low f) x words s.end (λ v k. by v k (dec_lt v low))
  where
    by : (v : ℕ) → v < x → Dec (v < low) → from low f v ≡ false
    by v k (yes a) = rw (lt-leb low v a)
    by v k (no a) = rw (le-leb low v (omega arith)) (s.gap v (omega arith) k)

pub turn_end : {A : Type 0} {a : A} (f : ℕ → Bool) (x : ℕ) (words : List ℕ) → Gathered f x words → axis ≤ x → Makes f words (Ok a)
turn_end f x words g h = gathered_end f x words g (λ v a b. absurd (omega arith))
