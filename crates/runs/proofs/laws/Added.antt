-- A run more, behind all members of a set: two cuts more, or the last run goes on.
use Prim.Native.Nat.{ℕ, zero, suc, ◌+◌, ◌-◌, ◌*◌, ◌≤◌, ◌<◌}
use native.Mathlib.Omega.{arith}
use Rattle.std.specs.Prelude.{◌≡◌, Bool, not, ◌||◌, ◌&&◌, ◌⊎◌, leb, ltb, get_or, set, Ok, Err}
use Rattle.std.proofs.Math.Path.{refl, sym, ap}
use Rattle.std.proofs.Common.{ap₂, subst, ◌∙◌, true≢false, inl, inr, length-set, take-suc, get_or-set_same, get_or-set_other, le-leb, lt-ltb, leb-true, ltb-true}
use Rattle.std.proofs.Math.Bool.{true, false}
use mathlib.Core.List.{List, [], ◌∷◌, ◌++◌, append_assoc}
use Rattle.std.proofs.Math.Logic.{⊎_elim}
use Rattle.std.proofs.Math.ListN.{length, take, length-append}
use Rattle.std.proofs.Math.Seq.{take-suc-set}
use Rattle.std.proofs.lemmas.List.{take-set-le}
use Rattle.std.proofs.lemmas.Bool.{lt-leb}
use Rattle.number.specs.Axis.{axis}
use Rattle.number.proofs.laws.Boolean.{same}
use Rattle.number.proofs.laws.Order.{less_or_not}
use Rattle.runs.specs.declared.TooManyRuns.{TooManyRuns}
use Rattle.runs.specs.Runs.{most_runs}
use Rattle.runs.specs.Set.{cuts_of, slot_words, xor, inside, member, Ascending, Canonical, Valid, Makes}
use Rattle.runs.proofs.laws.Cuts.{xor_assoc, past}
use Rattle.runs.proofs.laws.Runs.{on-axis}
use Rattle.runs.proofs.laws.Set.{held, holds_makes, too_many, cuts-length, valid_cuts, run_inside}

pub inside-append : (l m : List ℕ) (v : ℕ) → inside (l ++ m) v ≡ xor (inside l v) (inside m v)
unfolding inside
inside-append [] m v = refl
inside-append (c ∷ l) m v = ap (xor (leb c v)) (inside-append l m v) ∙ sym (xor_assoc (leb c v) (inside l v) (inside m v))

-- cuts k, and behind them z
pub last-above : (lo hi z : ℕ) (k : List ℕ) → Ascending lo hi (k ++ z ∷ []) → lo ≤ z
last-above lo hi z [] a = a.0
last-above lo hi z (c ∷ k) a = omega (arith, a.0, last-above (c + 1) hi z k a.2)

pub last-below : (lo hi z : ℕ) (k : List ℕ) → Ascending lo hi (k ++ z ∷ []) → z ≤ hi
last-below lo hi z [] a = a.1
last-below lo hi z (c ∷ k) a = last-below (c + 1) hi z k a.2

pub front-ascends : (lo hi z x : ℕ) (k : List ℕ) → Ascending lo hi (k ++ z ∷ []) → z ≤ x + 1 → Ascending lo x k
front-ascends lo hi z x [] a h = tt
front-ascends lo hi z x (c ∷ k) a h = (a.0, omega (arith, last-above (c + 1) hi z k a.2), front-ascends (c + 1) hi z x k a.2 h)

-- in place of z a later cut, and others behind it
replaced : (lo hi z z' : ℕ) (k r : List ℕ) → Ascending lo hi (k ++ z ∷ []) → z ≤ z' → z' ≤ hi → Ascending (z' + 1) hi r → Ascending lo hi (k ++ z' ∷ r)
replaced lo hi z z' [] r a h g b = (omega (arith, a.0), g, b)
replaced lo hi z z' (c ∷ k) r a h g b = (a.0, a.1, replaced (c + 1) hi z z' k r a.2 h g b)

-- where no member is left from low on, the last cut is not behind low
last_is : (k : List ℕ) (z low : ℕ) → Canonical (k ++ z ∷ []) → ((v : ℕ) → inside (k ++ z ∷ []) v ≡ true → v < low) → z ≤ low
unfolding inside
last_is k z low c behind =
    ⊎_elim
    (λ h.
    let last = last-below 0 axis z k c.ascending in
    let out : xor (inside k axis) (xor (leb z axis) false) ≡ false = sym (inside-append k (z ∷ []) axis) ∙ c.ended in
    let on : inside k axis ≡ true = flip (inside k axis) (sym (ap (λ (b : Bool). xor (inside k axis) (xor b false)) (le-leb z axis last)) ∙ out) in
    let at : inside k (z - 1) ≡ true = sym (past 0 (z - 1) k axis (front-ascends 0 axis z (z - 1) k c.ascending (omega arith)) (omega arith)) ∙ on in
    absurd (let m = behind (z - 1) (inside-append k (z ∷ []) (z - 1) ∙ ap₂ (λ (a b : Bool). xor a (xor b false)) at (lt-leb z (z - 1) (omega arith))) in omega arith))
    (λ h. h)
    (less_or_not low z)
  where
    flip : (b : Bool) → xor b true ≡ false → b ≡ true
    flip true e = refl
    flip false e = absurd (true≢false e)

-- a last cut ends a run, so it is not 0
zero_last : (j : List ℕ) → Canonical (j ++ 0 ∷ []) → ⊥
unfolding inside
zero_last [] c = absurd (true≢false (sym (ap (λ (b : Bool). xor b false) (le-leb 0 axis (omega arith))) ∙ c.ended))
zero_last (x ∷ j) c = let h = last-above (x + 1) axis 0 j c.ascending.2 in omega arith

-- two sets of which no number is in both
pub apart_or : (a b : Bool) → (a ≡ true → b ≡ false) → xor a b ≡ (a || b)
apart_or true b h = ap not (h refl)
apart_or false b h = refl

module _ (l : List ℕ) (c : Canonical l) (low high : ℕ) (h : low ≤ high) (k : high < axis) (behind : (v : ℕ) → inside l v ≡ true → v < low) where
  abbrev f : ℕ → Bool
  f v = inside l v || (leb low v && leb v high)

  abbrev run : List ℕ
  run = low ∷ (high + 1) ∷ []

  -- cuts that say of each number what l says, and the other where the run has it
  module _ (m : List ℕ) (asc : Ascending 0 axis m) (e : (v : ℕ) → inside m v ≡ xor (inside l v) (inside run v)) where
    more-members : (v : ℕ) → inside m v ≡ f v
    more-members v =
        e v ∙ ap (xor (inside l v)) (run_inside low high h k v)
        ∙ apart_or (inside l v) (leb low v && leb v high) (λ t. ap (λ (b : Bool). b && leb v high) (lt-leb low v (behind v t)))

    more_canonical : Canonical m
    more_canonical =
        record {
          ascending = asc;
          ended = more-members axis ∙ ap₂ (λ (a b : Bool). a || (leb low axis && b)) c.ended (lt-leb axis high k) ∙ off (leb low axis);
        }
      where
        off : (b : Bool) → (b && false) ≡ false
        off true = refl
        off false = refl

  -- the first run of a set
  pub first-ascends : l ≡ [] → Ascending 0 axis (l ++ run)
  first-ascends e = subst (λ (x : List ℕ). Ascending 0 axis (x ++ run)) (sym e) (omega arith, omega arith, (omega arith, omega arith, tt))

  module _ (j : List ℕ) (z : ℕ) (e : l ≡ j ++ z ∷ []) where
    last-low : z ≤ low
    last-low = last_is j z low (subst Canonical e c) (λ v t. behind v (ap (λ (x : List ℕ). inside x v) e ∙ t))

    -- a run behind the last
    pub behind_ascends : (z ≡ low → ⊥) → Ascending 0 axis (l ++ run)
    behind_ascends ne =
        let g = last-low in
        subst (Ascending 0 axis) (sym (ap (λ (x : List ℕ). x ++ run) e ∙ append_assoc j (z ∷ []) run))
        (replaced 0 axis z z j run (subst (Ascending 0 axis) e c.ascending) (omega arith) (omega arith) (omega arith, omega arith, (omega arith, omega arith, tt)))

    -- the last run goes on
    joined_ascends : z ≡ low → Ascending 0 axis (j ++ (high + 1) ∷ [])
    joined_ascends q = replaced 0 axis z (high + 1) j [] (subst (Ascending 0 axis) e c.ascending) (omega arith) (omega arith) tt

    joined_inside : z ≡ low → (v : ℕ) → inside (j ++ (high + 1) ∷ []) v ≡ xor (inside l v) (inside run v)
    unfolding inside
    joined_inside q v =
        inside-append j ((high + 1) ∷ []) v ∙ turn (inside j v) (leb low v) (leb (high + 1) v)
        ∙ ap (λ (b : Bool). xor b (inside run v))
        (sym (ap (λ (x : List ℕ). inside x v) e ∙ inside-append j (z ∷ []) v ∙ ap (λ (n : ℕ). xor (inside j v) (xor (leb n v) false)) q))
      where
        turn : (a b d : Bool) → xor a (xor d false) ≡ xor (xor a (xor b false)) (xor b (xor d false))
        turn true true true = refl
        turn true true false = refl
        turn true false true = refl
        turn true false false = refl
        turn false true true = refl
        turn false true false = refl
        turn false false true = refl
        turn false false false = refl

-- a list is empty or has a last
pub last_or_none : (l : List ℕ) → (l ≡ []) ⊎ ((j : List ℕ) × (z : ℕ) × (l ≡ j ++ z ∷ []))
last_or_none [] = inl refl
last_or_none (c ∷ l) = inr (⊎_elim (λ e. ([], c, ap (λ (x : List ℕ). c ∷ x) e)) (λ e. (c ∷ e.0, e.1, ap (λ (x : List ℕ). c ∷ x) e.2)) (last_or_none l))

-- a run from low on and before end, apart from all that is inside
pub grown_behind : (l : List ℕ) (c : Canonical l) (low end : ℕ) → low < end → end ≤ axis → ((v : ℕ) → inside l v ≡ true → v + 1 < low)
    → Canonical (l ++ low ∷ end ∷ []) × ((v : ℕ) → inside (l ++ low ∷ end ∷ []) v ≡ (inside l v || (leb low v && ltb v end)))
grown_behind l c low end h k apart =
    subst (λ (e : ℕ). Canonical (l ++ low ∷ e ∷ []) × ((v : ℕ) → inside (l ++ low ∷ e ∷ []) v ≡ (inside l v || (leb low v && ltb v e)))) back (
      more_canonical l c low high g on near (l ++ run l c low high g on near) asc (inside-append l (run l c low high g on near)),
      λ v. more-members l c low high g on near (l ++ run l c low high g on near) asc (inside-append l (run l c low high g on near)) v
          ∙ ap (λ (b : Bool). inside l v || (leb low v && b)) (until v),
    )
  where
    high : ℕ
    high = end - 1

    back : (end - 1) + 1 ≡ end
    back = omega arith

    g : low ≤ end - 1
    g = omega arith

    on : end - 1 < axis
    on = omega arith

    near : (v : ℕ) → inside l v ≡ true → v < low
    near v t = omega (arith, apart v t)

    until : (v : ℕ) → leb v (end - 1) ≡ ltb v ((end - 1) + 1)
    until v = same (leb v (end - 1)) (ltb v ((end - 1) + 1)) (λ t. lt-ltb v ((end - 1) + 1) (omega (arith, leb-true v (end - 1) t))) (λ t. le-leb v (end - 1) (omega (arith, ltb-true v ((end - 1) + 1) t)))

    asc : Ascending 0 axis (l ++ low ∷ ((end - 1) + 1) ∷ [])
    asc =
        ⊎_elim (λ e. first-ascends l c low (end - 1) g on near e)
        (λ e. behind_ascends l c low (end - 1) g on near e.0 e.1 e.2 (λ q.
        let z = last_is e.0 e.1 (low - 1) (subst Canonical e.2 c) (λ v t. omega (arith, apart v (ap (λ (x : List ℕ). inside x v) e.2 ∙ t))) in
        pos e.0 e.1 e.2 q z))
        (last_or_none l)
      where
        pos : (j : List ℕ) (z : ℕ) → l ≡ j ++ z ∷ [] → z ≡ low → z ≤ low - 1 → ⊥
        pos j zero e q h = absurd (zero_last j (subst Canonical e c))
        pos j (suc z) e q h = omega arith

pub put_two : (o : List ℕ) (n d e : ℕ) → n + 2 ≤ length o → take (n + 2) (set (set o n d) (n + 1) e) ≡ take n o ++ d ∷ e ∷ []
put_two o n d e h =
    let a : n + 2 ≡ suc (n + 1) = omega arith in
    let b : n + 1 ≡ suc n = omega arith in
    let k : n + 1 < length (set o n d) = omega (arith, length-set o n d) in
    ap (λ (m : ℕ). take m (set (set o n d) (n + 1) e)) a
    ∙ take-suc-set (set o n d) (n + 1) e k
    ∙ ap (λ (l : List ℕ). l ++ (e ∷ [])) (ap (λ (m : ℕ). take m (set o n d)) b ∙ take-suc-set o n d (omega arith))
    ∙ append_assoc (take n o) (d ∷ []) (e ∷ [])

module _ (words : List ℕ) (w : Valid words) (low high : ℕ) (h : low ≤ high) (k : high < axis) (near : (v : ℕ) → v < axis → member words v ≡ true → v < low)
    (n : ℕ) (is : n ≡ get_or words (2 * most_runs) 0) where
  abbrev more : ℕ → Bool
  more v = member words v || (leb low v && leb v high)

  behind : (v : ℕ) → inside (cuts_of words) v ≡ true → v < low
  unfolding member
  behind v t = near v (on-axis (cuts_of words) w.canonical v t) t

  cuts-take : cuts_of words ≡ take n words
  cuts-take = ap (λ (i : ℕ). take i words) (sym is)

  -- the cut before place n
  last_cut : 0 < n → cuts_of words ≡ take (n - 1) words ++ get_or words (n - 1) 0 ∷ []
  last_cut p =
      let e : n ≡ suc (n - 1) = omega arith in
      cuts-take ∙ ap (λ (i : ℕ). take i words) e ∙ take-suc words (n - 1) 0 (omega (arith, w.few, w.size))

  -- it goes on
  pub joins : 0 < n → get_or words (n - 1) 0 ≡ low → Makes more (set words (n - 1) (high + 1)) (Ok (tt {0}))
  unfolding member
  joins p q =
      let j = take (n - 1) words in
      let m = j ++ (high + 1) ∷ [] in
      let len : length (cuts_of words) ≡ length m = ap length (last_cut p) ∙ simp length-append refl in
      let lm : length m ≡ n = sym len ∙ cuts-length words w ∙ sym is in
      let there : n - 1 < length words = omega (arith, w.few, w.size) in
      let e : n ≡ suc (n - 1) = omega arith in
      let asc = joined_ascends (cuts_of words) w.canonical low high h k behind j (get_or words (n - 1) 0) (last_cut p) q in
      let ins = joined_inside (cuts_of words) w.canonical low high h k behind j (get_or words (n - 1) 0) (last_cut p) q in
      holds_makes more _
      (held m (set words (n - 1) (high + 1)) (more_canonical (cuts_of words) w.canonical low high h k behind m asc ins) (omega (arith, w.few))
      (length-set words (n - 1) (high + 1) ∙ w.size)
      (get_or-set_other words (n - 1) (2 * most_runs) (high + 1) 0 (λ z. absurd (omega (arith, w.few))) ∙ sym is ∙ sym lm)
      (ap (λ (i : ℕ). take i (set words (n - 1) (high + 1))) (lm ∙ e) ∙ take-suc-set words (n - 1) (high + 1) there)
      more (λ v g. more-members (cuts_of words) w.canonical low high h k behind m asc ins v))

  -- there is no last cut at low
  module _ (apart : 0 < n → get_or words (n - 1) 0 ≡ low → ⊥) where
    abbrev cuts : List ℕ
    cuts = cuts_of words ++ low ∷ (high + 1) ∷ []

    grown : Ascending 0 axis cuts
    unfolding member
    grown =
        ⊎_elim
        (λ p. behind_ascends (cuts_of words) w.canonical low high h k behind (take (n - 1) words) (get_or words (n - 1) 0) (last_cut p) (apart p))
        (λ p. let z : n ≡ 0 = omega arith in first-ascends (cuts_of words) w.canonical low high h k behind (cuts-take ∙ ap (λ (i : ℕ). take i words) z))
        (less_or_not 0 n)

    grown_canonical : Canonical cuts
    unfolding member
    grown_canonical = more_canonical (cuts_of words) w.canonical low high h k behind cuts grown (inside-append (cuts_of words) (low ∷ (high + 1) ∷ []))

    grown-members : (v : ℕ) → inside cuts v ≡ more v
    unfolding member
    grown-members v = more-members (cuts_of words) w.canonical low high h k behind cuts grown (inside-append (cuts_of words) (low ∷ (high + 1) ∷ [])) v

    grown-length : length cuts ≡ n + 2
    grown-length = length-append (cuts_of words) (low ∷ (high + 1) ∷ []) ∙ ap (λ (i : ℕ). i + 2) (cuts-length words w ∙ sym is)

    pub full : n ≡ 2 * most_runs → {x : TooManyRuns} → Makes {A = Unit {0}} more words (Err x)
    full e = too_many more cuts words grown_canonical (λ v g. grown-members v) (omega (arith, grown-length))

    pub room : (n ≡ 2 * most_runs → ⊥) → n + 2 ≤ 2 * most_runs
    room ne = omega (arith, w.few, valid_cuts words w)

    grown-put : (ne : n ≡ 2 * most_runs → ⊥) → Makes more (set (set (set words n low) (n + 1) (high + 1)) (2 * most_runs) (n + 2)) (Ok (tt {0}))
    grown-put ne =
        let o = set (set words n low) (n + 1) (high + 1) in
        let r = room ne in
        let s : length o ≡ slot_words = length-set (set words n low) (n + 1) (high + 1) ∙ length-set words n low ∙ w.size in
        holds_makes more _
        (held cuts (set o (2 * most_runs) (n + 2)) grown_canonical (omega (arith, grown-length))
        (length-set o (2 * most_runs) (n + 2) ∙ s)
        (get_or-set_same o (2 * most_runs) (n + 2) 0 (omega arith) ∙ sym grown-length)
        (ap (λ (i : ℕ). take i (set o (2 * most_runs) (n + 2))) grown-length ∙ take-set-le (n + 2) o (2 * most_runs) (n + 2) r
        ∙ put_two words n low (high + 1) (omega (arith, w.size)) ∙ ap (λ (x : List ℕ). x ++ low ∷ (high + 1) ∷ []) (sym cuts-take))
        more (λ v g. grown-members v))

    pub added : (ne : n ≡ 2 * most_runs → ⊥) (o : List ℕ) → o ≡ set (set (set words n low) (n + 1) (high + 1)) (2 * most_runs) (n + 2) → Makes more o (Ok (tt {0}))
    added ne o e = subst (λ (w : List ℕ). Makes more w (Ok (tt {0}))) (sym e) (grown-put ne)
