-- The complement by cuts: one more or less at either end of the axis, and between them the same.
use Rattle.std.specs.Prelude.{ℕ, zero, suc, ◌+◌, ◌-◌, ◌*◌, ◌≤◌, ◌<◌, ◌≡◌, refl, Bool, true, false, not, List, [], ◌∷◌, ◌++◌, length, take, drop, get_or, set, Ok, Err}
use Rattle.std.proofs.Common.{arith, sym, ap, ap₂, subst, ◌∙◌, append_assoc, append-nil, ⊎_elim, length-append, length-set, length-drop, length-take-le, get_or-set_same, drop-cons}
use Rattle.std.proofs.Math.Seq.{take-append_seam, drop-append_seam, take-append-add, get_or-append_seam, set-append_seam}
use Rattle.std.proofs.lemmas.List.{take-set-le}
use Rattle.std.proofs.lemmas.Bool.{eq-eqb, ne_eqb}
use Rattle.std.proofs.Math.Dec.{eqb}
use Rattle.std.specs.Int.{from_bool}
use Rattle.number.specs.Axis.{axis}
use Rattle.number.proofs.laws.Order.{less_or_not}
use Rattle.runs.specs.declared.TooManyRuns.{TooManyRuns}
use Rattle.runs.specs.Runs.{most_runs}
use Rattle.runs.specs.Set.{slot_words, xor, inside, Ascending, Canonical, Makes}
use Rattle.runs.proofs.laws.Cuts.{none, inside_ge, inside_lt, weaken, lone}
use Rattle.runs.proofs.laws.Added.{inside-append, last-above, last-below, front-ascends, last_or_none}
use Rattle.runs.proofs.laws.Set.{held, holds_makes, too_many}
use Rattle.merge.specs.inner.Complement.{between, Ended}
use Rattle.merge.specs.declared.complement.Ends.{Ends}

-- ---- the cuts at the ends of the axis

abbrev low_cut : ℕ → List ℕ
low_cut x = take x (0 ∷ [])

abbrev high_cut : ℕ → List ℕ
high_cut y = take y (axis ∷ [])

-- a list in three parts
module _ (a mid : List ℕ) (x y : ℕ) (hx : x ≤ 1) (hy : y ≤ 1) (e : a ≡ low_cut x ++ (mid ++ high_cut y)) (w : Ascending 1 (axis - 1) mid) where
  low-length : length (low_cut x) ≡ x
  low-length = length-take-le x (0 ∷ []) hx

  a_length : length a ≡ x + (length mid + y)
  a_length = ap length e ∙ length-append (low_cut x) (mid ++ high_cut y) ∙ ap₂ ◌+◌ low-length (length-append mid (high_cut y) ∙ ap (λ (k : ℕ). length mid + k) (length-take-le y (axis ∷ []) hy))

  mid_is : between a (record { low = x; high = y }) ≡ mid
  mid_is =
      let n : (length a - y) - x ≡ length mid = omega (arith, a_length) in
      ap₂ take n (ap₂ drop (sym low-length) e ∙ drop-append_seam (low_cut x) (mid ++ high_cut y)) ∙ take-append_seam mid (high_cut y)

  ended_of : Ended a (record { low = x; high = y })
  ended_of = record {
    low = hx;
    high = hy;
    room = omega (arith, a_length);
    parts = e ∙ ap (λ (l : List ℕ). low_cut x ++ (l ++ high_cut y)) (sym mid_is);
    inner = subst (Ascending 1 (axis - 1)) (sym mid_is) w;
  }

pub ended_none : (a : List ℕ) → length a ≡ 0 → Ended a (record { low = 0; high = 0 })
ended_none [] h = ended_of [] [] 0 0 (omega arith) (omega arith) refl tt
ended_none (x ∷ a) h = absurd (omega arith)

-- how many there are where x is y
abbrev OneIf : ℕ → ℕ → ℕ → Type 0
OneIf x y n = (x ≡ y → n ≡ 1) × ((x ≡ y → ⊥) → n ≡ 0)

pub one_if : (x y n : ℕ) → n ≡ from_bool (eqb x y) → OneIf x y n
one_if x y n e = ((λ p. e ∙ ap from_bool (eq-eqb x y p)), (λ p. e ∙ ap from_bool (ne_eqb x y p)))

-- none reaches the high end where the last does not
lower_last : (lo hi h z : ℕ) (k : List ℕ) → Ascending lo hi (k ++ z ∷ []) → z ≤ h → Ascending lo h (k ++ z ∷ [])
lower_last lo hi h z [] a g = (a.0, g, tt)
lower_last lo hi h z (c ∷ k) a g = (a.0, omega (arith, last-above (c + 1) hi z k a.2), lower_last (c + 1) hi h z k a.2 g)

-- a first and a last cut
module _ (x : ℕ) (j : List ℕ) (z : ℕ) (a : Ascending 0 axis (x ∷ (j ++ z ∷ []))) where
  last_on : z ≤ axis
  last_on = last-below (x + 1) axis z j a.2

  above-first : x < z
  above-first = omega (arith, last-above (x + 1) axis z j a.2)

  -- the cuts from the first on that is not at the low end
  low_parts : (n : ℕ) → OneIf x 0 n → (n ≤ 1) × (k : List ℕ) × (x ∷ (j ++ z ∷ []) ≡ low_cut n ++ (k ++ z ∷ [])) × Ascending 1 axis (k ++ z ∷ [])
  low_parts n o =
      ⊎_elim (λ h. let e : n ≡ 0 = o.1 (λ q. omega arith) in
      subst (λ (m : ℕ). (m ≤ 1) × (k : List ℕ) × (x ∷ (j ++ z ∷ []) ≡ low_cut m ++ (k ++ z ∷ [])) × Ascending 1 axis (k ++ z ∷ [])) (sym e) (omega arith, x ∷ j, refl, (omega arith, a.1, a.2)))
      (λ h. let q : x ≡ 0 = omega arith in
      subst (λ (m : ℕ). (m ≤ 1) × (k : List ℕ) × (x ∷ (j ++ z ∷ []) ≡ low_cut m ++ (k ++ z ∷ [])) × Ascending 1 axis (k ++ z ∷ [])) (sym (o.0 q)) (omega arith, j, ap (λ (y : ℕ). y ∷ (j ++ z ∷ [])) q, weaken 1 (x + 1) axis (j ++ z ∷ []) (omega arith) a.2))
      (less_or_not 0 x)

  -- and up to the last that is not at the high end
  pub ends_are : (n m : ℕ) → OneIf x 0 n → OneIf z axis m → Ended (x ∷ (j ++ z ∷ [])) (record { low = n; high = m })
  ends_are n m o p =
      let l = low_parts n o in
      let k = l.1 in
      ⊎_elim (λ h. let e : m ≡ 0 = p.1 (λ q. omega arith) in
      subst (λ (y : ℕ). Ended (x ∷ (j ++ z ∷ [])) (record { low = n; high = y })) (sym e)
      (ended_of (x ∷ (j ++ z ∷ [])) (k ++ z ∷ []) n 0 l.0 (omega arith) (l.2 ∙ ap (λ (y : List ℕ). low_cut n ++ y) (sym (append-nil (k ++ z ∷ [])))) (lower_last 1 axis (axis - 1) z k l.3 (omega arith))))
      (λ h. let q : z ≡ axis = omega (arith, last_on) in
      subst (λ (y : ℕ). Ended (x ∷ (j ++ z ∷ [])) (record { low = n; high = y })) (sym (p.0 q))
      (ended_of (x ∷ (j ++ z ∷ [])) k n 1 l.0 (omega arith) (l.2 ∙ ap (λ (y : ℕ). low_cut n ++ (k ++ y ∷ [])) q) (front-ascends 1 axis z (axis - 1) k l.3 (omega arith))))
      (less_or_not z axis)

pub ended_some : (a : List ℕ) (n m : ℕ) → Canonical a → (length a ≡ 0 → ⊥) → OneIf (get_or a 0 0) 0 n → OneIf (get_or a (length a - 1) 0) axis m → Ended a (record { low = n; high = m })
ended_some [] n m c h o p = absurd (h refl)
ended_some (x ∷ []) n m c h o p = lone 0 axis x c.ascending c.ended
ended_some (x ∷ y ∷ r) n m c h o p =
    ⊎_elim (λ e. absurd (cons_nil y r e))
    (λ e.
    let l : x ∷ y ∷ r ≡ x ∷ (e.0 ++ e.1 ∷ []) = ap (λ (k : List ℕ). x ∷ k) e.2 in
    let i : length (x ∷ (e.0 ++ e.1 ∷ [])) - 1 ≡ length (x ∷ e.0) = simp length-append (omega arith) in
    let g : get_or (x ∷ y ∷ r) (length (x ∷ y ∷ r) - 1) 0 ≡ e.1 =
    ap (λ (k : List ℕ). get_or k (length k - 1) 0) l ∙ ap (λ (k : ℕ). get_or (x ∷ (e.0 ++ e.1 ∷ [])) k 0) i ∙ get_or-append_seam (x ∷ e.0) e.1 [] 0 in
    subst (λ (k : List ℕ). Ended k (record { low = n; high = m })) (sym l)
    (ends_are x e.0 e.1 (subst (Ascending 0 axis) l c.ascending) n m o (subst (λ (k : ℕ). OneIf k axis m) g p)))
    (last_or_none (y ∷ r))
  where
    cons_nil : (y : ℕ) (r : List ℕ) → y ∷ r ≡ [] → ⊥
    cons_nil y r e = let h : suc (length r) ≡ 0 = ap length e in omega arith

-- ---- their complement

-- a cut at the low end turns membership everywhere, one at the high end nowhere before it
low-turns : (x v : ℕ) → x ≤ 1 → inside (low_cut (1 - x)) v ≡ not (inside (low_cut x) v)
low-turns zero v h = inside_ge 0 [] v (omega arith) ∙ ap not (none v) ∙ sym (ap not (none v))
low-turns (suc zero) v h = none v ∙ sym (ap not (inside_ge 0 [] v (omega arith) ∙ ap not (none v)))
low-turns (suc (suc x)) v h = absurd (omega arith)

high_keeps : (y v : ℕ) → y ≤ 1 → v < axis → inside (high_cut y) v ≡ false
high_keeps zero v h g = none v
high_keeps (suc zero) v h g = inside_lt axis [] v g ∙ none v
high_keeps (suc (suc y)) v h g = absurd (omega arith)

high-turns : (y : ℕ) → y ≤ 1 → inside (high_cut (1 - y)) axis ≡ not (inside (high_cut y) axis)
high-turns zero h = inside_ge axis [] axis (omega arith) ∙ ap not (none axis) ∙ sym (ap not (none axis))
high-turns (suc zero) h = none axis ∙ sym (ap not (inside_ge axis [] axis (omega arith) ∙ ap not (none axis)))
high-turns (suc (suc y)) h = absurd (omega arith)

-- cuts at the ends put to others between
high-put : (lo y : ℕ) (k : List ℕ) → lo ≤ axis → y ≤ 1 → Ascending lo (axis - 1) k → Ascending lo axis (k ++ high_cut y)
high-put lo zero [] g h a = tt
high-put lo (suc zero) [] g h a = (g, omega arith, tt)
high-put lo (suc (suc y)) [] g h a = absurd (omega arith)
high-put lo y (c ∷ k) g h a = (a.0, omega (arith, a.1), high-put (c + 1) y k (omega (arith, a.1)) h a.2)

low-put : (x : ℕ) (k : List ℕ) → x ≤ 1 → Ascending 1 axis k → Ascending 0 axis (low_cut x ++ k)
low-put zero k h a = weaken 0 1 axis k (omega arith) a
low-put (suc zero) k h a = (omega arith, omega arith, a)
low-put (suc (suc x)) k h a = absurd (omega arith)

three : (l k m : List ℕ) (v : ℕ) → inside (l ++ (k ++ m)) v ≡ xor (inside l v) (xor (inside k v) (inside m v))
three l k m v = inside-append l (k ++ m) v ∙ ap (xor (inside l v)) (inside-append k m v)

module _ (a : List ℕ) (c : Canonical a) (r : Ends) (w : Ended a r) where
  abbrev f : ℕ → Bool
  f v = not (inside a v)

  abbrev mid : List ℕ
  mid = between a r

  abbrev cuts : List ℕ
  cuts = low_cut (1 - r.low) ++ (mid ++ high_cut (1 - r.high))

  a_inside : (v : ℕ) → inside a v ≡ xor (inside (low_cut r.low) v) (xor (inside mid v) (inside (high_cut r.high) v))
  a_inside v = ap (λ (l : List ℕ). inside l v) w.parts ∙ three (low_cut r.low) mid (high_cut r.high) v

  cuts-inside : (v : ℕ) → inside cuts v ≡ xor (not (inside (low_cut r.low) v)) (xor (inside mid v) (inside (high_cut (1 - r.high)) v))
  cuts-inside v = three (low_cut (1 - r.low)) mid (high_cut (1 - r.high)) v ∙ ap (λ (b : Bool). xor b (xor (inside mid v) (inside (high_cut (1 - r.high)) v))) (low-turns r.low v w.low)

  members : (v : ℕ) → v < axis → inside cuts v ≡ f v
  members v h =
      cuts-inside v
      ∙ ap (λ (b : Bool). xor (not (inside (low_cut r.low) v)) (xor (inside mid v) b)) (high_keeps (1 - r.high) v (omega arith) h ∙ sym (high_keeps r.high v w.high h))
      ∙ turn (inside (low_cut r.low) v) (xor (inside mid v) (inside (high_cut r.high) v)) ∙ ap not (sym (a_inside v))
    where
      turn : (p q : Bool) → xor (not p) q ≡ not (xor p q)
      turn true true = refl
      turn true false = refl
      turn false q = refl

  canonical : Canonical cuts
  canonical =
      record {
        ascending = low-put (1 - r.low) (mid ++ high_cut (1 - r.high)) (omega arith) (high-put 1 (1 - r.high) mid (omega arith) (omega arith) w.inner);
        ended = cuts-inside axis ∙ ap (λ (b : Bool). xor (not (inside (low_cut r.low) axis)) (xor (inside mid axis) b)) (high-turns r.high w.high)
            ∙ twice (inside (low_cut r.low) axis) (inside mid axis) (inside (high_cut r.high) axis) ∙ sym (a_inside axis) ∙ c.ended;
      }
    where
      twice : (p q s : Bool) → xor (not p) (xor q (not s)) ≡ xor p (xor q s)
      twice true true true = refl
      twice true true false = refl
      twice true false true = refl
      twice true false false = refl
      twice false true true = refl
      twice false true false = refl
      twice false false true = refl
      twice false false false = refl

  pub mid-length : length mid ≡ (length a - r.high) - r.low
  mid-length = length-take-le ((length a - r.high) - r.low) (drop r.low a) (omega (arith, length-drop r.low a))

  -- how many there are, as they are counted
  abbrev back : ℕ
  back = (1 - r.low) + ((length a - r.high) - r.low)

  abbrev all : ℕ
  all = back + (1 - r.high)

  cuts-length : length cuts ≡ all
  cuts-length =
      length-append (low_cut (1 - r.low)) (mid ++ high_cut (1 - r.high))
      ∙ ap₂ ◌+◌ (length-take-le (1 - r.low) (0 ∷ []) (omega arith)) (length-append mid (high_cut (1 - r.high)) ∙ ap₂ ◌+◌ mid-length (length-take-le (1 - r.high) (axis ∷ []) (omega arith)))
      ∙ omega arith

  pub complement_over : (words : List ℕ) → 2 * most_runs < all → {x : TooManyRuns} → Makes {A = Unit {0}} f words (Err x)
  complement_over words h = too_many f cuts words canonical members (omega (arith, cuts-length))

  -- they are put into words
  module _ (words : List ℕ) (size : length words ≡ slot_words) (few : all ≤ 2 * most_runs) where
    abbrev first : List ℕ
    first = set words 0 0

    abbrev rest : List ℕ
    rest = drop ((1 - r.low) + length mid) first

    abbrev before : List ℕ
    before = take (1 - r.low) first ++ mid

    front_is : (l : List ℕ) (x : ℕ) → x ≤ 1 → 0 < length l → take x (set l 0 0) ≡ low_cut x
    front_is [] x h g = absurd (omega arith)
    front_is (y ∷ l) zero h g = refl
    front_is (y ∷ l) (suc zero) h g = refl
    front_is (y ∷ l) (suc (suc x)) h g = absurd (omega arith)

    fronted : take (1 - r.low) first ≡ low_cut (1 - r.low)
    fronted = front_is words (1 - r.low) (omega arith) (omega arith)

    before-length : length before ≡ back
    before-length = length-append (take (1 - r.low) first) mid ∙ ap₂ ◌+◌ (ap length fronted ∙ length-take-le (1 - r.low) (0 ∷ []) (omega arith)) mid-length

    rest-length : length rest ≡ slot_words - back
    rest-length = length-drop ((1 - r.low) + length mid) first ∙ ap₂ (λ (n m : ℕ). n - ((1 - r.low) + m)) (length-set words 0 0 ∙ size) mid-length

    abbrev placed : List ℕ
    placed = take (1 - r.low) first ++ (mid ++ rest)

    placed_is : placed ≡ before ++ (get_or rest 0 0 ∷ drop 1 rest)
    placed_is = sym (append_assoc (take (1 - r.low) first) mid rest) ∙ ap (λ (l : List ℕ). before ++ l) (drop-cons rest 0 0 (omega (arith, rest-length)))

    set_is : set placed back axis ≡ before ++ (axis ∷ drop 1 rest)
    set_is = ap₂ (λ (l : List ℕ) (k : ℕ). set l k axis) placed_is (sym before-length) ∙ set-append_seam before (get_or rest 0 0) (drop 1 rest) axis

    last_is : (l : List ℕ) (y : ℕ) → y ≤ 1 → take y (axis ∷ l) ≡ high_cut y
    last_is l zero h = refl
    last_is l (suc zero) h = refl
    last_is l (suc (suc y)) h = absurd (omega arith)

    placed-length : length placed ≡ slot_words
    placed-length = ap length placed_is ∙ length-append before (get_or rest 0 0 ∷ drop 1 rest) ∙ omega (arith, before-length, rest-length, length-drop 1 rest)

    placed_holds : Makes f (set (set placed back axis) (2 * most_runs) all) (Ok (tt {0}))
    placed_holds =
        holds_makes f _
        (held cuts (set (set placed back axis) (2 * most_runs) all) canonical (omega (arith, cuts-length))
        (length-set (set placed back axis) (2 * most_runs) all ∙ length-set placed back axis ∙ placed-length)
        (get_or-set_same (set placed back axis) (2 * most_runs) all 0 (omega (arith, length-set placed back axis, placed-length)) ∙ sym cuts-length)
        (ap (λ (k : ℕ). take k (set (set placed back axis) (2 * most_runs) all)) cuts-length ∙ take-set-le all (set placed back axis) (2 * most_runs) all few
        ∙ ap₂ take (ap (λ (k : ℕ). k + (1 - r.high)) (sym before-length)) set_is ∙ take-append-add before (axis ∷ drop 1 rest) (1 - r.high)
        ∙ ap₂ ◌++◌ (ap (λ (l : List ℕ). l ++ mid) fronted) (last_is (drop 1 rest) (1 - r.high) (omega arith)) ∙ append_assoc (low_cut (1 - r.low)) mid (high_cut (1 - r.high)))
        f members)

    module _ (p : List ℕ) (e : p ≡ placed) where
      pub put-length : length p ≡ slot_words
      put-length = ap length e ∙ placed-length

      pub put_holds : Makes f (set (set p back axis) (2 * most_runs) all) (Ok (tt {0}))
      put_holds = subst (λ (l : List ℕ). Makes f (set (set l back axis) (2 * most_runs) all) (Ok (tt {0}))) (sym e) placed_holds
