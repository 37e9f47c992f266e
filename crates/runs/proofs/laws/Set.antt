-- From lists of cuts to words that hold a set; and a set's members determine its cuts.
use Rattle.std.specs.Prelude.{ℕ, ◌+◌, ◌*◌, ◌≤◌, ◌<◌, ◌≡◌, refl, Bool, true, false, ◌&&◌, leb, ltb, length, take, get_or, set}
use Rattle.std.proofs.Math.Path.{sym, ap, subst}
use Rattle.std.proofs.Common.{ap₂, ◌∙◌, true≢false, ⊎_elim, arith, length-set, add-one, length-take-le, take-suc, take-suc-set, get_or-set_same, le-leb, lt-ltb, le-ltb}
use mathlib.Core.List.{List, [], ◌∷◌, ◌++◌}
use Rattle.std.proofs.lemmas.List.{take-set-le}
use Rattle.std.proofs.lemmas.Bool.{lt-leb}
use Rattle.std.proofs.Common.{Result, Ok, Err}
use Rattle.std.specs.Result.{is_err, IsErr}
use Rattle.number.specs.Axis.{axis}
use Rattle.number.proofs.laws.Order.{less_or_not}
use Rattle.runs.specs.declared.TooManyRuns.{TooManyRuns}
use Rattle.runs.specs.Runs.{most_runs, run_count}
use Rattle.runs.specs.Set.{cuts_of, slot_words, shared_words, inside, member, Ascending, Canonical, Valid, Holds, Makes}
use Rattle.runs.proofs.laws.Cuts.{one_list, nil_canonical, none, before-run, in_run, behind_run}
use Rattle.runs.proofs.laws.Runs.{run_count_ext, cuts-count}

-- ---- a set's members determine its cuts

pub same_cuts : (s t : List ℕ) → Valid s → Valid t → ((v : ℕ) → v < axis → member s v ≡ member t v) → cuts_of s ≡ cuts_of t
unfolding member
same_cuts s t gs gt e = one_list (cuts_of s) (cuts_of t) gs.canonical gt.canonical e

-- ---- words that hold a set

-- words whose cuts are m
module _ (m words : List ℕ) (c : Canonical m) (few : length m ≤ 2 * most_runs) (size : length words ≡ slot_words)
    (n : get_or words (2 * most_runs) 0 ≡ length m) (e : take (length m) words ≡ m) where
  cuts_are : cuts_of words ≡ m
  cuts_are = ap (λ (k : ℕ). take k words) n ∙ e

  pub held : (f : ℕ → Bool) → ((v : ℕ) → v < axis → inside m v ≡ f v) → Holds f words
  unfolding member
  held f g =
      record {
        valid = record { size = size; few = omega arith; canonical = subst Canonical (sym cuts_are) c };
        members = λ v h. ap (λ (l : List ℕ). inside l v) cuts_are ∙ g v h;
      }

module _ (words : List ℕ) (h : Valid words) where
  pub cuts_there : get_or words (2 * most_runs) 0 ≤ length words
  cuts_there = omega (arith, h.few, h.size)

  pub cuts-length : length (cuts_of words) ≡ get_or words (2 * most_runs) 0
  cuts-length = length-take-le (get_or words (2 * most_runs) 0) words cuts_there

  -- two cuts for each run, and no more runs than a set may have
  pub valid_cuts : get_or words (2 * most_runs) 0 ≡ 2 * run_count (member words)
  unfolding member
  valid_cuts = sym cuts-length ∙ cuts-count (member words) (cuts_of words) h.canonical (λ v g. refl)

  pub valid_count : run_count (member words) ≤ most_runs
  valid_count = omega (arith, valid_cuts, h.few)

  pub valid_short : length (cuts_of words) ≤ shared_words
  valid_short = omega (arith, cuts-length, h.few)

pub holds_ext : (f g : ℕ → Bool) (words : List ℕ) → ((v : ℕ) → v < axis → f v ≡ g v) → Holds f words → Holds g words
holds_ext f g words e r = record { valid = r.valid; members = λ v h. r.members v h ∙ e v h }

-- a set that is held has few runs
pub few_runs : (f : ℕ → Bool) (words : List ℕ) → Holds f words → ltb most_runs (run_count f) ≡ false
few_runs f words c = le-ltb most_runs (run_count f) (omega (arith, run_count_ext (member words) f c.members, valid_count words c.valid))

pub holds_makes : {A : Type 0} {x : A} (f : ℕ → Bool) (words : List ℕ) → Holds f words → Makes f words (Ok x)
holds_makes f words c = record { flag = sym (few_runs f words c); holds = λ z. c }

-- the promise does not speak of the value beside it
pub makes_beside : {A B : Type 0} (f : ℕ → Bool) (words : List ℕ) {r : Result A TooManyRuns} {s : Result B TooManyRuns}
    → is_err r ≡ is_err s → Makes f words r → Makes f words s
makes_beside f words e m = record { flag = sym e ∙ m.flag; holds = λ o. m.holds (e ∙ o) }

-- an error is passed on, whatever the words hold
pub makes_failed : {A B : Type 0} {x : TooManyRuns} (f : ℕ → Bool) (words other : List ℕ) (r : Result B TooManyRuns)
    → Makes {A = A} f words (Err x) → IsErr r → Makes f other r
makes_failed f words other r m e = record { flag = e ∙ m.flag; holds = λ o. absurd (true≢false (sym e ∙ o)) }

pub makes_ext : {A : Type 0} (f g : ℕ → Bool) (words : List ℕ) (r : Result A TooManyRuns)
    → ((v : ℕ) → v < axis → f v ≡ g v) → Makes f words r → Makes g words r
makes_ext f g words r e m =
    record { flag = m.flag ∙ ap (ltb most_runs) (run_count_ext f g e); holds = λ o. holds_ext f g words e (m.holds o) }

-- the same members, by equal lists of cuts
pub makes_lists : {A : Type 0} (op : Bool → Bool → Bool) (words : List ℕ) (r : Result A TooManyRuns) {a a' b b' : List ℕ} → a ≡ a' → b ≡ b'
    → Makes (λ v. op (inside a v) (inside b v)) words r → Makes (λ v. op (inside a' v) (inside b' v)) words r
makes_lists op words r e g m = subst (λ (h : ℕ → Bool). Makes h words r) (λ i v. op (inside (e i) v) (inside (g i) v)) m

-- the same members, told of equal things
pub makes_of : {A B : Type 0} (f : B → ℕ → Bool) (words : List ℕ) (r : Result A TooManyRuns) {a b : B} → a ≡ b → Makes (f a) words r → Makes (f b) words r
makes_of f words r e m = subst (λ (h : ℕ → Bool). Makes h words r) (λ i. f (e i)) m

-- more cuts than there is room for
pub too_many : {A : Type 0} {x : TooManyRuns} (f : ℕ → Bool) (m words : List ℕ) → Canonical m → ((v : ℕ) → v < axis → inside m v ≡ f v)
    → 2 * most_runs < length m → Makes {A = A} f words (Err x)
too_many f m words c e h =
    record { flag = sym (lt-ltb most_runs (run_count f) (omega (arith, cuts-count f m c e))); holds = λ z. absurd (true≢false z) }

-- ---- the empty set and one run

pub nothing-held : (words : List ℕ) → length words ≡ slot_words → get_or words (2 * most_runs) 0 ≡ 0 → Holds (λ v. false) words
nothing-held words size n = held [] words nil_canonical (omega arith) size n refl (λ v. false) (λ v h. none v)

-- two cuts at the front
two-front : (l : List ℕ) (a b : ℕ) → 2 ≤ length l → take 2 (set (set l 0 a) 1 b) ≡ a ∷ b ∷ []
two-front [] a b h = absurd (omega arith)
two-front (x ∷ []) a b h = absurd (omega arith)
two-front (x ∷ y ∷ l) a b h = refl

module _ (low high : ℕ) (h : low ≤ high) (k : high < axis) where
  run-ascends : Ascending 0 axis (low ∷ (high + 1) ∷ [])
  run-ascends = (omega arith, omega arith, (omega arith, omega arith, tt))

  pub run_inside : (v : ℕ) → inside (low ∷ (high + 1) ∷ []) v ≡ (leb low v && leb v high)
  run_inside v =
      ⊎_elim (λ g. before-run 0 axis low (high + 1) [] run-ascends v g ∙ sym (ap₂ ◌&&◌ (lt-leb low v g) refl))
      (λ g.
      ⊎_elim (λ j. in_run 0 axis low (high + 1) [] run-ascends v g j ∙ sym (ap₂ ◌&&◌ (le-leb low v g) (le-leb v high (omega arith))))
      (λ j. behind_run 0 axis low (high + 1) [] run-ascends v j ∙ none v ∙ sym (ap₂ ◌&&◌ (le-leb low v g) (lt-leb v high (omega arith))))
      (less_or_not v (high + 1)))
      (less_or_not v low)

  pub run_canonical : Canonical (low ∷ (high + 1) ∷ [])
  run_canonical = record { ascending = run-ascends; ended = run_inside axis ∙ ap₂ ◌&&◌ (le-leb low axis (omega arith)) (lt-leb axis high (omega arith)) }

  -- the run alone, in words
  module _ (words : List ℕ) (size : length words ≡ slot_words) where
    abbrev put : List ℕ
    put = set (set words 0 low) 1 (high + 1)

    put_size : length put ≡ slot_words
    put_size = length-set (set words 0 low) 1 (high + 1) ∙ length-set words 0 low ∙ size

    run-put : Holds (λ v. leb low v && leb v high) (set put (2 * most_runs) 2)
    run-put =
        held (low ∷ (high + 1) ∷ []) (set put (2 * most_runs) 2) run_canonical (omega arith) (length-set put (2 * most_runs) 2 ∙ put_size)
        (get_or-set_same put (2 * most_runs) 2 0 (omega (arith, put_size)))
        (take-set-le 2 put (2 * most_runs) 2 (omega arith) ∙ two-front words low (high + 1) (omega arith))
        (λ v. leb low v && leb v high) (λ v g. run_inside v)

    pub run-held : (o : List ℕ) → o ≡ set put (2 * most_runs) 2 → Holds (λ v. leb low v && leb v high) o
    run-held o e = subst (Holds (λ v. leb low v && leb v high)) (sym e) run-put

-- no number lies between low and a high below it
pub nothing-between : (low high v : ℕ) → high < low → (leb low v && leb v high) ≡ false
nothing-between low high v h =
    ⊎_elim (λ k. ap₂ ◌&&◌ (lt-leb low v k) refl) (λ k. ap₂ ◌&&◌ (le-leb low v k) (lt-leb v high (omega arith))) (less_or_not v low)

pub everything_between : (v : ℕ) → v < axis → (leb 0 v && leb v 4000000000) ≡ true
everything_between v h = ap₂ ◌&&◌ (le-leb 0 v (omega arith)) (le-leb v 4000000000 (omega arith))

-- the cuts of the whole axis
pub axis_canonical : Canonical (0 ∷ axis ∷ [])
axis_canonical = run_canonical 0 4000000000 (omega arith) (omega arith)

pub axis-inside : (v : ℕ) → v < axis → inside (0 ∷ axis ∷ []) v ≡ true
axis-inside v h = run_inside 0 4000000000 (omega arith) (omega arith) v ∙ everything_between v h

-- a cut more is copied
pub one_more : (a out : List ℕ) (i : ℕ) → i < length a → i < length out → take i out ≡ take i a → take (i + 1) (set out i (get_or a i 0)) ≡ take (i + 1) a
one_more a out i h k e =
    ap (λ (j : ℕ). take j (set out i (get_or a i 0))) (add-one i) ∙ take-suc-set out i (get_or a i 0) k ∙ ap (λ (l : List ℕ). l ++ (get_or a i 0 ∷ [])) e
    ∙ sym (take-suc a i 0 h) ∙ ap (λ (j : ℕ). take j a) (sym (add-one i))
