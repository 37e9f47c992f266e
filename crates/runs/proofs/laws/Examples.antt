-- Worked examples of sets, by their indices on the axis.
use Rattle.std.specs.Prelude.{ℕ, zero, suc, ◌+◌, ◌*◌, ◌≤◌, ◌<◌, ◌≡◌, refl, Bool, true, false, ◌&&◌, ◌||◌, List, [], ◌∷◌, ◌++◌, leb}
use Rattle.std.proofs.Common.{sym, ap, ap₂, ◌∙◌, ⊎_elim, arith, le-leb, leb-true}
use Rattle.std.proofs.lemmas.Bool.{false≢true, lt-leb}
use Rattle.number.specs.Axis.{axis}
use Rattle.number.proofs.laws.Order.{less_or_not, less-more_equal}
use Rattle.runs.specs.Runs.{run_count, most_runs, number_bytes, set_bytes}
use Rattle.runs.specs.Distance.{distance}
use Rattle.runs.specs.Set.{inside, Ascending, Canonical}
use Rattle.runs.proofs.laws.Cuts.{low_cuts, high_cuts, nil_canonical, none, behind_run}
use Rattle.runs.proofs.laws.Runs.{cuts-bytes, cuts-count}
use Rattle.runs.proofs.laws.Set.{run_canonical, run_inside}
use Rattle.runs.proofs.laws.Distance.{between, distance_is, distance_none}

-- low ≤ v ≤ high
abbrev span : ℕ → ℕ → ℕ → Bool
span low high v = leb low v && leb v high

-- ---- 3..5 beside 6..9 is the one run 3..9

beside : (v : ℕ) → span 3 9 v ≡ (span 3 5 v || span 6 9 v)
beside v =
    ⊎_elim
    (λ h. ap₂ (λ (a b : Bool). a && b) (lt-leb 3 v h) refl ∙ sym (ap₂ (λ (a b : Bool). (a && leb v 5) || (b && leb v 9)) (lt-leb 3 v h) (lt-leb 6 v (omega arith))))
    (λ h.
    ⊎_elim
    (λ g. ap₂ ◌&&◌ (le-leb 3 v h) (le-leb v 9 (omega arith)) ∙ sym (ap₂ (λ (a b : Bool). (a && b) || span 6 9 v) (le-leb 3 v h) (le-leb v 5 (omega arith))))
    (λ g.
    ap (λ (b : Bool). b && leb v 9) (le-leb 3 v h)
    ∙ sym (ap₂ (λ (a b : Bool). (a && b) || span 6 9 v) (le-leb 3 v h) (lt-leb v 5 (omega arith)) ∙ ap (λ (b : Bool). b && leb v 9) (le-leb 6 v g)))
    (less_or_not v 6))
    (less_or_not v 3)

touching_runs_join : set_bytes (λ v. span 3 5 v || span 6 9 v) ≡ number_bytes 3 ++ number_bytes 9
unfolding low_cuts high_cuts
touching_runs_join =
    cuts-bytes (λ v. span 3 5 v || span 6 9 v) (3 ∷ 10 ∷ []) (run_canonical 3 9 (omega arith) (omega arith))
    (λ v h. run_inside 3 9 (omega arith) (omega arith) v ∙ beside v)

-- ---- the empty set has no bytes

empty_bytes : set_bytes (λ v. false) ≡ []
unfolding low_cuts high_cuts
empty_bytes = cuts-bytes (λ v. false) [] nil_canonical (λ v h. none v)

-- ---- a full set

-- n runs of one number, 1000 apart, from x on
unfoldable pub runs_apart : ℕ → ℕ → List ℕ
runs_apart zero x = []
runs_apart (suc n) x = x ∷ (x + 1) ∷ runs_apart n (x + 1000)

apart_ascend : (n lo x hi : ℕ) → lo ≤ x → x + 1000 * n ≤ hi → Ascending lo hi (runs_apart n x)
unfolding runs_apart
apart_ascend zero lo x hi h g = tt
apart_ascend (suc n) lo x hi h g = (h, omega arith, (omega arith, omega arith, apart_ascend n (x + 1 + 1) (x + 1000) hi (omega arith) (omega arith)))

apart-ended : (n lo x hi : ℕ) → lo ≤ x → x + 1000 * n ≤ hi → inside (runs_apart n x) hi ≡ false
unfolding runs_apart
apart-ended zero lo x hi h g = none hi
apart-ended (suc n) lo x hi h g =
    behind_run lo hi x (x + 1) (runs_apart n (x + 1000)) (h, omega arith, (omega arith, omega arith, apart_ascend n (x + 1 + 1) (x + 1000) hi (omega arith) (omega arith))) hi (omega arith)
    ∙ apart-ended n (x + 1 + 1) (x + 1000) hi (omega arith) (omega arith)

pub apart : (n x : ℕ) → x + 1000 * n ≤ axis → Canonical (runs_apart n x)
apart n x h = record { ascending = apart_ascend n 0 x axis (omega arith) h; ended = apart-ended n 0 x axis (omega arith) h }

-- 256 runs are as many as a set may have
full : run_count (inside (runs_apart 256 5)) ≡ most_runs
unfolding runs_apart
full = let e : 512 ≡ 2 * run_count (inside (runs_apart 256 5)) = cuts-count (inside (runs_apart 256 5)) (runs_apart 256 5) (apart 256 5 (omega arith)) (λ v h. refl) in omega arith

-- ---- distances

-- from one end of the axis to the other
longest : distance (λ v. leb v 0) 4000000000 ≡ 4000000000
longest = distance_is (λ v. leb v 0) 4000000000 (omega arith) 0 (omega arith) refl (λ u h e. omega (arith, leb-true u 0 e))

-- to the nearer of two runs: from 7 to 3..5 and 10..12 it is 2
two_runs : ℕ → Bool
two_runs v = span 3 5 v || span 10 12 v

between_them : (u : ℕ) → between 7 u < 2 → two_runs u ≡ true → ⊥
unfolding two_runs
between_them u g e =
    ⊎_elim (λ h. let q : u ≡ 6 = omega arith in false≢true (ap two_runs (sym q) ∙ e))
    (⊎_elim (λ h. let q : u ≡ 8 = omega arith in false≢true (ap two_runs (sym q) ∙ e)) (λ q. false≢true (ap two_runs (sym q) ∙ e)))
    (less-more_equal u 7)

nearer_run : distance two_runs 7 ≡ 2
unfolding two_runs
nearer_run =
    distance_is two_runs 7 (omega arith) 5 (omega arith) refl (λ u h e. ⊎_elim (λ g. absurd (between_them u g e)) (λ g. g) (less_or_not (between 7 u) 2))

-- no member, no distance on the axis
no_member : distance (λ v. false) 7 ≡ axis
no_member = distance_none (λ v. false) 7 (omega arith) (λ w h. refl)
