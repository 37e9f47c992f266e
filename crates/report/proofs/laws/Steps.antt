-- The report under way answers as the plain fold over its batches does, and its mean is near.
use Rattle.std.specs.Prelude.{ℕ, suc, ◌+◌, ◌*◌, ◌≤◌, ◌<◌, ◌≡◌, refl, Bool, true, false, not, cond, List, [], ◌∷◌, ◌++◌, T, eqb, length, ℤ}
use Rattle.std.proofs.Common.{arith, ap, ◌∙◌, length-append}
use Rattle.std.specs.Float.Ieee.{is_nan}
use Rattle.number.specs.Axis.{axis}
use Rattle.refusal.specs.Outcome.{Outcome, result, refused}
use Rattle.degree.specs.Degree.{Reach, away, nowhere, reach_of}
use Rattle.degree.proofs.laws.Reach.{away_small}
use Rattle.mean.specs.Mean.{AtMost}
use Rattle.mean.specs.inner.Running.{running, Numbers}
use Rattle.mean.proofs.laws.Near.{mean_near}
use Rattle.mean.proofs.laws.Number.{running-numbers}
use Rattle.report.specs.Report.{Figures, met_in, empty_in, distances_in, sum_in, mean_in, figures_of, Naming, most_batches, taken, given, batch_answer, MeanNear, Reported}
use Rattle.report.specs.inner.Running.{running_of, with_batch, Sound, further, last, counted, added_to, answer_in}
use Rattle.report.proofs.laws.Running.{counted_distances, batch_more, figures_running}

-- each distance is one of the axis
abbrev pub AllSmall : List Reach → Type 0
AllSmall [] = Unit {0}
AllSmall (away d ∷ xs) = (d < axis) × AllSmall xs
AllSmall (nowhere ∷ xs) = AllSmall xs

pub small_more : (xs : List Reach) (recording text : List ℕ) (g : ℤ) (x : Reach) → AllSmall xs → reach_of recording text g ≡ result x → AllSmall (xs ++ x ∷ [])
small_more [] recording text g (away d) h e = (away_small recording text g d e, tt)
small_more [] recording text g nowhere h e = tt
small_more (away c ∷ xs) recording text g x h e = (h.0, small_more xs recording text g x h.1 e)
small_more (nowhere ∷ xs) recording text g x h e = small_more xs recording text g x h e

pub small_most : (xs : List Reach) → AllSmall xs → AtMost 4000000000 (distances_in xs)
small_most [] h = tt
small_most (away d ∷ xs) h = let l = h.0 in (omega arith, small_most xs h.1)
small_most (nowhere ∷ xs) h = small_most xs h

sum_small : (xs : List Reach) → AllSmall xs → sum_in (distances_in xs) ≤ 4000000000 * length xs
sum_small [] h = omega arith
sum_small (away d ∷ xs) h = let l = h.0 in let k = sum_small xs h.1 in omega arith
sum_small (nowhere ∷ xs) h = let k = sum_small xs h in omega arith

met_parts : (xs : List Reach) → met_in xs + empty_in xs ≤ length xs
met_parts [] = omega arith
met_parts (away d ∷ xs) = let h = met_parts xs in by (eqb d 0) h
  where
    by : (b : Bool) → met_in xs + empty_in xs ≤ length xs → cond b 1 0 + met_in xs + empty_in xs ≤ suc (length xs)
    by true h = omega arith
    by false h = omega arith
met_parts (nowhere ∷ xs) = let h = met_parts xs in omega arith

not_nan : (b : Bool) → T (not b) → b ≡ false
not_nan true h = absurd h
not_nan false h = refl

-- THE REPORT OF A LIST that is not whole yet is sound
pub running_sound : (n : ℕ) (xs : List Reach) → AllSmall xs → length xs < n → n ≤ most_batches → Sound (running_of n xs)
running_sound n xs h l k =
    let c = counted_distances xs in
    let m : Numbers (running (distances_in xs)) = running-numbers (distances_in xs) (small_most xs h) (omega arith) in
    record {
      more = l;
      few = k;
      parts = met_parts xs;
      small = sum_small xs h;
      sum_number = not_nan (is_nan (running (distances_in xs)).sum) m.sum;
      mean_number = not_nan (is_nan (running (distances_in xs)).mean) m.mean;
    }

-- ---- one recording

pub length_more : (xs : List Reach) (x : Reach) → length (xs ++ x ∷ []) ≡ suc (length xs)
length_more xs x = length-append xs (x ∷ []) ∙ by (length xs)
  where
    by : (n : ℕ) → n + 1 ≡ suc n
    by n = omega arith

pub counted-more : (n : ℕ) (xs : List Reach) (x : Reach)
    → counted (with_batch (running_of n xs) x) ≡ cond (eqb (suc (length xs)) n) (last (running_of n (xs ++ x ∷ []))) (further (running_of n (xs ++ x ∷ [])))
counted-more n xs x =
    ap counted (batch_more n xs x) ∙ ap (λ (k : ℕ). cond (eqb k n) (last (running_of n (xs ++ x ∷ []))) (further (running_of n (xs ++ x ∷ [])))) (length_more xs x)

-- EACH RECORDING IS ANSWERED AS THE FOLD SAYS
pub answer-told : (n : Naming) (xs : List Reach) (o : Outcome Reach) → answer_in (added_to (running_of n.count xs) o) ≡ batch_answer n xs o
answer-told n xs (refused k p) = refl
answer-told n xs (result x) = ap answer_in (counted-more n.count xs x) ∙ by (eqb (suc (length xs)) n.count)
  where
    by : (b : Bool) → answer_in (cond b (last (running_of n.count (xs ++ x ∷ []))) (further (running_of n.count (xs ++ x ∷ []))))
        ≡ cond b (result (given (figures_of (xs ++ x ∷ [])))) (result taken)
    by true = ap (λ (f : Figures). result (given f)) (figures_running n.count (xs ++ x ∷ []))
    by false = refl

-- ---- the bound

-- THE MEAN IS NEAR, of every list of up to 1,000 batches
pub mean-in : (ds : List ℕ) → AtMost 4000000000 ds → length ds ≤ 1000 → MeanNear ds (mean_in ds)
mean-in [] h l = refl
mean-in (d ∷ ds) h l = mean_near (d ∷ ds) (omega arith) l h

pub figures_reported : (xs : List Reach) → AllSmall xs → length xs ≤ most_batches → Reported (figures_of xs)
figures_reported xs h l =
    let c = counted_distances xs in
    record { batches = xs; few = l; figures = refl; near = mean-in (distances_in xs) (small_most xs h) (omega arith) }
