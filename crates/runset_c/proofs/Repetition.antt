-- The sum that repetitions make.
use Rattle.std.proofs.Common.{◌≡◌, ℕ, zero, suc, ◌+◌, ◌%◌, ◌^◌, ◌<◌, Bool, true, false, cond, eqb, ltb, List, get_or, sym, refl, ap, ◌∙◌, ap₂, add-one, eq-eqb, ne_eqb}
use Rattle.number.specs.Axis.{axis}
use Rattle.runs.specs.Runs.{most_runs, run_count, lows}
use Rattle.std.specs.Result.{is_err}
use Rattle.std.specs.Prelude.{Result}
use Rattle.runs.specs.declared.TooManyRuns.{TooManyRuns}
use Rattle.runs.specs.Set.{member, Makes}
use Rattle.runs.proofs.laws.Runs.{run_count_ext, lows_ext}
use Rattle.runset_c.specs.Bytes.{repeat_sum, repeat_reply}

pub no_turn : (f : ℕ → Bool) → 0 ≡ repeat_reply false f 0
unfolding repeat_reply repeat_sum
no_turn f = by (ltb most_runs (run_count f)) (eqb (run_count f) 0)
  where
    by : (a b : Bool) → ◌≡◌ {A = ℕ} 0 (cond a 0 (cond b 0 0))
    by true b = refl
    by false true = refl
    by false false = refl

module _ (f : ℕ → Bool) (words : List ℕ) (made : Result (Unit {0}) TooManyRuns) (k : Makes f words made) (times : ℕ) where
  pub over_reply : is_err made ≡ true → 0 ≡ repeat_reply false f times
  unfolding repeat_reply
  over_reply o = sym (ap (λ (b : Bool). cond b 0 (cond (eqb (run_count f) 0) 0 (repeat_sum f times))) (sym k.flag ∙ o))

  pub same_runs : is_err made ≡ false → run_count (member words) ≡ run_count f
  same_runs o = run_count_ext (member words) f (k.holds o).members

  pub empty_reply : is_err made ≡ false → (n : ℕ) → n ≡ run_count (member words) → n ≡ 0 → 0 ≡ repeat_reply false f times
  unfolding repeat_reply
  empty_reply o n e z =
      sym (ap₂ (λ (a b : Bool). cond a 0 (cond b 0 (repeat_sum f times))) (sym k.flag ∙ o) (eq-eqb (run_count f) 0 (sym (e ∙ same_runs o) ∙ z)))

  sum_reply : is_err made ≡ false → (n : ℕ) → n ≡ run_count (member words) → (n ≡ 0 → ⊥) → repeat_reply false f times ≡ repeat_sum f times
  unfolding repeat_reply
  sum_reply o n e z =
      ap₂ (λ (a b : Bool). cond a 0 (cond b 0 (repeat_sum f times))) (sym k.flag ∙ o) (ne_eqb (run_count f) 0 (λ q. z (e ∙ same_runs o ∙ q)))

-- one more turn
pub one_more : (f : ℕ → Bool) (words : List ℕ) (made : Result (Unit {0}) TooManyRuns) (k : Makes f words made) (i total n low r : ℕ) → is_err made ≡ false → n ≡ run_count (member words) → (n ≡ 0 → ⊥)
    → total ≡ repeat_reply false f i → low ≡ get_or (lows (member words)) (total % n) 0 → r ≡ (total + low) % 2 ^ 64 → r ≡ repeat_reply false f (i + 1)
unfolding repeat_sum
one_more f words made k i total n low r o e z t l s =
    let q : total ≡ repeat_sum f i = t ∙ sum_reply f words made k i o n e z in
    let c : n ≡ run_count f = e ∙ same_runs f words made k i o in
    let w : low ≡ get_or (lows f) (repeat_sum f i % run_count f) 0 =
    l ∙ ap₂ (λ (x : List ℕ) (y : ℕ). get_or x y 0) (lows_ext (member words) f (k.holds o).members) (ap₂ ◌%◌ q c) in
    s ∙ ap₂ (λ (x y : ℕ). (x + y) % 2 ^ 64) q w ∙ sym (ap (repeat_sum f) (add-one i)) ∙ sym (sum_reply f words made k (i + 1) o n e z)

pub refused_repeat : (refused : Bool) (f : ℕ → Bool) (times : ℕ) → refused ≡ true → 0 ≡ repeat_reply refused f times
unfolding repeat_reply
refused_repeat refused f times e =
    sym (ap (λ (b : Bool). cond b 0 (cond (ltb most_runs (run_count f)) 0 (cond (eqb (run_count f) 0) 0 (repeat_sum f times)))) e)

-- the sum depends on the members alone
sum_ext : (f g : ℕ → Bool) → ((v : ℕ) → v < axis → f v ≡ g v) → (n : ℕ) → repeat_sum f n ≡ repeat_sum g n
unfolding repeat_sum
sum_ext f g e zero = refl
sum_ext f g e (suc n) =
    let q : repeat_sum f n ≡ repeat_sum g n = sum_ext f g e n in
    ap₂ (λ (x y : ℕ). (x + y) % 2 ^ 64) q (ap₂ (λ (x : List ℕ) (y : ℕ). get_or x y 0) (lows_ext f g e) (ap₂ ◌%◌ q (run_count_ext f g e)))

pub repeat_ext : (f g : ℕ → Bool) → ((v : ℕ) → v < axis → f v ≡ g v) → (times : ℕ) → repeat_reply false f times ≡ repeat_reply false g times
unfolding repeat_reply
repeat_ext f g e times =
    ap₂ (λ (n s : ℕ). cond (ltb most_runs n) 0 (cond (eqb n 0) 0 s)) (run_count_ext f g e) (sum_ext f g e times)
