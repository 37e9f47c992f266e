-- From what the question call leaves to what is printed.
use Rattle.std.specs.Prelude.{ℕ, ◌+◌, ◌≤◌, ◌≡◌, List, ◌++◌, length, take, drop, Result, Ok, Err}
use Rattle.std.proofs.Common.{sym, ap, subst, ◌∙◌, arith, length-append, take_at}
use Rattle.refusal.specs.Outcome.{Outcome, result, refused}
use Rattle.refusal.specs.Numbers.{number_of, place_of}
use Rattle.refusal.specs.declared.Refusal.{Refusal}
use Rattle.recording.specs.Output.{Answers}
use Rattle.recording.proofs.laws.Outcome.{no_result}
use Rattle.page.specs.Page.{page}
use Rattle.page.specs.inner.Puts.{Puts}
use Rattle.page.specs.Printed.{Prints}

-- ---- the call's answer tells its outcome

same_outcome : {R : Type 0} (n p m q : ℕ) → ◌≡◌ {A = Outcome ℕ} (refused n p) (refused m q) → ◌≡◌ {A = Outcome R} (refused n p) (refused m q)
same_outcome n p m q e =
    let a : n ≡ m = cc in
    let b : p ≡ q = cc in
    cc

same_count : (n m : ℕ) → ◌≡◌ {A = Outcome ℕ} (result n) (result m) → n ≡ m
same_count n m e = cc

module _ (old new : List ℕ) where
  refusal_is : (o : Outcome (List ℕ)) (x : Refusal) → Answers o old (Err x) new → refused (number_of x) (place_of x) ≡ o
  refusal_is (result bytes) x a = no_result (number_of x) (place_of x) (length bytes) a.answer
  refusal_is (refused n p) x a = same_outcome (number_of x) (place_of x) n p a.answer

  set_is : (o : Outcome (List ℕ)) (n : ℕ) → Answers o old (Ok n) new → result (take n new) ≡ o
  set_is (result bytes) n a =
      ap result (ap (take n) a.output ∙ take_at bytes (drop (length bytes) old) n (sym (same_count n (length bytes) a.answer)))
  set_is (refused k p) n a = no_result k p n (sym a.answer)

  set-within : (o : Outcome (List ℕ)) (n : ℕ) → Answers o old (Ok n) new → n ≤ length new
  set-within (result bytes) n a =
      omega (arith, same_count n (length bytes) a.answer, ap length a.output, length-append bytes (drop (length bytes) old))
  set-within (refused k p) n a = no_result k p n (sym a.answer)

module _ (o : Outcome (List ℕ)) (old new : List ℕ) (r : Result ℕ Refusal) (a : Answers o old r new) where
  pub told_refusal : (x : Refusal) → r ≡ Err x → refused (number_of x) (place_of x) ≡ o
  told_refusal x e = refusal_is old new o x (subst (λ (w : Result ℕ Refusal). Answers o old w new) e a)

  module _ (n : ℕ) (e : r ≡ Ok n) where
    pub told-set : result (take n new) ≡ o
    told-set = set_is old new o n (subst (λ (w : Result ℕ Refusal). Answers o old w new) e a)

    pub told-within : n ≤ length new
    told-within = set-within old new o n (subst (λ (w : Result ℕ Refusal). Answers o old w new) e a)

-- what is put at the front is printed
pub puts_prints : (bytes page old new : List ℕ) (n : ℕ) → bytes ≡ page → Puts bytes old 0 new n → Prints page old new n
puts_prints bytes page old new n e p =
    record { count = p.behind ∙ ap (λ (l : List ℕ). 0 + length l) e ∙ omega arith; output = p.output ∙ ap (λ (l : List ℕ). l ++ drop n old) e }

pub prints_within : (bytes old new : List ℕ) (n : ℕ) → Prints bytes old new n → n ≤ length new
prints_within bytes old new n p = omega (arith, p.count, ap length p.output, length-append bytes (drop n old))
