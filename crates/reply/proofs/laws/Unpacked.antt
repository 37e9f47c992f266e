-- What a caller reads off a returned number is the outcome that was packed into it.
use Rattle.std.specs.Prelude.{ℕ, ◌+◌, ◌*◌, ◌<◌, ◌≡◌, Bool, cond}
use Rattle.std.proofs.Common.{arith, ap, ap₂, ◌∙◌, eq-eqb, ne_eqb}
use Rattle.refusal.specs.Outcome.{Outcome, result, refused}
use Rattle.reply.specs.Reply.{half, packed, InHalf, number_in, low_in, unpacked}

-- the number of a refusal is not 0
abbrev pub Numbered : Outcome ℕ → Type 0
Numbered (result n) = Unit {0}
Numbered (refused k p) = 0 < k

pub number_result : (n : ℕ) → n < half → number_in n ≡ 0
number_result n h = omega arith

pub low_result : (n : ℕ) → n < half → low_in n ≡ n
low_result n h = omega arith

pub number_refused : (k p : ℕ) → p < half → number_in (k * half + p) ≡ k
number_refused k p h = omega arith

pub low_refused : (k p : ℕ) → p < half → low_in (k * half + p) ≡ p
low_refused k p h = omega arith

pub unpacked-packed : (o : Outcome ℕ) → InHalf o → Numbered o → unpacked (packed o) ≡ o
unpacked-packed (result n) h k =
    ap (λ (b : Bool). cond b (result (low_in n)) (refused (number_in n) (low_in n))) (eq-eqb (number_in n) 0 (number_result n h)) ∙ ap result (low_result n h)
unpacked-packed (refused n p) h k =
    let r : ℕ = n * half + p in
    let e = number_refused n p h in
    ap (λ (b : Bool). cond b (result (low_in r)) (refused (number_in r) (low_in r))) (ne_eqb (number_in r) 0 (λ z. omega arith)) ∙ ap₂ refused e (low_refused n p h)
