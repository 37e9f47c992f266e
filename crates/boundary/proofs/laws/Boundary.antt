-- What a call that writes bytes answers, packed; the bits of the band call; and that equal outcomes are told alike.
use Rattle.refusal.specs.declared.Refusal.{Refusal}
use Rattle.std.specs.Prelude.{ℕ, ◌≤◌, ◌≡◌, List, Result}
use Rattle.std.proofs.Common.{arith, ap, ◌∙◌, subst}
use Rattle.refusal.specs.Outcome.{Outcome, reported}
use Rattle.recording.specs.Output.{Answers}
use Rattle.degree.specs.Degree.{Value}
use Rattle.pair.specs.Pair.{Given}
use Rattle.band.specs.Means.{Part, empty, run, Bands}
use Rattle.sheet.specs.Finding.{Finding}
use Rattle.reply.specs.Reply.{packed}
use Rattle.boundary.specs.Boundary.{Writes, Degrees, Pairs, filled, InBands, Orders}

pub writes : (outcome : Outcome (List ℕ)) (old : List ℕ) (w : Result ℕ Refusal) (new : List ℕ) (r : ℕ) → Answers outcome old w new → r ≡ packed (reported w)
    → Writes outcome old r new
writes outcome old w new r a e = record { returned = e ∙ ap packed a.answer; output = a.output }

-- a set adds at most one bit
pub filled-one : (p : Part) → filled p ≤ 1
filled-one empty = omega arith
filled-one (run l h) = omega arith

-- ---- the same outcome, told alike

pub degrees_same : {o q : Outcome Value} {distance degree r first second : ℕ} → o ≡ q → Degrees o distance degree r first second → Degrees q distance degree r first second
degrees_same {distance = d} {degree = k} {r = r} {first = f} {second = s} e h = subst (λ (x : Outcome Value). Degrees x d k r f s) e h

pub pairs_same : {o q : Outcome Given} {earlier later r first second : ℕ} → o ≡ q → Pairs o earlier later r first second → Pairs q earlier later r first second
pairs_same {earlier = t} {later = u} {r = r} {first = f} {second = s} e h = subst (λ (x : Outcome Given). Pairs x t u r f s) e h

pub bands_same : {o q : Outcome Bands} {certain-low certain-high possible-low possible-high r first second third fourth : ℕ} → o ≡ q
    → InBands o certain-low certain-high possible-low possible-high r first second third fourth → InBands q certain-low certain-high possible-low possible-high r first second third fourth
bands_same {certain-low = a} {certain-high = b} {possible-low = c} {possible-high = d} {r = r} {first = f} {second = s} {third = t} {fourth = u} e h =
    subst (λ (x : Outcome Bands). InBands x a b c d r f s t u) e h

pub orders_same : {o q : Outcome Finding} {time line r first second : ℕ} → o ≡ q → Orders o time line r first second → Orders q time line r first second
orders_same {time = t} {line = k} {r = r} {first = f} {second = s} e h = subst (λ (x : Outcome Finding). Orders x t k r f s) e h
