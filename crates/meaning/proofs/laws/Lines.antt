-- Worked examples: a text with the maximal runs of its set, of a recording. Its set is computed, and its runs compared.
use Rattle.std.specs.Prelude.{ℕ, ◌+◌, ◌<◌, ◌≡◌, refl, Bool, true, false, ◌&&◌, ◌||◌, ◌↔◌, leb, eqb}
use Rattle.std.proofs.Common.{arith, sym, ap, ◌∙◌, subst, ⊎_elim, leb-true, le-leb, eqb-true, eq-eqb}
use Rattle.std.proofs.Math.Bool.{So}
use Rattle.std.proofs.lemmas.Bool.{false≢true}
use mathlib.Core.List.Memᴰ
use mathlib.Core.List.{List, [], ◌∷◌, map, Memᴰ}
use Rattle.number.specs.Axis.{origin, axis, whole}
use Rattle.recording.specs.Condition.{some_of}
use Rattle.recording.specs.Reading.{Reading}
use Rattle.grammar.specs.Syntax.{Text}
use Rattle.meaning.specs.Meaning.{Holds}
use Rattle.meaning.specs.Ranges.{Run, just, InRuns, Maximal}
use Rattle.meaning.specs.inner.Recorded.{InRange}
use Rattle.meaning.specs.inner.Coded.{code, index}
use Rattle.meaning.specs.inner.Truth.{among, val}
use Rattle.number.proofs.laws.Boolean.{same, then, back, either, both, so_or, so_and, and_left, and_right, and_make, and_true}
use Rattle.meaning.proofs.laws.Whole.{Stands, stands_whole, le_index}
use Rattle.meaning.proofs.laws.Truth.{val_holds}
use Rattle.meaning.proofs.laws.Pick.{Each}

-- a text, and the runs of its set
pub record Example : Type 0 where
  pub text : Text
  pub runs : List Run

infix 70 ◌is◌
abbrev pub ◌is◌ : Text → List Run → Example
p is l = record { text = p; runs = l }

-- the index of k
abbrev pub at : ℕ → ℕ
at k = k + origin

-- the example holds of the recording, and its runs are maximal
pub record Holding (r : List Reading) (l : Example) : Type 0 where
  pub set : (n : ℕ) → n < axis → InRuns l.runs (whole n) ↔ Holds r (whole n) l.text 0
  pub maximal : Maximal l.runs

-- ---- runs by indices

abbrev pub within : ℕ → Run → Bool
within n x = leb (index x.low) n && leb n (index x.high)

abbrev pub OnAxis : Run → Type 0
OnAxis x = Stands x.low (index x.low) origin × Stands x.high (index x.high) origin

pub in-runs : (l : List Run) → Each OnAxis l → (n : ℕ) → So (some_of (within n) l) ↔ InRuns l (whole n)
in-runs [] s n = (λ e. false≢true e, λ e. absurd e)
in-runs (x ∷ l) s n = then (so_or (within n x) (some_of (within n) l)) (either
    (then (so_and (leb (index x.low) n) (leb n (index x.high))) (both
    (le_index x.low (whole n) (index x.low) n s.0.0 (stands_whole n))
    (le_index (whole n) x.high n (index x.high) (stands_whole n) s.0.1)))
    (in-runs l s.1 n))

pub alone : (e : Bool) → e ≡ (e || false)
alone true = refl
alone false = refl

-- a run from the low end of the axis; one to the high end; one number
pub up_to : (n m : ℕ) → leb n m ≡ ((leb 0 n && leb n m) || false)
up_to n m = ap (λ (e : Bool). e && leb n m) (sym (le-leb 0 n (omega arith))) ∙ alone (leb 0 n && leb n m)

pub from_on : (n m : ℕ) → n < axis → leb m n ≡ ((leb m n && leb n 4000000000) || false)
from_on n m h = and_true (leb m n) ∙ ap (λ (e : Bool). leb m n && e) (sym (le-leb n 4000000000 (omega arith))) ∙ alone (leb m n && leb n 4000000000)

one : (n t : ℕ) → eqb n t ≡ (leb t n && leb n t)
one n t = same _ _
    (λ h. and_make (leb t n) _ (le-leb t n (omega (arith, eqb-true n t h))) (le-leb n t (omega (arith, eqb-true n t h))))
    (λ h. eq-eqb n t (omega (arith, leb-true t n (and_left (leb t n) _ h), leb-true n t (and_right (leb t n) _ h))))

-- some numbers, each a run
pub ones : (l : List ℕ) (n : ℕ) → among n (map at l) ≡ some_of (within n) (map just l)
ones [] n = refl
ones (t ∷ l) n = let a = one n (at t) in let b = ones l n in λ i. a i || b i

-- ---- an example from its set

pub told : (r : List Reading) → InRange r → (l : Example) → Each OnAxis l.runs
    → ((n : ℕ) → n < axis → val (map code r) n l.text 0 ≡ some_of (within n) l.runs) → Maximal l.runs → Holding r l
told r h l s e m = record {
  set = λ n k. then (back (in-runs l.runs s n)) (then (λ f. e n k ∙ f, λ f. sym (e n k) ∙ f) (val_holds r h n l.text 0 (omega arith)));
  maximal = m;
}

-- an example, and then the examples after it
infixr 5 ◌also◌
pub ◌also◌ : {r : List Reading} {l x : Example} {ls : List Example} → Holding r x → (Memᴰ l ls → Holding r l) → Memᴰ l (x ∷ ls) → Holding r l
◌also◌ {r} t rest m = ⊎_elim (λ e. subst (Holding r) (sym e) t) rest (Memᴰ.cases_cons m)
