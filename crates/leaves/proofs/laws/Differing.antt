-- The set of differences between tops, made or refused.
use Rattle.std.specs.Prelude.{◌≡◌, ℕ, ◌<◌, ◌≤◌, Bool, true, false, List, length, nat_lt, Result, Ok, Err}
use Rattle.std.specs.Result.{is_ok, IsErrAnd}
use Rattle.std.proofs.Common.{arith, refl, sym, subst, ◌∙◌, lt-ltb, le-ltb}
use Rattle.std.proofs.lemmas.Bool.{false≢true}
use Rattle.number.proofs.laws.Boolean.{off, or_left}
use Rattle.runs.specs.Set.{Makes}
use Rattle.tops.specs.Tops.{most_tops}
use Rattle.grammar.specs.Syntax.{Text, atom, listed, or, and, neg, finally, globally, next, until, weak_until}
use Rattle.meaning.specs.inner.Coded.{Coded}
use Rattle.meaning.specs.inner.Truth.{some_node, of_listed, asks_too_many, refused9}
use Rattle.runs.specs.declared.TooManyRuns.{TooManyRuns}
use Rattle.runs.proofs.laws.Set.{makes_beside}
use Rattle.leaves.specs.inner.Differing.{FewIndexed, judged_runs, Differs}
use Rattle.leaves.specs.declared.TooMany.{TooMany}
use Rattle.leaves.specs.declared.TooMany.TheVariants.{Tops, Runs}

module _ (many : Bool) (f : ℕ → Bool) (words : List ℕ) where
  -- few tops, and a set
  pub differs-made : many ≡ false → (r : Result (Unit {0}) TooManyRuns) → Makes f words r → Differs many f words (judged_runs r)
  differs-made e (Ok x) m = (e, m)
  differs-made e (Err y) m = (e, (y, m))

  -- few tops, and a set with too many runs
  pub differs-over : many ≡ false → {x : TooManyRuns} → Makes {A = Unit {0}} f words (Err x) → (r : Result (Unit {0}) TooMany) → IsErrAnd r (λ e. e ≡ Runs) → Differs many f words r
  differs-over e m (Ok x) h = absurd h
  differs-over e {x} m (Err y) h = subst (λ (y : TooMany). Differs many f words (Err y)) (sym h) (e, (x, m))

  -- too many tops are passed on
  pub differs-many : (found : List ℕ) (e : TooMany) (new : List ℕ) → (nat_lt most_tops (length found) ≡ true → many ≡ true) → FewIndexed found (Err e) new
      → (r : Result (Unit {0}) TooMany) → IsErrAnd r (λ y. y ≡ e) → Differs many f words r
  differs-many found Tops new k h (Ok x) g = absurd g
  differs-many found Tops new k h (Err y) g = subst (λ (y : TooMany). Differs many f words (Err y)) (sym g) (k (lt-ltb most_tops (length found) h))
  differs-many found Runs new k h r g = absurd h

  -- whether it has too many runs, of few tops
  pub made_runs : many ≡ false → (d : Result (Unit {0}) TooMany) (r : Result (Unit {0}) TooManyRuns) → is_ok r ≡ is_ok d → Differs many f words d
      → Makes f words r
  made_runs e (Ok x) (Ok y) q h = makes_beside f words refl h.1
  made_runs e (Ok x) (Err y) q h = absurd (false≢true q)
  made_runs e (Err Tops) r q h = absurd (false≢true (sym e ∙ h))
  made_runs e (Err Runs) (Ok y) q h = absurd (false≢true (sym q))
  made_runs e (Err Runs) (Err y) q h = makes_beside f words refl h.1.1

  -- few tops, so that a set is made
  pub never_many : many ≡ false → {C : Type 0} (d : Result (Unit {0}) TooMany) → d ≡ Err Tops → Differs many f words d → C
  never_many e d i h = absurd (false≢true (sym e ∙ subst (Differs many f words) i h))

-- ---- too many tops, or few

module _ (found : List ℕ) (n : ℕ) (counted : n ≡ length found) where
  pub too_many : most_tops < n → nat_lt most_tops (length found) ≡ true
  too_many h = lt-ltb most_tops (length found) (omega arith)

  pub few_enough : n ≤ most_tops → nat_lt most_tops (length found) ≡ false
  few_enough h = le-ltb most_tops (length found) (omega arith)

-- where no node is one, the text itself is none
pub none_here : (G : Text → Bool) (p : Text) → some_node G p ≡ false → G p ≡ false
unfolding some_node
none_here G (atom k) e = e
none_here G (listed q) e = e
none_here G (or p q) e = off (or_left (G (or p q)) _) e
none_here G (and p q) e = off (or_left (G (and p q)) _) e
none_here G (neg p) e = off (or_left (G (neg p)) _) e
none_here G (finally p) e = off (or_left (G (finally p)) _) e
none_here G (globally p) e = off (or_left (G (globally p)) _) e
none_here G (next p) e = off (or_left (G (next p)) _) e
none_here G (until p q) e = off (or_left (G (until p q)) _) e
none_here G (weak_until p q) e = off (or_left (G (weak_until p q)) _) e

pub none_asked : (r : List Coded) (p : Text) → refused9 r p ≡ false → of_listed (asks_too_many r) p ≡ false
unfolding refused9
none_asked r p e = none_here (of_listed (asks_too_many r)) p e
