-- Laws of outcomes: lines of the table in order, and what a call shows whose outcome is known.
use Rattle.std.specs.Prelude.{ℕ, ◌≡◌, Bool, length, drop, Ok, Err}
use Rattle.std.proofs.Common.{arith, sym, ◌∙◌, subst}
use Rattle.std.proofs.Math.Path.{refl, ap}
use mathlib.Core.List.{List, [], ◌∷◌, ◌++◌}
use Rattle.std.proofs.Math.Bool.{true, false, cond}
use Rattle.refusal.specs.Outcome.{Outcome, result, refused, Line, judged, NoneMeets}
use Rattle.refusal.specs.Numbers.{number_of, place_of}
use Rattle.refusal.specs.declared.Refusal.{Refusal}
use Rattle.recording.specs.Output.{Answers}

pub no_result : {R C : Type 0} (n p : ℕ) (r : R) → refused n p ≡ result r → C
no_result n p r e = let z : ◌≡◌ {A = ℕ} 0 1 = cc in absurd (bad z)
  where
    bad : ◌≡◌ {A = ℕ} 0 1 → ⊥
    bad z = omega arith

pub same_number : {R : Type 0} (n p m q : ℕ) → ◌≡◌ {A = Outcome R} (refused n p) (refused m q) → n ≡ m
same_number n p m q e = cc

module _ {R : Type 0} where
  -- lines that do not meet let the others judge
  pub judged_pass : (ls ms : List Line) (r : R) → NoneMeets ls → judged (ls ++ ms) r ≡ judged ms r
  unfolding judged
  judged_pass [] ms r n = refl
  judged_pass (l ∷ ls) ms r n =
      ap (λ (b : Bool). cond b (refused l.number l.place) (judged (ls ++ ms) r)) n.0 ∙ judged_pass ls ms r n.1

  -- a line that does not meet may go
  pub judged_skip : (ls : List Line) (l : Line) (ms : List Line) (r : R) → l.meets ≡ false → judged (ls ++ l ∷ ms) r ≡ judged (ls ++ ms) r
  unfolding judged
  judged_skip [] l ms r e = ap (λ (b : Bool). cond b (refused l.number l.place) (judged ms r)) e
  judged_skip (k ∷ ls) l ms r e =
      ap (λ (o : Outcome R). cond k.meets (refused k.number k.place) o) (judged_skip ls l ms r e)

  -- where none meets there is the result
  pub judged_none : (ls : List Line) (r : R) → NoneMeets ls → judged ls r ≡ result r
  unfolding judged
  judged_none [] r n = refl
  judged_none (l ∷ ls) r n = ap (λ (b : Bool). cond b (refused l.number l.place) (judged ls r)) n.0 ∙ judged_none ls r n.1

  -- the first line, where it meets
  pub judged-first : (l : Line) (ls : List Line) (r : R) → l.meets ≡ true → judged (l ∷ ls) r ≡ refused l.number l.place
  unfolding judged
  judged-first l ls r e = ap (λ (b : Bool). cond b (refused l.number l.place) (judged ls r)) e

  -- a result shows that none meets
  pub result_none : (ls : List Line) (r s : R) → judged ls r ≡ result s → NoneMeets ls × (r ≡ s)
  unfolding judged
  result_none [] r s e = (tt, cc)
  result_none (l ∷ ls) r s e = go l.meets refl e (result_none ls r s)
    where
      go : (b : Bool) → l.meets ≡ b → cond b (refused l.number l.place) (judged ls r) ≡ result s
          → (judged ls r ≡ result s → NoneMeets ls × (r ≡ s)) → NoneMeets (l ∷ ls) × (r ≡ s)
      go true h e rest = no_result l.number l.place s e
      go false h e rest = let k = rest e in ((h, k.0), k.1)

same_refusal : {R S : Type 0} (n p m q : ℕ) → ◌≡◌ {A = Outcome R} (refused n p) (refused m q) → ◌≡◌ {A = Outcome S} (refused n p) (refused m q)
same_refusal n p m q e =
    let a : n ≡ m = cc in
    let b : p ≡ q = cc in
    cc

-- a refusal stands, whatever follows, and whatever the result would be
pub refusal_stands : {R S : Type 0} (ls ms : List Line) (r : R) (s : S) (n p : ℕ) → judged ls r ≡ refused n p → judged (ls ++ ms) s ≡ refused n p
unfolding judged
refusal_stands [] ms r s n p e = no_result n p r (sym e)
refusal_stands {R} {S} (l ∷ ls) ms r s n p e = go l.meets e (refusal_stands ls ms r s n p)
  where
    go : (b : Bool) → cond b (refused l.number l.place) (judged ls r) ≡ refused n p
        → (judged ls r ≡ refused n p → judged (ls ++ ms) s ≡ refused n p)
        → cond b (refused l.number l.place) (judged (ls ++ ms) s) ≡ refused n p
    go true e rest = same_refusal l.number l.place n p e
    go false e rest = rest e

pub none_append : (ls ms : List Line) → NoneMeets (ls ++ ms) → NoneMeets ls × NoneMeets ms
none_append [] ms n = (tt, n)
none_append (l ∷ ls) ms n = let k = none_append ls ms n.1 in ((n.0, k.0), k.1)

pub append_none : (ls ms : List Line) → NoneMeets ls → NoneMeets ms → NoneMeets (ls ++ ms)
append_none [] ms n m = m
append_none (l ∷ ls) ms n m = (n.0, append_none ls ms n.1 m)

-- ---- a call that writes

pub answers_refused : (o : Outcome (List ℕ)) (old : List ℕ) (x : Refusal) → o ≡ refused (number_of x) (place_of x) → Answers o old (Err x) old
answers_refused o old x e = subst (λ (k : Outcome (List ℕ)). Answers k old (Err x) old) (sym e) (record { answer = refl; output = refl })

pub answers_written : (o : Outcome (List ℕ)) (old bytes new : List ℕ) (n : ℕ) → o ≡ result bytes → n ≡ length bytes → new ≡ bytes ++ drop n old
    → Answers o old (Ok n) new
answers_written o old bytes new n e l w =
    subst (λ (k : Outcome (List ℕ)). Answers k old (Ok n) new) (sym e)
    (record { answer = ap result l; output = w ∙ ap (λ (k : ℕ). bytes ++ drop k old) l })
