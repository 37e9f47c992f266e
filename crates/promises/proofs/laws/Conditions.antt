-- The lines that a call computes are the lines of the table: each meets exactly where its condition is met, once none before it does.
use Rattle.std.specs.Prelude.{ℕ, ◌%◌, ◌/◌, ◌≤◌, ◌<◌, ◌≡◌, Bool, true, cond, ◌&&◌, ◌↔◌, eqb, ltb, length}
use Rattle.std.proofs.Common.{arith, sym, subst, inl, inr}
use Rattle.std.proofs.Math.Path.{refl}
use Rattle.std.proofs.Math.Bool.{false, So, not}
use mathlib.Core.List.{List, [], ◌∷◌, ◌++◌}
use borrow.Author.Tests.{eqb-true, eq-eqb, ltb-true, ltb-false, lt-ltb, not-true, not-false}
use Rattle.number.proofs.laws.Boolean.{clash, then, and_left, and_right, so_not}
use Rattle.number.proofs.laws.Least.{least_holds, least_first}
use Rattle.refusal.specs.Outcome.{Outcome, result, refused, Line, line, judged, NoneMeets}
use Rattle.recording.specs.Recording.{Raw, records, lawful, first_bad, most_records, recording_lines, Accepted}
use Rattle.promises.specs.Conditions.{FirstBroken, TableLine, ◌upon◌, recording_table, Unmet, NoneMet, FirstMet}

-- ---- lines that agree with the table

-- the numbers of the table are 1 to 20
abbrev pub Known : ℕ → Type 0
Known n = (0 < n) × (n < 21)

-- the line has the number of the table's, and meets exactly where its condition is met
pub record Agrees (l : Line) (w : TableLine) : Type 0 where
  pub number : l.number ≡ w.number
  pub known : Known w.number
  pub met : l.meets ≡ true → w.Met l.place
  pub unmet : l.meets ≡ false → Unmet w

-- a line with the place 0, whose test decides the condition
pub agrees : (n : ℕ) {b : Bool} {P : Type 0} → (ltb 0 n && ltb n 21) ≡ true → So b ↔ P → Agrees (line n b) (n upon P)
agrees n {b} k d = record {
  number = refl;
  known = (ltb-true 0 n (and_left (ltb 0 n) (ltb n 21) k), ltb-true n 21 (and_right (ltb 0 n) (ltb n 21) k));
  met = λ e. (refl, d.0 e);
  unmet = λ e p m. clash (d.1 m.1) e;
}

-- each line agrees, where none before it meets
abbrev Each : List Line → List TableLine → Type 0
Each [] [] = Unit {0}
Each [] (w ∷ ws) = ⊥
Each (l ∷ ls) [] = ⊥
Each (l ∷ ls) (w ∷ ws) = Agrees l w × (l.meets ≡ false → Each ls ws)

pub record Agree (ls : List Line) (ws : List TableLine) : Type 0 where
  pub each : Each ls ws

pub done : Agree [] []
done = record { each = tt }

-- a line agrees, and those behind it do where it does not meet
pub next : {l : Line} {w : TableLine} {ls : List Line} {ws : List TableLine} → Agrees l w → (l.meets ≡ false → Agree ls ws) → Agree (l ∷ ls) (w ∷ ws)
next a rest = record { each = (a, λ e. (rest e).each) }

infixr 50 ◌⊳◌
pub ◌⊳◌ : {l : Line} {w : TableLine} {ls : List Line} {ws : List TableLine} → Agrees l w → Agree ls ws → Agree (l ∷ ls) (w ∷ ws)
a ⊳ rest = next a (λ e. rest)

-- what an outcome says by the table: a result, no line is met; a refusal, it is the first that is
abbrev pub AsTable : List TableLine → {R : Type 0} → Outcome R → Type 0
AsTable ws (result r) = NoneMet ws
AsTable ws (refused n p) = FirstMet ws n p × Known n

-- where a line is met, not none is
pub first-met : (ws : List TableLine) (n p : ℕ) → FirstMet ws n p → ¬ NoneMet ws
first-met [] n p f none = f
first-met (w ∷ ws) n p (inl h) none = none.0 p h.1
first-met (w ∷ ws) n p (inr h) none = first-met ws n p h.1 none.1

module _ {R : Type 0} where
  -- what is judged by agreeing lines
  judged_each : (ls : List Line) (ws : List TableLine) (r : R) → Each ls ws → AsTable ws (judged ls r)
  unfolding judged
  judged_each [] [] r a = tt
  judged_each [] (w ∷ ws) r a = absurd a
  judged_each (l ∷ ls) [] r a = absurd a
  judged_each (l ∷ ls) (w ∷ ws) r a = go l.meets refl (judged ls r) (λ h. judged_each ls ws r (a.1 h))
    where
      rest : l.meets ≡ false → (o : Outcome R) → AsTable ws o → AsTable (w ∷ ws) o
      rest e (result s) t = (a.0.unmet e, t)
      rest e (refused n p) t = (inr (a.0.unmet e, t.0), t.1)

      go : (b : Bool) → l.meets ≡ b → (o : Outcome R) → (l.meets ≡ false → AsTable ws o) → AsTable (w ∷ ws) (cond b (refused l.number l.place) o)
      go true e o t = (inl (a.0.number, a.0.met e), subst Known (sym a.0.number) a.0.known)
      go false e o t = rest e o (t e)

  pub judged-told : {ls : List Line} {ws : List TableLine} → Agree ls ws → (r : R) → AsTable ws (judged ls r)
  judged-told {ls} {ws} a r = judged_each ls ws r a.each

-- where no line of the table is met, none that is computed meets
none_each : (ls : List Line) (ws : List TableLine) → Each ls ws → NoneMet ws → NoneMeets ls
none_each [] [] a n = tt
none_each [] (w ∷ ws) a n = absurd a
none_each (l ∷ ls) [] a n = absurd a
none_each (l ∷ ls) (w ∷ ws) a n = go l.meets refl (λ e. none_each ls ws (a.1 e) n.1)
  where
    go : (b : Bool) → l.meets ≡ b → (l.meets ≡ false → NoneMeets ls) → NoneMeets (l ∷ ls)
    go true e rest = absurd (n.0 l.place (a.0.met e))
    go false e rest = (e, rest e)

pub none_meets : (ls : List Line) (ws : List TableLine) → Agree ls ws → NoneMet ws → NoneMeets ls
none_meets ls ws a n = none_each ls ws a.each n

-- ---- tests by what they decide

pub so_eq : (m n : ℕ) → So (eqb m n) ↔ (m ≡ n)
so_eq m n = (eqb-true m n, eq-eqb m n)

pub so_lt : (m n : ℕ) → So (ltb m n) ↔ (m < n)
so_lt m n = (ltb-true m n, lt-ltb m n)

pub so_none : {b : Bool} {P : Type 0} → So b ↔ P → So (not b) ↔ (¬ P)
so_none {b} d = then (so_not b) (λ h p. h (d.1 p), λ h e. h (d.0 e))

-- ---- 1, 2 and 3

module _ (bytes : List ℕ) where
  abbrev xs : List Raw
  xs = records bytes

  broken_first : first_bad xs < length xs → FirstBroken xs (first_bad xs)
  unfolding first_bad
  broken_first h = record {
    inside = h;
    broken = not-true (lawful xs (first_bad xs)) (least_holds (λ i. not (lawful xs i)) (length xs) h);
    first = λ j l. not-false (lawful xs j) (least_first (λ i. not (lawful xs i)) (length xs) j l);
  }

  none_broken : length xs ≤ first_bad xs → (i : ℕ) → ¬ FirstBroken xs i
  unfolding first_bad
  none_broken h i f = let k = f.inside in clash (not-false (lawful xs i) (least_first (λ i. not (lawful xs i)) (length xs) i (omega arith))) f.broken

  pub agree_recording : {ls : List Line} {ws : List TableLine} → (Accepted bytes → Agree ls ws) → Agree (recording_lines bytes ++ ls) (recording_table bytes ++ ws)
  agree_recording rest =
      next (agrees 1 refl (so_none (so_eq (length bytes % 16) 0)))
      (λ one. next (agrees 2 refl (so_lt most_records (length bytes / 16)))
      (λ two. next three (λ no-bad. rest (one, (two, (no-bad, tt))))))
    where
      three : Agrees (record { number = 3; place = first_bad xs; meets = ltb (first_bad xs) (length xs) }) (record { number = 3; Met = FirstBroken xs })
      three = record {
        number = refl;
        known = (omega arith, omega arith);
        met = λ e. broken_first (ltb-true (first_bad xs) (length xs) e);
        unmet = λ e. none_broken (ltb-false (first_bad xs) (length xs) e);
      }
