-- The degree call from its parts: a distance, a set, a text that was read, a target.
use Rattle.std.specs.Prelude.{ℕ, ◌<◌, ◌≡◌, refl, Bool, true, false, not, cond, ◌⊎◌, List, [], ◌∷◌, ◌++◌, T, eqb, ltb, ℤ, Float, Result, Ok, Err, Option, Some, None, ⊤}
use Rattle.std.proofs.Common.{arith, subst, ◌∙◌, inl, inr, ⊎_elim, eq-eqb, ne_eqb, ltb-true}
use Rattle.std.proofs.Math.Path.{sym, ap}
use Rattle.std.specs.Float.Ieee.{is_nan}
use Rattle.number.specs.Axis.{axis}
use Rattle.refusal.specs.Outcome.{Outcome, result, refused, Line, judged, reported}
use Rattle.refusal.specs.Numbers.{number_of, place_of}
use Rattle.refusal.specs.declared.Refusal.{Refusal}
use Rattle.recording.proofs.laws.Outcome.{judged_pass, judged_skip, judged-first, judged_none, result_none, refusal_stands}
use Rattle.runs.specs.Distance.{distance}
use Rattle.runs.proofs.laws.Distance.{distance_ext}
use Rattle.runs.specs.Set.{member, nearest_of}
use Rattle.grammar.specs.Syntax.{Text}
use Rattle.grammar.specs.inner.Parse.{parsed}
use Rattle.text.specs.Told.{nodes_of}
use Rattle.meaning.specs.inner.Coded.{coded, index}
use Rattle.meaning.specs.inner.Truth.{val}
use Rattle.meaning.proofs.laws.Whole.{index-whole}
use Rattle.evaluation.specs.inner.Evaluation.{text_of}
use Rattle.question.specs.Question.{the_text, read, answer, asking_lines, set_lines}
use Rattle.question.specs.inner.Prepare.{Prepares}
use Rattle.question.proofs.laws.Prepare.{prepared_passes}
use Rattle.question.specs.inner.Answered.{Gives}
use Rattle.binary64.specs.Degree.{distance_of, degree_of}
use Rattle.binary64.proofs.laws.Degree.{distance-number, degree_number}
use Rattle.targets.specs.Target.{Placed}
use Rattle.degree.specs.Degree.{Reach, away, nowhere, reach_in, reach_to, reached_of, Value, met, short, no_value, graded, valued, value_of, target_line, nearness_of}
use Rattle.degree.specs.inner.Reach.{reach_at, mapped}

-- ---- a distance

is_met : (x : Value) (b : Bool) → b ≡ true → met ≡ cond b met x
is_met x b e = sym (ap (λ (c : Bool). cond c met x) e)

is_short : (x : Value) (b : Bool) → b ≡ false → x ≡ cond b met x
is_short x b e = sym (ap (λ (c : Bool). cond c met x) e)

pub grade_met : (d : ℕ) → d ≡ 0 → met ≡ graded d
grade_met d z = is_met _ (eqb d 0) (eq-eqb d 0 z)

pub grade_short : (d : ℕ) (x k : Float) → (d ≡ 0 → ⊥) → x ≡ distance_of d → k ≡ degree_of d → short x k ≡ graded d
grade_short d x k n p q =
    let same : short x k ≡ short (distance_of d) (degree_of d) = ap (λ (y : Float). short y k) p ∙ ap (short (distance_of d)) q in
    same ∙ is_short _ (eqb d 0) (ne_eqb d 0 n)

-- ---- a set

at_nothing : {C : Type 0} (d : ℕ) → ◌≡◌ {A = Option ℕ} (Some d) None → C
at_nothing d e = let z : ◌≡◌ {A = ℕ} 0 1 = cc in absurd (bad z)
  where
    bad : ◌≡◌ {A = ℕ} 0 1 → ⊥
    bad z = omega arith

module _ (f : ℕ → Bool) (v : ℕ) where
  pub near_at : (d : ℕ) → Some d ≡ nearest_of f v → away d ≡ reach_in f v
  near_at d e = by (ltb (distance f v) axis) e
    where
      by : (b : Bool) → Some d ≡ cond b (Some (distance f v)) None → away d ≡ cond b (away (distance f v)) nowhere
      by true e = let same : d ≡ distance f v = cc in ap away same
      by false e = at_nothing d e

  pub near-nothing : None ≡ nearest_of f v → nowhere ≡ reach_in f v
  near-nothing e = by (ltb (distance f v) axis) e
    where
      by : (b : Bool) → None ≡ cond b (Some (distance f v)) None → nowhere ≡ cond b (away (distance f v)) nowhere
      by true e = at_nothing (distance f v) (sym e)
      by false e = refl

-- sets with the same members are equally far
pub reach_ext : (f g : ℕ → Bool) (v : ℕ) → v < axis → ((w : ℕ) → w < axis → f w ≡ g w) → reach_in f v ≡ reach_in g v
reach_ext f g v h e = ap (λ (d : ℕ). cond (ltb d axis) (away d) nowhere) (distance_ext f g v h e)

-- ---- grading

-- a result that is graded, after the same lines
pub judged-mapped : {R S : Type 0} (h : R → S) (ls : List Line) (r : R) → mapped h (judged ls r) ≡ judged ls (h r)
unfolding judged
judged-mapped h [] r = refl
judged-mapped {R} {S} h (l ∷ ls) r = go l.meets (judged-mapped h ls r)
  where
    go : (b : Bool) → mapped h (judged ls r) ≡ judged ls (h r)
        → mapped h (cond b (refused l.number l.place) (judged ls r)) ≡ cond b (refused l.number l.place) (judged ls (h r))
    go true e = refl
    go false e = e

-- what the nearest member comes to
pub near_is : (f : ℕ → Bool) (v : ℕ) (o : Option ℕ) → o ≡ nearest_of f v → reach_to o ≡ reach_in f v
near_is f v (Some d) e = near_at f v d e
near_is f v None e = near-nothing f v e

-- an answer that was reached under lines, graded
pub graded-lines : (x : Result (Option ℕ) Refusal) (ls : List Line) (y : Reach) (o : Outcome Value) → reached_of x ≡ judged ls y → o ≡ mapped valued (reached_of x) → o ≡ judged ls (valued y)
graded-lines x ls y o e q = q ∙ ap (mapped valued) e ∙ judged-mapped valued ls y

-- ---- a text that was read

module _ (bytes : List ℕ) (p : Text) (words : List ℕ) (a : Result ⊤ Refusal) (g : Gives bytes p words a) (v : ℕ) where
  pub text_refused : (x : Refusal) → a ≡ Err x
      → refused (number_of x) (place_of x) ≡ judged (set_lines bytes p) (reach_in (λ n. val (coded bytes) n p 0) v)
  text_refused x e = sym (refusal_stands (set_lines bytes p) [] tt (reach_in (λ n. val (coded bytes) n p 0) v) (number_of x) (place_of x) (g.refusal x e))

  pub text-near : a ≡ (Ok tt) → v < axis → (o : Outcome Reach) → o ≡ result (reach_in (member words) v)
      → o ≡ judged (set_lines bytes p) (reach_in (λ n. val (coded bytes) n p 0) v)
  text-near e h o q =
      q ∙ ap result (reach_ext (member words) (λ n. val (coded bytes) n p 0) v h (g.set e).members)
      ∙ sym (judged_none (set_lines bytes p) (reach_in (λ n. val (coded bytes) n p 0) v) (g.none e))

-- ---- a target

module _ (g : ℤ) (lines : List Line) (f : ℕ → Bool) where
  pub target_off : Placed g None → refused 12 0 ≡ judged (target_line g ∷ lines) (value_of f (index g))
  target_off h = sym (judged-first (target_line g) lines (value_of f (index g)) h)

  pub target_on : (n : ℕ) → Placed g (Some n) → (o : Outcome Value) → o ≡ judged lines (value_of f n)
      → o ≡ judged (target_line g ∷ lines) (value_of f (index g))
  target_on n h o q =
      let there : index g ≡ n = ap index (sym h.2) ∙ index-whole n in
      q ∙ ap (λ (k : ℕ). judged lines (value_of f k)) (sym there) ∙ sym (judged_skip [] (target_line g) lines (value_of f (index g)) h.0)

-- ---- the call

module _ (bytes text table : List ℕ) (g : ℤ) (q : Result ℕ Refusal) (h : Prepares bytes text table q) where
  pub degree_refused : (x : Refusal) → q ≡ Err x → refused (number_of x) (place_of x) ≡ nearness_of bytes text g
  unfolding nearness_of
  degree_refused x e =
      sym (refusal_stands (asking_lines bytes text) (target_line g ∷ set_lines bytes (read text)) (nodes_of (parsed text)) (value_of (answer bytes text) (index g)) (number_of x) (place_of x)
      (sym h.outcome ∙ ap reported e))

  -- the target is handed on as z
  pub degree_answered : (n : ℕ) → q ≡ Ok n → (z : ℤ) → z ≡ g → (o : Outcome Value)
      → o ≡ judged (target_line z ∷ set_lines bytes (text_of table n)) (value_of (λ k. val (coded bytes) k (text_of table n) 0) (index z)) → o ≡ nearness_of bytes text g
  unfolding nearness_of
  degree_answered n e z same o w =
      let is : text_of table n ≡ read text = ap the_text (sym (h.tabled n e).reads) in
      w ∙ ap (λ (t : ℤ). judged (target_line t ∷ set_lines bytes (text_of table n)) (value_of (λ k. val (coded bytes) k (text_of table n) 0) (index t))) same
      ∙ ap (λ (p : Text). judged (target_line g ∷ set_lines bytes p) (value_of (λ k. val (coded bytes) k p 0) (index g))) is
      ∙ sym (judged_pass (asking_lines bytes text) (target_line g ∷ set_lines bytes (read text)) (value_of (answer bytes text) (index g)) (prepared_passes h n e).0)

-- the target is given by its index
module _ (bytes text table : List ℕ) (v : ℕ) (q : Result ℕ Refusal) (h : Prepares bytes text table q) where
  pub at_refused : (x : Refusal) → q ≡ Err x → refused (number_of x) (place_of x) ≡ reach_at bytes text v
  unfolding reach_at
  at_refused x e =
      sym (refusal_stands (asking_lines bytes text) (set_lines bytes (read text)) (nodes_of (parsed text)) (reach_in (answer bytes text) v) (number_of x) (place_of x) (sym h.outcome ∙ ap reported e))

  pub at_answered : (n : ℕ) → q ≡ Ok n → (o : Outcome Reach)
      → o ≡ judged (set_lines bytes (text_of table n)) (reach_in (λ k. val (coded bytes) k (text_of table n) 0) v) → o ≡ reach_at bytes text v
  unfolding reach_at
  at_answered n e o w =
      let is : text_of table n ≡ read text = ap the_text (sym (h.tabled n e).reads) in
      w ∙ ap (λ (p : Text). judged (set_lines bytes p) (reach_in (λ k. val (coded bytes) k p 0) v)) is
      ∙ sym (judged_pass (asking_lines bytes text) (set_lines bytes (read text)) (reach_in (answer bytes text) v) (prepared_passes h n e).0)

-- ---- the distance and the degree are numbers

-- the two floats are numbers
abbrev pub Numbers : Float → Float → Type 0
Numbers x k = T (not (is_nan x)) × T (not (is_nan k))

short_is : (x x' k k' : Float) → short x k ≡ short x' k' → (x ≡ x') × (k ≡ k')
short_is x x' k k' e = (cc, cc)

no_short : {C : Type 0} (y : Value) (x k : Float) → ((y ≡ met) ⊎ (y ≡ no_value)) → y ≡ short x k → C
no_short y x k h e = ⊎_elim (λ m. let z : ◌≡◌ {A = ℕ} 0 1 = cc in absurd (bad z)) (λ m. let z : ◌≡◌ {A = ℕ} 0 1 = cc in absurd (bad z)) h
  where
    bad : ◌≡◌ {A = ℕ} 0 1 → ⊥
    bad z = omega arith

value-numbers : (f : ℕ → Bool) (v : ℕ) (x k : Float) → value_of f v ≡ short x k → Numbers x k
value-numbers f v x k e = by (ltb (distance f v) axis) refl e
  where
    at : (b : Bool) → distance f v < axis → cond b met (short (distance_of (distance f v)) (degree_of (distance f v))) ≡ short x k → Numbers x k
    at true h e = no_short met x k (inl refl) e
    at false h e =
        let same = short_is (distance_of (distance f v)) x (degree_of (distance f v)) k e in (
          subst (λ (y : Float). T (not (is_nan y))) same.0 (distance-number (distance f v)),
          subst (λ (y : Float). T (not (is_nan y))) same.1 (degree_number (distance f v) (omega arith)),
        )

    by : (b : Bool) → ltb (distance f v) axis ≡ b → valued (cond b (away (distance f v)) nowhere) ≡ short x k → Numbers x k
    by true t e = at (eqb (distance f v) 0) (ltb-true (distance f v) axis t) e
    by false t e = no_short no_value x k (inr refl) e

pub short-numbers : (bytes text : List ℕ) (g : ℤ) (x k : Float) → result (short x k) ≡ nearness_of bytes text g → Numbers x k
unfolding nearness_of
short-numbers bytes text g x k e =
    value-numbers (answer bytes text) (index g) x k
    (result_none (asking_lines bytes text ++ (target_line g ∷ set_lines bytes (read text))) (value_of (answer bytes text) (index g)) (short x k) (sym e)).1
