-- A slot after a set is put into it: by the elements of the table.
use Rattle.std.specs.Prelude.{ℕ, ◌+◌, ◌-◌, ◌*◌, ◌≤◌, ◌<◌, min, ◌≡◌, Bool, List, ◌++◌, ltb, length, get_or, take, drop}
use Rattle.std.specs.Prelude.{Result}
use Rattle.runs.specs.declared.TooManyRuns.{TooManyRuns}
use Rattle.std.proofs.Common.{arith, sym, ◌∙◌, subst, ⊎_elim, length-take, length-drop, length-append, ext_get_or, get_or-drop, get_or-take, get_or-append-add, length-take-le, drop_at}
use Rattle.std.proofs.Math.Path.{ap}
use Rattle.std.proofs.Math.ListN.{get_or-append}
use Rattle.std.proofs.Math.Seq.{take_at}
use Rattle.number.proofs.laws.Order.{less_or_not}
use Rattle.number.specs.Axis.{axis}
use Rattle.runs.specs.Runs.{most_runs}
use Rattle.runs.specs.Set.{slot_words, Holds, Makes}
use Rattle.runs.proofs.laws.Runs.{run_count_ext}
use Rattle.runs.proofs.laws.Set.{holds_ext}
use Rattle.grammar.specs.Size.{most_nodes}
use Rattle.evaluation.specs.inner.Slots.{slot, Sized, Elsewhere, Puts}

-- slots with the same elements
slot_same : (before after : List ℕ) (k : ℕ) → length after ≡ length before
    → ((j : ℕ) → j < slot_words → get_or after (slot_words * k + j) 0 ≡ get_or before (slot_words * k + j) 0) → slot after k ≡ slot before k
unfolding slot
slot_same before after k e same =
    ext_get_or 0 _ _
    (length-take slot_words (drop (slot_words * k) after)
    ∙ ap (min slot_words) (length-drop (slot_words * k) after ∙ ap (λ (n : ℕ). n - slot_words * k) e ∙ sym (length-drop (slot_words * k) before))
    ∙ sym (length-take slot_words (drop (slot_words * k) before)))
    (λ j h.
    let t : j < slot_words = omega (arith, length-take slot_words (drop (slot_words * k) after)) in
    get_or-take slot_words (drop (slot_words * k) after) j 0 t ∙ get_or-drop (slot_words * k) after j 0 ∙ same j t
    ∙ sym (get_or-drop (slot_words * k) before j 0) ∙ sym (get_or-take slot_words (drop (slot_words * k) before) j 0 t))

-- words in the place of slot m
module _ (before words : List ℕ) (m : ℕ) (sized : Sized before) (hm : m < most_nodes) (long : length words ≡ slot_words) (w : ℕ) (is : w ≡ slot_words) where
  abbrev front : List ℕ
  front = take (slot_words * m) before

  abbrev rest : List ℕ
  rest = drop w (drop (slot_words * m) before)

  abbrev after : List ℕ
  after = front ++ (words ++ rest)

  front_long : length front ≡ slot_words * m
  front_long = length-take-le (slot_words * m) before (omega arith)

  size : length after ≡ length before
  size = simp (length-append, length-drop) (omega (arith, front_long, long))

  here : slot after m ≡ words
  unfolding slot
  here = ap (take slot_words) (drop_at front (words ++ rest) (slot_words * m) front_long) ∙ take_at words rest slot_words long

  below : (i : ℕ) → i < slot_words * m → get_or after i 0 ≡ get_or before i 0
  below i h = get_or-append front (words ++ rest) 0 i (omega (arith, front_long)) ∙ get_or-take (slot_words * m) before i 0 h

  above : (i : ℕ) → slot_words * m + slot_words ≤ i → get_or after i 0 ≡ get_or before i 0
  above i h =
      let n = i - (slot_words * m + slot_words) in
      let k : i ≡ length front + (length words + n) = omega (arith, front_long, long) in
      let e : slot_words * m + (w + n) ≡ i = omega arith in
      ap (λ (j : ℕ). get_or after j 0) k ∙ get_or-append-add front (words ++ rest) (length words + n) 0 ∙ get_or-append-add words rest n 0
      ∙ get_or-drop w (drop (slot_words * m) before) n 0 ∙ get_or-drop (slot_words * m) before (w + n) 0 ∙ ap (λ (j : ℕ). get_or before j 0) e

  elsewhere : Elsewhere before after m
  elsewhere k ne =
      slot_same before after k size
      (λ j h. ⊎_elim (λ l. below (slot_words * k + j) (omega arith)) (λ l. let t : m < k = omega arith in above (slot_words * k + j) (omega arith)) (less_or_not k m))

  -- what an operation made, in the place of slot m
  pub made_in : (f : ℕ → Bool) (over : Result (Unit {0}) TooManyRuns) → Makes f words over → Puts f before after m over
  made_in f over w = record { flag = w.flag; here = λ o. subst (Holds f) (sym here) (w.holds o); elsewhere = λ o. elsewhere }

-- from the first word of slot m to the first behind it
abbrev pub across : ℕ → ℕ
across m = slot_words * m + slot_words - slot_words * m

pub across_is : (m : ℕ) → across m ≡ slot_words
across_is m = omega arith

-- the words of slot m
pub slot_is : (sets : List ℕ) (m w : ℕ) → w ≡ slot_words → take w (drop (slot_words * m) sets) ≡ slot sets m
unfolding slot
slot_is sets m w e = ap (λ (k : ℕ). take k (drop (slot_words * m) sets)) e

-- the same members, said in another way
pub puts_ext : (f g : ℕ → Bool) (before after : List ℕ) (m : ℕ) (over : Result (Unit {0}) TooManyRuns) → ((v : ℕ) → v < axis → f v ≡ g v) → Puts f before after m over → Puts g before after m over
puts_ext f g before after m over e p =
    record { flag = p.flag ∙ ap (ltb most_runs) (run_count_ext f g e); here = λ o. holds_ext f g (slot after m) e (p.here o); elsewhere = p.elsewhere }

-- the same sets, named by equal words
pub puts_lists : (F : List ℕ → List ℕ → List ℕ → ℕ → Bool) (before after : List ℕ) (m : ℕ) (over : Result (Unit {0}) TooManyRuns) {a a' b b' c c' : List ℕ}
    → a ≡ a' → b ≡ b' → c ≡ c' → Puts (F a b c) before after m over → Puts (F a' b' c') before after m over
puts_lists F before after m over e f g p = subst (λ (h : ℕ → Bool). Puts h before after m over) (λ i. F (e i) (f i) (g i)) p
