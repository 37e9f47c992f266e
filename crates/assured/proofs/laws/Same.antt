-- A TEXT THAT LASTS MEANS THE SAME of every selection that includes the kept readings, at the first record, with every number put in; and 8 and 9 refuse it of the one if of the other.
use Rattle.std.specs.Prelude.{ℕ, ◌≤◌, ◌<◌, ◌≡◌, refl, Bool, true, false, cond, ◌&&◌, ◌↔◌, List, [], ◌∷◌, map, length}
use Rattle.std.proofs.Common.{arith, sym, subst}
use Rattle.std.proofs.lemmas.Bool.{false≢true}
use Rattle.number.proofs.laws.Boolean.{clash, or_cases, and_left, and_right, then, back}
use Rattle.recording.specs.Condition.{pick}
use Rattle.recording.specs.Reading.{Reading, Event, event, a_top}
use Rattle.tops.specs.Tops.{most_tops}
use Rattle.grammar.specs.Size.{temporal, nodes, most_nodes}
use Rattle.grammar.specs.Syntax.{Text}
use Rattle.meaning.specs.Alike.{Same}
use Rattle.meaning.specs.Overfull.{Overfull, TooManyTops}
use Rattle.meaning.specs.inner.Coded.{code}
use Rattle.meaning.specs.inner.Truth.{last_coded, over_at, some_below, refused8}
use Rattle.meaning.specs.inner.Recorded.{InRange, Recorded}
use Rattle.meaning.proofs.laws.Overfull.{eight_overfull, below_none}
use Rattle.kept.specs.Kept.{kept_for}
use Rattle.kept.specs.Selection.{flags, select, Includes}
use Rattle.kept.proofs.laws.Kept.{same_events}
use Rattle.assured.specs.Assured.{steady, even, firstly, lasts}
use Rattle.assured.proofs.laws.Carried.{Thinned, unlisted, steady_kept}
use Rattle.assured.proofs.laws.LeftOut.{thinned-from}
use Rattle.assured.proofs.laws.FewRuns.{plain-under, firstly-under}
use Rattle.assured.proofs.laws.Even.{Over, even_down, even_up}
use Rattle.assured.proofs.laws.Firstly.{firstly_same}

-- ---- 8

-- where no node is over 256 runs at any record, 8 does not refuse
never_over : (r : List Reading) → InRange r → 0 < length r → (p : Text) → ((i : ℕ) → i ≤ last_coded (map code r) → over_at (map code r) p i ≡ false) → Overfull r p → ⊥
unfolding refused8
never_over r range long p none o = clash ((eight_overfull r range long p).1 o) (by (temporal p))
  where
    by : (t : Bool) → cond t (some_below (over_at (map code r) p) (length (map code r))) (over_at (map code r) p 0) ≡ false
    by true = below_none (over_at (map code r) p) (length (map code r)) (λ i l. none i (omega arith))
    by false = none 0 (omega arith)

-- where the text writes F, G, X, U or W, every record counts
every_record : (r : List Reading) (p : Text) → temporal p ≡ true → Overfull r p ↔ Over r p
every_record r p t = (
  λ o. record { node = o.node; of_text = o.of_text; at = o.at; inside = o.inside; set = o.set; is-set = o.is-set; many = o.many },
  λ o. record { node = o.node; of_text = o.of_text; at = o.at; inside = o.inside; first = λ e. absurd (clash t e); set = o.set; is-set = o.is-set; many = o.many },
)

-- ---- 9

same_tops : (p : Text) (r s : List Reading) → ((e : Event) → pick (event e) r ≡ pick (event e) s) → TooManyTops r p → TooManyTops s p
same_tops p r s e t = record {
  question = t.question;
  of_text = t.of_text;
  curve = t.curve;
  over = t.over;
  many = subst (λ (k : List Reading). most_tops < length k) (e (a_top t.curve)) t.many;
}

-- ---- a selection, the first reading in it

module _ (marks : List ℕ) (x : Reading) (l : List Reading) (mask : List Bool) (w : Includes (true ∷ mask) (flags (kept_for marks) (x ∷ l)))
    (known : Recorded (x ∷ l)) (range : InRange (x ∷ select mask l)) (p : Text) (sized : nodes p ≤ most_nodes) where
  thin : Thinned (true ∷ mask) (x ∷ l)
  thin = thinned-from marks [] (true ∷ mask) (x ∷ l) tt known.increasing w

  nine_same : TooManyTops (x ∷ select mask l) p ↔ TooManyTops (x ∷ l) p
  nine_same = (
    same_tops p (x ∷ select mask l) (x ∷ l) (same_events marks (x ∷ l) (true ∷ mask) w),
    same_tops p (x ∷ l) (x ∷ select mask l) (λ e. sym (same_events marks (x ∷ l) (true ∷ mask) w e)),
  )

  -- without F, G, X, U, W and listed names 8 does not refuse
  steady-eight : steady p ≡ true → even p ≡ true → Overfull (x ∷ select mask l) p ↔ Overfull (x ∷ l) p
  steady-eight s e = by (temporal p) refl
    where
      by : (t : Bool) → temporal p ≡ t → Overfull (x ∷ select mask l) p ↔ Overfull (x ∷ l) p
      by true t = then (every_record (x ∷ select mask l) p t) (then (
        even_up p (s, e) sized (true ∷ mask) (x ∷ l) thin,
        even_down p (s, e) sized (true ∷ mask) (x ∷ l) thin known.in-range,
      ) (back (every_record (x ∷ l) p t)))
      by false t = (
        λ o. absurd (never_over (x ∷ select mask l) range (omega arith) p (λ i k. plain-under (map code (x ∷ select mask l)) p t (unlisted p s) sized i) o),
        λ o. absurd (never_over (x ∷ l) known.in-range (omega arith) p (λ i k. plain-under (map code (x ∷ l)) p t (unlisted p s) sized i) o),
      )

  firstly-eight : firstly marks p ≡ true → Overfull (x ∷ select mask l) p ↔ Overfull (x ∷ l) p
  firstly-eight h = (
    λ o. absurd (never_over (x ∷ select mask l) range (omega arith) p (λ i k. firstly-under (map code (x ∷ select mask l)) marks p h sized i k) o),
    λ o. absurd (never_over (x ∷ l) known.in-range (omega arith) p (λ i k. firstly-under (map code (x ∷ l)) marks p h sized i k) o),
  )

  first_same : lasts marks p ≡ true → Same (x ∷ select mask l) (x ∷ l) p
  first_same h = or_cases (steady p && even p) (firstly marks p) h
      (λ k. let s = and_left (steady p) (even p) k in
      record { truth = λ z. back (steady_kept z p s mask x l thin); eight = steady-eight s (and_right (steady p) (even p) k); nine = nine_same })
      (λ k. record { truth = λ z. back (firstly_same marks x l mask w thin z p k); eight = firstly-eight k; nine = nine_same })

-- ---- EVERY SELECTION that includes the kept readings, of readings in range whose times increase

pub lasts_same : (marks : List ℕ) (r : List Reading) (mask : List Bool) → Includes mask (flags (kept_for marks) r) → Recorded r → InRange (select mask r) → 0 < length r
    → (p : Text) → nodes p ≤ most_nodes → lasts marks p ≡ true → Same (select mask r) r p
lasts_same marks [] mask w known range long p sized h = absurd (omega arith)
lasts_same marks (x ∷ l) [] w known range long p sized h = absurd w
lasts_same marks (x ∷ l) (false ∷ mask) w known range long p sized h = absurd (false≢true (w.0 refl))
lasts_same marks (x ∷ l) (true ∷ mask) w known range long p sized h = first_same marks x l mask w known range p sized h
