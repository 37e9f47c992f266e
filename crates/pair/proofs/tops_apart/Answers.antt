-- `pair::tops_apart` meets its contract. The times of tops are counted for refusal 9 and searched; they ascend, so no pair is 0 or less apart. Assumes nothing.
use Rattle.refusal.specs.declared.Refusal.{Refusal}
use Rattle.std.specs.Prelude.{Result, Ok, Err, Option, None}
use borrow.Author.Rules.{rules}
use borrow.Author.Tests.{lt-ltb, le-ltb}
use native.Mathlib.Omega.{arith}
use mathlib.Core.Path.{◌≡◌, refl, sym, ap, ap₂, ◌∙◌, subst}
use mathlib.Core.List.{List, [], ◌∷◌, map}
use Prim.Native.Nat.{ℕ, ◌-◌, ◌/◌, ◌≤◌, ◌<◌}
use lib.ListN.{length, take}
use lib.IntN.{ℤ, pos}
use Rattle.number.specs.Axis.{origin, whole}
use Rattle.refusal.specs.Outcome.{result, judged, NoneMeets}
use Rattle.refusal.specs.declared.Refusal.TheVariants.{TooManyTops}
use Rattle.recording.specs.Condition.{pick}
use Rattle.recording.specs.Reading.{top, curve_of, a_top}
use Rattle.recording.proofs.laws.Outcome.{judged_none}
use Rattle.recording.specs.Recording.{chunks, reading, readings, Accepted}
use Rattle.tops.specs.Tops.{top_times, most_tops}
use Rattle.tops.specs.inner.Scan.{Scanned}
use Rattle.tops.proofs.laws.Event.{event-times_ascend}
use Rattle.tops.proofs.laws.Pick.{Ascending}
use Rattle.pair.specs.inner.Search.{Rising}
use Rattle.pair.specs.declared.TopPair.{TopPair}
use Rattle.pair.specs.Pair.{Given, pairs_of, first_apart, first_pair, too_many_tops, outcome_of}
use Rattle.pair.proofs.laws.Pair.{scanned_all, rising_taken, count-tops, none_for_low, whole_below, whole_above, answer-first}
use Rattle.pair.proofs.tops_apart.Goals as goal

module _ (bytes : List ℕ) (n curve index : ℕ) (a : Accepted bytes) (e : n ≡ length bytes / 16) (old : List ℕ) (room : length old ≡ most_tops)
    (count : ℕ) (new : List ℕ) (s : Scanned (top_times (curve_of curve) (map reading (chunks n bytes))) old count new) where
  abbrev given : Given
  given = first_pair (readings bytes) (curve_of curve) (whole index)

  scanned : Scanned (top_times (curve_of curve) (readings bytes)) old count new
  scanned = subst (λ (k : ℕ). Scanned (top_times (curve_of curve) (map reading (chunks k bytes))) old count new) e s

  tops : count ≡ length (pick (top (curve_of curve)) (readings bytes))
  tops = scanned.counted ∙ count-tops (readings bytes) (curve_of curve) (whole index)

  over : most_tops < count → outcome_of (Err TooManyTops) ≡ judged (too_many_tops bytes curve ∷ []) given
  over h =
      answer-first given (too_many_tops bytes curve) [] TooManyTops
      (lt-ltb most_tops _ (subst (λ (k : ℕ). most_tops < k) tops h)) refl refl

  module _ (h : count ≤ most_tops) where
    few : NoneMeets (too_many_tops bytes curve ∷ [])
    few = (le-ltb most_tops _ (subst (λ (k : ℕ). k ≤ most_tops) tops h), tt)

    at_or_below : index ≤ origin → outcome_of (Ok None) ≡ judged (too_many_tops bytes curve ∷ []) given
    at_or_below k =
        ap result (sym (none_for_low (curve_of curve) bytes a (whole index) (whole_below index k)))
        ∙ sym (judged_none (too_many_tops bytes curve ∷ []) given few)

    all : take count new ≡ top_times (curve_of curve) (readings bytes)
    all = scanned_all (top_times (curve_of curve) (readings bytes)) old new count scanned (let t = scanned.counted in omega arith)

    rising : count ≤ length new → Rising new count
    rising fits = rising_taken new count fits (subst Ascending (sym all) (event-times_ascend (a_top (curve_of curve)) bytes a))

    above : origin < index → (p : Result (Option TopPair) Refusal) → outcome_of p ≡ result (first_apart (pos (index - origin)) (pairs_of (take count new)))
        → outcome_of p ≡ judged (too_many_tops bytes curve ∷ []) given
    unfolding first_pair
    above k p f =
        f
        ∙ ap₂ (λ (g : ℤ) (ts : List ℕ). result (first_apart g (pairs_of ts))) (sym (whole_above index (omega arith))) all
        ∙ sym (judged_none (too_many_tops bytes curve ∷ []) given few)

pub returns-then-count-gt-MOST_TOPS : goal.returns-then-count-gt-MOST_TOPS
returns-then-count-gt-MOST_TOPS c =
    over c.args.rec.now c.args.n c.args.curve c.args.index c.requires.0 c.requires.1 _ refl c.event_times-count.result c.event_times-count.new.times c.event_times-count.ensures c.if-count-gt-MOST_TOPS.true

pub returns-then-index-le-ORIGIN : goal.returns-then-index-le-ORIGIN
returns-then-index-le-ORIGIN c =
    at_or_below c.args.rec.now c.args.n c.args.curve c.args.index c.requires.0 c.requires.1 _ refl c.event_times-count.result c.event_times-count.new.times c.event_times-count.ensures
    c.if-count-gt-MOST_TOPS.false c.if-index-le-ORIGIN.true

pub search-requires : goal.search-requires
search-requires c =
    let new : List ℕ = c.event_times-count.new.times in
    let long = c.event_times-count.auto.times in
    let fits : c.event_times-count.result ≤ length new = omega arith in
    let up : c.event_times-count.result ≤ length new → Rising new c.event_times-count.result =
    rising c.args.rec.now c.args.n c.args.curve c.args.index c.requires.0 c.requires.1 _ refl c.event_times-count.result new c.event_times-count.ensures
    c.if-count-gt-MOST_TOPS.false in
    (fits, search rules, λ a b c l. up fits a b c l)

pub returns : goal.returns
returns c =
    above c.args.rec.now c.args.n c.args.curve c.args.index c.requires.0 c.requires.1 _ refl c.event_times-count.result c.event_times-count.new.times c.event_times-count.ensures
    c.if-count-gt-MOST_TOPS.false c.if-index-le-ORIGIN.false (Ok c.search.result) (ap result c.search.ensures)
