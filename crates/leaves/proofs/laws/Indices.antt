-- The times that a scan leaves in an array, shifted to indices.
use Rattle.std.specs.Prelude.{◌≡◌, ℕ, zero, suc, ◌+◌, ◌<◌, ◌≤◌, List, [], ◌∷◌, ◌++◌, map, length, take, drop, slice_index, refl}
use Rattle.std.proofs.Common.{arith, not-suc-le-zero, le_of_suc-le-suc, ap, ◌∙◌, ⊎_elim, length-append, length-drop, length-set, take_all, ext_get_or, get_or-take, length-take-le, get_or-set_same, get_or-set_other}
use Rattle.std.proofs.Math.Path.{sym}
use Rattle.std.proofs.lemmas.List.{length-map}
use Rattle.std.proofs.Math.ListN as list
use Rattle.number.proofs.laws.Order.{less_or_not}
use Rattle.recording.specs.Condition.{pick}
use Rattle.recording.specs.Reading.{Event, event, turn, added}
use Rattle.recording.specs.Recording.{readings, most_records, Accepted}
use Rattle.recording.proofs.laws.Acceptance.{accepted_sound}
use Rattle.recording.proofs.laws.Record.{length-readings}
use Rattle.tops.specs.Tops as raw
use Rattle.tops.specs.inner.Scan.{Scanned}
use Rattle.tops.proofs.laws.Scan.{scanned_at}
use Rattle.tops.proofs.laws.Event.{events_half}
use Rattle.tops.proofs.laws.Addition.{additions_few}
use Rattle.meaning.specs.inner.Coded.{coded_from, coded_to, coded_adds, coded_times, coded_additions}
use Rattle.meaning.proofs.laws.Recorded.{accepted_recorded}
use Rattle.meaning.proofs.laws.Pick.{map-map}
use Rattle.meaning.proofs.laws.Listed.{all_settled, event-code, additions_code}
use Rattle.differences.specs.inner.Times.{Times}
use Rattle.differences.proofs.laws.Times.{picked-times}
use Rattle.meaning.specs.inner.Coded.{coded}
use Rattle.leaves.specs.inner.Indices.{most_events, index_of, Early, Shifted, Indexed}

-- ---- from times to indices

-- the first k are shifted
pub record Shifting (old : List ℕ) (k : ℕ) (new : List ℕ) : Type 0 where
  pub long : length new ≡ length old
  pub shifted : (j : ℕ) → j < k → slice_index new j ≡ index_of (slice_index old j)
  pub rest : (j : ℕ) → k ≤ j → slice_index new j ≡ slice_index old j

pub shifting_start : (old : List ℕ) → Shifting old 0 old
shifting_start old = record { long = refl; shifted = λ j h. absurd (not-suc-le-zero h); rest = λ j h. refl }

pub shifting_turn : (old : List ℕ) (k : ℕ) (new : List ℕ) → k < length old → Shifting old k new → Shifting old (k + 1) (list.set new k (index_of (slice_index new k)))
shifting_turn old k new h t = record {
  long = length-set new k (index_of (slice_index new k)) ∙ t.long;
  shifted = λ j g. ⊎_elim
      (λ l. get_or-set_other new k j (index_of (slice_index new k)) 0 (λ e. omega arith) ∙ t.shifted j l)
      (λ l. let e : j ≡ k = omega arith in
      ap (λ (i : ℕ). slice_index (list.set new k (index_of (slice_index new k))) i) e ∙ get_or-set_same new k (index_of (slice_index new k)) 0 (omega (arith, t.long))
      ∙ ap index_of (t.rest k (omega arith) ∙ ap (λ (i : ℕ). slice_index old i) (sym e)))
      (less_or_not j k);
  rest = λ j g. get_or-set_other new k j (index_of (slice_index new k)) 0 (λ e. omega arith) ∙ t.rest j (omega arith);
}

map_at : (f : ℕ → ℕ) (l : List ℕ) (k : ℕ) → k < length l → slice_index (map f l) k ≡ f (slice_index l k)
map_at f [] k h = absurd (not-suc-le-zero h)
map_at f (x ∷ l) zero h = refl
map_at f (x ∷ l) (suc k) h = map_at f l k (le_of_suc-le-suc h)

-- as many are found as there are times
pub scan_count : (raw found old new : List ℕ) (count : ℕ) → found ≡ map index_of raw → Scanned raw old count new → count ≡ length found
scan_count raw found old new count is s = s.counted ∙ sym (ap length is ∙ length-map raw index_of)

-- a scan for the times `raw`, whose indices are `found`
module _ (raw found old new : List ℕ) (count : ℕ) (is : found ≡ map index_of raw) (s : Scanned raw old count new) (fits : length found ≤ length old) where
  room : length raw ≤ length old
  room = let e = ap length is ∙ length-map raw index_of in omega arith

  pub scan_long : length new ≡ length old
  scan_long =
      ap length (s.held ∙ ap (λ (l : List ℕ). l ++ drop (length raw) old) (take_all (length old) raw room))
      ∙ length-append raw (drop (length raw) old) ∙ (let d = length-drop (length raw) old in omega (arith, room))

  pub scan_there : count ≤ length new
  scan_there = omega (arith, s.counted, room, scan_long)

  pub scan_early : Times found → Early count new
  scan_early t k h =
      let l : k < length raw = omega (arith, s.counted) in
      let e = scanned_at raw old new count k s l (omega (arith, room)) in
      let m = ap (λ (l : List ℕ). slice_index l k) is ∙ map_at index_of raw k l in
      let n = ap length is ∙ length-map raw index_of in
      omega (arith, t.most k (omega arith))

  pub scan_indexed : (final : List ℕ) → Shifted count new final → Indexed found count final
  scan_indexed final t = record {
    room = there;
    indices = ext_get_or 0 (take count final) (map index_of raw) (length-take-le count final there ∙ s.counted ∙ sym (length-map raw index_of)) each ∙ sym is;
  }
    where
      there : count ≤ length final
      there = omega (arith, scan_there, t.long)

      each : (k : ℕ) → k < length (take count final) → slice_index (take count final) k ≡ slice_index (map index_of raw) k
      each k h =
          let i : k < count = omega (arith, length-take-le count final there) in
          let l : k < length raw = omega (arith, s.counted) in
          get_or-take count final k 0 i ∙ t.shifted k i ∙ ap index_of (scanned_at raw old new count k s l (omega (arith, room))) ∙ sym (map_at index_of raw k l)

-- ---- events

module _ (rec : List ℕ) (a : Accepted rec) where
  few : length (readings rec) ≤ most_records
  few = omega (arith, length-readings rec, (accepted_sound rec a).few)

  pub event_indices : (e : Event) → coded_times e (coded rec) ≡ map index_of (raw.event_times e (readings rec))
  unfolding raw.event_times
  event_indices e =
      event-code e (readings rec) (all_settled (readings rec) (accepted_recorded rec a).in-range)
      ∙ sym (map-map raw.recorded_time index_of (pick (event e) (readings rec)))

  pub event-times : (e : Event) → Times (coded_times e (coded rec))
  event-times e = picked-times (readings rec) (accepted_recorded rec a) (turn (coded_from e) (coded_to e))

  pub events_few : (e : Event) → length (coded_times e (coded rec)) ≤ most_events
  events_few e =
      let s = ap length (event_indices e) ∙ length-map (raw.event_times e (readings rec)) index_of in
      omega (arith, events_half e (readings rec), few)

  -- ---- additions

  pub addition_indices : (k : ℕ) → coded_additions k (coded rec) ≡ map index_of (raw.addition_times k (readings rec))
  unfolding raw.addition_times
  addition_indices k =
      additions_code k (readings rec) (all_settled (readings rec) (accepted_recorded rec a).in-range)
      ∙ sym (map-map raw.recorded_time index_of (pick (added k) (readings rec)))

  pub addition-times : (k : ℕ) → Times (coded_additions k (coded rec))
  addition-times k = picked-times (readings rec) (accepted_recorded rec a) (λ before x after. coded_adds k x)

  pub additions_room : (k : ℕ) → length (coded_additions k (coded rec)) ≤ most_records
  additions_room k =
      let s = ap length (addition_indices k) ∙ length-map (raw.addition_times k (readings rec)) index_of in
      omega (arith, additions_few k (readings rec), few)
