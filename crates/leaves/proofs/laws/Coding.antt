-- The fields of a coded record, from the bytes of an accepted recording.
use Rattle.std.specs.Prelude.{◌≡◌, ℕ, zero, suc, ◌+◌, ◌-◌, ◌*◌, ◌/◌, ◌%◌, ◌<◌, ◌≤◌, min, List, [], length, get_or, ℤ, nat_le, slice_index, slice_index_or}
use Rattle.std.proofs.Common.{arith, not-suc-le-zero, le_of_suc-le-suc, ap, ◌∙◌, ⊎_elim, lt-ltb, le-ltb, leb-true}
use Rattle.std.proofs.Math.Path.{refl, sym, subst}
use Rattle.std.proofs.Math.Bool.{So}
use Rattle.std.proofs.lemmas.List.{length-map}
use Rattle.std.proofs.Math.ListN.{get_or-map}
use Rattle.number.specs.Axis.{origin}
use Rattle.number.specs.Words.{word, signed, offset_binary}
use Rattle.number.proofs.laws.Order.{less_or_not}
use Rattle.number.proofs.laws.Boolean.{and_left, and_right}
use Rattle.recording.specs.Reading.{Reading, Curve, value, nothing, curve_of}
use Rattle.recording.specs.Recording.{Raw, records, raw_at, reading, readings, in_range, latest, Accepted}
use Rattle.recording.proofs.laws.Record.{get_d_chunks, length-readings}
use Rattle.recording.proofs.laws.Value.{in_range-offset_binary}
use Rattle.meaning.proofs.laws.Recorded.{accepted_recorded}
use Rattle.meaning.specs.inner.Coded.{Coded, code, index, blank, coded_value, coded_slope}
use Rattle.meaning.proofs.laws.Whole.{coded-value}
use Rattle.meaning.specs.inner.Truth.{coded_at}
use Rattle.meaning.specs.inner.Coded.{coded}

-- ---- records by index

pub length-coded : (rec : List ℕ) → length (coded rec) ≡ length rec / 16
length-coded rec = length-map (readings rec) code ∙ length-readings rec

-- one of the records is the one that a text is judged at
pub at_index : (r : List Coded) (i : ℕ) → i < length r → coded_at r i ≡ slice_index_or r i blank
at_index r i h = let e : min i (length r - 1) ≡ i = omega arith in ap (λ (j : ℕ). get_or r j blank) e

reading-at : (rec : List ℕ) (i : ℕ) → i < length (readings rec) → slice_index_or (readings rec) i nothing ≡ reading (raw_at rec i)
unfolding reading signed offset_binary
reading-at rec i h =
    get_or-map reading (records rec) i [] ∙ ap reading (get_d_chunks (length rec / 16) rec i (omega (arith, length-readings rec)))

pub coded-at : (rec : List ℕ) (i : ℕ) → i < length (coded rec) → coded_at (coded rec) i ≡ code (reading (raw_at rec i))
coded-at rec i h =
    at_index (coded rec) i h ∙ get_or-map code (readings rec) i nothing
    ∙ ap code (reading-at rec i (omega (arith, length-map (readings rec) code)))

-- ---- the index of a signed number of 32 bits

offset_binary_range : (u : ℕ) → So (in_range (signed u)) → (1147483648 ≤ offset_binary u) × (offset_binary u ≤ 3147483648)
offset_binary_range u h =
    let e = sym (in_range-offset_binary u) ∙ h in (
      leb-true 1147483648 (offset_binary u) (and_left (nat_le 1147483648 (offset_binary u)) (nat_le (offset_binary u) 3147483648) e),
      leb-true (offset_binary u) 3147483648 (and_right (nat_le 1147483648 (offset_binary u)) (nat_le (offset_binary u) 3147483648) e),
    )

pub index_word : (u : ℕ) → So (in_range (signed u)) → (u + origin) % 4294967296 ≡ index (signed u)
unfolding signed offset_binary
index_word u h =
    let g = offset_binary_range u h in
    ⊎_elim (λ l. rw (lt-ltb ((u + 2147483648) % 4294967296) 2147483648 l) (omega (arith, g.0, g.1)))
    (λ l. rw (le-ltb ((u + 2147483648) % 4294967296) 2147483648 l) (omega (arith, g.0, g.1)))
    (less_or_not ((u + 2147483648) % 4294967296) 2147483648)

-- the index of a value
abbrev pub ValueIndex : ℕ → Type 0
ValueIndex n = (1000000000 ≤ n) × (n ≤ 3000000000)

pub index_range : (u : ℕ) → So (in_range (signed u)) → ValueIndex (index (signed u))
unfolding offset_binary
index_range u h = let g = offset_binary_range u h in let e = index_word u h in (omega (arith, g.0, g.1), omega (arith, g.0, g.1))

-- ---- the fields

module _ (rec : List ℕ) (a : Accepted rec) (i : ℕ) (h : i < length (coded rec)) where
  inside : i < length (readings rec)
  inside = omega (arith, length-map (readings rec) code)

  pub record_inside : i * 16 + 16 ≤ length rec
  record_inside = omega (arith, length-coded rec)

  in-range : (c : Curve) → So (in_range (value c (reading (raw_at rec i))))
  in-range c = subst (λ (x : Reading). So (in_range (value c x))) (reading-at rec i inside) ((accepted_recorded rec a).in-range i inside c)

  value_of : (curve : ℕ) → curve < 2 → (x : Raw) → value (curve_of curve) (reading x) ≡ signed (word x (4 + 4 * curve))
  unfolding reading
  value_of zero l x = refl
  value_of (suc zero) l x = refl
  value_of (suc (suc n)) l x = absurd (not-suc-le-zero (le_of_suc-le-suc (le_of_suc-le-suc l)))

  module _ (curve : ℕ) (l : curve < 2) where
    so_value : So (in_range (signed (word (raw_at rec i) (4 + 4 * curve))))
    so_value = subst (λ (z : ℤ). So (in_range z)) (value_of curve l (raw_at rec i)) (in-range (curve_of curve))

    field-index : coded_value (curve_of curve) (coded_at (coded rec) i) ≡ index (signed (word (raw_at rec i) (4 + 4 * curve)))
    field-index =
        ap (coded_value (curve_of curve)) (coded-at rec i h) ∙ coded-value (curve_of curve) (reading (raw_at rec i)) ∙ ap index (value_of curve l (raw_at rec i))

    pub value-field : (word (raw_at rec i) (4 + 4 * curve) + origin) % 4294967296 ≡ coded_value (curve_of curve) (coded_at (coded rec) i)
    value-field = index_word (word (raw_at rec i) (4 + 4 * curve)) so_value ∙ sym field-index

    pub value_range : ValueIndex (coded_value (curve_of curve) (coded_at (coded rec) i))
    value_range = subst ValueIndex (sym field-index) (index_range (word (raw_at rec i) (4 + 4 * curve)) so_value)

    slope-of : (x : Raw) → coded_slope (curve_of curve) (code (reading x)) ≡ slice_index x (12 + curve)
    unfolding reading
    slope-of x = go curve l
      where
        go : (curve : ℕ) → curve < 2 → coded_slope (curve_of curve) (code (reading x)) ≡ slice_index x (12 + curve)
        go zero l = refl
        go (suc zero) l = refl
        go (suc (suc n)) l = absurd (not-suc-le-zero (le_of_suc-le-suc (le_of_suc-le-suc l)))

    pub slope-field : get_or (raw_at rec i) (12 + curve) 0 ≡ coded_slope (curve_of curve) (coded_at (coded rec) i)
    slope-field = sym (ap (coded_slope (curve_of curve)) (coded-at rec i h) ∙ slope-of (raw_at rec i))

  pub time-field : word (raw_at rec i) 0 + origin ≡ (coded_at (coded rec) i).time
  unfolding reading
  time-field = sym (ap (λ (x : Coded). x.time) (coded-at rec i h))

  pub time_most : word (raw_at rec i) 0 ≤ latest
  unfolding reading
  time_most = subst (λ (x : Reading). x.time ≤ latest) (reading-at rec i inside) ((accepted_recorded rec a).in_time i inside)
