-- The pieces that a list of thinning calls took, joined, keep to the rules of a record, however many records they are: each is taken behind the kept
-- readings, among which the last is.
use Rattle.std.specs.Prelude.{ℕ, suc, ◌%◌, ◌≡◌, refl, Bool, true, false, List, [], ◌∷◌, ◌++◌, map, length}
use Rattle.std.proofs.Common.{sym, ap, subst, ◌∙◌}
use Rattle.std.proofs.lemmas.Bool.{false≢true}
use Rattle.number.specs.Words.{word}
use Rattle.refusal.specs.Outcome.{Outcome, result, refused}
use Rattle.recording.specs.Reading.{Reading}
use Rattle.recording.specs.Recording.{Raw, records, reading, readings, Accepted}
use Rattle.recording.proofs.laws.Acceptance.{Good, next, good_join, good_lawful, accepted_sound}
use Rattle.recording.proofs.laws.Record.{records-append}
use Rattle.meaning.specs.inner.Recorded.{Recorded}
use Rattle.meaning.proofs.laws.Recorded.{lawful-recorded}
use Rattle.kept.specs.Kept.{kept_for}
use Rattle.kept.specs.Selection.{flags_from, select, Includes}
use Rattle.thin.specs.Thin.{kept_bytes}
use Rattle.thin.specs.Model.{Call, model_step, join_next, join_after}
use Rattle.thin.proofs.laws.Model.{kept_whole, taken, whole-next}
use Rattle.thin.proofs.laws.Selection.{kept_selection, selection_records}

good_back : (xs ys : List Raw) (from : ℕ) → Good from (xs ++ ys) → Good (next from xs) ys
good_back [] ys from g = g
good_back (x ∷ xs) ys from g = good_back xs ys (suc (word x 0)) g.2

-- the least time that may follow is that behind the last record, which is selected
next-select : (ks : List ℕ) (b : List Reading) (r : List Raw) (mask : List Bool) (from : ℕ) → Includes mask (flags_from (kept_for ks) b (map reading r))
    → next from (select mask r) ≡ next from r
next-select ks b [] mask from w = refl
next-select ks b (x ∷ r) [] from w = absurd w
next-select ks b (x ∷ r) (true ∷ mask) from w = next-select ks (reading x ∷ b) r mask (suc (word x 0)) w.1
next-select ks [] (x ∷ []) (false ∷ mask) from w = absurd (false≢true (w.0 refl))
next-select ks (y ∷ b) (x ∷ []) (false ∷ mask) from w = absurd (false≢true (w.0 refl))
next-select ks b (x ∷ (y ∷ r)) (false ∷ mask) from w = next-select ks (reading x ∷ b) (y ∷ r) mask from w.1

-- a piece behind the kept readings goes behind the join
pub good_joined : (ks join piece : List ℕ) → length join % 16 ≡ 0 → Good 0 (records join) → Accepted (kept_bytes ks join ++ piece) → Good 0 (records (join ++ piece))
good_joined ks join piece h g a =
    let kept : List ℕ = kept_bytes ks join in
    let s = kept_selection ks join in
    let k : Good 0 (records kept ++ records piece) = subst (Good 0) (records-append kept piece (kept_whole ks join)) (accepted_sound (kept ++ piece) a).good in
    let e : next 0 (records kept) ≡ next 0 (records join) = ap (next 0) (selection_records ks join kept s) ∙ next-select ks [] (records join) s.mask 0 s.includes in
    subst (Good 0) (sym (records-append join piece h))
    (good_join (records join) (records piece) 0 g (subst (λ (n : ℕ). Good n (records piece)) e (good_back (records kept) (records piece) 0 k)))

-- so its readings are in range, and their times increase
pub good_recorded : (join : List ℕ) → Good 0 (records join) → Recorded (readings join)
good_recorded join g = lawful-recorded join (good_lawful (records join) 0 g)
