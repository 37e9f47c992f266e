-- A SUMMARY lists what opening each recording lists.
use Rattle.std.specs.Prelude.{ℕ, zero, suc, ◌+◌, ◌*◌, ◌-◌, ◌<◌, ◌≡◌, refl, Bool, List, [], ◌∷◌, ◌++◌, map, ℤ, length, drop, get_or, take}
use Rattle.std.proofs.Common.{arith, sym, ap, ap₂, subst, ◌∙◌, length-append, take_at}
use Rattle.number.specs.Words.{words_bytes}
use Rattle.refusal.specs.Outcome.{Outcome, result, refused, NoneMeets}
use Rattle.recording.specs.Reading.{Reading, A, curve_of}
use Rattle.recording.specs.Recording.{readings, recording_lines}
use Rattle.recording.proofs.laws.Outcome.{no_result, result_none, none_append}
use Rattle.degree.specs.inner.Reach.{mapped}
use Rattle.thin.specs.Selection.{Selection}
use Rattle.thin.proofs.laws.Selection.{selection_readings}
use Rattle.entry.specs.Entry.{TrueEntry}
use Rattle.entry.specs.inner.Reckoned.{reckoned}
use Rattle.entry.specs.Call.{entry_lines, entry_of}
use Rattle.entry.proofs.laws.Entry.{reckoned_true}
use Rattle.entry.proofs.laws.Selected.{selected_entry}
use Rattle.kept.specs.Selection.{select}
use Rattle.listing.specs.Listing.{entry_at, listing}
use Rattle.listing.specs.Call.{bad_summary, level_lines, find_of}
use Rattle.listing.specs.Opened.{Exactly, Reaches, TrueSummary}
use Rattle.listing.proofs.laws.Opened.{listing-opened}
use Rattle.promises.specs.Page.{entry, find, Place, put, unchanged, Effect, writing, Right}
use Rattle.promises.specs.KeptAsFull.{AcceptedRecording}
use Rattle.promises.specs.Summary.{Summary, no_entry, entry_then, Summaries}
use Rattle.std.proofs.Math.Seq.{drop-append-add}
use Rattle.number.specs.Words.{words_bytes}
use Rattle.refusal.specs.Outcome.{Outcome, result}
use Rattle.recording.specs.Reading.{Reading, curve_of}
use Rattle.recording.specs.Recording.{readings, recording_lines}
use Rattle.recording.proofs.laws.Outcome.{result_none, none_append}
use Rattle.kept.specs.Selection.{select}
use Rattle.thin.proofs.laws.Selection.{selection_readings}
use Rattle.entry.specs.Entry.{entry_bytes, TrueEntry}
use Rattle.entry.specs.inner.Reckoned.{reckoned}
use Rattle.entry.specs.Call.{entry_lines, entry_of}
use Rattle.entry.proofs.laws.Entry.{reckoned_true}
use Rattle.entry.proofs.laws.Selected.{selected_entry}
use Rattle.listing.specs.Listing.{entry_at, listing}
use Rattle.listing.specs.Call.{bad_summary, level_lines, find_of}
use Rattle.listing.specs.Opened.{Exactly, Reaches, TrueSummary}
use Rattle.listing.proofs.laws.Opened.{listing-opened}
use Rattle.promises.proofs.laws.StandIn.{some_readings}
use Rattle.promises.proofs.laws.Acceptance.{accepted-lines}
use Rattle.promises.proofs.laws.Page.{is_computed}

-- a selection that has a record is of a recording that has one
pub selected_some : (mask : List Bool) (r : List Reading) → 0 < length (select mask r) → 0 < length r
selected_some mask [] h = h
selected_some mask (x ∷ r) h = omega arith

-- the entries of a summary, one behind the other
module _ (e rest : List ℕ) (size : length e ≡ entry_bytes) where
  pub entry-front : entry_at (e ++ rest) 0 ≡ e
  entry-front = take_at e rest entry_bytes size

  pub entry_behind : (i : ℕ) → entry_at (e ++ rest) (suc i) ≡ entry_at rest i
  entry_behind i =
      let k : suc i * entry_bytes ≡ length e + i * entry_bytes = omega arith in
      ap (λ (n : ℕ). take entry_bytes (drop n (e ++ rest))) k ∙ ap (take entry_bytes) (drop-append-add e rest (i * entry_bytes))

put_one : (a b : List ℕ) → map put a ≡ map put b → a ≡ b
put_one [] [] e = refl
put_one [] (y ∷ b) e = absurd (no_place y b e)
  where
    no_place : (y : ℕ) (b : List ℕ) → [] ≡ map put (y ∷ b) → ⊥
    no_place y b e = let z = ap (length {A = Place}) e in omega arith
put_one (x ∷ a) [] e = absurd (no_place x a e)
  where
    no_place : (x : ℕ) (a : List ℕ) → map put (x ∷ a) ≡ [] → ⊥
    no_place x a e = let z = ap (length {A = Place}) e in omega arith
put_one (x ∷ a) (y ∷ b) e = ap₂ (λ (z : ℕ) (zs : List ℕ). z ∷ zs) (ap (head_or 0) e) (put_one a b (ap (drop {A = Place} 1) e))
  where
    head_or : ℕ → List Place → ℕ
    head_or d [] = d
    head_or d (put n ∷ ps) = n
    head_or d (unchanged ∷ ps) = d

bytes_one : (a b : List ℕ) → result (writing a) ≡ result (writing b) → a ≡ b
bytes_one a b e = put_one a b (ap places_of e)
  where
    places_of : Outcome Effect → List Place
    places_of (result x) = x.places
    places_of (refused n p) = []

-- what is right of a call that writes writing is what it computes
pub written_is : (o : Outcome (List ℕ)) (b : List ℕ) → result (writing b) ≡ mapped writing o → o ≡ result b
written_is (result x) b e = ap result (sym (bytes_one b x e))
written_is (refused n p) b e = no_result n p (writing b) (sym e)

-- from whichever selection it was made, it is the entry of the recording
made-entry : (ks recording held : List ℕ) (room : ℕ) (b : List ℕ) → AcceptedRecording recording → Selection ks recording held → Right entry held room (result (writing b)) → TrueEntry (readings recording) b
unfolding entry_of
made-entry ks recording held room b a s r =
    let sel : readings held ≡ select s.mask (readings recording) = selection_readings ks recording held s in
    let k = result_none (recording_lines held ++ entry_lines held room) (reckoned (readings held)) b (written_is (entry_of held room) b (is_computed r)) in
    let n = none_append (recording_lines held) (entry_lines held room) k.0 in
    let is : reckoned (readings recording) ≡ b = sym (ap reckoned sel ∙ selected_entry ks (readings recording) s.mask s.includes) ∙ k.1 in
    subst (TrueEntry (readings recording)) is
    (reckoned_true recording (accepted-lines recording a) (selected_some s.mask (readings recording) (subst (λ (r : List Reading). 0 < length r) sel (some_readings held n.1.0))))

true_summary : {recordings : List (List ℕ)} {summary : List ℕ} → Summary recordings summary → TrueSummary recordings summary
true_summary no_entry = record { size = refl; entries = λ i h. absurd (omega arith) }
true_summary (entry_then {recording = recording} {recordings = recordings} {rest = rest} ks held b room a s r more) =
    let t = made-entry ks recording held room b a s r in
    let m = true_summary more in
    record { size = length-append b rest ∙ omega (arith, t.size, m.size); entries = each t m.entries }
  where
    each : TrueEntry (readings recording) b → ((i : ℕ) → i < length recordings → TrueEntry (readings (get_or recordings i [])) (entry_at rest i))
        → (i : ℕ) → i < suc (length recordings) → TrueEntry (readings (get_or (recording ∷ recordings) i [])) (entry_at (b ++ rest) i)
    each t more zero h = subst (TrueEntry (readings recording)) (sym (entry-front b rest t.size)) t
    each t more (suc i) h = subst (TrueEntry (readings (get_or recordings i []))) (sym (entry_behind b rest t.size i)) (more i (omega arith))

opened_list : {recordings : List (List ℕ)} {summary : List ℕ} → Summary recordings summary → {curve : ℕ} {level : ℤ} {room : ℕ} {a : Effect} → Right (find curve level) summary room (result a)
    → (ns : List ℕ) × Exactly (Reaches (curve_of curve) level recordings) (length recordings) ns × (a ≡ writing (words_bytes ns))
unfolding find_of
opened_list {recordings} {summary} s {curve} {level} {room} {a} r =
    let m = listing-opened (curve_of curve) level recordings summary (true_summary s) in
    (m.0, m.2, by (find_of summary curve level room) (result_none (bad_summary summary ∷ level_lines summary curve level room) (listing (curve_of curve) level summary)) (is_computed r) m.0 m.1)
  where
    same : (x y : Effect) → result x ≡ result y → x ≡ y
    same x y e = cc

    by : (o : Outcome (List ℕ)) → ((b : List ℕ) → o ≡ result b → NoneMeets (bad_summary summary ∷ level_lines summary curve level room) × (listing (curve_of curve) level summary ≡ b)) → result a ≡ mapped writing o
        → (ns : List ℕ) → listing (curve_of curve) level summary ≡ words_bytes ns → a ≡ writing (words_bytes ns)
    by (result b) k e ns q = same a (writing b) e ∙ ap writing (sym (k b refl).1 ∙ q)
    by (refused n p) k e ns q = no_result n p a (sym e)

pub summaries : Summaries
summaries = record { opened = opened_list }
