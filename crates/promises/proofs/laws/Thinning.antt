-- A LIST OF THINNING CALLS answers as the book of 01 does.
use Rattle.std.specs.Prelude.{ℕ, ◌%◌, ◌≤◌, ◌<◌, ◌≡◌, refl, Bool, true, false, cond, eqb, ltb, length, take, drop, ◌↔◌}
use Rattle.std.proofs.Common.{arith, sym, ap, ap₂, ◌∙◌, ⊎_elim, length-append, eq-eqb, ne_eqb, le-ltb}
use Rattle.std.proofs.Math.Path.{subst}
use mathlib.Core.List.Memᴰ
use mathlib.Core.List.{List, [], ◌∷◌, ◌++◌, map, Memᴰ}
use Rattle.refusal.specs.Outcome.{Outcome, result, refused}
use Rattle.recording.proofs.laws.Acceptance.{Sound, accepted_sound, sound_accepted}
use Rattle.marks.specs.Marks.{marks_of, marks_line, AcceptedMarks}
use Rattle.thin.specs.Thin.{kept_bytes, thin_of}
use Rattle.thin.specs.Model.{Call, model_step}
use Rattle.thin.proofs.laws.Model as model
use Rattle.thin.proofs.laws.Model.{same_outcome, whole-next, kept_none, kept_whole, kept_join, thinned_accepted}
use Rattle.thin.specs.Selection.{Selection}
use Rattle.thin.proofs.laws.Selection.{kept_selection, selection_accepted, selection_behind}
use Rattle.thin.specs.Cut.{whole_from}
use Rattle.thin.proofs.laws.Cut.{sound_whole_front}
use Rattle.degree.specs.inner.Reach.{mapped}
use Rattle.reply.specs.Reply.{number_in, low_in}
use Rattle.recording.specs.Recording.{readings, recording_lines, no_record, Accepted}
use Rattle.recording.specs.Output.{output_line}
use Rattle.recording.proofs.laws.Outcome.{result_none, none_append}
use Rattle.runs.specs.Runs.{set_bytes}
use Rattle.text.specs.Told.{text_lines}
use Rattle.meaning.specs.Meaning.{Holds}
use Rattle.question.specs.Question.{read, answer, asking_lines, set_lines, question_of}
use Rattle.question.proofs.laws.Lines.{read_reads}
use Rattle.std.proofs.Math.Bool.{So}
use Rattle.number.proofs.laws.Boolean.{then}
use Rattle.refusal.specs.Outcome.{Line}
use Rattle.recording.specs.Recording.{records, first_bad}
use Rattle.number.specs.Least.{least}
use Rattle.recording.proofs.laws.Outcome.{judged_none, append_none, judged_pass}
use Rattle.thin.proofs.laws.Cut.{sound_thinned}
use Rattle.thin.proofs.laws.Selection.{selection_thinned, selection_whole, selection_kept}
use Rattle.entry.specs.Entry.{entry_bytes}
use Rattle.entry.specs.Call.{entry_lines, entry_of}
use Rattle.entry.specs.inner.Reckoned.{reckoned}
use Rattle.entry.proofs.laws.Reckoned.{length-reckoned}
use Rattle.promises.specs.Conditions.{TableLine, ◌upon◌, recording_table, MarksOff, NoneMet}
use Rattle.promises.specs.KeptAsFull.{Askable}
use Rattle.promises.specs.inner.StandIn.{StandIn}
use Rattle.promises.proofs.laws.MaximalRuns.{runs, runs_maximal, runs_written}
use Rattle.promises.proofs.laws.StandIn.{selection_stands, stand_same, same_no_record, some_readings}
use Rattle.promises.proofs.laws.Conditions.{AsTable, judged-told, agrees, ◌⊳◌, done, so_eq, so_lt, agree_recording, first-met}
use Rattle.promises.proofs.laws.Rows.{off_marks, InPlace, answer_is, agree_asked, agree_thin}
use Rattle.promises.proofs.laws.Acceptance.{accepted-lines}
use Rattle.promises.proofs.laws.KeptAsFull.{assured_text}
use Rattle.promises.proofs.laws.Assured.{assured_place}
use Rattle.promises.proofs.laws.Joined.{good_joined, good_recorded}
use Rattle.recording.proofs.laws.Acceptance.{Good}
use Rattle.promises.proofs.laws.Computed.{reckoned_answers}
use Rattle.promises.proofs.laws.Page.{is_computed, same_refusal, at_0, first_broken}
use Rattle.promises.specs.Page.{thin, question, entry, put, Effect, writing, Leaves, is_put, Returns, refusals, IsAnswer, the_set, Right, Complete}
use Rattle.promises.specs.InTurn.{Exchange, InTurn, no_call, and_then, ByHistory, told_none, told_then}
use Rattle.promises.specs.Thinning.{held_after, Thinned, PutBack, none_back, back_then, book_table, Book, taken, book_refuses, AsTheBook, Cut, uncut, piece_then, CutWhole, RightBeyond, answers, refuses, Thinning}

-- ---- thinning, with room

-- with room, thinning gives the kept readings
thinned-whole : (marks : List ℕ) → AcceptedMarks marks → (recording : List ℕ) → Accepted recording → (room : ℕ) → length (kept_bytes (marks_of marks) recording) ≤ room
    → thin_of recording marks room ≡ result (kept_bytes (marks_of marks) recording)
unfolding thin_of
thinned-whole marks fine recording a room h =
    let kept : List ℕ = kept_bytes (marks_of marks) recording in
    judged_none (recording_lines recording ++ marks_line marks ∷ output_line room kept ∷ []) kept
    (append_none (recording_lines recording) (marks_line marks ∷ output_line room kept ∷ []) a (fine.0, (le-ltb room (length kept) h, tt)))

thinned_on : (marks join piece : List ℕ) → AcceptedMarks marks → length join % 16 ≡ 0 → (room : ℕ) → Accepted (join ++ piece)
    → length (kept_bytes (marks_of marks) (join ++ piece)) ≤ room
    → thin_of (kept_bytes (marks_of marks) join ++ piece) marks room ≡ result (kept_bytes (marks_of marks) (join ++ piece))
unfolding thin_of
thinned_on marks join piece fine whole room a long =
    let ks : List ℕ = marks_of marks in
    let bytes : List ℕ = kept_bytes ks join ++ piece in
    let e : kept_bytes ks bytes ≡ kept_bytes ks (join ++ piece) = kept_join ks join piece whole in
    let l = ap length e in
    judged_none (recording_lines bytes ++ marks_line marks ∷ output_line room (kept_bytes ks bytes) ∷ []) (kept_bytes ks bytes)
    (append_none (recording_lines bytes) (marks_line marks ∷ output_line room (kept_bytes ks bytes) ∷ [])
    (sound_accepted bytes (sound_thinned ks join piece whole (accepted_sound (join ++ piece) a))) (fine.0, (le-ltb room (length (kept_bytes ks bytes)) (omega arith), tt)))
    ∙ ap result e

-- ---- one call

pub accepted_marks : (marks : List ℕ) → ¬ MarksOff marks → AcceptedMarks marks
accepted_marks marks h = go (marks_line marks).meets refl
  where
    go : (b : Bool) → (marks_line marks).meets ≡ b → AcceptedMarks marks
    go true e = absurd (h ((off_marks marks).0 e))
    go false e = (e, tt)

book_told : (ks join : List ℕ) (c : Call) → AsTable (book_table ks join c.piece (length c.output)) (model_step ks join c)
unfolding model_step
book_told ks join c =
    judged-told (agree_recording (kept_bytes ks join ++ c.piece) (λ a. agrees 10 refl (so_lt (length c.output) (length (kept_bytes ks (join ++ c.piece)))) ⊳ done)) _

leaves_front : (b : List ℕ) {old new : List ℕ} → Leaves (map put b) old new → take (length b) new ≡ b
leaves_front [] l = refl
leaves_front (x ∷ b) (is_put l) = ap (λ (s : List ℕ). x ∷ s) (leaves_front b l)

-- what is held on after a call that wrote bytes, and after one that is refused
module _ (held : List ℕ) (x : Exchange (List ℕ)) where
  held_bytes : (b : List ℕ) → Returns (result (writing b)) x.before x.returned x.after → held_after held x ≡ b
  held_bytes b t =
      ap (λ (z : Bool). cond z (take (low_in x.returned) x.after) held) (eq-eqb (number_in x.returned) 0 t.0)
      ∙ ap (λ (n : ℕ). take n x.after) t.1 ∙ leaves_front b t.2

  held_stays : (n p : ℕ) → 0 < n → Returns (refused n p) x.before x.returned x.after → held_after held x ≡ held
  held_stays n p k t =
      let e = t.0 in
      ap (λ (z : Bool). cond z (take (low_in x.returned) x.after) held) (ne_eqb (number_in x.returned) 0 (λ z. omega arith))

record Stepped (ks join : List ℕ) (x : Exchange (List ℕ)) (held' : List ℕ) : Type 0 where
  pub outcome : Outcome Effect
  pub join' : List ℕ
  pub book : Book ks join x.call (length x.before) outcome join'
  pub returns : Returns outcome x.before x.returned x.after
  pub whole : length join' % 16 ≡ 0
  pub holds : held' ≡ kept_bytes ks join'

abbrev as_call : Exchange (List ℕ) → Call
as_call x = record { piece = x.call; output = x.before }

module _ (marks : List ℕ) (fine : AcceptedMarks marks) where
  abbrev ks : List ℕ
  ks = marks_of marks

  -- the outcome, of the kept readings of the join with the piece behind them
  outcome_is : (join held : List ℕ) (x : Exchange (List ℕ)) (held' : List ℕ) → held ≡ kept_bytes ks join → (t : Thinned marks held x held')
      → t.made.outcome ≡ mapped writing (thin_of (kept_bytes ks join ++ x.call) marks (length x.before))
  outcome_is join held x held' e t =
      is_computed t.made.right ∙ ap (λ (h : List ℕ). mapped writing (thin_of (h ++ x.call) marks (length x.before))) e

  stepped : (join held : List ℕ) (x : Exchange (List ℕ)) (held' : List ℕ) → length join % 16 ≡ 0 → held ≡ kept_bytes ks join → Thinned marks held x held' → Stepped ks join x held'
  stepped join held x held' w e t =
      go (model_step ks join (as_call x)) refl (book_told ks join (as_call x))
      (subst (λ (o : Outcome Effect). Returns o x.before x.returned x.after) (outcome_is join held x held' e t ∙ ap (mapped writing) (same_outcome marks fine join (as_call x) w)) t.made.returns)
    where
      go : (o : Outcome (List ℕ)) → model_step ks join (as_call x) ≡ o → AsTable (book_table ks join x.call (length x.before)) o → Returns (mapped writing o) x.before x.returned x.after
          → Stepped ks join x held'
      go (result b) m a k =
          let same : b ≡ kept_bytes ks (join ++ x.call) = sym (model.taken ks join (as_call x) b m).written in
          record {
            outcome = result (writing (kept_bytes ks (join ++ x.call)));
            join' = join ++ x.call;
            book = taken a;
            returns = subst (λ (b : List ℕ). Returns (result (writing b)) x.before x.returned x.after) same k;
            whole = whole-next ks join (as_call x) w (result b) m;
            holds = t.holds ∙ held_bytes held x b k ∙ same;
          }
      go (refused n p) m a k =
          record { outcome = refused n p; join' = join; book = book_refuses a.0; returns = k; whole = w; holds = t.holds ∙ held_stays held x n p a.1.0 k ∙ e }

  in_turn : {held held'' : List ℕ} {xs : List (Exchange (List ℕ))} → InTurn (Thinned marks) held xs held'' → (join : List ℕ) → length join % 16 ≡ 0 → held ≡ kept_bytes ks join
      → (join'' : List ℕ) × ByHistory (Book ks) join xs join'' × (held'' ≡ kept_bytes ks join'')
  in_turn no_call join w e = (join, told_none, e)
  in_turn (and_then {b = held} {b' = held'} {x = x} t ts) join w e =
      let s = stepped join held x held' w e t in
      let r = in_turn ts s.join' s.whole s.holds in
      (r.0, told_then s.outcome s.book s.returns r.1, r.2)

  -- ---- a recording that is cut

  cut_whole : {join whole : List ℕ} {xs : List (Exchange (List ℕ))} → Cut ks join xs whole → whole ≡ whole_from join (map as_call xs)
  cut_whole uncut = refl
  cut_whole (piece_then l room c) = cut_whole c

  cut_turn : {join whole held held'' : List ℕ} {xs : List (Exchange (List ℕ))} → Cut ks join xs whole → InTurn (Thinned marks) held xs held'' → length join % 16 ≡ 0 → Sound whole → held ≡ kept_bytes ks join
      → CutWhole marks xs whole held''
  cut_turn uncut no_call w s e = record { none_refused = λ x m. absurd (Memᴰ.not-nil m); whole-kept = e }
  cut_turn {join} {whole} (piece_then {xs = xs} l room c) (and_then {b = held} {b' = held'} {x = x} t ts) w s e =
      let a = length-append join x.call in
      let w' : length (join ++ x.call) % 16 ≡ 0 = omega arith in
      let sound : Sound (join ++ x.call) = sound_whole_front (map as_call xs) (join ++ x.call) w' (subst Sound (cut_whole c) s) in
      let o : t.made.outcome ≡ result (writing (kept_bytes ks (join ++ x.call))) =
      outcome_is join held x held' e t ∙ ap (mapped writing) (thinned_on marks join x.call fine w (length x.before) (sound_accepted (join ++ x.call) sound) room) in
      let k : Returns (result (writing (kept_bytes ks (join ++ x.call)))) x.before x.returned x.after = subst (λ (o : Outcome Effect). Returns o x.before x.returned x.after) o t.made.returns in
      let r = cut_turn c ts w' s (t.holds ∙ held_bytes held x (kept_bytes ks (join ++ x.call)) k) in
      record {
        none_refused = λ y m. ⊎_elim (λ (q : y ≡ x). ap (λ (z : Exchange (List ℕ)). number_in z.returned) q ∙ k.0) (λ i. r.none_refused y i) (Memᴰ.cases_cons m);
        whole-kept = r.whole-kept;
      }

one_book : {ks join piece join' join'' : List ℕ} {room : ℕ} {o o' : Outcome Effect} → Book ks join piece room o join' → Book ks join piece room o' join'' → (o ≡ o') × (join' ≡ join'')
one_book (taken n) (taken n') = (refl, refl)
one_book {ks} {join} {piece} {room = room} (taken n) (book_refuses {n = k} {p = p} f) = absurd (first-met (book_table ks join piece room) k p f n)
one_book {ks} {join} {piece} {room = room} (book_refuses {n = k} {p = p} f) (taken n) = absurd (first-met (book_table ks join piece room) k p f n)
one_book {ks} {join} {piece} {room = room} (book_refuses {n = n} {p = p} f) (book_refuses {n = m} {p = q} h) =
    let e = same_refusal (book_table ks join piece room) (at_0, (at_0, (first_broken (kept_bytes ks join ++ piece), (at_0, tt)))) n p m q f h in
    (ap₂ refused e.0 e.1, refl)

going : (marks : List ℕ) → AcceptedMarks marks → (join held : List ℕ) → length join % 16 ≡ 0 → held ≡ kept_bytes (marks_of marks) join → {xs : List (Exchange (List ℕ))} {held'' : List ℕ}
    → InTurn (Thinned marks) held xs held'' → AsTheBook marks join xs held''
going marks fine join held w e t = let r = in_turn marks fine t join w e in record { joined = r.0; by_the_book = r.1; holds = r.2 }

-- ---- readings put back

-- what a call writes that is handed a selection of the pieces taken so far
pinned_kept : (ks join given piece : List ℕ) → Selection ks join given → length join % 16 ≡ 0 → length (given ++ piece) % 16 ≡ 0
    → (length (join ++ piece) % 16 ≡ 0) × (kept_bytes ks (given ++ piece) ≡ kept_bytes ks (join ++ piece))
pinned_kept ks join given piece s h k =
    let w = selection_whole ks join given s in
    let l = length-append given piece in
    let m = length-append join piece in
    let p : length piece % 16 ≡ 0 = omega arith in
    (omega arith, selection_kept ks (join ++ piece) (given ++ piece) (selection_behind ks join given s piece h p))

thin_told : (g marks : List ℕ) (room : ℕ) → AsTable (refusals (thin marks) g room) (thin_of g marks room)
unfolding thin_of
thin_told g marks room = judged-told (agree_thin g marks room) _

abbrev join_after : (join : List ℕ) → Exchange (List ℕ) → List ℕ
join_after join x = cond (eqb (number_in x.returned) 0) (join ++ x.call) join

record BackStep (ks join held : List ℕ) (x : Exchange (List ℕ)) : Type 0 where
  pub whole : length (join_after join x) % 16 ≡ 0
  pub holds : held_after held x ≡ kept_bytes ks (join_after join x)

back_step : (marks join held given : List ℕ) (x : Exchange (List ℕ)) → Selection (marks_of marks) join given → Complete (thin marks) (given ++ x.call) x.before x.returned x.after
    → length join % 16 ≡ 0 → held ≡ kept_bytes (marks_of marks) join → BackStep (marks_of marks) join held x
back_step marks join held given x s c w e =
    by (thin_of g marks room) refl (thin_told g marks room) (subst (λ (o : Outcome Effect). Returns o x.before x.returned x.after) (is_computed c.right) c.returns)
  where
    g : List ℕ
    g = given ++ x.call

    room : ℕ
    room = length x.before

    by : (o : Outcome (List ℕ)) → thin_of g marks room ≡ o → AsTable (refusals (thin marks) g room) o → Returns (mapped writing o) x.before x.returned x.after
        → BackStep (marks_of marks) join held x
    by (result b) q t r =
        let k = thinned_accepted g marks room b q in
        let p = pinned_kept (marks_of marks) join given x.call s w (accepted_sound g k.0).whole in
        let j : join_after join x ≡ join ++ x.call = ap (λ (z : Bool). cond z (join ++ x.call) join) (eq-eqb (number_in x.returned) 0 r.0) in
        record { whole = ap (λ (l : List ℕ). length l % 16) j ∙ p.0; holds = held_bytes held x b r ∙ sym k.1 ∙ p.1 ∙ ap (kept_bytes (marks_of marks)) (sym j) }
    by (refused n p) q t r =
        let h = t.1.0 in
        let z = r.0 in
        let j : join_after join x ≡ join = ap (λ (z : Bool). cond z (join ++ x.call) join) (ne_eqb (number_in x.returned) 0 (λ y. omega arith)) in
        record { whole = ap (λ (l : List ℕ). length l % 16) j ∙ w; holds = held_stays held x n p h r ∙ e ∙ ap (kept_bytes (marks_of marks)) (sym j) }

put-back-held : (marks : List ℕ) {xs : List (Exchange (List ℕ))} {join held join'' held'' : List ℕ} → PutBack marks join held xs join'' held'' → length join % 16 ≡ 0
    → held ≡ kept_bytes (marks_of marks) join → held'' ≡ kept_bytes (marks_of marks) join''
put-back-held marks none_back w e = e
put-back-held marks {join = join} {held = held} (back_then {x = x} given s c t) w e = let k = back_step marks join held given x s c w e in put-back-held marks t k.whole k.holds

-- of a recording that is cut none is refused, and all is taken
put-back_none : (marks : List ℕ) → AcceptedMarks marks → {xs : List (Exchange (List ℕ))} {join held whole join'' held'' : List ℕ} → Cut (marks_of marks) join xs whole → PutBack marks join held xs join'' held''
    → length join % 16 ≡ 0 → Sound whole → ((x : Exchange (List ℕ)) → Memᴰ x xs → number_in x.returned ≡ 0) × (join'' ≡ whole)
put-back_none marks fine uncut none_back w s = (λ x m. absurd (Memᴰ.not-nil m), refl)
put-back_none marks fine {join = join} {held = held} {whole = whole} {join'' = join''} {held'' = held''} (piece_then {xs = xs} l room c) (back_then {x = x} given sel d t) w s =
    let ks : List ℕ = marks_of marks in
    let a = length-append join x.call in
    let w' : length (join ++ x.call) % 16 ≡ 0 = omega arith in
    let front : Accepted (join ++ x.call) = sound_accepted (join ++ x.call) (sound_whole_front (map as_call xs) (join ++ x.call) w' (subst Sound (cut_whole marks fine c) s)) in
    let e : thin_of (given ++ x.call) marks (length x.before) ≡ result (kept_bytes ks (join ++ x.call)) =
    selection_thinned marks (join ++ x.call) (given ++ x.call) (selection_behind ks join given sel x.call w l) front (length x.before)
    ∙ thinned-whole marks fine (join ++ x.call) front (length x.before) room in
    let k : Returns (result (writing (kept_bytes ks (join ++ x.call)))) x.before x.returned x.after =
    subst (λ (o : Outcome Effect). Returns o x.before x.returned x.after) (is_computed d.right ∙ ap (mapped writing) e) d.returns in
    let j : join_after join x ≡ join ++ x.call = ap (λ (z : Bool). cond z (join ++ x.call) join) (eq-eqb (number_in x.returned) 0 k.0) in
    let r = put-back_none marks fine c (subst (λ (q : List ℕ). PutBack marks q (held_after held x) xs join'' held'') j t) w' s in
    (λ y m. ⊎_elim (λ (q : y ≡ x). ap (λ (z : Exchange (List ℕ)). number_in z.returned) q ∙ k.0) (λ i. r.0 y i) (Memᴰ.cases_cons m), r.1)

-- ---- marks that 11 refuses

refused_marks : (marks : List ℕ) → MarksOff marks → {held : List ℕ} {x : Exchange (List ℕ)} {held' : List ℕ} → Thinned marks held x held' → (¬ (number_in x.returned ≡ 0)) × (held' ≡ held)
refused_marks marks off {held} {x} {held'} t =
    by (thin_of g marks room) (thin_told g marks room) (subst (λ (o : Outcome Effect). Returns o x.before x.returned x.after) (is_computed t.made.right) t.made.returns)
  where
    g : List ℕ
    g = held ++ x.call

    room : ℕ
    room = length x.before

    by : (o : Outcome (List ℕ)) → AsTable (refusals (thin marks) g room) o → Returns (mapped writing o) x.before x.returned x.after → (¬ (number_in x.returned ≡ 0)) × (held' ≡ held)
    by (result b) a r = absurd (a.1.1.1.0 0 (refl, off))
    by (refused n p) a r = let h = a.1.0 in let e = r.0 in (λ z. omega arith, t.holds ∙ held_stays held x n p h r)

all-refused : (marks : List ℕ) → MarksOff marks → {held held'' : List ℕ} {xs : List (Exchange (List ℕ))} → InTurn (Thinned marks) held xs held''
    → ((x : Exchange (List ℕ)) → Memᴰ x xs → ¬ (number_in x.returned ≡ 0)) × (held'' ≡ held)
all-refused marks off no_call = (λ x m. absurd (Memᴰ.not-nil m), refl)
all-refused marks off (and_then {x = x} t ts) =
    let k = refused_marks marks off t in
    let r = all-refused marks off ts in
    (λ y m. ⊎_elim (λ (e : y ≡ x). λ z. k.0 (ap (λ (w : Exchange (List ℕ)). number_in w.returned) (sym e) ∙ z)) (λ i. r.0 y i) (Memᴰ.cases_cons m), r.1 ∙ k.1)

-- ---- a join of any length

none_front : (us ws : List TableLine) → NoneMet (us ++ ws) → NoneMet us
none_front [] ws n = tt
none_front (u ∷ us) ws n = (n.0, none_front us ws n.1)

nothing_accepted : (ks : List ℕ) → Accepted (kept_bytes ks [])
unfolding kept_bytes first_bad least
nothing_accepted marks = (refl, (refl, (refl, tt)))

nothing_good : Good 0 (records [])
nothing_good = tt

record Held (ks join : List ℕ) : Type 0 where
  pub whole : length join % 16 ≡ 0
  pub good : Good 0 (records join)
  pub accepted : Accepted (kept_bytes ks join)

held-after : {ks join join'' : List ℕ} {xs : List (Exchange (List ℕ))} → ByHistory (Book ks) join xs join'' → Held ks join → Held ks join''
held-after told_none h = h
held-after {ks} (told_then o (taken {join = join} {piece = piece} {room = room} n) t ts) h = held-after ts next
  where
    a : Accepted (kept_bytes ks join ++ piece)
    a = accepted-lines (kept_bytes ks join ++ piece) (none_front (recording_table (kept_bytes ks join ++ piece)) (10 upon (room < length (kept_bytes ks (join ++ piece))) ∷ []) n)

    next : Held ks (join ++ piece)
    next =
        let w = h.whole in
        let v = (accepted_sound (kept_bytes ks join ++ piece) a).whole in
        let k = kept_whole ks join in
        let l = length-append (kept_bytes ks join) piece in
        let m = length-append join piece in
        record {
          whole = omega arith;
          good = good_joined ks join piece w h.good a;
          accepted = subst Accepted (kept_join ks join piece w) (selection_accepted ks (kept_bytes ks join ++ piece) (kept_bytes ks (kept_bytes ks join ++ piece)) (kept_selection ks (kept_bytes ks join ++ piece)) a);
        }
held-after (told_then o (book_refuses f) t ts) h = held-after ts h

module _ (full held text : List ℕ) (place : InPlace full held text) (room : ℕ) where
  stood_answers : (b : List ℕ) → question_of held text room ≡ result b → IsAnswer full (question text) (writing b)
  unfolding question_of
  stood_answers b e =
      let k = result_none (asking_lines held text ++ (set_lines held (read text) ++ (output_line room (set_bytes (answer held text)) ∷ []))) (set_bytes (answer held text)) b e in
      let n = none_append (recording_lines held) (no_record held ∷ text_lines text ++ (set_lines held (read text) ++ (output_line room (set_bytes (answer held text)) ∷ []))) k.0 in
      let sized = (none_append (text_lines text) (set_lines held (read text) ++ (output_line room (set_bytes (answer held text)) ∷ [])) n.1.1).0 in
      subst (λ (s : List ℕ). IsAnswer full (question text) (writing s)) (runs_written (answer held text) ∙ k.1)
      (the_set (runs (answer held text)) (read_reads text sized.1.0) (runs_maximal (answer held text) (λ z. Holds (readings full) z (read text) 0) (answer_is full held text place n.1.0 sized)))

  stood_told : AsTable (drop 3 (refusals (question text) full room)) (question_of held text room)
  unfolding question_of
  stood_told =
      subst (AsTable (drop 3 (refusals (question text) full room)))
      (sym (judged_pass (recording_lines held) (no_record held ∷ text_lines text ++ (set_lines held (read text) ++ (output_line room (set_bytes (answer held text)) ∷ []))) (set_bytes (answer held text)) place.accepted))
      (judged-told (agree_asked full held text place room) (set_bytes (answer held text)))

  stood_right : RightBeyond (question text) full room (mapped writing (question_of held text room))
  stood_right = by (question_of held text room) refl stood_told
    where
      by : (o : Outcome (List ℕ)) → question_of held text room ≡ o → AsTable (drop 3 (refusals (question text) full room)) o → RightBeyond (question text) full room (mapped writing o)
      by (result b) e t = answers t (stood_answers b e)
      by (refused n p) e t = refuses t.0

-- what is held after a list, beside its join
held_list : (marks : List ℕ) {xs : List (Exchange (List ℕ))} {join : List ℕ} → ByHistory (Book (marks_of marks)) [] xs join → Held (marks_of marks) join
held_list marks t = held-after t (record { whole = refl; good = nothing_good; accepted = nothing_accepted (marks_of marks) })

held_stands : (marks : List ℕ) {xs : List (Exchange (List ℕ))} {join : List ℕ} → ByHistory (Book (marks_of marks)) [] xs join → StandIn (marks_of marks) join (kept_bytes (marks_of marks) join)
held_stands marks {join = join} t = selection_stands (marks_of marks) join (kept_bytes (marks_of marks) join) (held_list marks t).accepted (kept_selection (marks_of marks) join)

-- it is in the place of the join for every text that may be asked of kept readings
held_place : (marks : List ℕ) {xs : List (Exchange (List ℕ))} {join text : List ℕ} → ByHistory (Book (marks_of marks)) [] xs join → Askable marks text
    → InPlace join (kept_bytes (marks_of marks) join) text
held_place marks {join = join} {text = text} t l =
    let h = held_list marks t in
    assured_place marks join (kept_bytes (marks_of marks) join) (good_recorded join h.good) h.accepted (kept_selection (marks_of marks) join) text (assured_text marks text l)

answers_beyond : (marks : List ℕ) {xs : List (Exchange (List ℕ))} {join text : List ℕ} → ByHistory (Book (marks_of marks)) [] xs join → Askable marks text → {room : ℕ} {o : Outcome Effect}
    → Right (question text) (kept_bytes (marks_of marks) join) room o → RightBeyond (question text) join room o
answers_beyond marks {join = join} {text = text} t l {room} r =
    subst (RightBeyond (question text) join room) (sym (is_computed r)) (stood_right join (kept_bytes (marks_of marks) join) text (held_place marks t l) room)

-- its entry
entry-told : (ks full held : List ℕ) → StandIn ks full held → (room : ℕ) → AsTable (drop 3 (refusals entry full room)) (entry_of held room)
unfolding entry_of
entry-told marks full held s room =
    subst (AsTable (drop 3 (refusals entry full room))) (sym (judged_pass (recording_lines held) (entry_lines held room) (reckoned (readings held)) s.accepted))
    (judged-told (agrees 4 refl (then (so_eq (length (records held)) 0) s.empty) ⊳ agrees 10 refl (subst (λ (n : ℕ). So (ltb room n) ↔ (room < entry_bytes)) (sym (length-reckoned (readings held))) (so_lt room entry_bytes)) ⊳ done) (reckoned (readings held)))

entry_stood : (ks full held : List ℕ) → StandIn ks full held → (room : ℕ) → RightBeyond entry full room (mapped writing (entry_of held room))
unfolding entry_of
entry_stood ks full held s room = by (entry_of held room) refl (entry-told ks full held s room)
  where
    by : (o : Outcome (List ℕ)) → entry_of held room ≡ o → AsTable (drop 3 (refusals entry full room)) o → RightBeyond entry full room (mapped writing o)
    by (refused n p) e t = refuses t.0
    by (result b) e t =
        let k = result_none (recording_lines held ++ entry_lines held room) (reckoned (readings held)) b e in
        let none = (none_append (recording_lines held) (entry_lines held room) k.0).1.0 in
        answers t (subst (λ (c : List ℕ). IsAnswer full entry (writing c)) (sym s.same_entry ∙ k.1)
        (reckoned_answers full (some_readings full (ap (λ (l : Line). l.meets) (sym (same_no_record ks full held s)) ∙ none))))

entry-beyond : (marks : List ℕ) {xs : List (Exchange (List ℕ))} {join : List ℕ} → ByHistory (Book (marks_of marks)) [] xs join → {room : ℕ} {o : Outcome Effect}
    → Right entry (kept_bytes (marks_of marks) join) room o → RightBeyond entry join room o
entry-beyond marks {join = join} t {room} r = subst (RightBeyond entry join room) (sym (is_computed r)) (entry_stood (marks_of marks) join (kept_bytes (marks_of marks) join) (held_stands marks t) room)

pub thinning : Thinning
thinning = record {
  every_list = λ marks h t. going marks (accepted_marks marks h) [] [] refl (kept_none (marks_of marks)) t;
  cut = λ marks h whole c a t. cut_turn marks (accepted_marks marks h) c t refl (accepted_sound whole (accepted-lines whole a)) (kept_none (marks_of marks));
  book_once = one_book;
  going_on = λ marks join h w t. going marks (accepted_marks marks h) join (kept_bytes (marks_of marks) join) w refl t;
  put_back = λ marks t. put-back-held marks t refl (kept_none (marks_of marks));
  put-back_cut = λ marks h {xs} whole {join} {held} c a t.
      let k = put-back_none marks (accepted_marks marks h) c t refl (accepted_sound whole (accepted-lines whole a)) in
      record { none_refused = k.0; whole-kept = put-back-held marks t refl (kept_none (marks_of marks)) ∙ ap (kept_bytes (marks_of marks)) k.1 };
  beyond = answers_beyond;
  entry-beyond = entry-beyond;
  bad_marks = λ marks off t. all-refused marks off t;
}
