-- A list of report calls answers as the plain fold does, whatever its recordings, and every report that it gives has its mean near.
use Rattle.std.specs.Prelude.{ℕ, suc, ◌+◌, ◌-◌, ◌*◌, ◌≤◌, ◌<◌, ◌≡◌, refl, Bool, true, false, cond, List, [], ◌∷◌, ◌++◌, map, eqb, length, drop}
use Rattle.std.proofs.Common.{arith, sym, ap, ◌∙◌, subst, length-append, length-drop, ltb-false}
use Rattle.std.proofs.lemmas.Bool.{eqb-false}
use Rattle.number.specs.Words.{word_bytes, words_bytes}
use Rattle.number.proofs.laws.Boolean.{none_left, none_right}
use Rattle.number.proofs.laws.Words.{length-row}
use Rattle.number.proofs.laws.Order.{positive}
use Rattle.refusal.specs.Outcome.{Outcome, result, refused, NoneMeets}
use Rattle.recording.proofs.laws.Outcome.{result_none, none_append}
use Rattle.grammar.specs.Size.{most_bytes}
use Rattle.text.specs.Told.{text_lines}
use Rattle.meaning.specs.inner.Coded.{index}
use Rattle.degree.specs.Degree.{Reach, reach_of}
use Rattle.degree.specs.inner.Reach.{mapped}
use Rattle.reply.specs.Reply.{packed}
use Rattle.report.specs.Report.{Naming, report_bytes, naming_lines, named, opened_by, Answer, taken, onward, Stage, closed, under_way, add_batch, answered, stage_after, report_answers}
use Rattle.report.specs.inner.Running.{running_of, Addition, further, last, added_to, answer_in}
use Rattle.report.specs.inner.Naming.{target_lines}
use Rattle.report.proofs.laws.Steps.{small_more, length_more, counted-more, answer-told}
use Rattle.report.proofs.laws.Fold.{fold_near}
use Rattle.report_state.specs.State.{figure_words, named_bytes, no_report, closed_bytes, naming_after, addition_in, add_after}
use Rattle.report_state.specs.Call.{answer_told, met_after, empty_after, distances_after, mean_after, named_index, ReportTold}
use Rattle.report_state.specs.Calls.{Made, made_start, made_add, call_of, ReportReturned, ReportCallsMade, AllReturnedAs, AsTheFold}
use Rattle.report_state.proofs.laws.Read.{held_of, some_state}
use Rattle.report_state.proofs.laws.Start.{named-mapped}
use Rattle.report_state.proofs.laws.Carried.{Under, Carries, no-report, closed_carries, under-added, room_enough}

-- ---- no call changes the length

pub length-closed : (b : List ℕ) → 4 ≤ length b → length (closed_bytes b) ≡ length b
length-closed b h = let d = length-drop 4 b in omega arith

pub length-put : (ws b : List ℕ) → length ws ≡ 11 → 44 ≤ length b → length (words_bytes ws ++ drop 44 b) ≡ length b
length-put ws b e h =
    let l = length-row ws in
    let d = length-drop 44 b in
    length-append (words_bytes ws) (drop 44 b) ∙ by (length (words_bytes ws)) (length (drop 44 b)) (length b) (length ws) l d e h
  where
    by : (p q n k : ℕ) → p ≡ 4 * k → q ≡ n - 44 → k ≡ 11 → 44 ≤ n → p + q ≡ n
    by p q n k a c e h = omega arith

length-named : (n : ℕ) (text : List ℕ) (v : ℕ) (b : List ℕ) → 52 + length text ≤ length b → length (named_bytes n text v b) ≡ length b
length-named n text v b h =
    let d = length-drop (52 + length text) b in
    let heads : List ℕ = words_bytes (figure_words (running_of n [])) ++ word_bytes v ++ word_bytes (length text) in
    length-append (heads ++ text) (drop (52 + length text) b) ∙ ap (λ (k : ℕ). k + length (drop (52 + length text) b)) (length-append heads text)
    ∙ by (length text) (length (drop (52 + length text) b)) (length b) d h
  where
    by : (t q n : ℕ) → q ≡ n - (52 + t) → 52 + t ≤ n → 52 + t + q ≡ n
    by t q n d h = omega arith

-- ---- a naming

-- what is carried after a call, and in as many bytes
pub record Onward (old new : List ℕ) (s : Stage) : Type 0 where
  pub carries : Carries new s
  pub same_length : length new ≡ length old

module _ (n : Naming) (b : List ℕ) where
  accepted_begun : (v : ℕ) → named_index n (length b) ≡ result v → Onward b (naming_after n (result v) b) (under_way n [])
  accepted_begun v e =
      let k = result_none (naming_lines n (length b)) (index n.target) v e in
      let m = none_append (text_lines n.text) (target_lines n.target (length b)) k.0.1 in
      let room : report_bytes ≤ length b = ltb-false (length b) report_bytes m.1.1.0 in
      let size : length n.text ≤ most_bytes = ltb-false most_bytes (length n.text) (none_right (eqb (length n.text) 0) _ m.0.0) in
      let same : length (named_bytes n.count n.text v b) ≡ length b = length-named n.count n.text v b (omega arith) in
      record {
        carries = record {
          accepted = subst (λ (j : ℕ). NoneMeets (naming_lines n j)) (sym same) k.0;
          more = positive n.count (eqb-false n.count 0 (none_left (eqb n.count 0) _ k.0.0));
          small = tt;
          rest = drop (52 + length n.text) b;
          state = ap (λ (j : ℕ). named_bytes n.count n.text j b) (sym k.1);
        };
        same_length = same;
      }

  ended : (k p : ℕ) → Onward b (naming_after n (refused k p) b) closed
  ended k p = by (no_report b) refl
    where
      by : (t : Bool) → no_report b ≡ t → Onward b (cond t b (closed_bytes b)) closed
      by true e = record { carries = no-report b e; same_length = refl }
      by false e = record { carries = closed_carries b; same_length = length-closed b (omega (arith, (held_of b (some_state b e)).long_enough)) }

  -- A NAMING, whatever the bytes held
  pub start-onward : Onward b (naming_after n (named_index n (length b)) b) (opened_by n (named (length b) n))
  start-onward = by (named_index n (length b)) refl
    where
      by : (o : Outcome ℕ) → named_index n (length b) ≡ o → Onward b (naming_after n o b) (opened_by n (named (length b) n))
      by (result v) e = subst (λ (a : Outcome Answer). Onward b (naming_after n (result v) b) (opened_by n a)) (sym (named-mapped n b ∙ ap (mapped (λ (j : ℕ). taken)) e)) (accepted_begun v e)
      by (refused k p) e = subst (λ (a : Outcome Answer). Onward b (naming_after n (refused k p) b) (opened_by n a)) (sym (named-mapped n b ∙ ap (mapped (λ (j : ℕ). taken)) e)) (ended k p)

-- ---- a recording

module _ (b : List ℕ) (n : Naming) (xs : List Reach) (u : Under b n xs) where
  -- a batch more, with the same target and text behind it
  batch_under : (x : Reach) (recording : List ℕ) → reach_of recording n.text n.target ≡ result x → (suc (length xs) ≡ n.count → ⊥)
      → Onward b (add_after (further (running_of n.count (xs ++ x ∷ []))) b) (under_way n (xs ++ x ∷ []))
  batch_under x recording e k =
      let room = room_enough b n xs u in
      let same = length-put (figure_words (running_of n.count (xs ++ x ∷ []))) b refl (omega arith) in
      record {
        carries = record {
          accepted = subst (λ (j : ℕ). NoneMeets (naming_lines n j)) (sym same) u.accepted;
          more = less (suc (length xs)) (length (xs ++ x ∷ [])) n.count (length_more xs x) u.more k;
          small = small_more xs recording n.text n.target x u.small e;
          rest = u.rest;
          state = ap (λ (c : List ℕ). words_bytes (figure_words (running_of n.count (xs ++ x ∷ []))) ++ drop 44 c) u.state;
        };
        same_length = same;
      }
    where
      less : (a b c : ℕ) → b ≡ a → a ≤ c → (a ≡ c → ⊥) → b < c
      less a b c e l k = omega arith

  closed-onward : Onward b (closed_bytes b) closed
  closed-onward = record { carries = closed_carries b; same_length = length-closed b (omega (arith, room_enough b n xs u)) }

  under-onward : (recording : List ℕ) → Onward b (add_after (addition_in b recording) b) (onward n xs (reach_of recording n.text n.target))
  under-onward recording =
      subst (λ (a : Addition). Onward b (add_after a b) (onward n xs (reach_of recording n.text n.target))) (sym (under-added b n xs u recording))
      (by (reach_of recording n.text n.target) refl)
    where
      more : (x : Reach) (t : Bool) → eqb (suc (length xs)) n.count ≡ t → reach_of recording n.text n.target ≡ result x
          → Onward b (add_after (cond t (last (running_of n.count (xs ++ x ∷ []))) (further (running_of n.count (xs ++ x ∷ [])))) b) (cond t closed (under_way n (xs ++ x ∷ [])))
      more x true t e = closed-onward
      more x false t e = batch_under x recording e (eqb-false (suc (length xs)) n.count t)

      by : (o : Outcome Reach) → reach_of recording n.text n.target ≡ o → Onward b (add_after (added_to (running_of n.count xs) o) b) (onward n xs o)
      by (refused k p) e = closed-onward
      by (result x) e =
          subst (λ (a : Addition). Onward b (add_after a b) (onward n xs (result x))) (sym (counted-more n.count xs x)) (more x (eqb (suc (length xs)) n.count) refl e)

-- A RECORDING, whatever stage is carried: the next stage, and the answer
pub add_onward : (room : ℕ) (b : List ℕ) (s : Stage) (recording : List ℕ) → Carries b s
    → Onward b (add_after (addition_in b recording) b) (stage_after room s (add_batch recording)) × (answer_in (addition_in b recording) ≡ answered room s (add_batch recording))
add_onward room b closed recording h =
    let e = h recording in
    (subst (λ (a : Addition). Onward b (add_after a b) closed) (sym e) (record { carries = h; same_length = refl }), ap answer_in e)
add_onward room b (under_way n xs) recording u =
    (under-onward b n xs u recording, ap answer_in (under-added b n xs u recording) ∙ answer-told n xs (reach_of recording n.text n.target))

-- ---- the list

-- each call as the fold says, from whatever stage the bytes carry
calls_fold : (cs : List Made) (xs : List ReportReturned) (room : ℕ) (b : List ℕ) (s : Stage) → length b ≡ room → Carries b s → ReportCallsMade b cs xs → AllReturnedAs (report_answers room s (map call_of cs)) cs xs
calls_fold [] [] room b s l h m = tt
calls_fold [] (x ∷ xs) room b s l h m = absurd m
calls_fold (c ∷ cs) [] room b s l h m = absurd m
calls_fold (made_start n ∷ cs) (x ∷ xs) room b s l h m =
    let o = start-onward n b in
    let new : x.state ≡ naming_after n (named_index n (length b)) b = m.0.state in
    let long : length x.state ≡ room = ap length new ∙ o.same_length ∙ l in
    let carried : Carries x.state (opened_by n (named room n)) =
    subst (λ (j : ℕ). Carries x.state (opened_by n (named j n))) l (subst (λ (c : List ℕ). Carries c (opened_by n (named (length b) n))) (sym new) o.carries) in
    (subst (λ (j : ℕ). x.returned ≡ packed (answer_told (named j n))) l m.0.returned, calls_fold cs xs room x.state (opened_by n (named room n)) long carried m.1)
calls_fold (made_add recording p q d y ∷ cs) (x ∷ xs) room b s l h m =
    let o = add_onward room b s recording h in
    let new : x.state ≡ add_after (addition_in b recording) b = m.0.state in
    let long : length x.state ≡ room = ap length new ∙ o.0.same_length ∙ l in (
      subst (λ (a : Outcome Answer). ReportTold a p q d y x.returned x.met x.empty x.distances x.mean) o.1 m.0.told,
      calls_fold cs xs room x.state (stage_after room s (add_batch recording)) long (subst (λ (c : List ℕ). Carries c (stage_after room s (add_batch recording))) (sym new) o.0.carries) m.1,
    )

-- THE CLAIM, of calls begun with bytes that hold no report
pub no_report_fold : (b : List ℕ) (cs : List Made) (xs : List ReportReturned) → no_report b ≡ true → ReportCallsMade b cs xs → AsTheFold (length b) cs xs
no_report_fold b cs xs h m = record { answered = calls_fold cs xs (length b) b closed refl (no-report b h) m; near = λ f k. fold_near (length b) (map call_of cs) closed tt f k }

-- THE CLAIM, of calls that begin with a naming, whatever the bytes held
pub start_fold : (b : List ℕ) (n : Naming) (cs : List Made) (xs : List ReportReturned) → ReportCallsMade b (made_start n ∷ cs) xs → AsTheFold (length b) (made_start n ∷ cs) xs
start_fold b n cs [] m = absurd m
start_fold b n cs (x ∷ xs) m =
    let o = start-onward n b in
    let new : x.state ≡ naming_after n (named_index n (length b)) b = m.0.state in
    record {
      answered = (
        m.0.returned,
        calls_fold cs xs (length b) x.state (opened_by n (named (length b) n)) (ap length new ∙ o.same_length)
            (subst (λ (c : List ℕ). Carries c (opened_by n (named (length b) n))) (sym new) o.carries) m.1,
      );
      near = λ f k. fold_near (length b) (map call_of (made_start n ∷ cs)) closed tt f k;
    }

-- ---- such calls can be made, whatever the bytes and the calls

pub some_calls : (b : List ℕ) (cs : List Made) → (xs : List ReportReturned) × ReportCallsMade b cs xs
some_calls b [] = ([], tt)
some_calls b (made_start n ∷ cs) =
    let after : List ℕ = naming_after n (named_index n (length b)) b in
    let rest = some_calls after cs in
    (record { returned = packed (answer_told (named (length b) n)); state = after; met = 0; empty = 0; distances = 0; mean = 0 } ∷ rest.0, (record { returned = refl; state = refl }, rest.1))
some_calls b (made_add recording m e d y ∷ cs) =
    let o : Outcome Answer = answer_in (addition_in b recording) in
    let after : List ℕ = add_after (addition_in b recording) b in
    let rest = some_calls after cs in (
      record { returned = packed (answer_told o); state = after; met = met_after o m; empty = empty_after o e; distances = distances_after o d; mean = mean_after o y } ∷ rest.0,
      (record { told = record { returned = refl; first-place = refl; second-place = refl; third_place = refl; fourth_place = refl }; state = refl }, rest.1),
    )
