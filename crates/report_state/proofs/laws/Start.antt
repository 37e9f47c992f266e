-- The bytes that a naming leaves, and what it returns.
use Rattle.std.specs.Prelude.{ℕ, ◌+◌, ◌≤◌, ◌<◌, ◌≡◌, refl, Bool, true, false, cond, List, [], ◌++◌, eqb, length, take, drop, Result, Ok, Err}
use Rattle.std.proofs.Common.{arith, sym, ap, ◌∙◌, subst, length-append, ltb-false, lt-ltb}
use Rattle.number.specs.Words.{word_bytes, words_bytes}
use Rattle.number.proofs.laws.Words.{put_behind, length-row}
use Rattle.number.proofs.laws.Boolean.{none_right, clash}
use Rattle.refusal.specs.Outcome.{Outcome, result, refused, reported}
use Rattle.refusal.specs.Numbers.{number_of, place_of}
use Rattle.refusal.specs.declared.Refusal.{Refusal}
use Rattle.recording.proofs.laws.Outcome.{result_none, none_append}
use Rattle.grammar.specs.Size.{most_bytes}
use Rattle.text.specs.Told.{text_lines}
use Rattle.meaning.specs.inner.Coded.{index}
use Rattle.degree.specs.inner.Reach.{mapped}
use Rattle.degree.proofs.laws.Call.{judged-mapped}
use Rattle.reply.specs.Reply.{half, packed}
use Rattle.reply.proofs.laws.Place.{plain-place}
use Rattle.mean.specs.inner.Running.{Numbers}
use Rattle.mean.proofs.laws.Number.{running-numbers}
use Rattle.report.specs.Report.{Naming, report_bytes, naming_lines, named, Answer, taken}
use Rattle.report.specs.inner.Running.{running_of}
use Rattle.report.specs.inner.Naming.{target_lines}
use Rattle.report.specs.declared.Report.{Report}
use Rattle.report_state.specs.State.{figure_words, named_bytes, no_report, closed_bytes, ended_bytes, naming_after}
use Rattle.report_state.specs.Call.{answer_told, named_index, Starts}
use Rattle.report_state.proofs.laws.Read.{too_short, stateless_none}

-- ---- the bytes, put one behind the other

pub begun : (n v : ℕ) (text b b1 b2 b3 b4 words : List ℕ) → words ≡ figure_words (running_of n []) → b1 ≡ words_bytes words ++ drop 44 b
    → b2 ≡ take 44 b1 ++ word_bytes v ++ drop (44 + 4) b1 → b3 ≡ take 48 b2 ++ word_bytes (length text) ++ drop (48 + 4) b2
    → b4 ≡ take 52 b3 ++ text ++ drop (52 + length text) b3 → b4 ≡ named_bytes n text v b
begun n v text b b1 b2 b3 b4 words w p q r s =
    let heads : List ℕ = words_bytes (figure_words (running_of n [])) in
    let place : List ℕ = word_bytes v in
    let size : List ℕ = word_bytes (length text) in
    let l : length heads ≡ 44 = length-row (figure_words (running_of n [])) in
    let lv : length (heads ++ place) ≡ 48 = length-append heads place ∙ ap (λ (k : ℕ). k + 4) l in
    let ln : length (heads ++ place ++ size) ≡ 52 = length-append (heads ++ place) size ∙ ap (λ (k : ℕ). k + 4) lv in
    let e1 : b1 ≡ heads ++ drop 44 b = p ∙ ap (λ (ws : List ℕ). words_bytes ws ++ drop 44 b) w in
    let e2 : b2 ≡ heads ++ place ++ drop 48 b = q ∙ put_behind heads place b b1 44 4 l e1 in
    let e3 : b3 ≡ heads ++ place ++ size ++ drop 52 b = r ∙ put_behind (heads ++ place) size b b2 48 4 lv e2 in
    s ∙ put_behind (heads ++ place ++ size) text b b3 52 (length text) ln e3

-- before the first batch the sum and the mean are numbers
pub begin_numbers : (n : ℕ) (r : Report) → r ≡ running_of n [] → Numbers r.mean
begin_numbers n r e = subst (λ (x : Report). Numbers x.mean) (sym e) (running-numbers [] tt (omega arith))

-- ---- the call

module _ (n : Naming) (old : List ℕ) where
  abbrev room : ℕ
  room = length old

  pub named-mapped : named room n ≡ mapped (λ (v : ℕ). taken) (named_index n room)
  named-mapped = sym (judged-mapped (λ (v : ℕ). taken) (naming_lines n room) (index n.target))

  module _ (x : Result ℕ Refusal) (h : reported x ≡ named_index n room) where
    pub start-room : (v : ℕ) → x ≡ Ok v → (report_bytes ≤ length old) × (length n.text ≤ most_bytes)
    start-room v e =
        let k = (result_none (naming_lines n room) (index n.target) v (sym h ∙ ap reported e)).0 in
        let m = none_append (text_lines n.text) (target_lines n.target room) k.1 in
        (ltb-false room report_bytes m.1.1.0, ltb-false most_bytes (length n.text) (none_right (eqb (length n.text) 0) _ m.0.0))

    pub start-place : (y : Refusal) → x ≡ Err y → place_of y < half
    start-place y e =
        let z = plain-place (naming_lines n room) (index n.target) (number_of y) (place_of y) (refl, (refl, (refl, (refl, (refl, (refl, tt)))))) (sym h ∙ ap reported e) in
        omega arith

    pub start-begun : (v : ℕ) (new : List ℕ) → x ≡ Ok v → new ≡ named_bytes n.count n.text v old → Starts n old 0 new
    start-begun v new e p =
        let o : named_index n room ≡ result v = sym h ∙ ap reported e in
        record {
          returned = sym (ap (λ (a : Outcome Answer). packed (answer_told a)) (named-mapped ∙ ap (mapped (λ (v : ℕ). taken)) o));
          state = p ∙ sym (ap (λ (a : Outcome ℕ). naming_after n a old) o);
        }

    pub start_refused : (y : Refusal) (r : ℕ) (new : List ℕ) → x ≡ Err y → r ≡ packed (refused (number_of y) (place_of y)) → new ≡ ended_bytes old → Starts n old r new
    start_refused y r new e q p =
        let o : named_index n room ≡ refused (number_of y) (place_of y) = sym h ∙ ap reported e in
        record {
          returned = q ∙ sym (ap (λ (a : Outcome Answer). packed (answer_told a)) (named-mapped ∙ ap (mapped (λ (v : ℕ). taken)) o));
          state = p ∙ sym (ap (λ (a : Outcome ℕ). naming_after n a old) o);
        }

  -- bytes that are too short stay
  pub start-short : length old < report_bytes → naming_after n (named_index n room) old ≡ old
  start-short h = by (named_index n room) refl
    where
      by : (o : Outcome ℕ) → named_index n room ≡ o → naming_after n o old ≡ old
      by (result v) e =
          let k = (result_none (naming_lines n room) (index n.target) v e).0 in
          let m = none_append (text_lines n.text) (target_lines n.target room) k.1 in
          absurd (clash (lt-ltb room report_bytes h) m.1.1.0)
      by (refused k p) e = ap (λ (t : Bool). cond t old (closed_bytes old)) (stateless_none old (sym (too_short old h)))

  -- a refusal changes no byte behind the first four
  pub start-ends : (k p : ℕ) → named_index n room ≡ refused k p → drop 4 (naming_after n (named_index n room) old) ≡ drop 4 old
  start-ends k p e = ap (λ (o : Outcome ℕ). drop 4 (naming_after n o old)) e ∙ by (no_report old)
    where
      by : (t : Bool) → drop 4 (cond t old (closed_bytes old)) ≡ drop 4 old
      by true = refl
      by false = refl

  -- and none at all where the bytes hold no report
  pub start-stays : (k p : ℕ) → named_index n room ≡ refused k p → no_report old ≡ true → naming_after n (named_index n room) old ≡ old
  start-stays k p e h = ap (λ (o : Outcome ℕ). naming_after n o old) e ∙ ap (λ (t : Bool). cond t old (closed_bytes old)) h
