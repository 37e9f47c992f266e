-- The reading of a text is the one that the call takes, and the lines 6 to 9 of the table meet where 01 says (`lines_mean`).
use Rattle.std.specs.Prelude.{ℕ, ◌<◌, ◌≡◌, refl, Bool, true, false, ◌||◌, ◌⊎◌, ◌↔◌, List, ltb}
use Rattle.std.proofs.Common.{arith, sym, ap, subst, true≢false, inl, inr, ⊎_elim, ltb-true, lt-ltb}
use Rattle.std.proofs.Math.Bool.{So}
use Rattle.std.proofs.lemmas.Bool.{false≢true}
use Rattle.std.proofs.lemmas.List.{length-map}
use Rattle.recording.specs.Recording.{Accepted, readings, no_record}
use Rattle.grammar.specs.Syntax.{Text}
use Rattle.grammar.specs.Grammar.{ReadsWhole}
use Rattle.grammar.specs.Size.{nodes, most_nodes, too_deep}
use Rattle.grammar.specs.inner.Parse.{Parsed, one, none, parsed}
use Rattle.text.specs.Told.{no_reading, nodes_of, too_large}
use Rattle.grammar.proofs.laws.Unique.{reading_is, reading_none}
use Rattle.meaning.specs.inner.Coded.{code, coded}
use Rattle.meaning.specs.Overfull.{Overfull, TooManyTops}
use Rattle.meaning.specs.inner.Truth.{refused8, refused9}
use Rattle.meaning.proofs.laws.Overfull.{eight_overfull, nine_tops}
use Rattle.meaning.proofs.laws.Recorded.{accepted_recorded}
use Rattle.question.specs.Question.{the_text, read}
use Rattle.question.proofs.laws.Size.{some_record}
use Rattle.question.specs.inner.Lines.{LinesMean}

-- ---- the reading of a text

module _ (text : List ℕ) where
  -- a text that 6 does not refuse reads as what was read
  pub read_reads : no_reading (parsed text) ≡ false → ReadsWhole text (read text)
  read_reads h = by (parsed text) refl h
    where
      by : (r : Parsed) → parsed text ≡ r → no_reading r ≡ false → ReadsWhole text (read text)
      by (one t) e h = subst (ReadsWhole text) (sym (ap the_text e)) ((reading_is text t).0 e)
      by none e h = absurd (true≢false h)

  -- and a text's reading is what was read
  pub reads_read : (t : Text) → ReadsWhole text t → read text ≡ t
  reads_read t r = ap the_text ((reading_is text t).1 r)

  pub six_means : So (no_reading (parsed text)) ↔ ((t : Text) → ReadsWhole text t → ⊥)
  six_means = (λ h. (reading_none text).0 (is_none (parsed text) h), λ n. ap no_reading ((reading_none text).1 n))
    where
      is_none : (r : Parsed) → So (no_reading r) → r ≡ none
      is_none (one t) h = absurd (false≢true h)
      is_none none h = refl

  pub seven_means : (t : Text) → ReadsWhole text t → So (too_large text) ↔ ((most_nodes < nodes t) ⊎ So (too_deep text))
  seven_means t r = (λ h. to (ltb most_nodes (nodes_of (parsed text))) refl h, λ h. ⊎_elim many (deep (ltb most_nodes (nodes_of (parsed text)))) h)
    where
      counted-nodes : nodes_of (parsed text) ≡ nodes t
      counted-nodes = ap nodes_of ((reading_is text t).1 r)

      to : (b : Bool) → ltb most_nodes (nodes_of (parsed text)) ≡ b → So (b || too_deep text) → (most_nodes < nodes t) ⊎ So (too_deep text)
      to true e h = inl (omega (arith, ltb-true most_nodes (nodes_of (parsed text)) e, counted-nodes))
      to false e h = inr h

      many : most_nodes < nodes t → So (too_large text)
      many h = ap (λ (b : Bool). b || too_deep text) (lt-ltb most_nodes (nodes_of (parsed text)) (omega (arith, counted-nodes)))

      deep : (b : Bool) → So (too_deep text) → So (b || too_deep text)
      deep true h = refl
      deep false h = h

-- ---- the lines of the table, of an accepted recording with a record

pub lines_mean : (bytes text : List ℕ) → Accepted bytes → (no_record bytes).meets ≡ false → LinesMean bytes text
lines_mean bytes text a some = record {
  six = six_means text;
  seven = seven_means text;
  nine = λ t r. subst (λ (p : Text). So (refused9 (coded bytes) (read text)) ↔ TooManyTops (readings bytes) p) (reads_read text t r)
      (nine_tops (readings bytes) (accepted_recorded bytes a).in-range (read text));
  eight = λ t r. subst (λ (p : Text). So (refused8 (coded bytes) (read text)) ↔ Overfull (readings bytes) p) (reads_read text t r)
      (eight_overfull (readings bytes) (accepted_recorded bytes a).in-range (omega (arith, some_record bytes some, length-map (readings bytes) code)) (read text));
}
