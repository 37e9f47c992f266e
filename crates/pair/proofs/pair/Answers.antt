-- `pair::pair` meets its contract. A refusal of the recording stands; an accepted one is judged by the lines that follow. Assumes nothing.
use Rattle.refusal.specs.declared.Refusal.{Refusal}
use Rattle.std.specs.Prelude.{Result, Ok}
use Rattle.std.proofs.lemmas.Result.{err_from_is_err_and}
use mathlib.Core.Path.{◌≡◌, sym, ap, ◌∙◌, subst}
use mathlib.Core.List.{List}
use Prim.Native.Nat.{ℕ, ◌/◌}
use lib.IntN.{ℤ}
use lib.ListN.{length}
use mir.Syntax.{w64}
use mir.ValLaws.{to_z-of_z}
use Rattle.refusal.specs.Outcome.{judged, reported}
use Rattle.recording.specs.Recording.{recording_lines, readings, Accepted}
use Rattle.recording.proofs.laws.Outcome.{result_none}
use Rattle.pair.specs.Pair.{first_pair, accepted_lines, outcome_of, pair_of}
use Rattle.pair.proofs.laws.Pair.{answer_pass, answer_refused}
use Rattle.recording.specs.Reading.{curve_of}
use Rattle.pair.proofs.pair.Goals as goal

accepted : (bytes : List ℕ) (r : Result ℕ Refusal) (n : ℕ) → reported r ≡ judged (recording_lines bytes) (length bytes / 16) → r ≡ Ok n
    → Accepted bytes × (n ≡ length bytes / 16)
accepted bytes r n h e =
    let k = result_none (recording_lines bytes) (length bytes / 16) n (sym h ∙ ap reported e) in
    (k.0, sym k.1)

pub in_accepted-requires : goal.in_accepted-requires
in_accepted-requires c = accepted c.args.rec.now _ _ c.check.ensures c.in_ok-n.was

pub returns-in_err-n : goal.returns-in_err-n
unfolding pair_of
returns-in_err-n c =
    let bytes : List ℕ = c.args.rec.now in
    let p = err_from_is_err_and c.from_residual.result c.from_residual.ensures.1 in
    rw (p.1, p.2) (answer_refused (first_pair (readings bytes) (curve_of c.args.curve) c.args.target) (recording_lines bytes) (accepted_lines bytes c.args.curve c.args.target) _ (length bytes / 16)
    (sym (ap reported c.in_err-n.was) ∙ c.check.ensures))

pub returns : goal.returns
unfolding pair_of
returns c =
    let bytes : List ℕ = c.args.rec.now in
    answer_pass (first_pair (readings bytes) (curve_of c.args.curve) c.args.target) (recording_lines bytes) (accepted_lines bytes c.args.curve c.args.target) c.in_accepted.result
    (accepted bytes _ _ c.check.ensures c.in_ok-n.was).0
    (subst (λ (g : ℤ). outcome_of c.in_accepted.result ≡ judged (accepted_lines bytes c.args.curve g) (first_pair (readings bytes) (curve_of c.args.curve) g))
    (to_z-of_z w64 c.args.target c.ranges.target) c.in_accepted.ensures)
