-- `sheet::order` meets its contract. A refusal of the recording stands; an accepted one is judged by the lines that follow. Assumes nothing.
use Rattle.refusal.specs.Outcome.{reported}
use Rattle.std.proofs.lemmas.Result.{err_from_is_err_and}
use mathlib.Core.Path.{sym, ap, ◌∙◌}
use Prim.Native.Nat.{◌/◌}
use lib.ListN.{length}
use Rattle.refusal.specs.Numbers.{number_of, place_of}
use Rattle.recording.specs.Recording.{readings, recording_lines}
use Rattle.recording.proofs.laws.Outcome.{judged_pass, refusal_stands}
use Rattle.recording.proofs.laws.Acceptance.{check_accepts}
use Rattle.sheet.specs.Sheet.{sheet_of}
use Rattle.sheet.specs.inner.Found.{finding}
use Rattle.sheet.specs.Call.{sheet_lines, order_of}
use Rattle.sheet.proofs.order.Goals as goal

pub in_accepted-requires : goal.in_accepted-requires
in_accepted-requires c = check_accepts c.args.rec.now _ _ c.check.ensures c.in_ok-n.was

pub returns-in_err-n : goal.returns-in_err-n
unfolding order_of
returns-in_err-n c =
    let p = err_from_is_err_and c.from_residual.result c.from_residual.ensures.1 in
    rw (p.1, p.2) (sym (refusal_stands (recording_lines c.args.rec.now) (sheet_lines c.args.rec.now c.args.sheet.now) (length c.args.rec.now / 16) (finding (sheet_of c.args.sheet.now) (readings c.args.rec.now)) _ _
    (sym c.check.ensures ∙ ap reported c.in_err-n.was)))

pub returns : goal.returns
unfolding order_of
returns c =
    c.in_accepted.ensures
    ∙ sym (judged_pass (recording_lines c.args.rec.now) (sheet_lines c.args.rec.now c.args.sheet.now) (finding (sheet_of c.args.sheet.now) (readings c.args.rec.now))
    (check_accepts c.args.rec.now _ _ c.check.ensures c.in_ok-n.was).0)
