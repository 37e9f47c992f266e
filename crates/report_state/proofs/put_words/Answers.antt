-- `report_state::put_words` meets its contract. The invariant: the first i words are put. Assumes nothing.
use Prim.Native.Nat.{◌*◌}
use mathlib.Core.Path.{◌∙◌}
use native.Mathlib.Omega.{arith}
use lib.ListN.{get_or}
use Rattle.number.proofs.laws.Words.{put-length}
use Rattle.report_state.proofs.laws.Words.{put-turn, put-end}
use Rattle.report_state.proofs.put_words.Goals as goal

pub loop-i-preserved : goal.loop-i-preserved
loop-i-preserved c = (
  put-length c.loop-i.buffer _ (4 * c.loop-i.i) (get_or c.args.words c.loop-i.i 0) (omega arith) c.put_word.ensures ∙ c.loop-i.invariant.0,
  put-turn c.args.words c.args.buffer.now c.loop-i.buffer _ c.loop-i.i (omega arith) c.loop-i.invariant.1 c.put_word.ensures,
)

pub returns : goal.returns
returns c =
    put-end c.args.words c.args.buffer.now c.loop-i.buffer c.loop-i.i (omega arith) (omega arith) (omega arith) c.loop-i.invariant.1
