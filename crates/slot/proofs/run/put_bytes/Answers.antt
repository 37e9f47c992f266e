-- Two words, one behind the other.
use Rattle.slot.proofs.laws.Bytes.{two-words}
use Rattle.slot.proofs.run.put_bytes.Goals as goal

pub returns : goal.returns
returns c =
    two-words c.args.out.now _ _ _ _ _ c.args.low c.args.high c.requires.0
    c.bits_at.ensures c.bits_at-2.ensures
    c.put_word.ensures c.put_word-2.ensures
