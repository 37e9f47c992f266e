-- Four numbers in a row.
use Rattle.copying.specs.Put.{put}
use Rattle.copying.proofs.laws.Words.{words-put}
use Rattle.copying.proofs.put_words.Goals as goal

pub returns : goal.returns
unfolding put
returns c =
    let w4 = c.put_word-4 in
    let w3 = c.put_word-3 in
    let w2 = c.put_word-2 in
    let w1 = c.put_word in
    let g = c in
    words-put g.args.at g.args.a g.args.b g.args.c g.args.d g.args.out.now w1.new.out w2.new.out w3.new.out w4.new.out g.requires
    w1.ensures w2.ensures w3.ensures w4.ensures
