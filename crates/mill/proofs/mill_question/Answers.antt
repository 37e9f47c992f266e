-- The answer of `question::question`, packed: it fits in the low half.
use mathlib.Core.Path.{sym, subst}
use lib.ListN.{length}
use borrow.Author.Rules.{rules}
use Rattle.question.specs.Question.{question_of}
use Rattle.reply.specs.Reply.{InHalf}
use Rattle.promises.proofs.laws.InHalf.{question_in_half}
use Rattle.boundary.proofs.laws.Boundary.{writes}
use Rattle.promises.specs.Page as call
use Rattle.promises.proofs.laws.Computed.{every_call}
use Rattle.mill.proofs.mill_question.Goals as goal

pub written-requires : goal.written-requires
written-requires c =
    subst InHalf (sym c.question-written.ensures.answer) (question_in_half c.args.rec.now c.args.text.now (length c.args.out.now))

pub returns : goal.returns
returns c =
    every_call (call.question c.args.text.now) c.args.rec.now c.args.out.now _ _
    (writes (question_of c.args.rec.now c.args.text.now (length c.args.out.now)) c.args.out.now c.question-written.result c.question-written.new.out c.written.result c.question-written.ensures c.written.ensures)
