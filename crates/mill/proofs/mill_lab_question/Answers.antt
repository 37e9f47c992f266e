-- The answer of `lab::lab_question`, packed: it fits in the low half.
use mathlib.Core.Path.{sym, subst}
use lib.ListN.{length}
use borrow.Author.Rules.{rules}
use Rattle.lab.specs.Lab.{lab_question_of}
use Rattle.reply.specs.Reply.{InHalf}
use Rattle.promises.proofs.laws.InHalf.{lab_question_in_half}
use Rattle.boundary.proofs.laws.Boundary.{writes}
use Rattle.promises.specs.Page as call
use Rattle.promises.proofs.laws.Computed.{every_call}
use Rattle.mill.proofs.mill_lab_question.Goals as goal

pub written-requires : goal.written-requires
written-requires c =
    subst InHalf (sym c.lab_question-written.ensures.answer) (lab_question_in_half c.args.rec.now c.args.marks.now c.args.text.now (length c.args.out.now))

pub returns : goal.returns
returns c =
    every_call (call.lab_question c.args.marks.now c.args.text.now) c.args.rec.now c.args.out.now _ _
    (writes (lab_question_of c.args.rec.now c.args.marks.now c.args.text.now (length c.args.out.now)) c.args.out.now c.lab_question-written.result c.lab_question-written.new.out c.written.result c.lab_question-written.ensures c.written.ensures)
