use Rattle.std.proofs.Common.{arith}
use Rattle.std.proofs.lemmas.Result.{IfOk-weaker}
use Rattle.om_program.proofs.PlanLaws.{long_task}
use Rattle.om_program.proofs.ReplyLaws.{task_replies}
use Rattle.om_program.proofs.piece_answers.find_answer.Goals as goal

pub returns-then-piece-le-MAX_INPUT-clause-reply : goal.returns-then-piece-le-MAX_INPUT-clause-reply
returns-then-piece-le-MAX_INPUT-clause-reply g c =
    IfOk-weaker c.answer_input.result _ _ (λ answer meant. task_replies _ _ answer meant) c.answer_input.ensures

pub returns-else-piece-le-MAX_INPUT-clause-meant : goal.returns-else-piece-le-MAX_INPUT-clause-meant
returns-else-piece-le-MAX_INPUT-clause-meant g c =
    long_task c.args.task.now c.args.piece.now c.requires.reading (omega arith)
