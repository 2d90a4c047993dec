use Rattle.std.proofs.Common.{arith}
use Rattle.om_points.specs.Forms.{Refuses}
use Rattle.om_points.proofs.Passes.{passed_none, passed_more, passed_candidate}
use Rattle.om_points.proofs.passing.leap.Goals as goal

pub next-requires-clause-candidate : goal.next-requires-clause-candidate
next-requires-clause-candidate c =
    passed_candidate c.args.box_size (Refuses c.args.form) c.args.vector c.run-run.result.vector c.run-run.result.steps
    c.requires.candidate (c.run-run.ensures.passed c.args.box_size c.requires.candidate)

pub returns-in-Some-clause-few : goal.returns-in-Some-clause-few
returns-in-Some-clause-few c = omega arith

pub returns-in-Some-clause-passed : goal.returns-in-Some-clause-passed
returns-in-Some-clause-passed c =
    passed_more c.args.box_size (Refuses c.args.form) c.args.vector c.run-run.result.vector c.in-Some.next
    c.run-run.result.steps (c.run-run.ensures.passed c.args.box_size c.requires.candidate) c.run-run.ensures.refused
    c.in-Some.ensures

pub returns-then-run-limit-clause-passed : goal.returns-then-run-limit-clause-passed
returns-then-run-limit-clause-passed c = c.run-run.ensures.passed c.args.box_size c.requires.candidate

pub returns-clause-passed : goal.returns-clause-passed
returns-clause-passed c = passed_more c.args.box_size (Refuses c.args.form) c.args.vector c.args.vector
    c.in_ok-next.next 0 (passed_none c.args.box_size (Refuses c.args.form) c.args.vector) c.requires.refused
    c.in_ok-next.ensures
