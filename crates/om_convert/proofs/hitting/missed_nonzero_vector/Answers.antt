use Rattle.std.proofs.Common.{ℕ, List, arith}
use Rattle.om_signs.specs.declared.sign.Sign.{Sign}
use Rattle.om_members.specs.Vectors.{IsZero}
use Rattle.om_convert.specs.Hitting.{IsNonzeroOn}
use Rattle.om_convert.proofs.MeetingLaws.{met_more, met_all, passed}
use Rattle.om_convert.proofs.hitting.missed_nonzero_vector.Goals as goal

-- met where it isn't zero
abbrev IsMetUnlessZero : List ℕ → List Sign → Type 0
IsMetUnlessZero s Y = (IsZero Y → ⊥) → IsNonzeroOn s Y

pub loop-y-init : goal.loop-y-init
loop-y-init c = λ k l. absurd (omega arith)

pub loop-y-preserved : goal.loop-y-preserved
loop-y-preserved c = met_more c.args.vectors.now (IsMetUnlessZero c.args.s.elements) c.loop-y.y-index c.y-item.result
    c.loop-y-test.true c.y-item.is c.loop-y.invariant
    (passed c.y-item.result c.args.s.elements (c.passes.ensures.0 c.if-not-passes.false))

pub returns-clause-none : goal.returns-clause-none
returns-clause-none c = λ Y y. met_all c.args.vectors.now (IsMetUnlessZero c.args.s.elements) c.loop-y.y-index
    c.loop-y-test.false c.loop-y.invariant Y y.0 y.1
