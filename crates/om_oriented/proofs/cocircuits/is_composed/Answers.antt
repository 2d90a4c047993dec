use Rattle.std.proofs.Common.{◌≡◌, ◌+◌, length, sym, ◌∙◌, ap, subst, arith, true, false}
use Rattle.om_members.proofs.ScanLaws.{nth_read}
use Rattle.om_denotation.proofs.Compositions.{IsComposition, passed, one_more, same_vectors, composed_is}
use Rattle.om_oriented.proofs.cocircuits.is_composed.Goals as goal
use Rattle.om_oriented.proofs.cocircuits.is_composed.Goals.{then-conforms, else-conforms}

pub loop-y-preserved : goal.loop-y-preserved
loop-y-preserved c =
    let here = sym (nth_read c.args.members.now c.loop-y.y-index c.y-item.result c.loop-y-test.true c.y-item.is) in
    let size = ap length c.y-item.is ∙ c.requires c.loop-y.y-index c.y-item.result c.loop-y-test.true in
    elim c.if-conforms.branch [
      | then-conforms w ↦
          one_more c.args.members.now c.args.x c.loop-y.y-index c.loop-y.composed c.loop-y.invariant c.y-item.result
          (c.loop-y.y-index, c.loop-y-test.true, sym c.y-item.is) here size
          (c.conforms.ensures.0 w.if-conforms.true) c.if-conforms.composed
          (w.composed-is ∙ w.compose-composed.ensures)
      | else-conforms w ↦
          let left = passed c.args.members.now c.args.x c.loop-y.y-index c.loop-y.composed c.loop-y.invariant
          c.y-item.result here (λ h. let d : false ≡ true = sym w.if-conforms.false ∙ c.conforms.ensures.1 h in
          cc d) in
          subst (IsComposition c.args.members.now c.args.x (c.loop-y.y-index + 1)) (sym w.composed-is) left
    ]

pub returns : goal.returns
returns c =
    let over = c.loop-y-test.false in
    composed_is c.args.members.now c.args.x c.loop-y.composed c.loop-y.y-index c.eq.result (omega arith)
    c.loop-y.invariant (same_vectors c.loop-y.composed c.args.x c.eq.result c.eq.ensures)
