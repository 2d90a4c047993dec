use Rattle.std.proofs.Common.{arith, sym, ap, subst, ◌∙◌, get_or, length, [], ◌≡◌, ◌+◌, ◌<◌}
use Rattle.std.proofs.lemmas.List.{get_or_default}
use Rattle.om_signs.specs.SignVec.{IsMaskOf}
use Rattle.om_chirotope.specs.Pictures.{IsLive}
use Rattle.om_chirotope.proofs.RowMasks.{dead_of_support, live_more, live_of_support, live_skip}
use Rattle.om_chirotope.proofs.three_terms.live_rows.Goals as goal
use Rattle.om_chirotope.proofs.three_terms.live_rows.Goals.{then-support-ne0, else-support-ne0}

pub loop-i-preserved : goal.loop-i-preserved
loop-i-preserved c =
    let few = c.requires.high in
    let over = c.loop-i-test.true in
    let room = c.type_inv.rows in
    let inside : c.loop-i.i < length c.args.rows.now = omega (arith, few, over, room) in
    let u = get_or c.args.rows.now c.loop-i.i c.index-rows-i.result in
    let e : u ≡ get_or c.args.rows.now c.loop-i.i [] =
    get_or_default c.args.rows.now c.loop-i.i c.index-rows-i.result [] inside in
    let len : length u ≡ c.args.elements = ap length e ∙ c.requires.rows c.loop-i.i inside in
    elim c.if-support-ne0.branch [
      | then-support-ne0 w ↦
          subst (IsMaskOf (c.loop-i.i + 1) (λ j. IsLive c.args.rows.now j)) (sym w.live-is)
          (live_more (λ j. IsLive c.args.rows.now j) c.loop-i.live c.loop-i.i (omega (arith, few, over))
          (live_of_support c.args.rows.now c.loop-i.i c.args.elements c.support.result u few len e c.support.ensures
          w.if-support-ne0.true) c.loop-i.invariant)
      | else-support-ne0 w ↦
          subst (IsMaskOf (c.loop-i.i + 1) (λ j. IsLive c.args.rows.now j)) (sym w.live-is)
          (live_skip (λ j. IsLive c.args.rows.now j) c.loop-i.live c.loop-i.i
          (dead_of_support c.args.rows.now c.loop-i.i c.support.result u e c.support.ensures w.if-support-ne0.false)
          c.loop-i.invariant)
    ]
