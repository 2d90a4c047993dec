use Rattle.om_chirotope.proofs.Marks.{above_more, all_above, nothing_above}
use Rattle.om_chirotope.proofs.marking.mark_above.Goals as goal

pub loop-e-init : goal.loop-e-init
loop-e-init c = nothing_above c.args.map.now c.args.words.now c.requires

pub loop-e-preserved : goal.loop-e-preserved
loop-e-preserved c = above_more c.args.map.now c.loop-e.words c.spread.new.words c.loop-e.e c.spread.ensures
    c.loop-e.invariant

pub returns : goal.returns
returns c = all_above c.args.map.now c.loop-e.words c.loop-e.e (rw (← c.map.view_is) c.loop-e-test.false)
    c.loop-e.invariant
