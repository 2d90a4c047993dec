use Rattle.om_levels.proofs.Images.{images_more}
use Rattle.om_levels.proofs.table.images_of.Goals as goal

pub loop-place-preserved : goal.loop-place-preserved
loop-place-preserved c =
    images_more c.args.members.now c.loop-place.images c.push.new.self c.loop-place.place c.args.members.now.elements
    c.in_ok-member.member c.in_ok-labelled.field-0 c.loop-place.invariant c.in_ok-member.ensures.value
    c.in_ok-member.ensures.kind c.in_ok-labelled.ensures.isomorphic c.push.ensures.elements c.in_ok-push.ensures.ok
