use Rattle.std.proofs.lemmas.Result.{IfOk-weaker}
use Rattle.om_paint.proofs.Hulls.{acyclic_both}
use Rattle.om_commands.specs.Hulls.{acyclic}
use Rattle.om_commands.proofs.AcyclicLaws.{acyclic_of_hull, cyclic_meant}
use Rattle.om_commands.proofs.convex_hull.find_hull_of.Goals as goal

pub returns-in-Ok : goal.returns-in-Ok
returns-in-Ok c =
    acyclic c.in-Ok.items
    (acyclic_of_hull c.args.chirotope.now c.hull.result c.in-Ok.items
    (acyclic_both c.args.chirotope.now c.hull.ensures.lawful) c.hull.ensures.cyclic c.in-Ok.is)
    c.in-Ok.ensures.size c.in-Ok.ensures.items c.in-Ok.ensures.extreme

pub returns-in-Err : goal.returns-in-Err
returns-in-Err c =
    IfOk-weaker _ _ _
    (λ a named. cyclic_meant c.args.chirotope.now c.in-Err.why a c.in-Err.ensures.cyclic c.in-Err.ensures.first named)
    c.refuse_hull.ensures
