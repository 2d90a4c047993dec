use Rattle.om_representation.specs.Documents.{document_of}
use Rattle.om_reply.specs.Answers.{says}
use Rattle.om_commands.specs.Hulls.{IsHullOfMap}
use Rattle.om_representation.proofs.ChoiceLaws.{kept_result, width_answered}
use Rattle.om_commands.proofs.convex_hull.find_hull.Goals as goal

pub returns-in-Ok : goal.returns-in-Ok
returns-in-Ok c = kept_result says IsHullOfMap (document_of c.args.representation) c.in-Ok.chirotope _
    c.in-Ok.ensures.kept c.in-Ok.ensures.chosen c.find_hull_of.ensures

pub returns-in_ok-width_line-in-Err : goal.returns-in_ok-width_line-in-Err
returns-in_ok-width_line-in-Err c =
    width_answered says IsHullOfMap (document_of c.args.representation) c.in-Err.why c.in-Err.ensures.refused _
    c.in_ok-width_line-in-Err.ensures.line
