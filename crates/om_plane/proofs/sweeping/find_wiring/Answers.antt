use Rattle.om_representation.specs.Documents.{document_of}
use Rattle.om_plane.specs.Sweeps.{IsWiringOfMap, other_rank}
use Rattle.om_plane.proofs.RankThreeLaws.{result_for_chirotope}
use Rattle.om_reply.specs.Answers.{says}
use Rattle.om_representation.proofs.ChoiceLaws.{rank_refused}
use Rattle.om_plane.proofs.sweeping.find_wiring.Goals as goal

pub returns-in-Ok : goal.returns-in-Ok
returns-in-Ok c = result_for_chirotope IsWiringOfMap _ c.in-Ok.chirotope _ c.in-Ok.ensures.chosen
    c.find_wiring_of.ensures

pub returns-in_ok-rank_line-in-Err : goal.returns-in_ok-rank_line-in-Err
returns-in_ok-rank_line-in-Err c =
    rank_refused says IsWiringOfMap (document_of c.args.representation) (λ m of other. other_rank other) c.in-Err.why
    c.in-Err.ensures.refused _ c.in_ok-rank_line-in-Err.ensures.line
