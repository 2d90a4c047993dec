use Rattle.om_representation.specs.Documents.{document_of}
use Rattle.om_plane.specs.ExtensionLists.{AreExtensionsOfMap, other_rank}
use Rattle.om_plane.proofs.RankThreeLaws.{result_for_chirotope}
use Rattle.om_reply.specs.Answers.{says}
use Rattle.om_representation.proofs.ChoiceLaws.{rank_refused}
use Rattle.om_plane.proofs.extension_list.list_extensions.Goals as goal

pub returns-in-Ok : goal.returns-in-Ok
returns-in-Ok g c = result_for_chirotope (AreExtensionsOfMap c.args.first) _ c.in-Ok.chirotope _ c.in-Ok.ensures.chosen
    c.list_extensions_of.ensures

pub returns-in_ok-rank_line-in-Err : goal.returns-in_ok-rank_line-in-Err
returns-in_ok-rank_line-in-Err g c =
    rank_refused says (AreExtensionsOfMap c.args.first) (document_of c.args.representation)
    (λ m of other. other_rank other) c.in-Err.why c.in-Err.ensures.refused _ c.in_ok-rank_line-in-Err.ensures.line
