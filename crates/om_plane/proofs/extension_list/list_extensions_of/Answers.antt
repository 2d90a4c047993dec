use Rattle.std.specs.Prelude.{Err}
use Rattle.std.proofs.Common.{ap}
use Rattle.om_plane.proofs.ExtensionLaws.{listing_meant, rank_meant, full_meant}
use Rattle.om_plane.proofs.extension_list.list_extensions_of.Goals as goal

pub returns-in-Ok : goal.returns-in-Ok
returns-in-Ok g c = listing_meant c.args.first c.args.chirotope.now c.extensions.result _ _
    c.elements-elements.ensures.value c.elements-elements.ensures.high c.in-Ok.is c.extensions.ensures.not_rank_3
    c.extensions.ensures.full c.in-Ok.ensures.first

pub returns-in-Err-NotRank3 : goal.returns-in-Err-NotRank3
returns-in-Err-NotRank3 g c =
    rank_meant c.args.first c.args.chirotope.now _ _ (ap Err c.in-Err-NotRank3.field-0-is)
    c.in-Err-NotRank3.ensures.not_rank_3

pub returns-in-Err-Full : goal.returns-in-Err-Full
returns-in-Err-Full g c = full_meant c.args.first c.args.chirotope.now _ _ (ap Err c.in-Err-Full.field-0-is)
    c.in-Err-Full.ensures.full
