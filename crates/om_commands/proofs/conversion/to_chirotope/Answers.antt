use Rattle.om_representation.specs.Documents.{document_of}
use Rattle.om_representation.proofs.WidthLaws.{few_chosen}
use Rattle.om_commands.proofs.ConversionLaws.{chirotope_made, wide_chirotope}
use Rattle.om_commands.proofs.conversion.to_chirotope.Goals as goal

pub map_document-requires : goal.map_document-requires
map_document-requires c other =
    few_chosen c.args.representation c.in-Ok.chirotope c.requires c.in-Ok.ensures.kept c.in-Ok.ensures.chosen

pub returns-in-Ok : goal.returns-in-Ok
returns-in-Ok c =
    let d = c.map_document.ensures in
    chirotope_made c.args.representation c.in-Ok.chirotope c.map_document.result c.in-Ok.ensures.kept
    c.in-Ok.ensures.chosen d.value d.form d.axioms

pub returns-in_ok-width_line-in-Err : goal.returns-in_ok-width_line-in-Err
returns-in_ok-width_line-in-Err c =
    wide_chirotope (document_of c.args.representation) c.in-Err.why _ c.in-Err.ensures.refused
    c.in_ok-width_line-in-Err.ensures.line
