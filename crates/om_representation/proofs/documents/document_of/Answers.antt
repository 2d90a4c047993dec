use Rattle.std.proofs.Common.{subst}
use Rattle.om_representation.specs.declared.representation.Representation.{Representation}
use Rattle.om_representation.specs.Documents.{document_of}
use Rattle.om_representation.specs.Widths.{HasFewValuesUnlessRank3}
use Rattle.om_representation.proofs.documents.document_of.Goals as goal

pub map_document-requires : goal.map_document-requires
map_document-requires c =
    let P : Representation → Type 0 = λ r. HasFewValuesUnlessRank3 (document_of r) in
    subst P c.in-Chirotope.is c.requires
