use Rattle.std.proofs.Common.{◌≤◌, subst}
use Rattle.om_signs.specs.declared.limits.TheConstants.{MAX_ELEMENTS}
use Rattle.om_chirotope.proofs.FewValues.{few_values}
use Rattle.om_representation.proofs.documents.map_document.Goals as goal

pub narrow_map_document-requires-clause-few : goal.narrow_map_document-requires-clause-few
narrow_map_document-requires-clause-few c =
    let high = subst (λ n. n ≤ MAX_ELEMENTS) c.elements-elements.ensures.value c.elements-elements.ensures.high in
    few_values c.args.chirotope high c.requires
