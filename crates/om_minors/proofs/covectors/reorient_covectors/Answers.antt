use Rattle.std.proofs.Common.{◌∙◌, ap, map, sym, subst}
use Rattle.om_signs.specs.SignVec.{flip}
use Rattle.om_members.specs.Listings.{AreDistinct}
use Rattle.om_minors.proofs.FlippedLists.{flipped_distinct}
use Rattle.om_minors.proofs.ListReorientations.{covectors_reoriented, flipped_sizes, reoriented_covector_axioms}
use Rattle.om_minors.proofs.covectors.reorient_covectors.Goals as goal

pub lawful-requires-clause-lengths : goal.lawful-requires-clause-lengths
lawful-requires-clause-lengths c =
    flipped_sizes c.args.c (record { elements = c.elements-elements.result; members = c.flipped.result }) c.args.mask
    c.elements-elements.ensures.value
    (c.flipped.ensures ∙ ap (map (flip c.args.mask)) c.into_list.ensures.value) c.into_list.ensures.lawful.lengths

pub lawful-requires-clause-distinct : goal.lawful-requires-clause-distinct
lawful-requires-clause-distinct c =
    subst AreDistinct (sym (c.flipped.ensures ∙ ap (map (flip c.args.mask)) c.into_list.ensures.value))
    (flipped_distinct c.args.mask c.args.c.members c.into_list.ensures.lawful.distinct)

pub lawful-requires-clause-axioms : goal.lawful-requires-clause-axioms
lawful-requires-clause-axioms c =
    reoriented_covector_axioms c.args.c (record { elements = c.elements-elements.result; members = c.flipped.result })
    c.args.mask c.elements-elements.ensures.value
    (c.flipped.ensures ∙ ap (map (flip c.args.mask)) c.into_list.ensures.value) c.into_list.ensures.lawful.lengths
    c.into_list.ensures.lawful.axioms

pub returns-clause-reorientation : goal.returns-clause-reorientation
returns-clause-reorientation c =
    covectors_reoriented c.args.c c.lawful.result c.args.mask
    (c.lawful.ensures.elements ∙ c.elements-elements.ensures.value)
    (c.lawful.ensures.members ∙ c.flipped.ensures ∙ ap (map (flip c.args.mask)) c.into_list.ensures.value)
